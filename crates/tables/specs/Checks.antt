-- Which tables a bank may hold.
use Rattle.std.specs.Prelude.{◌≡◌, ℕ, suc, ◌+◌, Bool, true, not, ◌&&◌, ◌||◌, List, [], ◌∷◌, length, Option, MatchOption, ◌==◌, nat_le, nat_lt}
use Rattle.std.specs.List.{All}
use Rattle.rows.specs.Choices.{choices}
use Rattle.rows.specs.Refusals.{Refusal, fits, first}
use Rattle.banks.specs.Faults.{at_spot, bank_refusal}
use Rattle.banks.specs.Names.{may_name}
use Rattle.banks.specs.Rules.{Rule}
use Rattle.tables.specs.Tables.{star, size, bytes_of, rules_of}
use Rattle.tables.specs.declared.table.Table.{Table}
use Rattle.tables.specs.declared.refusal.TableFault.{TableFault}
use Rattle.tables.specs.declared.refusal.TableFault.TheVariants.{Rows, Lines, Byte}

-- 12: the rows are not 1 to 16 different ones below the width. 14: there are too many lines, or they pass the pool's end. Both have the
-- spot 0. 15: a byte is neither a choice nor the star; the spot is its index in the pool.
abbrev pub fault_says : TableFault → Refusal
fault_says Rows = at_spot 12 0
fault_says Lines = at_spot 14 0
fault_says (Byte spot) = at_spot 15 spot

-- The most lines of a table.
abbrev pub max_lines : ℕ
max_lines = 65535

-- A table has at most 65,535 lines, and all its bytes lie in the pool.
abbrev pub in_pool : List ℕ → Table → Bool
in_pool pool t = nat_le t.lines max_lines && nat_le (t.start + size t) (length pool)

-- A byte of a table is a choice or the star.
abbrev pub table_byte : ℕ → Bool
table_byte b = nat_lt b choices || b == star

-- Each of some bytes may be a byte of a table.
abbrev pub TableBytes : List ℕ → Type 0
TableBytes = All (λ b. table_byte b ≡ true)

-- The faults of bytes whose indices in the pool are from i on.
abbrev pub byte_faults : ℕ → List ℕ → List (Option Refusal)
byte_faults i [] = []
byte_faults i (b ∷ bs) = fits (not (table_byte b)) (fault_says (Byte i)) ∷ byte_faults (suc i) bs

-- The fault of a table in a bank of width w, if any: 12 is tried before 14, and 14 before 15, of which the first byte decides.
abbrev pub fault : ℕ → List ℕ → Table → Option Refusal
fault w pool t =
    first (fits (not (may_name w t.rows.now)) (fault_says Rows) ∷ fits (not (in_pool pool t)) (fault_says Lines)
    ∷ byte_faults t.start (bytes_of pool t))

-- The refusal of a bank of width w with the tables ts over a pool, if any.
abbrev pub refusal : ℕ → List Table → List ℕ → Option Refusal
refusal w ts pool = bank_refusal w (fault w pool) ts

-- The meaning of the bank that is made: the given width and exactly the given rules in their order, or, where the check refuses, the
-- width 1 and no rules.
abbrev pub Made : ℕ → List Table → List ℕ → ℕ → List Rule → Type 0
Made w ts pool width rules = MatchOption (refusal w ts pool) ((width ≡ w) × (rules ≡ rules_of pool ts)) (λ _. (width ≡ 1) × (rules ≡ []))
