-- Choices that are struck from rows, and put back.
use Rattle.std.specs.Prelude.{◌≡◌, ℕ, ◌+◌, ◌*◌, ◌/◌, ◌%◌, ◌^◌, true, false, not, List, [], ◌∷◌, map, length, sum_by, filter, ◌≢◌, bit_or, slice_set}
use Rattle.rows.specs.Choices.{choices, stands, members}
use Rattle.banks.specs.Rules.{Sheet, row}

-- A struck choice as the record has it: row × 64 + choice.
abbrev pub stroke : ℕ → ℕ → ℕ
stroke r v = r * choices + v

-- A choice of a row was struck between two sheets: it stood there before, and not after.
abbrev pub Struck : Sheet → Sheet → ℕ → ℕ → Type 0
Struck before after r v = (stands (row before r) v ≡ true) × (stands (row after r) v ≡ false)

-- The choices of a mask that a later mask has no more, in rising order.
abbrev pub lost : ℕ → ℕ → List ℕ
lost before after = filter (λ v. not (stands after v)) (members before)

-- Those of a row, as the record has them.
abbrev pub strokes_of : ℕ → ℕ → ℕ → List ℕ
strokes_of r before after = map (stroke r) (lost before after)

-- A sheet with a choice added to a row.
abbrev pub with_choice : ℕ → ℕ → Sheet → Sheet
with_choice r v s = slice_set s r (bit_or (row s r) (2 ^ v))

-- A sheet with a struck choice put back into its row.
abbrev pub put_back : ℕ → Sheet → Sheet
put_back e s = with_choice (e / choices) (e % choices) s

-- A sheet with all the struck choices of a list put back.
abbrev pub restored : Sheet → List ℕ → Sheet
restored s [] = s
restored s (e ∷ es) = put_back e (restored s es)

-- How many choices stand on a sheet: the ones in its masks.
abbrev pub standing : Sheet → ℕ
standing s = sum_by (λ m. length (members m)) s

-- Between two sheets only the row r may differ.
pub record Elsewhere (r : ℕ) (before after : Sheet) : Type 0 where
  pub same : length after ≡ length before
  pub other : (k : ℕ) → (k ≢ r) → row after k ≡ row before k
