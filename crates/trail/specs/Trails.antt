-- A trail: the rows of a sheet, with the record of the choices that were struck from them.
use Rattle.std.specs.Prelude.{◌≡◌, ℕ, ◌*◌, ◌<◌, ◌≤◌, Bool, true, not, ◌&&◌, List, [], ◌∷◌, ◌++◌, length, take, drop, Some, None, Option, ◌==◌, bit_and, nat_le, nat_lt}
use Rattle.std.specs.List.{list_any}
use Rattle.rows.specs.Choices.{stands, members}
use Rattle.rows.specs.Refusals.{Refusal, plain, fits, first}
use Rattle.banks.specs.Rules.{Sheet, row}
use Rattle.trail.specs.Strokes.{strokes_of, restored, Elsewhere}
use Rattle.trail.specs.declared.refusal.TrailError.{TrailError}
use Rattle.trail.specs.declared.refusal.TrailError.TheVariants.{EmptyRow, RowCount, ShortRecord, NoSuchRow}

-- The number of each refusal.
abbrev pub trail_says : TrailError → Refusal
trail_says EmptyRow = plain 1
trail_says RowCount = plain 2
trail_says ShortRecord = plain 3
trail_says NoSuchRow = plain 4

-- The most rows of a sheet, and how many entries of the record each row needs: a row never loses its last choice.
abbrev pub max_rows : ℕ
max_rows = 256

abbrev pub entries_a_row : ℕ
entries_a_row = 63

-- In every row some choice stands.
abbrev pub SomeStand : Sheet → Type 0
SomeStand s = (r : ℕ) → r < length s → 0 < length (members (row s r))

-- Some mask is 0.
abbrev pub some_empty : Sheet → Bool
some_empty s = list_any (λ m. m == 0) s

-- A sheet may have n rows: 1 to 256.
abbrev pub may_count : ℕ → Bool
may_count n = nat_le 1 n && nat_le n max_rows

-- Why no trail can be made of these masks with so many entries for the record: 1, some mask is 0; 2, there is no row, or there are more
-- than 256; 3, there are fewer than 63 entries a row.
abbrev pub no_trail : Sheet → ℕ → Option Refusal
no_trail s entries =
    first (fits (some_empty s) (plain 1) ∷ fits (not (may_count (length s))) (plain 2) ∷ fits (nat_lt entries (entries_a_row * length s)) (plain 3) ∷ [])

-- The rows that are made of masks: they themselves, or no rows where there is a reason against it.
abbrev pub made_rows : Option Refusal → Sheet → Sheet
made_rows None s = s
made_rows (Some f) s = []

-- So many masks, from the first on, become the rows; some choice stands in each, and the record has room for what can be struck.
pub record Admits (s : Sheet) (entries n : ℕ) : Type 0 where
  pub made : take n s ≡ made_rows (no_trail s entries) s
  pub some : SomeStand (take n s)
  pub within : n ≤ length s
  pub few : n ≤ max_rows
  pub enough : entries_a_row * n ≤ entries

-- 4: the row is not on the sheet.
abbrev pub no_such_row : Sheet → ℕ → Option Refusal
no_such_row s r = fits (nat_le (length s) r) (plain 4)

-- 1: no choice of the row would be left.
abbrev pub none_left : Sheet → ℕ → ℕ → Option Refusal
none_left s r wanted = fits (bit_and (row s r) wanted == 0) (plain 1)

-- A row loses the choices that are not wanted, and the record has them in rising order. Put back, they give the rows that were.
pub record Narrows (r wanted : ℕ) (before after : Sheet) (strokes strokes' : List ℕ) : Type 0 where
  pub elsewhere : Elsewhere r before after
  pub here : (v : ℕ) → stands (row after r) v ≡ (stands (row before r) v && stands wanted v)
  pub recorded : strokes' ≡ strokes ++ strokes_of r (row before r) (row after r)
  pub undone : restored after (strokes_of r (row before r) (row after r)) ≡ before

-- All strokes of the record from an index on are put back.
pub record Undoes (height : ℕ) (before after : Sheet) (strokes strokes' : List ℕ) : Type 0 where
  pub rows : after ≡ restored before (drop height strokes)
  pub recorded : strokes' ≡ take height strokes

-- A mask is parted into the choices that stay and those that are lost.
pub record Parts (mask stays lost : ℕ) : Type 0 where
  pub staying : (v : ℕ) → stands stays v ≡ true → stands mask v ≡ true
  pub losing : (v : ℕ) → stands lost v ≡ (stands mask v && not (stands stays v))
