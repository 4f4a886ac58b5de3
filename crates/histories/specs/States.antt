-- The state of a sheet: all that its calls speak of.
use Rattle.std.specs.Prelude.{◌≡◌, ℕ, Bool, false, ◌||◌, List, [], ◌∷◌, ◌==◌}
use Rattle.banks.specs.Rules.{Sheet, NoRowEmpty}

-- An open mark: its serial, and the rows and the length of the record at the time it was given.
pub record Opened : Type 0 where
  pub serial : ℕ
  pub rows : Sheet
  pub height : ℕ

-- The rows; the open marks, oldest first; how many marks were given, and how many can be open at once; the record of the struck choices
-- that are not gone back over, as row × 64 + choice, oldest first.
pub record State : Type 0 where
  pub rows : Sheet
  pub opened : List Opened
  pub given : ℕ
  pub room : ℕ
  pub strokes : List ℕ

-- A mark of this serial is open.
abbrev pub is_open : ℕ → List Opened → Bool
is_open k [] = false
is_open k (m ∷ ms) = k == m.serial || is_open k ms

-- The state of a sheet just made: no row is empty, nothing was struck and no mark was given.
pub record Fresh (s : State) : Type 0 where
  pub rows : NoRowEmpty s.rows
  pub opened : s.opened ≡ []
  pub given : s.given ≡ 0
  pub strokes : s.strokes ≡ []
