-- Which rows a rule may name.
use Rattle.std.specs.Prelude.{ℕ, Bool, true, false, not, ◌&&◌, ◌||◌, List, [], ◌∷◌, length, ◌==◌, nat_le, nat_lt}

-- The most rows that a rule names.
abbrev pub max_arity : ℕ
max_arity = 16

-- The row r is in a list.
abbrev pub among : ℕ → List ℕ → Bool
among r [] = false
among r (x ∷ xs) = r == x || among r xs

-- No row is in a list twice.
abbrev pub apart : List ℕ → Bool
apart [] = true
apart (x ∷ xs) = not (among x xs) && apart xs

-- Every row of a list is below the width.
abbrev pub below : ℕ → List ℕ → Bool
below w [] = true
below w (x ∷ xs) = nat_lt x w && below w xs

-- A rule may name these rows in a bank of width w: 1 to 16 different rows, each below the width.
abbrev pub may_name : ℕ → List ℕ → Bool
may_name w rs = nat_le 1 (length rs) && nat_le (length rs) max_arity && apart rs && below w rs
