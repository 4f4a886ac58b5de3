-- Difference rules: two rows, and how their choices relate.
use Rattle.std.specs.Prelude.{ℕ, ◌%◌, Bool, not, ◌&&◌, [], ◌∷◌, ℤ, pos, ◌+ℤ◌, ◌-ℤ◌, ◌==◌, int_le, slice_index, unsigned_abs}
use Rattle.banks.specs.Rules.{Rule}
use Rattle.differences.specs.declared.difference.Difference.{Difference}
use Rattle.differences.specs.declared.difference.Relation.{Relation}
use Rattle.differences.specs.declared.difference.Relation.TheVariants.{Equal, Unequal, AtMost, Congruent}

-- Two whole numbers are the same: each is at most the other.
abbrev pub same : ℤ → ℤ → Bool
same a b = int_le a b && int_le b a

-- z is a multiple of m.
abbrev pub multiple : ℕ → ℤ → Bool
multiple m z = unsigned_abs z % m == 0

-- The choices x and y relate, at the offset c: equal is y = x + c, unequal is y ≠ x + c, at most is x + c ≤ y, and congruent is that
-- x + c - y is a multiple of the modulus.
abbrev pub relates : Relation → ℤ → ℕ → ℕ → Bool
relates Equal c x y = same (pos x +ℤ c) (pos y)
relates Unequal c x y = not (same (pos x +ℤ c) (pos y))
relates AtMost c x y = int_le (pos x +ℤ c) (pos y)
relates (Congruent m) c x y = multiple m ((pos x +ℤ c) -ℤ pos y)

-- What a difference means: it names its two rows, and permits the pairs of choices that relate.
abbrev pub meaning : Difference → Rule
meaning d = record { names = d.x ∷ d.y ∷ []; permits = λ t. relates d.relation d.offset (slice_index t 0) (slice_index t 1) }
