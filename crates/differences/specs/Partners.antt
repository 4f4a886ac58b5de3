-- What a choice of one row of a difference seeks in the other row.
use Rattle.std.specs.Prelude.{◌≡◌, ℕ, ◌%◌, Bool, true, not, ℤ, pos, int_le}
use Rattle.rows.specs.Choices.{stands}
use Rattle.differences.specs.Differences.{same}

-- Some choice of a mask is sought.
abbrev pub Finds : (ℕ → Bool) → ℕ → Type 0
Finds sought m = (w : ℕ) × (stands m w ≡ true) × (sought w ≡ true)

-- What can be sought at the sum z: z itself, another than z, one at or above z, or one at or below z.
abbrev pub itself : ℤ → ℕ → Bool
itself z w = same z (pos w)

abbrev pub another : ℤ → ℕ → Bool
another z w = not (same z (pos w))

abbrev pub at_least : ℤ → ℕ → Bool
at_least z w = int_le z (pos w)

abbrev pub at_most : ℤ → ℕ → Bool
at_most z w = int_le (pos w) z

-- Some choice of a mask leaves the remainder r at the modulus m.
abbrev pub Leaves : ℕ → ℕ → ℕ → Type 0
Leaves mask m r = (w : ℕ) × (stands mask w ≡ true) × (w % m ≡ r)
