-- Choices, and the masks that hold sets of them.
use Rattle.std.specs.Prelude.{◌≡◌, ℕ, ◌/◌, ◌%◌, ◌^◌, ◌<◌, Bool, true, false, not, ◌&&◌, ◌||◌, List, Some, None, Decides, filter, Option, ◌==◌, nat_lt}
use Rattle.std.specs.List.{range_with_len}

-- How many choices there are: they are the numbers below this one.
abbrev pub choices : ℕ
choices = 64

-- The choice v stands in the mask m: the bit of m of weight 2 ^ v is 1. A mask may have any number of bits.
unfoldable pub stands : ℕ → ℕ → Bool
stands m v = m / 2 ^ v % 2 == 1

-- The choices that stand in m, in rising order.
unfoldable pub members : ℕ → List ℕ
members m = filter (stands m) (range_with_len 0 choices)

-- The mask r has the choices of m that pass a test, and no others.
abbrev pub Kept : (ℕ → Type 0) → ℕ → ℕ → Type 0
Kept Passes m r = (v : ℕ) → Decides (stands r v) ((stands m v ≡ true) × Passes v)

-- A test, by what it may be asked, may be asked at each choice of m.
abbrev pub Askable : (ℕ → Type 0) → ℕ → Type 0
Askable May m = (v : ℕ) → stands m v ≡ true → May v

-- The mask r has the choices of m that a test keeps, and no others: `Says v b` says that the test may answer b at v, and at each choice
-- of m it may answer whether the choice is left in r.
pub record KeptBy (Says : ℕ → Bool → Type 0) (m r : ℕ) : Type 0 where
  pub asked : (v : ℕ) → stands m v ≡ true → Says v (stands r v)
  pub others : (v : ℕ) → stands m v ≡ false → stands r v ≡ false

-- The mask r has the choice v, if it is one, and no other.
abbrev pub Only : ℕ → ℕ → Type 0
Only v r = (w : ℕ) → stands r w ≡ (w == v && nat_lt v choices)

-- The mask r has the choices of m and v, if it is one, and no others.
abbrev pub With : ℕ → ℕ → ℕ → Type 0
With v m r = (w : ℕ) → stands r w ≡ (stands m w || w == v && nat_lt v choices)

-- The mask r has the choices of m but v, and no others.
abbrev pub Without : ℕ → ℕ → ℕ → Type 0
Without v m r = (w : ℕ) → stands r w ≡ (stands m w && not (w == v))

-- v is the lowest of the choices that stand in m.
pub record Lowest (m v : ℕ) : Type 0 where
  pub here : stands m v ≡ true
  pub below : (w : ℕ) → w < v → stands m w ≡ false

-- A walk over the choices of a mask, lowest first: what one step from a rest m answers, and the rest after it.
abbrev pub Walks : ℕ → Option ℕ → ℕ → Type 0
Walks m None after = (m ≡ 0) × (after ≡ m)
Walks m (Some v) after = Lowest m v × Without v m after
