-- What every waiting list means: a capacity, and the set of the numbers that wait.
use Rattle.std.specs.Prelude.{◌≡◌, ℕ, zero, suc, ◌<◌, Bool, true, false, cond, not, ◌&&◌, ◌||◌, [], ◌∷◌, Some, None, Option, Result, ◌==◌, nat_le}
use Rattle.rows.specs.Refusals.{Refusal, plain, fits, first, Answer}
use Rattle.waiting.specs.ListRefusals.{put_says}
use Rattle.waiting.specs.declared.refusal.PutError.{PutError}

-- A set of numbers, by which of them are in it.
abbrev pub Numbers : Type 0
Numbers = ℕ → Bool

-- The largest capacity of a waiting list.
abbrev pub max_capacity : ℕ
max_capacity = 512

-- A list may have the capacity n: from 1 to the largest.
abbrev pub may_have : ℕ → Bool
may_have n = nat_le 1 n && nat_le n max_capacity

-- A list has a capacity that it may have, and only numbers below it wait.
pub record Lawful (n : ℕ) (waits : Numbers) : Type 0 where
  pub size : may_have n ≡ true
  pub below : (k : ℕ) → waits k ≡ true → k < n

-- No number is in a set.
abbrev pub Empty : Numbers → Type 0
Empty s = (k : ℕ) → s k ≡ false

-- Two sets have the same numbers.
abbrev pub Same : Numbers → Numbers → Type 0
Same s t = (k : ℕ) → t k ≡ s k

-- The set t has the numbers of s and v, and no others.
abbrev pub With : ℕ → Numbers → Numbers → Type 0
With v s t = (k : ℕ) → t k ≡ (s k || k == v)

-- The set t has the numbers of s but v, and no others.
abbrev pub But : ℕ → Numbers → Numbers → Type 0
But v s t = (k : ℕ) → t k ≡ (s k && not (k == v))

-- 19: the capacity is one that no list has.
abbrev pub no_capacity : ℕ → Option Refusal
no_capacity n = fits (not (may_have n)) (plain 19)

-- 21: the number is not below the capacity.
abbrev pub not_below : ℕ → ℕ → Option Refusal
not_below n v = fits (nat_le n v) (plain 21)

-- A put of v into a list of capacity n, where s waited before and t waits after it.
abbrev pub PutAnswer : ℕ → Numbers → ℕ → Numbers → Result (Unit {0}) PutError → Type 0
PutAnswer n s v t = Answer put_says (first (not_below n v ∷ [])) (Same s t) (λ _. With v s t)

-- A take, where s waited before and t waits after it: none where no number waited, and else one that did, which waits no more.
abbrev pub TakeAnswer : Numbers → Numbers → Option ℕ → Type 0
TakeAnswer s t None = Empty s × Same s t
TakeAnswer s t (Some v) = (s v ≡ true) × But v s t

-- How many numbers below n are in a set.
unfoldable pub how_many : Numbers → ℕ → ℕ
how_many s zero = 0
how_many s (suc n) = cond (s n) (suc (how_many s n)) (how_many s n)
