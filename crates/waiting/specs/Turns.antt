-- Numbers in the order in which they came to wait, oldest first.
use Rattle.std.specs.Prelude.{◌≡◌, ℕ, Bool, true, false, cond, not, ◌&&◌, ◌||◌, List, [], ◌∷◌, ◌++◌, Some, None, Option, Result, MatchOption, ◌==◌, nat_lt}
use Rattle.rows.specs.Refusals.{first, Answer}
use Rattle.waiting.specs.ListRefusals.{put_says}
use Rattle.waiting.specs.Waiting.{not_below, no_capacity}
use Rattle.waiting.specs.declared.refusal.PutError.{PutError}

-- The number v is in a list.
abbrev pub among : List ℕ → ℕ → Bool
among [] v = false
among (x ∷ xs) v = v == x || among xs v

-- No number is in a list twice.
abbrev pub apart : List ℕ → Bool
apart [] = true
apart (x ∷ xs) = not (among xs x) && apart xs

-- Every number of a list is below n.
abbrev pub below : ℕ → List ℕ → Bool
below n [] = true
below n (x ∷ xs) = nat_lt x n && below n xs

-- The order after v is put: v comes last, or keeps its turn where it waits already.
abbrev pub with_turn : ℕ → List ℕ → List ℕ
with_turn v q = cond (among q v) q (q ++ v ∷ [])

-- A put of v into a list of capacity n, where q is the order before it and `after` the one after it.
abbrev pub TurnPut : ℕ → List ℕ → ℕ → List ℕ → Result (Unit {0}) PutError → Type 0
TurnPut n q v after = Answer put_says (first (not_below n v ∷ [])) (after ≡ q) (λ _. after ≡ with_turn v q)

-- A take, where q is the order before it: the oldest is taken, and the others keep their order.
abbrev pub TurnTaken : List ℕ → List ℕ → Option ℕ → Type 0
TurnTaken q after None = (q ≡ []) × (after ≡ [])
TurnTaken q after (Some v) = q ≡ v ∷ after

-- The list that is made of the capacity n: it is empty, and has that capacity, or 1 where the check refuses n.
abbrev pub MadeEmpty : ℕ → ℕ → List ℕ → Type 0
MadeEmpty n made q = MatchOption (first (no_capacity n ∷ [])) (made ≡ n) (λ _. made ≡ 1) × (q ≡ [])
