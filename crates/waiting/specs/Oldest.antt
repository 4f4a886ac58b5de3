-- A list that keeps numbers in the order in which they came keeps what every waiting list owes.
use Rattle.std.specs.Prelude.{◌≡◌, ℕ, ◌<◌, true, false, List, [], ◌∷◌, ◌==◌, nat_lt, refl}
use Rattle.std.proofs.Common.{⊎_elim, arith}
use Rattle.std.proofs.lemmas.Bool.{and_parts, or_cases, eqb-true, ltb-true, both_ways}
use Rattle.waiting.specs.Waiting.{Lawful, may_have}
use Rattle.waiting.specs.Turns.{among, below}

-- each number of a list is below what all are below
pub among_below : (n : ℕ) (q : List ℕ) (k : ℕ) → below n q ≡ true → among q k ≡ true → k < n
among_below n [] k b a = absurd (both_ways false refl a)
among_below n (x ∷ q) k b a =
    let p = and_parts (nat_lt x n) (below n q) b in
    ⊎_elim (λ e. omega (arith, eqb-true k x e, ltb-true x n p.0)) (λ e. among_below n q k p.1 e) (or_cases (k == x) (among q k) a)

pub lawful_oldest : (n : ℕ) (q : List ℕ) → may_have n ≡ true → below n q ≡ true → Lawful n (among q)
lawful_oldest n q size within = record { size = size; below = λ k e. among_below n q k within e }
