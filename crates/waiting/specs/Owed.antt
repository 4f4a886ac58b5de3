-- A list of classes keeps what every waiting list owes.
use Rattle.std.specs.Prelude.{◌≡◌, ℕ, suc, ◌-◌, ◌<◌, true, List, length}
use Rattle.std.proofs.Common.{⊎_elim, arith}
use Rattle.std.proofs.lemmas.List.{get_or_past}
use Rattle.std.proofs.lemmas.Bool.{cases_lt}
use Rattle.waiting.specs.Waiting.{Lawful, may_have}
use Rattle.waiting.specs.Classes.{class_of, held_at, waits_in}
use Rattle.waiting.specs.declared.numbers.NumberSet.{NumberSet}

-- Each set has only numbers of its class.
abbrev pub OwnClass : List ℕ → List NumberSet → Type 0
OwnClass cs sets = (place k : ℕ) → held_at sets place k ≡ true → class_of cs k ≡ suc place

-- a number with a class is one of the list
pub classed_below : (cs : List ℕ) (k c : ℕ) → class_of cs k ≡ suc c → k < length cs
classed_below cs k c e = ⊎_elim (λ h. h) (λ h. absurd (omega (arith, get_or_past cs k 0 h))) (cases_lt k (length cs))

pub lawful_classed : (cs : List ℕ) (sets : List NumberSet) → may_have (length cs) ≡ true → OwnClass cs sets → Lawful (length cs) (waits_in cs sets)
lawful_classed cs sets size own = record { size = size; below = λ k e. classed_below cs k (class_of cs k - 1) (own (class_of cs k - 1) k e) }
