-- Plans that go on from their first choices.
use Rattle.std.specs.Prelude.{◌≡◌, ℕ, ◌<◌, ◌≤◌, Bool, true, List, [], ◌∷◌, length, take, Decides, Result, slice_index}
use Rattle.std.specs.List.{AllByRecursion}
use Rattle.rows.specs.Choices.{stands}
use Rattle.rows.specs.Refusals.{Answer, first}
use Rattle.banks.specs.Calls.{call_says, too_few_rows}
use Rattle.banks.specs.Rules.{Sheet, Plan, Rule, row, PlanStands, Meets}
use Rattle.banks.specs.declared.refusal.CallError.{CallError}

-- Some first choices go on to a plan of n choices that meets every rule, each further choice of which stands.
pub record GoesOn (s : Sheet) (Rs : List Rule) (n : ℕ) (front : Plan) : Type 0 where
  pub plan : Plan
  pub long : length plan ≡ n
  pub begins : take (length front) plan ≡ front
  pub standing : (r : ℕ) → length front ≤ r → r < n → stands (row s r) (slice_index plan r) ≡ true
  pub meets : AllByRecursion (Meets plan) Rs

-- Some plan stands and meets every rule.
abbrev pub PlanExists : Sheet → List Rule → Type 0
PlanExists s Rs = (plan : Plan) × PlanStands s plan × AllByRecursion (Meets plan) Rs

abbrev pub GoesOnAnswer : ℕ → List Rule → Sheet → ℕ → Plan → Result Bool CallError → Type 0
GoesOnAnswer w Rs s from plan =
    Answer call_says (first (too_few_rows w plan ∷ [])) (Unit {0}) (λ r. Decides r (GoesOn s Rs (length plan) (take from plan)))

-- Whether a plan exists is answered where the sheet has no fewer rows than the width.
abbrev pub ExistsAnswer : ℕ → List Rule → Sheet → Result Bool CallError → Type 0
ExistsAnswer w Rs s = Answer call_says (first (too_few_rows w s ∷ [])) (Unit {0}) (λ r. Decides r (PlanExists s Rs))
