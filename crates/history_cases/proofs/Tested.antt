-- What each case of the table says is computed, and what is computed holds where a test passes.
use Rattle.std.proofs.Common.{◌≡◌, Bool, true, ◌&&◌, List, [], ◌∷◌, map, refl, subst}
use Rattle.std.specs.List.{AllByRecursion}
use Rattle.std.proofs.lemmas.Bool.{and_parts}
use Rattle.rows.specs.Choices.{stands, members}
use Rattle.history_cases.specs.Runs.{Case, runs, Holds, table, CasesHold}
use Rattle.history_cases.proofs.Steps.{followed, all_fine, followed_runs}

-- a case with what is computed from it: the answers and the states after
abbrev worked_out : Case → Case
worked_out c = runs c.from (followed c.from (map (λ x. x.call) c.steps))

-- which holds where this test passes
abbrev fit : Case → Bool
fit c = all_fine c.from (map (λ x. x.call) c.steps)

worked_out_holds : (c : Case) → fit c ≡ true → Holds (worked_out c)
worked_out_holds c e = followed_runs c.from (map (λ x. x.call) c.steps) e

abbrev all_fit : List Case → Bool
all_fit [] = true
all_fit (c ∷ cs) = fit c && all_fit cs

all_hold : (cs : List Case) → all_fit cs ≡ true → AllByRecursion Holds (map worked_out cs)
all_hold [] e = tt
all_hold (c ∷ cs) e = let p = and_parts (fit c) (all_fit cs) e in (worked_out_holds c p.0, all_hold cs p.1)

-- the table says what is computed
as_computed : map worked_out table ≡ table
unfolding members stands
as_computed = refl

all_fitting : all_fit table ≡ true
unfolding members stands
all_fitting = refl

pub cases_hold : CasesHold
cases_hold = subst (AllByRecursion Holds) as_computed (all_hold table all_fitting)
