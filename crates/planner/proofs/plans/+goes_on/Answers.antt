use Rattle.std.proofs.Common.{◌≡◌, ℕ, ◌+◌, ◌<◌, ◌≤◌, [], ◌∷◌, ◌++◌, length, get_or, take, set, sym, refl, ◌∙◌, subst, arith, rules}
use Rattle.std.proofs.lemmas.List.{length-take-le, length-set}
use Rattle.std.proofs.lemmas.Bool.{false≢true, ltb-false}
use Rattle.rows.proofs.Masks.{stands_below}
use Rattle.rows.specs.Refusals.{plain}
use Rattle.rows.proofs.Refusing.{first_past, lt_fits_not}
use Rattle.banks.specs.Rules.{Plan}
use Rattle.planner.specs.Plans.{GoesOn}
use Rattle.planner.proofs.Trying.{trying_more, trying_all, goes_on_with, no_row, after_meets, next_front, front_stays, next_chosen}
use Rattle.planner.proofs.plans.+goes_on.Goals as goal

pub returns-then-from-plan : goal.returns-then-from-plan
returns-then-from-plan g t c = record { answer = after_meets (g.B.Bank.wide c.args.bank.now) (g.B.Bank.rules c.args.bank.now) c.args.rows.now c.args.from c.args.plan.now c.meets.result c.if-from-plan.true c.requires.chosen c.meets.ensures; front = refl }

pub returns-in_default : goal.returns-in_default
returns-in_default g t c =
    let bank = c.args.bank.now in
    let plan = c.args.plan.now in
    let front = take c.args.from plan in
    let enough : g.B.Bank.wide bank ≤ length plan = omega (arith, c.width.ensures) in
    let past : length c.args.rows.now ≤ c.args.from = ltb-false c.args.from (length c.args.rows.now) (sym c.in_default.ensures.lookup.0) in
    let inside : c.args.from < length plan = omega (arith, c.requires.fronted) in
    let long : length front ≡ c.args.from = length-take-le c.args.from plan c.requires.fronted in
    let none = first_past _ [] (lt_fits_not (length plan) (g.B.Bank.wide bank) (plain 24) enough) in
    record {
      answer = (none, ((λ e. absurd (false≢true e)), (λ on. absurd (no_row c.args.rows.now (g.B.Bank.rules bank) (length plan) front (omega arith) (omega arith) on))));
      front = refl;
    }

pub goes_on-requires : goal.goes_on-requires
goes_on-requires g t c κs within =
    let plan = c.args.plan.now in
    let inside : c.args.from < length c.loop-choice.plan = omega (arith, c.requires.fronted) in
    let row = length (take c.args.from plan) in
    let low = stands_below 64 (get_or c.args.rows.now row 0) c.in-Some-choice.choice (c.type_inv.rows row).fits (c.loop-choice.invariant.2.part c.in-Some-choice.choice c.in-Some-choice.ensures.steps.0.here) in
    (search rules, (search rules, (simp length-set (omega arith), next_chosen plan c.loop-choice.plan c.args.from c.in-Some-choice.choice inside c.loop-choice.invariant.1 low c.requires.chosen)))

pub returns-then-branch : goal.returns-then-branch
returns-then-branch g t c =
    let bank = c.args.bank.now in
    let Rs = g.B.Bank.rules bank in
    let s = c.args.rows.now in
    let plan = c.args.plan.now in
    let from = c.args.from in
    let v = c.in-Some-choice.choice in
    let front = take from plan in
    let inside : from < length c.loop-choice.plan = omega (arith, c.requires.fronted) in
    let pushed = next_front plan c.loop-choice.plan from v inside c.loop-choice.invariant.1 in
    let same-long : length (set c.loop-choice.plan from v) ≡ length plan = length-set c.loop-choice.plan from v ∙ c.loop-choice.invariant.0 in
    let further = c.in_ok-goes_on.ensures in
    let stays = front_stays plan c.loop-choice.plan from v inside c.loop-choice.invariant.1 c.goes_on.new.plan further.front in
    let enough : g.B.Bank.wide bank ≤ length plan = omega (arith, c.width.ensures) in
    let none = first_past _ [] (lt_fits_not (length plan) (g.B.Bank.wide bank) (plain 24) enough) in
    let found = further.answer.1.0 c.if-branch.true in
    let on : GoesOn s Rs (length plan) (front ++ v ∷ []) = subst (λ (f : Plan). GoesOn s Rs (length plan) f) pushed (subst (λ (n : ℕ). GoesOn s Rs n (take (from + 1) (set c.loop-choice.plan from v))) same-long found) in
    let stood = c.loop-choice.invariant.2.part v c.in-Some-choice.ensures.steps.0.here in
    record { answer = (none, ((λ _. goes_on_with s Rs (length plan) front v stood on), (λ _. refl))); front = stays }

pub loop-choice-preserved : goal.loop-choice-preserved
loop-choice-preserved g t c =
    let bank = c.args.bank.now in
    let Rs = g.B.Bank.rules bank in
    let s = c.args.rows.now in
    let plan = c.args.plan.now in
    let from = c.args.from in
    let v = c.in-Some-choice.choice in
    let front = take from plan in
    let inside : from < length c.loop-choice.plan = omega (arith, c.requires.fronted) in
    let pushed = next_front plan c.loop-choice.plan from v inside c.loop-choice.invariant.1 in
    let same-long : length (set c.loop-choice.plan from v) ≡ length plan = length-set c.loop-choice.plan from v ∙ c.loop-choice.invariant.0 in
    let further = c.in_ok-goes_on.ensures in
    let stays = front_stays plan c.loop-choice.plan from v inside c.loop-choice.invariant.1 c.goes_on.new.plan further.front in
    let fails : GoesOn s Rs (length plan) (front ++ v ∷ []) → ⊥ =
    λ on. false≢true (sym c.if-branch.false ∙ further.answer.1.1 (subst (λ (n : ℕ). GoesOn s Rs n (take (from + 1) (set c.loop-choice.plan from v))) (sym same-long) (subst (λ (f : Plan). GoesOn s Rs (length plan) f) (sym pushed) on)))
    in
    (search rules, stays, trying_more s Rs (length plan) front c.loop-choice.choice-iterator.rest c.next.new.self.rest v c.in-Some-choice.ensures.steps.1 fails c.loop-choice.invariant.2)

pub returns : goal.returns
returns g t c =
    let bank = c.args.bank.now in
    let plan = c.args.plan.now in
    let front = take c.args.from plan in
    let enough : g.B.Bank.wide bank ≤ length plan = omega (arith, c.width.ensures) in
    let long : length front ≡ c.args.from = length-take-le c.args.from plan c.requires.fronted in
    let none = first_past _ [] (lt_fits_not (length plan) (g.B.Bank.wide bank) (plain 24) enough) in
    record {
      answer = (none, ((λ e. absurd (false≢true e)), (λ on. absurd (trying_all c.args.rows.now (g.B.Bank.rules bank) (length plan) front c.loop-choice.choice-iterator.rest c.in-None.ensures.steps.0 (omega (arith, c.requires.fronted)) c.loop-choice.invariant.2 on))));
      front = c.loop-choice.invariant.1;
    }
