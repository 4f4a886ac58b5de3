use Rattle.std.proofs.Common.{◌<◌, ◌≤◌, [], length, sym, refl, ◌∙◌, arith, below_more}
use Rattle.std.proofs.ByRecursion.{All-get_or, All-from_get_or}
use Rattle.std.proofs.lemmas.Bool.{false≢true}
use Rattle.rows.proofs.Refusing.{first_past, lt_fits_not}
use Rattle.rows.specs.Refusals.{plain}
use Rattle.banks.specs.Rules.{Meets}
use Rattle.banks.proofs.Planning.{rule_met}
use Rattle.banks.proofs.questions.meets.Goals as goal

pub returns-then-not-branch : goal.returns-then-not-branch
returns-then-not-branch g c =
    let bank = c.args.bank.now in
    let w = g.B.Bank.wide bank in
    let Rs = g.B.Bank.rules bank in
    let plan = c.args.plan.now in
    let enough : w ≤ length plan = omega (arith, c.width.ensures) in
    let here : c.loop-rule.rule < length Rs = omega (arith, c.rule_count-rule-end.ensures) in
    let met = rule_met w Rs (g.B.Bank.lawful bank) c.loop-rule.rule here plan c.rows_of-rows.result enough c.rows_of-rows.ensures (c.if-not-of_choices.ensures.0 refl) in
    let none = first_past _ [] (lt_fits_not (length plan) w (plain 24) enough) in
    let answered = c.in_ok-has_live_tuple.ensures.1 in
    (none, ((λ e. absurd (false≢true e)), (λ all. sym c.if-not-branch.true ∙ answered.1 (met.1 (All-get_or (Meets plan) Rs c.loop-rule.rule _ here all.1)))))

pub loop-rule-preserved : goal.loop-rule-preserved
loop-rule-preserved g c =
    let bank = c.args.bank.now in
    let w = g.B.Bank.wide bank in
    let Rs = g.B.Bank.rules bank in
    let plan = c.args.plan.now in
    let enough : w ≤ length plan = omega (arith, c.width.ensures) in
    let here : c.loop-rule.rule < length Rs = omega (arith, c.rule_count-rule-end.ensures) in
    let met = rule_met w Rs (g.B.Bank.lawful bank) c.loop-rule.rule here plan c.rows_of-rows.result enough c.rows_of-rows.ensures (c.if-not-of_choices.ensures.0 refl) in
    below_more _ _ c.loop-rule.invariant (met.0 (c.in_ok-has_live_tuple.ensures.1.0 c.if-not-branch.false))

pub returns : goal.returns
returns g c =
    let bank = c.args.bank.now in
    let Rs = g.B.Bank.rules bank in
    let plan = c.args.plan.now in
    let enough : g.B.Bank.wide bank ≤ length plan = omega (arith, c.width.ensures) in
    let none = first_past _ [] (lt_fits_not (length plan) (g.B.Bank.wide bank) (plain 24) enough) in
    (none, ((λ _. (c.if-not-of_choices.ensures.0 refl, All-from_get_or (Meets plan) Rs _ (λ k h. c.loop-rule.invariant k (omega (arith, c.rule_count-rule-end.ensures))))), (λ _. refl)))
