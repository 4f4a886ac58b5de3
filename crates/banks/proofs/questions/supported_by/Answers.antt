use Rattle.std.proofs.Common.{◌≡◌, ◌<◌, get_or, sym, refl, ap, ◌∙◌, arith, rules}
use Rattle.std.proofs.lemmas.Bool.{false≢true}
use Rattle.banks.specs.Calls.{rule_at}
use Rattle.banks.specs.Rules.{arity, named, row}
use Rattle.banks.proofs.Calling.{admitted, row_within}
use Rattle.banks.proofs.Showing.{all_shown, one_missing, front_long, front_at}
use Rattle.banks.proofs.questions.supported_by.Goals as goal

pub offset_bounds-rows-branch : goal.offset_bounds-rows-branch
offset_bounds-rows-branch g c =
    let bank = c.args.bank.now in
    let Rs = g.B.Bank.rules bank in
    let adm = admitted (g.B.Bank.wide bank) Rs c.args.rule c.args.rows.now _ c.in_ok-masks.ensures.0 in
    let long = front_long (g.B.Bank.wide bank) Rs (g.B.Bank.lawful bank) c.args.rule _ c.in_ok-masks.masks c.in_ok-masks-2.ensures.1 c.in_ok-masks.ensures.1.long in
    let inside : c.loop-place.place < arity (rule_at Rs c.args.rule) = omega (arith, c.loop-place-test.true) in
    let low = row_within (g.B.Bank.wide bank) Rs c.args.rule c.args.rows.now c.loop-place.place c.in_ok-row_at.field-0 (g.B.Bank.lawful bank) adm inside c.in_ok-row_at.ensures.1 in
    record { fits = omega (arith, low.1) }

pub bounds-rows-branch : goal.bounds-rows-branch
bounds-rows-branch g c =
    let bank = c.args.bank.now in
    let Rs = g.B.Bank.rules bank in
    let adm = admitted (g.B.Bank.wide bank) Rs c.args.rule c.args.rows.now _ c.in_ok-masks.ensures.0 in
    let long = front_long (g.B.Bank.wide bank) Rs (g.B.Bank.lawful bank) c.args.rule _ c.in_ok-masks.masks c.in_ok-masks-2.ensures.1 c.in_ok-masks.ensures.1.long in
    let inside : c.loop-place.place < arity (rule_at Rs c.args.rule) = omega (arith, c.loop-place-test.true) in
    (row_within (g.B.Bank.wide bank) Rs c.args.rule c.args.rows.now c.loop-place.place c.in_ok-row_at.field-0 (g.B.Bank.lawful bank) adm inside c.in_ok-row_at.ensures.1).0

pub returns-then-rows-branch : goal.returns-then-rows-branch
returns-then-rows-branch g c =
    let bank = c.args.bank.now in
    let Rs = g.B.Bank.rules bank in
    let long = front_long (g.B.Bank.wide bank) Rs (g.B.Bank.lawful bank) c.args.rule _ c.in_ok-masks.masks c.in_ok-masks-2.ensures.1 c.in_ok-masks.ensures.1.long in
    let inside : c.loop-place.place < arity (rule_at Rs c.args.rule) = omega (arith, c.loop-place-test.true) in
    let R = rule_at Rs c.args.rule in
    let s = c.args.rows.now in
    let i = c.loop-place.place in
    let front = front_at (g.B.Bank.wide bank) Rs (g.B.Bank.lawful bank) c.args.rule _ c.in_ok-masks.masks c.in_ok-masks-2.ensures.1 c.in_ok-masks.ensures.1.long i inside in
    let differs : get_or c.in_ok-masks.masks i 0 ≡ row s (named R i) → ⊥ = λ e. c.if-rows-branch.true (front ∙ e ∙ ap (row s) (sym c.in_ok-row_at.ensures.1)) in (
      c.in_ok-masks.ensures.0,
      (
        (λ e. absurd (false≢true e)),
        (λ all. absurd (one_missing s R _ c.in_ok-masks.masks c.in_ok-masks.ensures.1 i inside (search rules) (search rules) differs all)),
      ),
    )

pub returns : goal.returns
returns g c =
    let bank = c.args.bank.now in
    let Rs = g.B.Bank.rules bank in
    let R = rule_at Rs c.args.rule in
    let s = c.args.rows.now in
    let long = front_long (g.B.Bank.wide bank) Rs (g.B.Bank.lawful bank) c.args.rule _ c.in_ok-masks.masks c.in_ok-masks-2.ensures.1 c.in_ok-masks.ensures.1.long in
    let front = front_at (g.B.Bank.wide bank) Rs (g.B.Bank.lawful bank) c.args.rule _ c.in_ok-masks.masks c.in_ok-masks-2.ensures.1 c.in_ok-masks.ensures.1.long in (
      c.in_ok-masks.ensures.0,
      (
        (λ _. all_shown s R _ c.in_ok-masks.masks c.in_ok-masks.ensures.1
            (λ p h. sym (front p h) ∙ c.loop-place.invariant p (omega (arith, c.loop-place-test.false)))),
        (λ _. refl),
      ),
    )
