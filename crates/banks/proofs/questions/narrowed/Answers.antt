use Rattle.std.proofs.Common.{◌≡◌, ℕ, ◌+◌, ◌<◌, sym, ◌∙◌, subst, arith}
use Rattle.banks.specs.Calls.{rule_at}
use Rattle.banks.specs.Rules.{arity, named}
use Rattle.banks.proofs.Narrowing.{Narrowing, narrowing_other, narrowing_named}
use Rattle.banks.proofs.Showing.{front_long, front_shows}
use Rattle.banks.proofs.questions.narrowed.Goals as goal
use Rattle.banks.proofs.questions.narrowed.Goals.{then-branch-row, else-branch-row}

pub loop-place-preserved : goal.loop-place-preserved
loop-place-preserved g c =
    let s = c.args.rows.now in
    let Rs = g.B.Bank.rules c.args.bank.now in
    let R = rule_at Rs c.args.rule in
    let i = c.loop-place.place in
    let lawful = g.B.Bank.lawful c.args.bank.now in
    let shows = c.in_ok-masks.ensures.1 in
    let long = front_long (g.B.Bank.wide c.args.bank.now) Rs lawful c.args.rule _ c.in_ok-masks.masks c.in_ok-masks-2.ensures.1 shows.long in
    let inside : i < arity R = omega (arith, c.loop-place-test.true) in
    let row_is : c.in_ok-row_at.field-0 ≡ named R i = c.in_ok-row_at.ensures.1 in
    let next : ℕ → Type 0 = Narrowing s R c.args.row c.args.mask (i + 1) in
    elim c.if-branch-row.branch [
      | then-branch-row w ↦
          subst next (sym w.passing-is)
          (narrowing_named s R c.args.row c.args.mask i c.loop-place.passing _ (sym row_is ∙ w.if-branch-row.true)
          (front_shows (g.B.Bank.wide c.args.bank.now) Rs lawful c.args.rule _ c.in_ok-masks.masks c.in_ok-masks-2.ensures.1 shows.long s _ shows i inside) c.loop-place.invariant)
      | else-branch-row w ↦
          subst next (sym w.passing-is)
          (narrowing_other s R c.args.row c.args.mask i c.loop-place.passing (λ e. w.if-branch-row.false (row_is ∙ e)) c.loop-place.invariant)
    ]

pub returns : goal.returns
returns g c =
    let s = c.args.rows.now in
    let Rs = g.B.Bank.rules c.args.bank.now in
    let R = rule_at Rs c.args.rule in
    let shows = c.in_ok-masks.ensures.1 in
    let long = front_long (g.B.Bank.wide c.args.bank.now) Rs (g.B.Bank.lawful c.args.bank.now) c.args.rule _ c.in_ok-masks.masks c.in_ok-masks-2.ensures.1 shows.long in
    let whole : c.loop-place.place ≡ arity R = omega (arith, c.loop-place-test.false, c.loop-place.auto.place-end) in (
      c.in_ok-masks.ensures.0,
      subst (λ (i : ℕ). Narrowing s R c.args.row c.args.mask i c.loop-place.passing) whole c.loop-place.invariant,
    )
