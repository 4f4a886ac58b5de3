use Rattle.std.proofs.Common.{◌≡◌, ℕ, ◌≤◌, [], length, sym, subst, arith}
use Rattle.std.proofs.lemmas.Bool.{ltb-false}
use Rattle.rows.proofs.Refusing.{first_past, lt_fits_not}
use Rattle.rows.specs.Refusals.{plain}
use Rattle.banks.proofs.Narrowing.{Choosing, choosing_all, no_choices}
use Rattle.banks.proofs.questions.supported_choices.Goals as goal

pub returns-in_default : goal.returns-in_default
returns-in_default g c =
    let bank = c.args.bank.now in
    let s = c.args.rows.now in
    let enough : g.B.Bank.wide bank ≤ length s = omega (arith, c.width.ensures) in
    let past : length s ≤ c.args.row = ltb-false c.args.row (length s) (sym c.in_default.ensures.lookup.0) in
    (first_past _ [] (lt_fits_not (length s) (g.B.Bank.wide bank) (plain 24) enough), no_choices s (g.B.Bank.rules bank) c.args.row past)

pub returns : goal.returns
returns g c =
    let bank = c.args.bank.now in
    let s = c.args.rows.now in
    let Rs = g.B.Bank.rules bank in
    let enough : g.B.Bank.wide bank ≤ length s = omega (arith, c.width.ensures) in
    let whole : c.loop-rule.rule ≡ length Rs = omega (arith, c.rule_count-rule-end.ensures) in (
      first_past _ [] (lt_fits_not (length s) (g.B.Bank.wide bank) (plain 24) enough),
      choosing_all s Rs c.args.row c.loop-rule.passing (subst (λ (i : ℕ). Choosing s Rs c.args.row i c.loop-rule.passing) whole c.loop-rule.invariant),
    )
