use Rattle.std.proofs.Common.{◌<◌, ◌≤◌, [], length, sym, refl, ◌∙◌, arith, below_more}
use Rattle.std.proofs.ByRecursion.{All-get_or, All-from_get_or}
use Rattle.std.proofs.lemmas.Bool.{false≢true}
use Rattle.rows.proofs.Refusing.{first_past, lt_fits_not}
use Rattle.rows.specs.Refusals.{plain}
use Rattle.banks.specs.Rules.{SupportedBy}
use Rattle.banks.proofs.questions.supported.Goals as goal

pub returns-then-not-branch : goal.returns-then-not-branch
returns-then-not-branch g c =
    let bank = c.args.bank.now in
    let s = c.args.rows.now in
    let enough : g.B.Bank.wide bank ≤ length s = omega (arith, c.width.ensures) in
    let rule_in : c.loop-rule.rule < length (g.B.Bank.rules bank) = omega (arith, c.rule_count-rule-end.ensures) in
    let none = first_past _ [] (lt_fits_not (length s) (g.B.Bank.wide bank) (plain 24) enough) in
    let answered = c.in_ok-supported_by.ensures.1 in (
      none,
      (
        (λ e. absurd (false≢true e)),
        (λ all. sym c.if-not-branch.true ∙ answered.1 (All-get_or (SupportedBy s) (g.B.Bank.rules bank) c.loop-rule.rule _ rule_in all.rules)),
      ),
    )

pub loop-rule-preserved : goal.loop-rule-preserved
loop-rule-preserved g c = below_more _ _ c.loop-rule.invariant (c.in_ok-supported_by.ensures.1.0 c.if-not-branch.false)

pub returns : goal.returns
returns g c =
    let bank = c.args.bank.now in
    let s = c.args.rows.now in
    let enough : g.B.Bank.wide bank ≤ length s = omega (arith, c.width.ensures) in
    let none = first_past _ [] (lt_fits_not (length s) (g.B.Bank.wide bank) (plain 24) enough) in (
      none,
      (
        (λ _. record {
          rows = c.if-not-no_row_empty.ensures.0 refl;
          rules = All-from_get_or (SupportedBy s) (g.B.Bank.rules bank) _ (λ k h. c.loop-rule.invariant k (omega (arith, c.rule_count-rule-end.ensures)));
        }),
        (λ _. refl),
      ),
    )
