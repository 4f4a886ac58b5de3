use Rattle.std.proofs.Common.{Ok, sym, refl, subst}
use Rattle.std.proofs.ByRecursion.{All-more}
use Rattle.std.proofs.lemmas.Option.{slice_get_read}
use Rattle.std.specs.Fn.{FnReturnsAt}
use Rattle.banks.proofs.checking.check_rules.Goals as goal

pub returns-in-Err : goal.returns-in-Err
returns-in-Err g c = (
  sym c.if-not-may_hold.ensures,
  c.loop-number.invariant,
  c.index-rules-number.result,
  slice_get_read _ _ _ _ refl c.loop-number-test.true c.index-rules-number.is,
  record { shown = _; shows = refl; says = record { met = c.in-Err.ensures } },
)

pub loop-number-preserved : goal.loop-number-preserved
loop-number-preserved g c =
    let here : FnReturnsAt g.C.Fn c.args.check c.index-rules-number.result (Ok tt) = record { shown = _; shows = refl; says = record { met = c.in_default.ensures } } in
    All-more (λ x. FnReturnsAt g.C.Fn c.args.check x (Ok tt)) c.args.rules.now c.loop-number.number c.index-rules-number.result c.loop-number-test.true
    c.loop-number.invariant (subst (λ x. FnReturnsAt g.C.Fn c.args.check x (Ok tt)) c.index-rules-number.is here)
