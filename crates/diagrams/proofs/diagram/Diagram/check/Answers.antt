use Rattle.std.proofs.Common.{sym, refl}
use Rattle.diagrams.proofs.Banking.{past_checks}
use Rattle.diagrams.proofs.diagram.Diagram.check.Goals as goal

pub returns-in-Some : goal.returns-in-Some
returns-in-Some c = (
  past_checks c.args.width c.args.places.now c.args.arcs.now c.args.self.now (sym c.if-not-may_name.ensures) (sym c.if-not-counts_fit.ensures)
      _ _ _ _ c.of-own_nodes.ensures c.of-own_arcs.ensures c.in-Some.ensures.first refl,
  tt,
)

pub returns-in-Some-first_bad_arc : goal.returns-in-Some-first_bad_arc
returns-in-Some-first_bad_arc c = (
  past_checks c.args.width c.args.places.now c.args.arcs.now c.args.self.now (sym c.if-not-may_name.ensures) (sym c.if-not-counts_fit.ensures)
      _ _ _ _ c.of-own_nodes.ensures c.of-own_arcs.ensures c.in_default.ensures.first c.in-Some-first_bad_arc.ensures.first,
  tt,
)

pub returns : goal.returns
returns c = (
  past_checks c.args.width c.args.places.now c.args.arcs.now c.args.self.now (sym c.if-not-may_name.ensures) (sym c.if-not-counts_fit.ensures)
      _ _ _ _ c.of-own_nodes.ensures c.of-own_arcs.ensures c.in_default.ensures.first c.in_default-first_bad_arc.ensures.first,
  tt,
)
