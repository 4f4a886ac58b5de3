use Rattle.std.proofs.Common.{sym, refl, ◌∙◌, arith}
use Rattle.diagrams.proofs.Layering.{arc_bounds, node_place}
use Rattle.diagrams.proofs.Sweeping.{fore_none, fore_skip, fore_more, fore_all}
use Rattle.diagrams.proofs.sweep.Layers.on_paths.Goals as goal
use Rattle.diagrams.proofs.sweep.Layers.on_paths.Goals.{then-leads_between, else-leads_between}

pub loop-arc-init : goal.loop-arc-init
loop-arc-init c = fore_none _ _ _ _ _ _ c.empty-reached.ensures c.add.ensures

pub leads_between-requires : goal.leads_between-requires
leads_between-requires c = let s = c.args.self.now in arc_bounds _ s.nodes.now s.arcs.now s.layered _ _ c.loop-arc-test.true refl

pub bounds-shown-place : goal.bounds-shown-place
bounds-shown-place c =
    let s = c.args.self.now in omega (arith, node_place _ s.nodes.now s.arcs.now s.layered c.loop-arc.arc-index c.loop-arc-test.true, s.layered.narrow)

pub bounds-shown-place-then-leads_between : goal.bounds-shown-place-then-leads_between
bounds-shown-place-then-leads_between c =
    let s = c.args.self.now in omega (arith, node_place _ s.nodes.now s.arcs.now s.layered c.loop-arc.arc-index c.loop-arc-test.true, s.layered.narrow)

pub loop-arc-preserved : goal.loop-arc-preserved
loop-arc-preserved c =
    elim c.if-leads_between.branch [
      | then-leads_between w ↦
          rw (w.reached-is, w.shown-is)
          (fore_more _ _ _ _ _ _ _ c.loop-arc.invariant _ c.args.self.now.layered c.loop-arc-test.true _ w.add-then-leads_between.ensures c.reaching_end-ends.ensures
          (sym c.leads_between.ensures ∙ w.if-leads_between.true))
      | else-leads_between w ↦
          rw (w.reached-is, w.shown-is)
          (fore_skip _ _ _ _ _ _ _ c.loop-arc.invariant (sym c.leads_between.ensures ∙ w.if-leads_between.false))
    ]

pub returns : goal.returns
returns c = fore_all _ _ _ _ _ _ _ c.loop-arc-test.false c.reaching_end-ends.ensures c.loop-arc.invariant
