use Rattle.std.proofs.Common.{sym, ◌∙◌, rules}
use Rattle.diagrams.proofs.Sweeping.{next_bounds, back_skip, back_more, back_all}
use Rattle.diagrams.proofs.sweep.Layers.reaching_end.Goals as goal

pub leads_into-requires : goal.leads_into-requires
leads_into-requires c = next_bounds _ _ _ _ _ _ _ c.loop-arc.invariant c.in-Some.ensures.steps _ c.args.self.now.layered

pub add-requires-then-leads_into : goal.add-requires-then-leads_into
add-requires-then-leads_into c = (next_bounds _ _ _ _ _ _ _ c.loop-arc.invariant c.in-Some.ensures.steps _ c.args.self.now.layered).node_low

pub loop-arc-preserved-then-leads_into : goal.loop-arc-preserved-then-leads_into
loop-arc-preserved-then-leads_into c =
    back_more _ _ _ _ _ _ _ c.loop-arc.invariant c.in-Some.ensures.steps _ _ c.args.self.now.layered c.add-then-leads_into.ensures
    (sym c.leads_into.ensures ∙ c.if-leads_into.true)

pub loop-arc-preserved : goal.loop-arc-preserved
loop-arc-preserved c = back_skip _ _ _ _ _ _ _ c.loop-arc.invariant c.in-Some.ensures.steps (sym c.leads_into.ensures ∙ c.if-leads_into.false)

pub returns : goal.returns
returns c = back_all _ _ _ _ _ (search rules) c.loop-arc.invariant
