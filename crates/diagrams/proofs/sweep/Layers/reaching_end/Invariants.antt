use Rattle.std.specs.Iterator.Adapters.{rev_source}
use Rattle.std.specs.Slice.Iter.{iter_rest}
use Rattle.diagrams.specs.NodeSets.{member}
use Rattle.diagrams.proofs.Sweeping.{Back}
use Rattle.diagrams.proofs.sweep.Layers.reaching_end.Given as goal

abbrev pub invariant-loop-arc : goal.invariant-loop-arc
invariant-loop-arc l = Back l.self.nodes.now l.self.arcs.now l.self.masks.now (iter_rest (rev_source l.arc-iterator)) (member l.ends.words)
