use Rattle.diagrams.specs.NodeSets.{member}
use Rattle.diagrams.proofs.Sweeping.{Fore}
use Rattle.diagrams.proofs.sweep.Layers.on_paths.Given as goal

abbrev pub invariant-loop-arc : goal.invariant-loop-arc
invariant-loop-arc l = Fore l.self.nodes.now l.self.arcs.now l.self.masks.now l.arc-index (member l.reached.words) (member l.ends.words) l.shown
