use Rattle.tables.proofs.Adding.{Adding}
use Rattle.tables.proofs.line.Line.add.Given as goal

abbrev pub invariant-loop-place : goal.invariant-loop-place
invariant-loop-place l = Adding l.self.bytes.now l.self.masks.now l.initial.found l.place l.found
