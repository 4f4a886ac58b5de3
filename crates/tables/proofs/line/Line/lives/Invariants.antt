use Rattle.std.proofs.Common.{length}
use Rattle.tables.proofs.Fitting.{Fitting}
use Rattle.tables.proofs.line.Line.lives.Given as goal

abbrev pub invariant-loop-byte : goal.invariant-loop-byte
invariant-loop-byte l = Fitting l.self.bytes.now l.self.masks.now (length l.yielded) l.living
