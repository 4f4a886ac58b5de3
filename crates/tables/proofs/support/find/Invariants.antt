use Rattle.tables.proofs.Scanning.{Scanning}
use Rattle.tables.proofs.support.find.Given as goal

abbrev pub invariant-loop-line : goal.invariant-loop-line
invariant-loop-line l = Scanning l.bytes l.masks l.line-iterator.size l.line-iterator.rest.now l.found
