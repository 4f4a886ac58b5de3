use Rattle.rows.proofs.Keeping.{Keeping}
use Rattle.rows.proofs.walk.keep_by.Given as goal

abbrev pub invariant-loop-choice : goal.invariant-loop-choice
invariant-loop-choice g l = Keeping (goal.F-post g l.test) l.mask l.choice-iterator.rest l.passing
