use Rattle.rows.proofs.Keeping.{keeping_all}
use Rattle.rows.proofs.walk.keep_by.Goals as goal

pub returns : goal.returns
returns g c = keeping_all (goal.F-post g c.args.test) c.args.mask _ c.loop-choice.passing c.in-None.ensures.steps.0 c.loop-choice.invariant
