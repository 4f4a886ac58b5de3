use Rattle.std.proofs.Common.{◌∙◌, arith}
use Rattle.trail.proofs.Widening.{undoing_more}
use Rattle.trail.specs.Readings.{rows_of, record_of}
use Rattle.trail.proofs.trail.Trail.undo_to.Goals as goal

pub loop-self-preserved : goal.loop-self-preserved
loop-self-preserved c =
    let t = c.loop-self.self in
    let u = c.undo_one.new.self in
    let one = c.undo_one.ensures in
    record {
      memory = one.long ∙ c.loop-self.invariant.memory;
      undoing = undoing_more c.args.height (rows_of c.args.self.now) (record_of c.args.self.now) t u (omega (arith, c.loop-self-test.true, c.height.ensures)) one c.loop-self.invariant.undoing;
    }
