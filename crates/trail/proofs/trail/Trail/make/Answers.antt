use Rattle.trail.proofs.Admitting.{admitted_owes}
use Rattle.trail.proofs.trail.Trail.make.Goals as goal

pub invariant_of-result : goal.invariant_of-result
invariant_of-result c =
    let owed = admitted_owes c.args.rows.now c.admitted-count.result c.clear.new.self.top c.admitted-count.ensures c.clear.ensures.memory c.clear.ensures.empty in
    record { some = owed.0; few = owed.1; enough = owed.2; spare = owed.3 }
