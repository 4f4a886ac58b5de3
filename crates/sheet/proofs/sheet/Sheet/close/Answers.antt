use Rattle.std.proofs.Common.{ap, length, arith}
use Rattle.trail.specs.Readings.{height_of}
use Rattle.trail.specs.Stacks.{held}
use Rattle.sheet.proofs.Closing.{closed_at}
use Rattle.sheet.proofs.Heights.{heights_closed}
use Rattle.sheet.proofs.sheet.Sheet.close.Goals as goal

pub invariant_of-self : goal.invariant_of-self
invariant_of-self c =
    let x = c.args.self.now in
    let marks = x.marks in
    let split = closed_at c.args.serial c.in_ok-at.at marks c.truncate.new.self c.entries.result.now c.find.result c.entries.ensures c.find.ensures c.in_ok-at.ensures.ok_part c.truncate.ensures.memory c.truncate.ensures.rest in
    let left = heights_closed c.args.serial (height_of x.trail) (held marks) (held c.truncate.new.self) _ x.heights split in
    record { within = omega (arith, x.within, ap length c.truncate.ensures.memory); heights = left.2 }

pub returns-clause-closed : goal.returns-clause-closed
returns-clause-closed c =
    closed_at c.args.serial c.in_ok-at.at c.args.self.now.marks c.truncate.new.self c.entries.result.now c.find.result c.entries.ensures c.find.ensures c.in_ok-at.ensures.ok_part c.truncate.ensures.memory c.truncate.ensures.rest
