use Rattle.trail.specs.Readings.{height_of}
use Rattle.trail.specs.Stacks.{held}
use Rattle.sheet.proofs.Heights.{heights_grow}
use Rattle.sheet.proofs.Narrowing.{narrow_done, narrow_grows}
use Rattle.sheet.proofs.sheet.Sheet.narrow.Goals as goal

pub invariant_of-self : goal.invariant_of-self
invariant_of-self c =
    let x = c.args.self.now in
    let t = x.trail in
    let u = c.narrow.new.self in
    let n = narrow_done c.args.row c.args.wanted t u c.narrow.result c.requires.inside c.requires.some c.narrow.ensures in
    record { within = x.within; heights = heights_grow 0 (height_of t) (height_of u) (held x.marks) (narrow_grows c.args.row c.args.wanted t u n) x.heights }
