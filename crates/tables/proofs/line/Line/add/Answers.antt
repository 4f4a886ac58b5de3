use Rattle.std.proofs.Common.{arith}
use Rattle.tables.proofs.Adding.{adding_more}
use Rattle.tables.proofs.line.Line.add.Goals as goal

pub loop-place-preserved : goal.loop-place-preserved
loop-place-preserved c =
    let line = c.args.self.now in
    adding_more line.bytes.now line.masks.now c.args.found.now c.loop-place.place c.matching.result c.loop-place.found
    (omega (arith, line.long, c.requires, c.loop-place-test.true)) c.matching.ensures c.loop-place.invariant
