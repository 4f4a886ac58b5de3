use Rattle.std.proofs.Common.{length, rules}
use Rattle.std.proofs.lemmas.List.{length_push}
use Rattle.std.proofs.lemmas.Slice.Zip.{zip_turn}
use Rattle.tables.proofs.Fitting.{fitting_more}
use Rattle.tables.proofs.line.Line.lives.Goals as goal

pub loop-byte-preserved : goal.loop-byte-preserved
loop-byte-preserved c =
    let line = c.args.self.now in
    let n = length c.loop-byte.yielded in
    let turn =
    zip_turn line.bytes.now line.masks.now c.loop-byte.yielded c.into_iter-byte-iterator.result c.loop-byte.byte-iterator c.next.new.self c.next.result
    (search rules) (search rules) c.loop-byte.yielded_by (c.in-Some.byte, c.in-Some.mask) c.in-Some.is c.next.ensures.steps in
    rw (length_push c.loop-byte.yielded (c.in-Some.byte, c.in-Some.mask))
    (fitting_more line.bytes.now line.masks.now n c.matching.result c.in-Some.byte.now c.in-Some.mask.now c.loop-byte.living (turn.2 0) (turn.3 0) (search rules) c.matching.ensures c.loop-byte.invariant)
