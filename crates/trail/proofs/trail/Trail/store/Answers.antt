use Rattle.std.proofs.Common.{◌<◌, set, sym, ap, ◌∙◌, subst, arith}
use Rattle.std.proofs.lemmas.List.{length-set}
use Rattle.banks.specs.Rules.{row}
use Rattle.trail.specs.Readings.{rows_of}
use Rattle.trail.specs.Trails.{Parts}
use Rattle.trail.proofs.Storing.{set_owes, room_for_lost, stored_as}
use Rattle.trail.proofs.trail.Trail.store.Goals as goal

pub invariant_of-self : goal.invariant_of-self
invariant_of-self c =
    let t = c.args.self.now in
    let k = c.mask.result in
    let parts = subst (λ m. Parts (row (rows_of t) c.args.row) m c.args.lost) (sym c.mask.ensures) c.requires.parts in
    let some : 0 < k = omega (arith, c.mask.ensures, c.args.narrowed.some) in
    let owed = set_owes t c.args.row k c.requires.inside some c.mask.type_inv (omega (arith, room_for_lost t c.args.row k c.args.lost c.requires.inside parts, length-set (rows_of t) c.args.row k)) in
    record { some = owed.0; few = owed.1; enough = owed.2; spare = owed.3 }

pub note_all-requires-clause-spare : goal.note_all-requires-clause-spare
note_all-requires-clause-spare c =
    let t = c.args.self.now in
    room_for_lost t c.args.row c.mask.result c.args.lost c.requires.inside (subst (λ m. Parts (row (rows_of t) c.args.row) m c.args.lost) (sym c.mask.ensures) c.requires.parts)

pub returns : goal.returns
returns c =
    let t = c.args.self.now in
    stored_as t c.note_all.new.self c.args.row c.args.narrowed.mask c.args.lost c.requires.parts
    (c.note_all.ensures.rows ∙ ap (set (rows_of t) c.args.row) c.mask.ensures) c.note_all.ensures.noted
