use Rattle.trail.proofs.Admitting.{room_left}
use Rattle.trail.proofs.Stacked.{pushed_ok}
use Rattle.trail.proofs.trail.Trail.note.Goals as goal

pub unwrap-requires : goal.unwrap-requires
unwrap-requires c =
    let t = c.args.self.now in
    pushed_ok t.struck c.push.new.self c.args.stroke c.push.result (room_left t c.requires) c.push.ensures
