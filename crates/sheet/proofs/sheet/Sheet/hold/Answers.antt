use Rattle.std.proofs.Common.{sym, subst}
use Rattle.trail.specs.Stacks.{held}
use Rattle.histories.specs.Moves.{hold, done, Moves}
use Rattle.histories.proofs.Every.{lawfully}
use Rattle.sheet.specs.Memory.{state_of}
use Rattle.sheet.proofs.Heights.{heights_recorded}
use Rattle.sheet.proofs.Narrowing.{held_some, hold_moves}
use Rattle.sheet.proofs.Touching.{untouched, refused_done, narrows_state}
use Rattle.sheet.proofs.sheet.Sheet.hold.Goals as goal

pub returns-in_err-may_hold-clause-lawful : goal.returns-in_err-may_hold-clause-lawful
returns-in_err-may_hold-clause-lawful c =
    refused_done (hold c.args.row c.args.choice) c.args.self.now c.args.self.now c.from_residual.result c.in_err-may_hold.field-0.0 c.from_residual.ensures.1 c.in_err-may_hold.ensures.0 (untouched c.args.self.now)

pub narrow-requires-clause-some : goal.narrow-requires-clause-some
narrow-requires-clause-some c = (held_some (state_of c.args.self.now).rows c.args.row c.args.choice c.only.result c.in_ok-may_hold.ensures.0 c.only.ensures).1

pub returns-clause-lawful : goal.returns-clause-lawful
returns-clause-lawful c =
    let x = c.args.self.now in
    let y = c.narrow.new.self in
    let moved = hold_moves (state_of x).rows (state_of y).rows (state_of x).strokes (state_of y).strokes (held x.marks) x.given x.room c.args.row c.only.result c.narrow.ensures.narrows (heights_recorded x) c.args.choice c.in_ok-may_hold.ensures.0 c.only.ensures in
    lawfully (subst (λ t. Moves (hold c.args.row c.args.choice) done (state_of x) t) (sym (narrows_state c.args.row c.only.result x y c.narrow.ensures)) moved)
