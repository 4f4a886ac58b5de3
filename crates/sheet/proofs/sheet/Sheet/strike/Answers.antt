use Rattle.std.proofs.Common.{sym, subst}
use Rattle.trail.specs.Stacks.{held}
use Rattle.histories.specs.Moves.{strike, done, Moves}
use Rattle.histories.proofs.Every.{lawfully}
use Rattle.sheet.specs.Memory.{state_of}
use Rattle.sheet.proofs.Heights.{heights_recorded}
use Rattle.sheet.proofs.Narrowing.{struck_some, strike_moves}
use Rattle.sheet.proofs.Touching.{untouched, refused_done, narrows_state}
use Rattle.sheet.proofs.sheet.Sheet.strike.Goals as goal

pub returns-in_err-may_strike-clause-lawful : goal.returns-in_err-may_strike-clause-lawful
returns-in_err-may_strike-clause-lawful c =
    refused_done (strike c.args.row c.args.choice) c.args.self.now c.args.self.now c.from_residual.result c.in_err-may_strike.field-0.0 c.from_residual.ensures.1 c.in_err-may_strike.ensures.0 (untouched c.args.self.now)

pub narrow-requires-clause-some : goal.narrow-requires-clause-some
narrow-requires-clause-some c = (struck_some (state_of c.args.self.now).rows c.args.row c.args.choice c.others-others.result c.in_ok-may_strike.ensures.0 c.others-others.ensures).1

pub returns-clause-lawful : goal.returns-clause-lawful
returns-clause-lawful c =
    let x = c.args.self.now in
    let y = c.narrow.new.self in
    let moved = strike_moves (state_of x).rows (state_of y).rows (state_of x).strokes (state_of y).strokes (held x.marks) x.given x.room c.args.row c.others-others.result c.narrow.ensures.narrows (heights_recorded x) c.args.choice c.in_ok-may_strike.ensures.0 c.others-others.ensures in
    lawfully (subst (λ t. Moves (strike c.args.row c.args.choice) done (state_of x) t) (sym (narrows_state c.args.row c.others-others.result x y c.narrow.ensures)) moved)
