use Rattle.std.proofs.Common.{arith, rules}
use Rattle.waiting_runs.proofs.classes_in_turn.Goals as goal

pub returns : goal.returns
returns c k h =
    let made = c.from_fn.ensures.items in
    let call = made.at k 0 (omega (arith, made.long)) in search rules
