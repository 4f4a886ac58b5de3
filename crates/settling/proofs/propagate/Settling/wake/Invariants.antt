use Rattle.std.proofs.Common.{◌≡◌}
use Rattle.settling.specs.Loop.{other_names}
use Rattle.settling.specs.States.{state_of, rules_of, Keeps}
use Rattle.settling.proofs.Waking.{Waking}
use Rattle.settling.proofs.propagate.Settling.wake.Given as goal

abbrev pub invariant-loop-rule : goal.invariant-loop-rule
invariant-loop-rule g l =
    let x = l.initial.self in
    Keeps g.L.WaitingList.room x l.self × (l.self.trail.now ≡ x.trail.now) × Waking (other_names (rules_of g.B.Bank.rules x) l.but l.row) (state_of g.L.WaitingList.waits x).waits l.rule (state_of g.L.WaitingList.waits l.self).waits
