use Rattle.std.proofs.Common.{◌≡◌, true}
use Rattle.settling.specs.States.{state_of, Keeps}
use Rattle.settling.proofs.Waking.{Waking}
use Rattle.settling.proofs.propagate.Settling.fill.Given as goal

abbrev pub invariant-loop-rule : goal.invariant-loop-rule
invariant-loop-rule g l =
    let x = l.initial.self in
    Keeps g.L.WaitingList.room x l.self × (l.self.trail.now ≡ x.trail.now) × Waking (λ _. true) (state_of g.L.WaitingList.waits x).waits l.rule (state_of g.L.WaitingList.waits l.self).waits
