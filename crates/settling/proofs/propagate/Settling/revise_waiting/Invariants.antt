use Rattle.settling.specs.States.{state_of, rules_of, Keeps}
use Rattle.settling.proofs.Looping.{Looping, work}
use Rattle.settling.proofs.propagate.Settling.revise_waiting.Given as goal

abbrev pub invariant-loop-rule : goal.invariant-loop-rule
invariant-loop-rule g l = let x = l.initial.self in Keeps g.L.WaitingList.room x l.self × Looping (rules_of g.B.Bank.rules x) (state_of g.L.WaitingList.waits x) (state_of g.L.WaitingList.waits l.self)

abbrev pub decreases-loop-rule : goal.decreases-loop-rule
decreases-loop-rule g l = work (state_of g.L.WaitingList.waits l.self) (g.L.WaitingList.room l.initial.self.list.now)
