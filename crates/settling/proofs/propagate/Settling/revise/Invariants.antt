use Rattle.settling.specs.States.{state_of, rules_of, Keeps}
use Rattle.settling.proofs.Advancing.{Bringing}
use Rattle.settling.proofs.propagate.Settling.revise.Given as goal

abbrev pub invariant-loop-place : goal.invariant-loop-place
invariant-loop-place g l = let x = l.initial.self in Keeps g.L.WaitingList.room x l.self × Bringing (rules_of g.B.Bank.rules x) l.rule l.mask-items l.place (state_of g.L.WaitingList.waits x) (state_of g.L.WaitingList.waits l.self)
