use Rattle.std.proofs.Common.{◌≡◌}
use Rattle.waiting_runs.proofs.run.Given as goal

abbrev pub invariant-loop : goal.invariant-loop
invariant-loop g l = g.L.WaitingList.room l.list ≡ g.L.WaitingList.room l.initial.list
