use Rattle.std.proofs.Common.{◌≡◌, ◌+◌}
use Rattle.waiting.specs.Waiting.{how_many}
use Rattle.waiting_runs.proofs.drain.Given as goal

-- what was counted and what still waits are all that waited
abbrev pub invariant-loop-number : goal.invariant-loop-number
invariant-loop-number g l =
    (g.L.WaitingList.room l.list ≡ g.L.WaitingList.room l.initial.list)
    × (l.count + how_many (g.L.WaitingList.waits l.list) (g.L.WaitingList.room l.list)
    ≡ how_many (g.L.WaitingList.waits l.initial.list) (g.L.WaitingList.room l.initial.list))

abbrev pub decreases-loop-number : goal.decreases-loop-number
decreases-loop-number g l = how_many (g.L.WaitingList.waits l.list) (g.L.WaitingList.room l.list)
