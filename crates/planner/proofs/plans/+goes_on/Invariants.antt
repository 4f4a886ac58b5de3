use Rattle.std.proofs.Common.{◌≡◌, ◌-◌, length, take}
use Rattle.planner.proofs.Trying.{Trying}
use Rattle.planner.proofs.plans.+goes_on.Given as goal

abbrev pub decreases-goes_on : goal.decreases-goes_on
decreases-goes_on g l = length l.plan.now - l.from

abbrev pub invariant-loop-choice : goal.invariant-loop-choice
invariant-loop-choice g l =
    (length l.plan ≡ length l.initial.plan) × (take l.from l.plan ≡ take l.from l.initial.plan)
    × Trying l.rows (g.B.Bank.rules l.bank) (length l.initial.plan) (take l.from l.initial.plan) l.choice-iterator.rest
