use Rattle.std.proofs.Common.{take, Ok}
use Rattle.std.specs.Fn.{FnReturnsAt}
use Rattle.std.specs.List.{AllByRecursion}
use Rattle.banks.proofs.checking.check_rules.Given as goal

-- every rule before the one that is looked at is accepted
abbrev pub invariant-loop-number : goal.invariant-loop-number
invariant-loop-number g l = AllByRecursion (λ x. FnReturnsAt g.C.Fn l.check x (Ok tt)) (take l.number l.rules)
