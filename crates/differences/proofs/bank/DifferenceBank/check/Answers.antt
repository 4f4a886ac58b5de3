use Rattle.std.proofs.Common.{rules}
use Rattle.banks.proofs.Faulting.{examined_by}
use Rattle.differences.specs.Checks.{fault, fault_says}
use Rattle.differences.proofs.bank.DifferenceBank.check.Goals as goal

pub returns : goal.returns
returns c =
    examined_by fault_says (fault c.args.width) _ _ (λ x r says. search rules) c.args.width c.args.differences.now c.check_rules.result c.check_rules.ensures
