use Rattle.std.proofs.Common.{rules}
use Rattle.banks.proofs.Faulting.{examined_by}
use Rattle.tables.specs.Checks.{fault, fault_says}
use Rattle.tables.proofs.bank.TableBank.check.Goals as goal

pub returns : goal.returns
returns c = examined_by fault_says (fault c.args.width c.args.pool.now) _ _ (λ x r p. search rules) c.args.width c.args.tables.now c.check_rules.result c.check_rules.ensures
