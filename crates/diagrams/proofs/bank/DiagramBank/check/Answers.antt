use Rattle.std.proofs.Common.{rules}
use Rattle.banks.proofs.Faulting.{examined_by}
use Rattle.diagrams.specs.Checks.{fault, fault_says}
use Rattle.diagrams.proofs.bank.DiagramBank.check.Goals as goal

pub returns : goal.returns
returns c =
    let checked = examined_by fault_says (fault c.args.width c.args.places.now c.args.arcs.now) _ _ (λ x r p. search rules) c.args.width c.args.diagrams.now c.check_rules.result c.check_rules.ensures in
    search rules
