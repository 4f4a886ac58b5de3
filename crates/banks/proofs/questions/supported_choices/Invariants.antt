use Rattle.banks.proofs.Narrowing.{Choosing}
use Rattle.banks.proofs.questions.supported_choices.Given as goal

abbrev pub invariant-loop-rule : goal.invariant-loop-rule
invariant-loop-rule g l = Choosing l.rows (g.B.Bank.rules l.bank) l.row l.rule l.passing
