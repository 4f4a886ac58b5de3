use Rattle.banks.specs.Calls.{rule_at}
use Rattle.banks.proofs.Narrowing.{Narrowing}
use Rattle.banks.proofs.questions.narrowed.Given as goal

abbrev pub invariant-loop-place : goal.invariant-loop-place
invariant-loop-place g l = Narrowing l.rows (rule_at (g.B.Bank.rules l.bank) l.rule) l.row l.mask l.place l.passing
