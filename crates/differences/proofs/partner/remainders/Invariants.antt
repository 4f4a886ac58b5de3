use Rattle.differences.proofs.Gathering.{Gathering}
use Rattle.differences.proofs.partner.remainders.Given as goal

abbrev pub invariant-loop-choice : goal.invariant-loop-choice
invariant-loop-choice l = Gathering l.mask l.modulus l.choice-iterator.rest l.left
