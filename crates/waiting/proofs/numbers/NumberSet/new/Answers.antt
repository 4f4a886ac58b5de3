use Rattle.rows.proofs.Wording.{holds_none}
use Rattle.waiting.proofs.Marking.{none_marked}
use Rattle.waiting.proofs.numbers.NumberSet.new.Goals as goal

pub invariant_of-result : goal.invariant_of-result
invariant_of-result c = none_marked 8

pub returns : goal.returns
returns c = holds_none 8
