use Rattle.std.proofs.Common.{sym, ap, ◌∙◌}
use Rattle.waiting.specs.Turns.{among}
use Rattle.waiting.proofs.Queuing.{none_known}
use Rattle.waiting.proofs.oldest.OldestFirst.make.Goals as goal

pub invariant_of-result-clause-known : goal.invariant_of-result-clause-known
invariant_of-result-clause-known c = λ k. none_known 512 k ∙ sym (ap (λ q. among q k) c.new.ensures)
