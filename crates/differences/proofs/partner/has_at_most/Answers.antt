use Rattle.std.proofs.Common.{ℕ, w64, SFits, subst, rules}
use Rattle.rows.specs.Choices.{Walks}
use Rattle.differences.proofs.Finding.{at_most_first}
use Rattle.differences.proofs.partner.has_at_most.Goals as goal

pub returns : goal.returns
returns c =
    let f : SFits w64 c.args.sum = c.ranges.sum in
    let steps : Walks c.args.mask c.next.result c.next.new.self.rest = subst (λ (m : ℕ). Walks m c.next.result c.next.new.self.rest) c.over.ensures c.next.ensures.steps in
    at_most_first _ c.args.mask c.args.sum c.next.result c.next.new.self.rest c.is_some_and.result steps c.is_some_and.ensures (λ v p. search rules)
