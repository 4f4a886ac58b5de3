use Rattle.std.proofs.Common.{sym, ap, ◌∙◌, arith}
use Rattle.waiting.specs.Rings.{in_turn}
use Rattle.waiting.proofs.Ringing.{none_in_turn, popped_in_turn}
use Rattle.waiting.proofs.ring.Ring.pop.Goals as goal

pub returns-then-self-eq0 : goal.returns-then-self-eq0
returns-then-self-eq0 c =
    let r = c.self.inside in
    let none = sym c.self.view_is ∙ ap (in_turn r.slots r.first) c.if-self-eq0.true ∙ none_in_turn r.slots r.first in
    (none, none)

pub returns : goal.returns
returns c =
    let r = c.self.inside in
    sym c.self.view_is ∙ popped_in_turn r.slots r.first r.len c.self.invariant (omega arith)
