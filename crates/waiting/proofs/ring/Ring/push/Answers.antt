use Rattle.std.proofs.Common.{◌<◌, ◌++◌, ◌∷◌, [], length, ap, ◌∙◌, arith}
use Rattle.waiting.proofs.Ringing.{length_in_turn, pushed_in_turn}
use Rattle.waiting.proofs.ring.Ring.push.Goals as goal

pub overflow_add-last : goal.overflow_add-last
overflow_add-last c = let r = c.self.inside in omega (arith, c.self.invariant, ap length c.self.view_is, length_in_turn r.slots r.first r.len)

pub overflow_add-self : goal.overflow_add-self
overflow_add-self c = let r = c.self.inside in omega (arith, ap length c.self.view_is, length_in_turn r.slots r.first r.len)

pub returns : goal.returns
returns c =
    let r = c.self.inside in
    let room : r.len < 512 = omega (arith, ap length c.self.view_is, length_in_turn r.slots r.first r.len) in
    pushed_in_turn r.slots r.first r.len c.args.number c.self.told room ∙ ap (λ q. q ++ c.args.number ∷ []) c.self.view_is
