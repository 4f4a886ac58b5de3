use Rattle.std.proofs.Common.{◌≡◌, ◌<◌, length, sym, ap, ◌∙◌, arith, rules}
use Rattle.waiting.specs.Turns.{among, apart, below}
use Rattle.waiting.proofs.Measuring.{capacity_le}
use Rattle.waiting.proofs.Queuing.{room_left, apart_push, below_push, one_known}
use Rattle.waiting.proofs.oldest.OldestFirstWaitingList.put.Goals as goal

pub push-requires : goal.push-requires
push-requires c =
    let l = c.args.self.now in
    let new = sym (l.known c.args.number) ∙ c.if-not-self-number.true in
    omega (arith, room_left l.capacity l.ring c.args.number l.once l.within new c.if-number-self.false, capacity_le l.capacity l.size)

pub invariant_of-self : goal.invariant_of-self
invariant_of-self c =
    let l = c.args.self.now in
    let v = c.args.number in
    let e = c.push.ensures in
    let new = sym (l.known v) ∙ c.if-not-self-number.true in
    let inside : v < length l.waiting =
    let long : length l.waiting ≡ 512 = search rules in omega (arith, capacity_le l.capacity l.size)
    in
    record {
      size = l.size;
      once = ap apart e ∙ apart_push l.ring v l.once new;
      within = ap (below l.capacity) e ∙ below_push l.capacity l.ring v l.within c.if-number-self.false;
      known = λ k. one_known l.waiting l.ring v inside l.known k ∙ sym (ap (λ q. among q k) e);
    }
