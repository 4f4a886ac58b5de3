use Rattle.std.proofs.Common.{◌≡◌, ◌-◌, length, refl, arith, rules}
use Rattle.waiting.specs.Classes.{class_of}
use Rattle.waiting.proofs.Classing.{next_number, next_class, own_less, waits_less}
use Rattle.waiting.proofs.classed.ClassedWaitingList.take.Goals as goal

pub listed : goal.listed
listed c =
    let l = c.args.self.now in
    omega (arith, c.type_inv.sets, next_class l.classes.now l.sets l.own c.in_ok-number.number c.in_ok-number.ensures l.fine)

pub bounds-sets-place : goal.bounds-sets-place
bounds-sets-place c = let l = c.args.self.now in omega (arith, next_class l.classes.now l.sets l.own c.in_ok-number.number c.in_ok-number.ensures l.fine)

pub invariant_of-self : goal.invariant_of-self
invariant_of-self c =
    let l = c.args.self.now in
    let cs = l.classes.now in
    let n = c.in_ok-number.number in
    let class = next_class cs l.sets l.own n c.in_ok-number.ensures l.fine in
    let long : length l.sets ≡ 7 = search rules in
    record {
      size = l.size;
      fine = l.fine;
      own = own_less cs l.sets (class_of cs n - 1) c.remove.new.self c.index-sets-place.result (omega arith) n class.1 c.remove.ensures l.own;
    }

pub returns-clause-next : goal.returns-clause-next
returns-clause-next c =
    let l = c.args.self.now in
    let cs = l.classes.now in
    let n = c.in_ok-number.number in
    let class = next_class cs l.sets l.own n c.in_ok-number.ensures l.fine in
    let long : length l.sets ≡ 7 = search rules in
    let less = waits_less cs l.sets (class_of cs n - 1) c.remove.new.self c.index-sets-place.result (omega arith) n class.1 c.remove.ensures in
    (next_number cs l.sets l.own n c.in_ok-number.ensures, less)

pub returns-clause-numbers : goal.returns-clause-numbers
returns-clause-numbers c =
    let l = c.args.self.now in
    let cs = l.classes.now in
    let n = c.in_ok-number.number in
    let class = next_class cs l.sets l.own n c.in_ok-number.ensures l.fine in
    let long : length l.sets ≡ 7 = search rules in
    let less = waits_less cs l.sets (class_of cs n - 1) c.remove.new.self c.index-sets-place.result (omega arith) n class.1 c.remove.ensures in
    (refl, ((next_number cs l.sets l.own n c.in_ok-number.ensures).waits, less))
