use Rattle.std.proofs.Common.{◌≡◌, ◌-◌, [], length, refl, arith, rules}
use Rattle.rows.specs.Refusals.{plain}
use Rattle.rows.proofs.Refusing.{first_past, le_fits_not}
use Rattle.waiting.specs.Classes.{class_of}
use Rattle.waiting.proofs.Classing.{class_at, own_more, waits_more}
use Rattle.waiting.proofs.classed.ClassedWaitingList.put.Goals as goal

pub overflow_sub-place : goal.overflow_sub-place
overflow_sub-place c = let l = c.args.self.now in (class_at l.classes.now c.args.number l.fine c.if-number-self.false).0

pub listed : goal.listed
listed c =
    let l = c.args.self.now in
    omega (arith, c.type_inv.sets, class_at l.classes.now c.args.number l.fine c.if-number-self.false)

pub bounds-sets-place : goal.bounds-sets-place
bounds-sets-place c =
    let l = c.args.self.now in
    omega (arith, class_at l.classes.now c.args.number l.fine c.if-number-self.false)

pub invariant_of-self : goal.invariant_of-self
invariant_of-self c =
    let l = c.args.self.now in
    let cs = l.classes.now in
    let n = c.args.number in
    let class = class_at cs n l.fine c.if-number-self.false in
    let long : length l.sets ≡ 7 = search rules in
    record {
      size = l.size;
      fine = l.fine;
      own = own_more cs l.sets (class_of cs n - 1) c.put.new.self c.index-sets-place.result (omega arith) n (omega arith) c.put.ensures l.own;
    }

pub returns-clause-numbers : goal.returns-clause-numbers
returns-clause-numbers c =
    let l = c.args.self.now in
    let cs = l.classes.now in
    let n = c.args.number in
    let class = class_at cs n l.fine c.if-number-self.false in
    let long : length l.sets ≡ 7 = search rules in
    let more = waits_more cs l.sets (class_of cs n - 1) c.put.new.self c.index-sets-place.result (omega arith) n (omega arith) c.put.ensures in
    (refl, (first_past _ [] (le_fits_not (length cs) n (plain 21) c.if-number-self.false), more))
