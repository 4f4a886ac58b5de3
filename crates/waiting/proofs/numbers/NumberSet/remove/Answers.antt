use Rattle.std.proofs.Common.{◌/◌, ◌%◌, get_or, arith, rules}
use Rattle.std.proofs.lemmas.Grind.{common_steps}
use Rattle.waiting.proofs.Marking.{less_some}
use Rattle.waiting.proofs.numbers.NumberSet.remove.Goals as goal

pub invariant_of-self-else-rest-eq0 : goal.invariant_of-self-else-rest-eq0
invariant_of-self-else-rest-eq0 c w =
    let s = c.self.inside in
    let some = less_some (get_or s.words (c.args.number / 64) 0) (c.args.number % 64) c.without-rest.result (search rules) c.without-rest.type_inv c.without-rest.ensures c.if-rest-eq0.false in
    let marked = c.self.invariant w in
    grind (arith, common_steps)
