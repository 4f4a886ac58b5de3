use Rattle.std.proofs.Common.{◌%◌, arith}
use Rattle.std.proofs.lemmas.Grind.{common_steps}
use Rattle.rows.proofs.Masks.{not_zero}
use Rattle.waiting.proofs.numbers.NumberSet.put.Goals as goal

pub invariant_of-self : goal.invariant_of-self
invariant_of-self c w =
    let marked = c.self.invariant w in
    grind (arith, common_steps, not_zero c.with-more.result (c.args.number % 64), c.with-more.ensures (c.args.number % 64), c.with-self-inside.ensures w)
