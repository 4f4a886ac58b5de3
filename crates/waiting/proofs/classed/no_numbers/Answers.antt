use Rattle.std.proofs.Common.{arith, rules}
use Rattle.waiting.proofs.Classing.{none_anywhere}
use Rattle.waiting.specs.Classes.{no_set}
use Rattle.waiting.proofs.classed.no_numbers.Goals as goal

pub returns : goal.returns
returns c =
    let made = c.from_fn.ensures.items in
    none_anywhere c.from_fn.result (λ place h. let call = made.at place no_set (omega (arith, made.long)) in search rules)
