use Rattle.std.proofs.Common.{◌-◌, refl}
use Rattle.waiting.proofs.Classing.{none_own}
use Rattle.waiting.specs.Classes.{class_of}
use Rattle.waiting.proofs.classed.ClassedWaitingList.clear.Goals as goal

pub invariant_of-self : goal.invariant_of-self
invariant_of-self c =
    let l = c.args.self.now in
    record { size = l.size; fine = l.fine; own = none_own l.classes.now c.no_numbers-self.result c.no_numbers-self.ensures }

pub returns-clause-numbers : goal.returns-clause-numbers
returns-clause-numbers c = (refl, (λ k. c.no_numbers-self.ensures (class_of c.args.self.now.classes.now k - 1) k))
