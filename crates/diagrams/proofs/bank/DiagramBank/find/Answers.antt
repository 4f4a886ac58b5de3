use Rattle.std.proofs.Common.{◌≡◌, arith}
use Rattle.std.proofs.lemmas.Grind.{common_steps}
use Rattle.std.proofs.lemmas.Option.{gets}
use Rattle.std.specs.List.{slice_get}
use Rattle.diagrams.proofs.Banking.{found}
use Rattle.diagrams.proofs.bank.DiagramBank.find.Goals as goal

pub returns : goal.returns
returns c =
    let b = c.args.self.now in
    let e : c.copied.result ≡ slice_get b.diagrams.now c.args.rule = grind (arith, common_steps, gets, c.get.ensures.lookup, c.copied.ensures) in
    rw c.ok_or.ensures.value (found b.width b.places.now b.arcs.now b.diagrams.now b.sound c.args.rule c.copied.result e)
