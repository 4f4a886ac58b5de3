use Rattle.std.proofs.Common.{ap, ◌∙◌}
use Rattle.std.specs.Option.{ok_or}
use Rattle.banks.specs.declared.refusal.CallError.TheVariants.{NoSuchRule}
use Rattle.differences.proofs.Banking.{found_at}
use Rattle.differences.proofs.bank.DifferenceBank.find.Goals as goal

pub returns : goal.returns
returns c =
    let b = c.args.self.now in
    let is = c.ok_or.ensures.value ∙ ap (λ o. ok_or o NoSuchRule) c.copied.ensures in
    rw is (found_at b.width b.differences.now b.sound c.args.rule c.get.result c.get.ensures.lookup.0 c.get.ensures.lookup.1)
