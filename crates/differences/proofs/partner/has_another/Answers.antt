use Rattle.std.proofs.Common.{nat_abs, w64, SFits, rules}
use Rattle.std.specs.Int.{FitsUnsignedBits}
use Rattle.std.specs.Result.{OkIff}
use Rattle.std.proofs.lemmas.Int.{to_z-of_z}
use Rattle.differences.proofs.Finding.{another_tried}
use Rattle.differences.proofs.partner.has_another.Goals as goal

pub returns : goal.returns
returns c =
    let f : SFits w64 c.args.sum = c.ranges.sum in
    let tried : OkIff c.try_from.result (FitsUnsignedBits 64 c.args.sum) (nat_abs c.args.sum) = simp to_z-of_z at c.try_from.ensures in
    another_tried 64 c.args.mask c.args.sum (search rules) _ c.try_from.result c.map_or.result f.sfits tried c.map_or.ensures (search rules) (λ k p. search rules)
