use Rattle.std.proofs.Common.{nat_abs, w64, SFits, rules}
use Rattle.std.proofs.lemmas.Int.{to_z-of_z}
use Rattle.differences.proofs.Finding.{at_least_any, at_least_none, at_least_shifted, above_zero}
use Rattle.differences.proofs.partner.has_at_least.Goals as goal

pub returns-then-sum-le0 : goal.returns-then-sum-le0
returns-then-sum-le0 c =
    let f : SFits w64 c.args.sum = c.ranges.sum in
    at_least_any 64 c.args.mask c.args.sum (search rules) (simp to_z-of_z at c.if-sum-le0.true)

pub returns-then-sum-ge64 : goal.returns-then-sum-ge64
returns-then-sum-ge64 c =
    let f : SFits w64 c.args.sum = c.ranges.sum in
    at_least_none 64 c.args.mask c.args.sum (search rules) (simp to_z-of_z at c.if-sum-ge64.true)

pub returns : goal.returns
returns c =
    let f : SFits w64 c.args.sum = c.ranges.sum in
    simp to_z-of_z (at_least_shifted 64 c.args.mask c.args.sum (search rules) (nat_abs c.args.sum) (above_zero c.args.sum (simp to_z-of_z at c.if-sum-le0.false)))
