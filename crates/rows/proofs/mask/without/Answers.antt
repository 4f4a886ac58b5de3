use Rattle.std.proofs.Common.{rules}
use Rattle.rows.proofs.Masks.{left_out}
use Rattle.rows.proofs.mask.without.Goals as goal

pub returns : goal.returns
returns c = left_out c.args.mask c.args.choice c.only.result (search rules) (search rules) c.only.ensures
