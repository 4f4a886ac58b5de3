use Rattle.std.proofs.Common.{sym, rules}
use Rattle.rows.proofs.Masks.{members_ones}
use Rattle.rows.proofs.mask.count.Goals as goal

pub returns : goal.returns
returns c = sym (members_ones c.args.mask (search rules))
