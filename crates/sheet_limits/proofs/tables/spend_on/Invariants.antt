use Rattle.std.proofs.Common.{vec_len}
use Rattle.sheet_limits.proofs.tables.spend_on.Given as goal

abbrev pub decreases-loop-mark : goal.decreases-loop-mark
decreases-loop-mark l = vec_len l.hand
