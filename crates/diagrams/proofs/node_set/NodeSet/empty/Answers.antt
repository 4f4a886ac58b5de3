use Rattle.rows.proofs.Wording.{holds_none}
use Rattle.diagrams.proofs.node_set.NodeSet.empty.Goals as goal

pub returns : goal.returns
returns c = holds_none 64
