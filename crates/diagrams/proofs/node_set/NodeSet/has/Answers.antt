use Rattle.std.proofs.Common.{◌/◌, ◌%◌, ◌^◌, eqb, get_or, ap}
use lib.Bits.{and_mask}
use Rattle.rows.specs.Choices.{stands}
use Rattle.diagrams.proofs.node_set.NodeSet.has.Goals as goal

pub returns : goal.returns
unfolding stands
returns c = ap (λ n. eqb n 1) (and_mask (get_or c.args.self.now.words (c.args.node / 64) 0 / 2 ^ (c.args.node % 64)) 1)
