use Rattle.std.proofs.Common.{arith, rules}
use lib.Count.{count_trailing_zeros}
use Rattle.rows.specs.Choices.{Without}
use Rattle.rows.proofs.Masks.{lowest_is, without_lt}
use Rattle.rows.proofs.walk.WalkIterator.next.Goals as goal
use Rattle.std.proofs.iter.Next.{firm}

pub returns : goal.returns
returns c =
    let rest = c.args.self.now.rest in
    let lowest = lowest_is 64 rest (omega arith) (search rules) in
    let out : Without (count_trailing_zeros 64 rest) rest c.without-self.result = rw c.from.ensures at c.without-self.ensures in
    record {
      steps = (lowest, out);
      goes = firm ((tt, tt, without_lt 64 rest (count_trailing_zeros 64 rest) c.without-self.result (search rules) (search rules) lowest.here out)) (λ h. search rules);
    }
