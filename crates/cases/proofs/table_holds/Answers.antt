use Rattle.cases.proofs.Tested.{cases_hold}
use Rattle.cases.proofs.table_holds.Goals as goal

pub returns : goal.returns
returns c = cases_hold
