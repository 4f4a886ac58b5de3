use Rattle.history_cases.proofs.Tested.{cases_hold}
use Rattle.history_cases.proofs.table_holds.Goals as goal

pub returns : goal.returns
returns c = cases_hold
