use Rattle.planner.proofs.Trying.{exists_from}
use Rattle.planner.proofs.plans.plan_exists.Goals as goal

pub returns : goal.returns
returns g c =
    exists_from (g.B.Bank.wide c.args.bank.now) (g.B.Bank.rules c.args.bank.now) c.args.rows.now c.args.memory.now c.goes_on.result c.requires c.goes_on.ensures.answer
