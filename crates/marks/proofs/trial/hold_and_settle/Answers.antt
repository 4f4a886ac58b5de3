use Rattle.histories.proofs.Every.{one_leads_on, leads_on}
use Rattle.marks.proofs.trial.hold_and_settle.Goals as goal

pub returns-in_err-hold : goal.returns-in_err-hold
returns-in_err-hold g c = one_leads_on c.hold.ensures.lawful

pub returns-in-Settled : goal.returns-in-Settled
returns-in-Settled g c = leads_on (one_leads_on c.hold.ensures.lawful) (one_leads_on c.settle.ensures.lawful)

pub returns-in-Wiped : goal.returns-in-Wiped
returns-in-Wiped g c = leads_on (one_leads_on c.hold.ensures.lawful) (one_leads_on c.settle.ensures.lawful)

pub returns-in_err-struck : goal.returns-in_err-struck
returns-in_err-struck g c = leads_on (one_leads_on c.hold.ensures.lawful) (one_leads_on c.settle.ensures.lawful)
