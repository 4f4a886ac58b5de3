use Rattle.histories.proofs.Every.{one_leads_on, leads_on}
use Rattle.marks.proofs.trial.place.Goals as goal

pub returns-in_err-mark : goal.returns-in_err-mark
returns-in_err-mark g c = one_leads_on c.mark.ensures.lawful

pub returns-in_err-keep-in-Ok : goal.returns-in_err-keep-in-Ok
returns-in_err-keep-in-Ok g c =
    leads_on (leads_on (one_leads_on c.mark.ensures.lawful) c.hold_and_settle.ensures) (one_leads_on c.keep.ensures.lawful)

pub returns-in_ok-keep-in-Ok : goal.returns-in_ok-keep-in-Ok
returns-in_ok-keep-in-Ok g c =
    leads_on (leads_on (one_leads_on c.mark.ensures.lawful) c.hold_and_settle.ensures) (one_leads_on c.keep.ensures.lawful)

pub returns-in_err-back-in-Err : goal.returns-in_err-back-in-Err
returns-in_err-back-in-Err g c =
    leads_on (leads_on (one_leads_on c.mark.ensures.lawful) c.hold_and_settle.ensures) (one_leads_on c.back.ensures.lawful)

pub returns-in_ok-back-in-Err : goal.returns-in_ok-back-in-Err
returns-in_ok-back-in-Err g c =
    leads_on (leads_on (one_leads_on c.mark.ensures.lawful) c.hold_and_settle.ensures) (one_leads_on c.back.ensures.lawful)
