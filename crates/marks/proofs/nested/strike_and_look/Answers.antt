use Rattle.histories.proofs.Every.{one_leads_on, leads_on}
use Rattle.marks.proofs.nested.strike_and_look.Goals as goal

pub returns-in_err-outer : goal.returns-in_err-outer
returns-in_err-outer c = one_leads_on c.mark.ensures.lawful

pub returns-in_err-back-in-Err : goal.returns-in_err-back-in-Err
returns-in_err-back-in-Err c =
    let struck = leads_on (one_leads_on c.mark.ensures.lawful) (one_leads_on c.strike-struck.ensures.lawful) in
    leads_on (leads_on struck (one_leads_on c.mark-2.ensures.lawful)) (one_leads_on c.back.ensures.lawful)

pub returns-in-Err : goal.returns-in-Err
returns-in-Err c =
    let struck = leads_on (one_leads_on c.mark.ensures.lawful) (one_leads_on c.strike-struck.ensures.lawful) in
    leads_on (leads_on struck (one_leads_on c.mark-2.ensures.lawful)) (one_leads_on c.back.ensures.lawful)

pub returns-in_err-and : goal.returns-in_err-and
returns-in_err-and c =
    let struck = leads_on (one_leads_on c.mark.ensures.lawful) (one_leads_on c.strike-struck.ensures.lawful) in
    let looked = leads_on (leads_on struck (one_leads_on c.mark-2.ensures.lawful)) (one_leads_on c.strike-looked.ensures.lawful) in
    leads_on (leads_on looked (one_leads_on c.back-went_back.ensures.lawful)) (one_leads_on c.keep-kept.ensures.lawful)

pub returns : goal.returns
returns c =
    let struck = leads_on (one_leads_on c.mark.ensures.lawful) (one_leads_on c.strike-struck.ensures.lawful) in
    let looked = leads_on (leads_on struck (one_leads_on c.mark-2.ensures.lawful)) (one_leads_on c.strike-looked.ensures.lawful) in
    leads_on (leads_on looked (one_leads_on c.back-went_back.ensures.lawful)) (one_leads_on c.keep-kept.ensures.lawful)
