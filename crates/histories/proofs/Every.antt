-- The law of every history.
use Rattle.std.proofs.Common.{[], ◌∷◌, ◌++◌, sym, refl, subst, append_assoc}
use Rattle.histories.specs.States.{State, Fresh}
use Rattle.histories.specs.Moves.{Call, Outcome, Moves}
use Rattle.histories.specs.Histories.{History, Leads}
use Rattle.histories.specs.Laws.{Law, Lawfully, LeadsOn}
use Rattle.histories.proofs.Undoing.{undo_law}
use Rattle.histories.proofs.Settled.{settle_law}
use Rattle.histories.proofs.Planned.{plan_law}
use Rattle.histories.proofs.Recorded.{record_law}

pub every_history : (start : State) (h : History) (end : State) → Fresh start → Leads start h end → Law start h end
every_history start h end fresh leads = record {
  fresh = fresh;
  moves = leads;
  undo = undo_law start h end fresh leads;
  settles = settle_law start h end leads;
  plans = plan_law start h end fresh leads;
  record_kept = record_law start h end fresh leads;
}

-- so every call that moves the sheet as written out for it keeps the law
pub lawfully : {call : Call} {answer : Outcome} {s t : State} → Moves call answer s t → Lawfully call answer s t
lawfully {call} {answer} {s} {t} m = record {
  moves = m;
  law = λ start h fresh leads. every_history start (record { call = call; answer = answer; before = s; after = t } ∷ h) t fresh (leads, m, refl);
}

-- one call leads on
pub one_leads_on : {call : Call} {answer : Outcome} {s t : State} → Lawfully call answer s t → LeadsOn s t
one_leads_on {call} {answer} {s} {t} l start h fresh leads = (record { call = call; answer = answer; before = s; after = t } ∷ [], l.law start h fresh leads)

-- and so do calls after it
pub leads_on : {s t u : State} → LeadsOn s t → LeadsOn t u → LeadsOn s u
leads_on {s} {t} {u} f g start h fresh leads =
    let a = f start h fresh leads in
    let b = g start (a.0 ++ h) fresh a.1.moves in
    (b.0 ++ a.0, subst (λ l. Law start l u) (sym (append_assoc b.0 a.0 h)) b.1)
