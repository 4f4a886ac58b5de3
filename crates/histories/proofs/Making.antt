-- A call of a history: what led to it, how it moved the sheet, and that it struck or changed nothing.
use Rattle.std.proofs.Common.{◌⊎◌, [], ◌∷◌, ◌++◌, subst}
use Rattle.histories.specs.States.{State, Fresh}
use Rattle.histories.specs.Moves.{Moves}
use Rattle.histories.specs.Histories.{Event, History, Leads, Made}
use Rattle.histories.proofs.Effects.{Narrows, Cause, effect}
use Rattle.histories.proofs.Chains.{Quiet}
use Rattle.histories.proofs.Reaching.{reached, strikes_or_not}

leads_to : (start : State) (later : History) (e : Event) (earlier : History) (end : State) → Leads start (later ++ e ∷ earlier) end
    → Leads start earlier e.before × Moves e.call e.answer e.before e.after
leads_to start [] e earlier end l = (l.0, l.1)
leads_to start (b ∷ later) e earlier end l = leads_to start later e earlier b.before l.0

module _ (start : State) (h : History) (end : State) (leads : Leads start h end) (later : History) (e : Event) (made : Made h later e) where
  led : Leads start made.earlier e.before × Moves e.call e.answer e.before e.after
  led = leads_to start later e made.earlier end (subst (λ l. Leads start l end) made.split leads)

  pub moved : Moves e.call e.answer e.before e.after
  moved = led.1

  pub struck_or_not : Fresh start → (Cause e.call e.answer e.before e.after × Narrows e.before e.after) ⊎ Quiet e.before e.after
  struck_or_not fresh = strikes_or_not start made.earlier e (reached start made.earlier e.before fresh led.0) (effect moved)
