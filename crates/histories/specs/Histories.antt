-- Histories: any list of calls, accepted or refused, on one sheet.
use Rattle.std.specs.Prelude.{◌≡◌, ℕ, Bool, true, false, ◌&&◌, ◌||◌, List, [], ◌∷◌, ◌++◌, nat_lt}
use Rattle.histories.specs.States.{State}
use Rattle.histories.specs.Moves.{Call, strike, hold, mark, back, keep, settle, Outcome, refused, done, gave, settled, wiped, Moves}

-- A call that was made, with its answer and the states that it met and left.
pub record Event : Type 0 where
  pub call : Call
  pub answer : Outcome
  pub before : State
  pub after : State

-- A history, the latest call first.
abbrev pub History : Type 0
History = List Event

-- A history leads from one state to another: each call moves the sheet from the state that the one before it left.
abbrev pub Leads : State → History → State → Type 0
Leads start [] end = end ≡ start
Leads start (e ∷ earlier) end = Leads start earlier e.before × Moves e.call e.answer e.before e.after × (end ≡ e.after)

-- The call e was made in a history, and those calls came later.
pub record Made (h later : History) (e : Event) : Type 0 where
  pub earlier : History
  pub split : h ≡ later ++ e ∷ earlier

-- The call was not refused.
abbrev pub accepted : Outcome → Bool
accepted (refused f) = false
accepted done = true
accepted (gave k) = true
accepted (settled n) = true
accepted (wiped k) = true

-- The call was a back by a mark of a serial below g.
abbrev pub back_below : ℕ → Call → Bool
back_below g (strike r v) = false
back_below g (hold r v) = false
back_below g mark = false
back_below g (back k) = nat_lt k g
back_below g (keep k) = false
back_below g (settle w Rs n) = false

-- A call that met a sheet with g marks given is gone back over: a later accepted back used a mark whose serial was given before that call.
abbrev pub gone_back : History → ℕ → Bool
gone_back [] g = false
gone_back (b ∷ later) g = (accepted b.answer && back_below g b.call) || gone_back later g

-- The call e, after which those calls came, is gone back over.
abbrev pub GoneBackOver : History → Event → Type 0
GoneBackOver later e = gone_back later e.before.given ≡ true
