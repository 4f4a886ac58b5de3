-- The law of every history.
use Rattle.std.specs.Prelude.{◌≡◌, ℕ, ◌+◌, ◌<◌, Bool, true, false, cond, ◌&&◌, List, [], ◌∷◌, ◌++◌, length, drop, Decides, nat_lt, slice_index}
use Rattle.std.specs.List.{AllByRecursion}
use Rattle.rows.specs.Choices.{stands}
use Rattle.banks.specs.Names.{apart}
use Rattle.banks.specs.Rules.{Sheet, Rule, row, Plan, PlanStands, Meets}
use Rattle.trail.specs.Strokes.{Struck, standing}
use Rattle.settling.specs.Settling.{Candidate, Largest, WipedOut, EachOnce}
use Rattle.histories.specs.States.{State, Fresh}
use Rattle.histories.specs.Moves.{Call, strike, hold, mark, back, keep, settle, Outcome, refused, done, gave, settled, wiped, Moves}
use Rattle.histories.specs.Histories.{Event, History, Leads, Made, accepted, gone_back, GoneBackOver}

-- A call struck a choice of a row.
abbrev pub StruckBy : Event → ℕ → ℕ → Type 0
StruckBy e r v = Struck e.before.rows e.after.rows r v

-- Undo law: a choice stands exactly when it stood at the start and every call that struck it has been gone back over.
abbrev pub UndoLaw : State → History → State → Type 0
UndoLaw start h end =
    (r v : ℕ) → Decides (stands (row end.rows r) v)
    ((stands (row start.rows r) v ≡ true) × ((later : History) (e : Event) → Made h later e → StruckBy e r v → GoneBackOver later e))

-- The call answered settled.
abbrev pub is_settled : Outcome → Bool
is_settled (refused f) = false
is_settled done = false
is_settled (gave k) = false
is_settled (settled n) = true
is_settled (wiped k) = false

-- What an accepted settle left and told: the largest supported sheet under the one it met, with the number of choices struck; or the sheet
-- as it was, with a rule that unsupported strikes leave without a live tuple.
abbrev pub SettleTells : List Rule → Outcome → State → State → Type 0
SettleTells Rs (refused f) s t = ⊥
SettleTells Rs done s t = ⊥
SettleTells Rs (gave k) s t = ⊥
SettleTells Rs (settled n) s t = Largest Rs s.rows t.rows × (n + standing t.rows ≡ standing s.rows)
SettleTells Rs (wiped k) s t = WipedOut Rs s.rows k × (t ≡ s)

-- Settle law: each settle that was not refused answered settled exactly when some supported sheet lay under the one it met, and told so.
abbrev pub SettleLaw : History → Type 0
SettleLaw h =
    (later : History) (e : Event) → Made h later e → (w n : ℕ) (Rs : List Rule) → e.call ≡ settle w Rs n → accepted e.answer ≡ true
    → Decides (is_settled e.answer) ((c : Sheet) × Candidate Rs e.before.rows c) × SettleTells Rs e.answer e.before e.after

-- The call was a strike or a hold.
abbrev pub by_hand : Call → Bool
by_hand (strike r v) = true
by_hand (hold r v) = true
by_hand mark = false
by_hand (back k) = false
by_hand (keep k) = false
by_hand (settle w Rs n) = false

-- A call struck a choice of a plan.
abbrev pub StruckOf : Plan → Event → Type 0
StruckOf plan e = (r : ℕ) × ((r < length plan) × StruckBy e r (slice_index plan r))

-- A plan meets every rule of each settle that answered settled and is not gone back over.
abbrev pub MeetsSettled : Plan → History → Type 0
MeetsSettled plan h =
    (later : History) (e : Event) → Made h later e → (w n c : ℕ) (Rs : List Rule) → e.call ≡ settle w Rs n → e.answer ≡ settled c → (GoneBackOver later e → ⊥)
    → AllByRecursion (Meets plan) Rs

-- Plan law: a plan that stood at the start, and meets the rules so, still stands exactly when every strike or hold that struck a choice of it
-- has been gone back over.
abbrev pub PlanLaw : State → History → State → Type 0
PlanLaw start h end =
    (plan : Plan) → PlanStands start.rows plan → MeetsSettled plan h
    → let Undone = (later : History) (e : Event) → Made h later e → by_hand e.call ≡ true → StruckOf plan e → GoneBackOver later e in
    (PlanStands end.rows plan → Undone) × (Undone → PlanStands end.rows plan)

-- What a call added at the end of the record.
abbrev pub added : Event → List ℕ
added e = drop (length e.before.strokes) e.after.strokes

-- What the calls of a history that are not gone back over added, oldest first; `later` are the calls that came after the history.
abbrev pub recorded : History → History → List ℕ
recorded later [] = []
recorded later (e ∷ earlier) = recorded (later ++ e ∷ []) earlier ++ cond (gone_back later e.before.given) [] (added e)

-- Strictly rising.
abbrev pub rising : List ℕ → Bool
rising [] = true
rising (x ∷ []) = true
rising (x ∷ y ∷ xs) = nat_lt x y && rising (y ∷ xs)

-- Record: it holds exactly the struck choices that are not gone back over, each once, oldest first, a hold's rising.
pub record RecordLaw (h : History) (end : State) : Type 0 where
  pub whole : end.strokes ≡ recorded [] h
  pub each : (later : History) (e : Event) → Made h later e → EachOnce e.before.rows e.after.rows (added e)
  pub once : apart end.strokes ≡ true
  pub held : (later : History) (e : Event) → Made h later e → by_hand e.call ≡ true → rising (added e) ≡ true

-- The law of a history that begins with a sheet just made: each call moved the sheet as written out for it, and all of the above.
pub record Law (start : State) (h : History) (end : State) : Type 0 where
  pub fresh : Fresh start
  pub moves : Leads start h end
  pub undo : UndoLaw start h end
  pub settles : SettleLaw h
  pub plans : PlanLaw start h end
  pub record_kept : RecordLaw h end

-- What every call owes: it moves the sheet from one state to another as written out for it, and every history that leads to the first,
-- with this call added, has the law.
pub record Lawfully (call : Call) (answer : Outcome) (s t : State) : Type 0 where
  pub moves : Moves call answer s t
  pub law : (start : State) (h : History) → Fresh start → Leads start h s → Law start (record { call = call; answer = answer; before = s; after = t } ∷ h) t

-- What calls owe that are made one after another: every history that leads to the state before the first of them goes on to the state after
-- the last, and has the law.
abbrev pub LeadsOn : State → State → Type 0
LeadsOn s t = (start : State) (h : History) → Fresh start → Leads start h s → (later : History) × Law start (later ++ h) t
