-- How each call moves a sheet from one state to another, and what it answers.
use Rattle.std.specs.Prelude.{◌≡◌, ℕ, suc, not, ◌&&◌, List, [], ◌∷◌, ◌++◌, map, length, take, Some, None, filter, Option, ◌==◌, nat_le, nat_lt}
use Rattle.rows.specs.Choices.{choices, stands, members, Only, Without}
use Rattle.rows.specs.Refusals.{Refusal, plain, fits, first}
use Rattle.banks.specs.Rules.{Sheet, Rule, row}
use Rattle.trail.specs.Strokes.{stroke, Elsewhere}
use Rattle.trail.specs.Trails.{no_such_row}
use Rattle.settling.specs.Propagation.{no_settle, Narrowed}
use Rattle.settling.specs.Settling.{WipedOut}
use Rattle.histories.specs.States.{Opened, State, is_open}

-- The calls. A mark is known by its serial alone, a rule bank by its width and its rules, a waiting list by its capacity.
pub data Call : Type 0 where
  strike : (r v : ℕ) → Call
  hold : (r v : ℕ) → Call
  mark : Call
  back : (serial : ℕ) → Call
  keep : (serial : ℕ) → Call
  settle : (width : ℕ) (rules : List Rule) (capacity : ℕ) → Call

-- What a call answers: that it refuses and why; that it is done; the serial of the mark that it gives; that the sheet is settled, with the
-- number of choices struck; that it is wiped out, with the number of a rule.
pub data Outcome : Type 0 where
  refused : Refusal → Outcome
  done : Outcome
  gave : (serial : ℕ) → Outcome
  settled : (count : ℕ) → Outcome
  wiped : (rule : ℕ) → Outcome

-- The most marks that a sheet gives.
abbrev pub max_marks : ℕ
max_marks = 1000000

-- 5: the choice does not stand in the row; no number from 64 on is a choice.
abbrev pub not_standing : Sheet → ℕ → ℕ → Option Refusal
not_standing s r v = fits (not (nat_lt v choices && stands (row s r) v)) (plain 5)

-- 6: no other choice stands in the row.
abbrev pub last_choice : Sheet → ℕ → Option Refusal
last_choice s r = fits (length (members (row s r)) == 1) (plain 6)

-- 9: no mark of this serial is open.
abbrev pub not_open : List Opened → ℕ → Option Refusal
not_open ms k = fits (not (is_open k ms)) (plain 9)

-- The first refusal that fits a call. 7: as many marks are open as can be; 8: 1,000,000 marks were given.
abbrev pub why : Call → State → Option Refusal
why (strike r v) s = first (no_such_row s.rows r ∷ not_standing s.rows r v ∷ last_choice s.rows r ∷ [])
why (hold r v) s = first (no_such_row s.rows r ∷ not_standing s.rows r v ∷ [])
why mark s = first (fits (nat_le s.room (length s.opened)) (plain 7) ∷ fits (nat_le max_marks s.given) (plain 8) ∷ [])
why (back k) s = first (not_open s.opened k ∷ [])
why (keep k) s = first (not_open s.opened k ∷ [])
why (settle w Rs n) s = no_settle w Rs n s.rows

-- The open marks, their number given and their room are as they were.
pub record SameMarks (s t : State) : Type 0 where
  pub opened : t.opened ≡ s.opened
  pub given : t.given ≡ s.given
  pub room : t.room ≡ s.room

-- The choice v is struck from the row r, and recorded.
pub record Strikes (r v : ℕ) (s t : State) : Type 0 where
  pub here : Without v (row s.rows r) (row t.rows r)
  pub elsewhere : Elsewhere r s.rows t.rows
  pub strokes : t.strokes ≡ s.strokes ++ stroke r v ∷ []
  pub marks : SameMarks s t

-- Every choice but v is struck from the row r, and recorded in rising order.
pub record Holds (r v : ℕ) (s t : State) : Type 0 where
  pub here : Only v (row t.rows r)
  pub elsewhere : Elsewhere r s.rows t.rows
  pub strokes : t.strokes ≡ s.strokes ++ map (stroke r) (filter (λ w. not (w == v)) (members (row s.rows r)))
  pub marks : SameMarks s t

-- A mark is given whose serial is the number of marks given before. It stores the rows as they are.
pub record GivesMark (k : ℕ) (s t : State) : Type 0 where
  pub serial : k ≡ s.given
  pub rows : t.rows ≡ s.rows
  pub opened : t.opened ≡ s.opened ++ record { serial = k; rows = s.rows; height = length s.strokes } ∷ []
  pub given : t.given ≡ suc s.given
  pub room : t.room ≡ s.room
  pub strokes : t.strokes ≡ s.strokes

-- The open mark m of serial k is closed, and all marks given later.
pub record Closes (k : ℕ) (m : Opened) (s t : State) : Type 0 where
  pub later : List Opened
  pub serial : m.serial ≡ k
  pub opened : s.opened ≡ t.opened ++ m ∷ later
  pub given : t.given ≡ s.given
  pub room : t.room ≡ s.room

-- The rows become those stored with the mark, and the record what it was then.
pub record GoesBack (k : ℕ) (s t : State) : Type 0 where
  pub to : Opened
  pub closes : Closes k to s t
  pub rows : t.rows ≡ to.rows
  pub strokes : t.strokes ≡ take to.height s.strokes

-- The same marks are closed, and the rows stay.
pub record KeepsRows (k : ℕ) (s t : State) : Type 0 where
  pub to : Opened
  pub closes : Closes k to s t
  pub rows : t.rows ≡ s.rows
  pub strokes : t.strokes ≡ s.strokes

-- The rows become the largest supported sheet under them, n is the number of choices struck, and the record is followed by each of them.
pub record Settles (Rs : List Rule) (n : ℕ) (s t : State) : Type 0 where
  pub narrowed : Narrowed Rs n s.rows t.rows s.strokes t.strokes
  pub marks : SameMarks s t

-- How an accepted call moves the sheet, and what it answers.
pub data Accepted : Call → Outcome → State → State → Type 0 where
  strikes : {r v : ℕ} {s t : State} → Strikes r v s t → Accepted (strike r v) done s t
  holds : {r v : ℕ} {s t : State} → Holds r v s t → Accepted (hold r v) done s t
  gives_mark : {k : ℕ} {s t : State} → GivesMark k s t → Accepted mark (gave k) s t
  goes_back : {k : ℕ} {s t : State} → GoesBack k s t → Accepted (back k) done s t
  keeps_rows : {k : ℕ} {s t : State} → KeepsRows k s t → Accepted (keep k) done s t
  settles : {w n c : ℕ} {Rs : List Rule} {s t : State} → Settles Rs c s t → Accepted (settle w Rs n) (settled c) s t
  wipes_out : {w n k : ℕ} {Rs : List Rule} {s t : State} → WipedOut Rs s.rows k → t ≡ s → Accepted (settle w Rs n) (wiped k) s t

-- How a call moves the sheet: where a refusal fits, it answers the first that does and leaves the sheet as it was.
pub data Moves : Call → Outcome → State → State → Type 0 where
  refuses : {call : Call} {f : Refusal} {s t : State} → why call s ≡ Some f → t ≡ s → Moves call (refused f) s t
  accepts : {call : Call} {answer : Outcome} {s t : State} → why call s ≡ None → Accepted call answer s t → Moves call answer s t
