-- A sheet in memory: the state that it stands for, and when none of it is touched.
use Rattle.std.specs.Prelude.{◌≡◌, ℕ, Ok, Err, Result}
use Rattle.trail.specs.Readings.{rows_of, memory_of, height_of, record_of}
use Rattle.trail.specs.Stacks.{held}
use Rattle.trail.specs.Trails.{Narrows}
use Rattle.waiting.specs.Waiting.{Numbers, Empty, Same}
use Rattle.settling.specs.declared.outcome.Outcome.{Outcome}
use Rattle.settling.specs.declared.refusal.SettleError.{SettleError}
use Rattle.histories.specs.States.{State}
use Rattle.sheet.specs.Sheets.{state}
use Rattle.sheet.specs.declared.sheet.Sheet.{Sheet}
use Rattle.sheet.specs.declared.refusal.SheetError.{SheetError}

-- The state of a sheet.
abbrev pub state_of : Sheet → State
state_of x = state (rows_of x.trail) (record_of x.trail) (held x.marks) x.given x.room

-- Every piece of memory is as it was, entries above the tops of the stacks included.
pub record Untouched (x y : Sheet) : Type 0 where
  pub rows : rows_of y.trail ≡ rows_of x.trail
  pub slots : memory_of y.trail ≡ memory_of x.trail
  pub top : height_of y.trail ≡ height_of x.trail
  pub mark_slots : y.marks.slots.now ≡ x.marks.slots.now
  pub mark_top : y.marks.top ≡ x.marks.top
  pub given : y.given ≡ x.given
  pub room : y.room ≡ x.room

-- A refused call touches nothing.
abbrev pub RefusedLeaves : {A : Type 0} → Result A SheetError → Sheet → Sheet → Type 0
RefusedLeaves (Ok a) x y = Unit
RefusedLeaves (Err e) x y = Untouched x y

-- A row of the sheet is narrowed to the wanted choices, and the marks are not touched.
pub record NarrowsSheet (r wanted : ℕ) (x y : Sheet) : Type 0 where
  pub narrows : Narrows r wanted (state_of x).rows (state_of y).rows (state_of x).strokes (state_of y).strokes
  pub mark_slots : y.marks.slots.now ≡ x.marks.slots.now
  pub mark_top : y.marks.top ≡ x.marks.top
  pub given : y.given ≡ x.given
  pub room : y.room ≡ x.room

-- Nothing but which marks are open is touched.
pub record OnlyCloses (x y : Sheet) : Type 0 where
  pub rows : rows_of y.trail ≡ rows_of x.trail
  pub slots : memory_of y.trail ≡ memory_of x.trail
  pub top : height_of y.trail ≡ height_of x.trail
  pub mark_slots : y.marks.slots.now ≡ x.marks.slots.now
  pub given : y.given ≡ x.given
  pub room : y.room ≡ x.room

-- What a settle leaves: accepted, no number waits; refused, nothing is touched and the same numbers wait.
abbrev pub SettleLeaves : Result Outcome SettleError → Sheet → Sheet → Numbers → Numbers → Type 0
SettleLeaves (Ok o) x y waits waits' = Empty waits'
SettleLeaves (Err e) x y waits waits' = Untouched x y × Same waits waits'
