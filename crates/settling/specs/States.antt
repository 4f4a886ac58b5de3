-- What settling works on, and what it leaves as it is.
use Rattle.std.specs.Prelude.{◌≡◌, ℕ, ◌≤◌, List, length}
use Rattle.banks.specs.Rules.{Sheet, Rule}
use Rattle.trail.specs.Readings.{rows_of, memory_of, record_of}
use Rattle.waiting.specs.Waiting.{Numbers}
use Rattle.settling.specs.declared.propagate.Settling.{Settling}

-- A state: the rows, every struck choice that was not put back, oldest first, and the numbers that wait.
pub record State : Type 0 where
  pub rows : Sheet
  pub strokes : List ℕ
  pub waits : Numbers

-- The state that settling is in, where waits says which numbers wait in a list.
abbrev pub state_of : {B L : Type 0} → (L → Numbers) → Settling B L → State
state_of waits x = record { rows = rows_of x.trail.now; strokes = record_of x.trail.now; waits = waits x.list.now }

-- The rules that it settles by, where rules says which a bank has.
abbrev pub rules_of : {B L : Type 0} → (B → List Rule) → Settling B L → List Rule
rules_of rules x = rules x.bank.now

-- The rules name rows that are there, and every one of them can wait.
pub record Fits {B L : Type 0} (wide : B → ℕ) (rules : B → List Rule) (room_of : L → ℕ) (x : Settling B L) : Type 0 where
  pub width : wide x.bank.now ≤ length (rows_of x.trail.now)
  pub capacity : length (rules x.bank.now) ≤ room_of x.list.now

-- Settling goes on with the same trail, bank and list; there are as many rows, the record has as much memory, and as many numbers can
-- wait.
pub record Keeps {B L : Type 0} (room_of : L → ℕ) (x y : Settling B L) : Type 0 where
  pub trail : y.trail.ghost_name ≡ x.trail.ghost_name
  pub list : y.list.ghost_name ≡ x.list.ghost_name
  pub bank : y.bank.now ≡ x.bank.now
  pub rows : length (rows_of y.trail.now) ≡ length (rows_of x.trail.now)
  pub memory : length (memory_of y.trail.now) ≡ length (memory_of x.trail.now)
  pub room : room_of y.list.now ≡ room_of x.list.now
