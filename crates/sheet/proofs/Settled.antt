-- A settle moves the state as written out for it.
use Rattle.std.proofs.Common.{◌≡◌, ℕ, ◌≤◌, true, List, map, length, Ok, Err, Result, refl, ap, ◌∙◌, arith}
use Rattle.std.proofs.lemmas.List.{length-append}
use Rattle.banks.specs.Rules.{Rule}
use Rattle.waiting.specs.Waiting.{Numbers}
use Rattle.trail.specs.Readings.{rows_of, memory_of, height_of, record_of}
use Rattle.trail.specs.Stacks.{contents}
use Rattle.trail.specs.declared.trail.Trail.{Trail}
use Rattle.trail.proofs.Stacked.{held_long}
use Rattle.settling.specs.Propagation.{SettleAnswer}
use Rattle.settling.specs.declared.outcome.Outcome.{Outcome}
use Rattle.settling.specs.declared.outcome.Outcome.TheVariants.{Settled, Wiped}
use Rattle.settling.specs.declared.refusal.SettleError.{SettleError}
use Rattle.histories.specs.Moves.{settle, settles, wipes_out, Moves, refuses, accepts}
use Rattle.sheet.specs.Memory.{SettleLeaves}
use Rattle.sheet.specs.Sheets.{opened_as, state, heights_rise, settled_or}
use Rattle.sheet.specs.declared.mark.OpenMark.{OpenMark}
use Rattle.sheet.specs.declared.sheet.Sheet.{Sheet as Held}
use Rattle.sheet.proofs.Heights.{stored_same}

-- what is answered where a trail is settled
abbrev pub SettlesTrail : ℕ → List Rule → ℕ → Trail → Trail → Numbers → Numbers → Result Outcome SettleError → Type 0
SettlesTrail w Rs capacity t u waits waits' =
    SettleAnswer w Rs capacity (rows_of t) (memory_of t) (height_of t) waits (rows_of u) (memory_of u) (height_of u) waits'

module _ (w : ℕ) (Rs : List Rule) (capacity : ℕ) (t u : Trail) (waits waits' : Numbers) where
  -- the record is never shorter after it
  pub settle_grows : (r : Result Outcome SettleError) → SettlesTrail w Rs capacity t u waits waits' r → height_of t ≤ height_of u
  settle_grows (Ok (Settled n)) a =
      omega (arith, held_long t.struck, held_long u.struck, ap length a.1.2.recorded, length-append (record_of t) a.1.2.struck)
  settle_grows (Ok (Wiped k)) a = omega (arith, held_long t.struck, held_long u.struck, ap length a.1.2.2)
  settle_grows (Err e) a = omega (arith, a.1.2)

  pub settle_moves : (ms : List OpenMark) (given room : ℕ) (r : Result Outcome SettleError) → heights_rise 0 ms (length (record_of t)) ≡ true
      → SettlesTrail w Rs capacity t u waits waits' r
      → Moves (settle w Rs capacity) (settled_or r) (state (rows_of t) (record_of t) ms given room) (state (rows_of u) (record_of u) ms given room)
  settle_moves ms given room (Ok (Settled n)) rise a = accepts a.0 (settles (record {
    narrowed = a.1.2;
    marks = record {
      opened = ap (λ xs. map (opened_as (rows_of u) xs) ms) a.1.2.recorded ∙ stored_same (rows_of t) (rows_of u) (record_of t) a.1.2.struck 0 ms a.1.2.undone rise;
      given = refl;
      room = refl;
    };
  }))
  settle_moves ms given room (Ok (Wiped k)) rise a = accepts a.0 (wipes_out a.1.2.0 (λ i. state (a.1.2.1 i) (a.1.2.2 i) ms given room))
  settle_moves ms given room (Err e) rise a = refuses a.0 (λ i. state (a.1.0 i) (contents (a.1.1 i) (a.1.2 i)) ms given room)

-- what it leaves of a sheet whose marks it does not touch
pub settle_leaves : (w : ℕ) (Rs : List Rule) (capacity : ℕ) (x y : Held) (waits waits' : Numbers) (r : Result Outcome SettleError)
    → SettlesTrail w Rs capacity x.trail y.trail waits waits' r
    → y.marks.slots.now ≡ x.marks.slots.now → y.marks.top ≡ x.marks.top → y.given ≡ x.given → y.room ≡ x.room → SettleLeaves r x y waits waits'
settle_leaves w Rs capacity x y waits waits' (Ok o) a marks top given room = a.1.0
settle_leaves w Rs capacity x y waits waits' (Err e) a marks top given room = (
  record {
    rows = a.1.0;
    slots = a.1.1;
    top = a.1.2;
    mark_slots = marks;
    mark_top = top;
    given = given;
    room = room;
  },
  a.1.3,
)
