-- The state of a sheet whose memory is touched in part, or not at all.
use Rattle.std.proofs.Common.{◌≡◌, ℕ, ◌≤◌, length, take, Some, Ok, Err, Result, sym, refl, ap, ◌∙◌, arith}
use Rattle.std.specs.Result.{IsErrAnd}
use Rattle.std.proofs.lemmas.List.{length-take-le}
use Rattle.trail.specs.Readings.{height_of, record_of}
use Rattle.trail.specs.Stacks.{contents, held}
use Rattle.trail.specs.declared.trail.Trail.{Trail}
use Rattle.trail.proofs.Stacked.{held_long}
use Rattle.histories.specs.Laws.{Lawfully}
use Rattle.histories.specs.Moves.{Call, refused, why, refuses}
use Rattle.histories.proofs.Every.{lawfully}
use Rattle.sheet.specs.Memory.{state_of, Untouched, NarrowsSheet, OnlyCloses}
use Rattle.sheet.specs.Sheets.{sheet_says, state, done_or, gave_or}
use Rattle.sheet.specs.declared.mark.Mark.{Mark}
use Rattle.sheet.specs.declared.refusal.SheetError.{SheetError}
use Rattle.sheet.specs.declared.sheet.Sheet.{Sheet}

pub untouched : (x : Sheet) → Untouched x x
untouched x = record { rows = refl; slots = refl; top = refl; mark_slots = refl; mark_top = refl; given = refl; room = refl }

pub untouched_state : (x y : Sheet) → Untouched x y → state_of y ≡ state_of x
untouched_state x y u t =
    state (u.rows t) (contents (u.slots t) (u.top t)) (contents (u.mark_slots t) (u.mark_top t)) (u.given t) (u.room t)

-- a refused call that touched nothing
pub refusing : (call : Call) (f : _) (x y : Sheet) → why call (state_of x) ≡ Some f → Untouched x y → Lawfully call (refused f) (state_of x) (state_of y)
refusing call f x y w u = lawfully (refuses w (untouched_state x y u))

-- what a call answers that hands on a refusal
pub refused_done : (call : Call) (x y : Sheet) (r : Result (Unit {0}) SheetError) (e : SheetError) → IsErrAnd r (λ k. k ≡ e) → why call (state_of x) ≡ Some (sheet_says e) → Untouched x y
    → Lawfully call (done_or r) (state_of x) (state_of y)
refused_done call x y (Ok v) e is w u = absurd is
refused_done call x y (Err k) e is w u = refusing call (sheet_says k) x y (w ∙ ap (λ z. Some (sheet_says z)) (sym is)) u

pub refused_gave : (call : Call) (x y : Sheet) (r : Result Mark SheetError) (e : SheetError) → IsErrAnd r (λ k. k ≡ e) → why call (state_of x) ≡ Some (sheet_says e) → Untouched x y
    → Lawfully call (gave_or r) (state_of x) (state_of y)
refused_gave call x y (Ok v) e is w u = absurd is
refused_gave call x y (Err k) e is w u = refusing call (sheet_says k) x y (w ∙ ap (λ z. Some (sheet_says z)) (sym is)) u

-- where only marks are closed
pub closes_state : (x y : Sheet) → OnlyCloses x y
    → state_of y ≡ state (state_of x).rows (state_of x).strokes (held y.marks) x.given x.room
closes_state x y c t =
    state (c.rows t) (contents (c.slots t) (c.top t)) (held y.marks) (c.given t) (c.room t)

pub closes_none : (x y : Sheet) → OnlyCloses x y → held y.marks ≡ held x.marks → Untouched x y
closes_none x y c e = record {
  rows = c.rows;
  slots = c.slots;
  top = c.top;
  mark_slots = c.mark_slots;
  mark_top = sym (held_long y.marks) ∙ ap length e ∙ held_long x.marks;
  given = c.given;
  room = c.room;
}

-- the top of a record that is cut at a height it reaches
pub cut_top : (height : ℕ) (t u : Trail) → height ≤ height_of t → record_of u ≡ take height (record_of t) → height_of u ≡ height
cut_top height t u h e =
    sym (held_long u.struck) ∙ ap length e ∙ length-take-le height (record_of t) (omega (arith, held_long t.struck))

-- where one row is narrowed
pub narrows_state : (r wanted : ℕ) (x y : Sheet) → NarrowsSheet r wanted x y
    → state_of y ≡ state (state_of y).rows (state_of y).strokes (held x.marks) x.given x.room
narrows_state r wanted x y n t = state (state_of y).rows (state_of y).strokes (contents (n.mark_slots t) (n.mark_top t)) (n.given t) (n.room t)
