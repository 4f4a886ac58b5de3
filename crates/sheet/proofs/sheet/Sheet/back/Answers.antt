use Rattle.std.proofs.Common.{◌≡◌, ℕ, true, take, drop, Some, sym, ap, ◌∙◌, subst}
use Rattle.trail.specs.Readings.{rows_of, height_of, record_of}
use Rattle.trail.specs.Stacks.{contents, held}
use Rattle.trail.specs.Strokes.{restored}
use Rattle.histories.specs.Moves.{back, done, Moves}
use Rattle.histories.proofs.Every.{lawfully}
use Rattle.sheet.specs.Memory.{state_of}
use Rattle.sheet.specs.Sheets.{sheet_says, state, heights_rise}
use Rattle.sheet.proofs.Heights.{heights_closed, heights_recorded}
use Rattle.sheet.proofs.Moving.{not_open_fits, back_moves}
use Rattle.sheet.proofs.Touching.{refused_done, closes_none, cut_top}
use Rattle.sheet.proofs.sheet.Sheet.back.Goals as goal

pub returns-in_err-open-clause-lawful : goal.returns-in_err-open-clause-lawful
returns-in_err-open-clause-lawful c =
    let x = c.args.self.now in
    let y = c.close.new.self in
    let none = c.in_err-open.ensures.closed in
    let fits = not_open_fits (state_of x).rows (state_of x).strokes x.given x.room c.args.mark.serial (held x.marks) none.1 ∙ ap (λ k. Some (sheet_says k)) (sym none.0) in
    refused_done (back c.args.mark.serial) x y c.from_residual.result c.in_err-open.field-0.0 c.from_residual.ensures.1 fits (closes_none x y c.close.ensures.rest none.2)

pub invariant_of-self : goal.invariant_of-self
invariant_of-self c =
    let x = c.args.self.now in
    let y = c.close.new.self in
    let rest = c.close.ensures.rest in
    let height = c.in_ok-open.open.height in
    let closed = heights_closed c.args.mark.serial (height_of x.trail) (held x.marks) (held y.marks) c.in_ok-open.open x.heights c.in_ok-open.ensures.closed in
    let cut = cut_top height x.trail c.undo_to.new.self closed.1 (c.undo_to.ensures.rows.recorded ∙ (λ t. take height (contents (rest.slots t) (rest.top t)))) in
    record { within = y.within; heights = subst (λ n. heights_rise 0 (held y.marks) n ≡ true) (sym cut) closed.0 }

pub returns-clause-lawful : goal.returns-clause-lawful
returns-clause-lawful c =
    let x = c.args.self.now in
    let y = c.close.new.self in
    let u = c.undo_to.new.self in
    let rest = c.close.ensures.rest in
    let height = c.in_ok-open.open.height in
    let moved = back_moves (state_of x).rows (state_of x).strokes x.given x.room c.args.mark.serial (held x.marks) (held y.marks) c.in_ok-open.open (rows_of u) (record_of u)
    c.in_ok-open.ensures.closed (heights_recorded x) (c.undo_to.ensures.rows.rows ∙ (λ t. restored (rest.rows t) (drop height (contents (rest.slots t) (rest.top t)))))
    (c.undo_to.ensures.rows.recorded ∙ (λ t. take height (contents (rest.slots t) (rest.top t)))) in
    lawfully (subst (λ (p : ℕ × ℕ). Moves (back c.args.mark.serial) done (state_of x) (state (rows_of u) (record_of u) (held y.marks) p.0 p.1)) (λ t. (sym rest.given t, sym rest.room t)) moved)
