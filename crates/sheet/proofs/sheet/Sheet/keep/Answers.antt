use Rattle.std.proofs.Common.{Some, sym, ap, ◌∙◌, subst}
use Rattle.trail.specs.Stacks.{held}
use Rattle.histories.specs.Moves.{keep, done, Moves}
use Rattle.histories.proofs.Every.{lawfully}
use Rattle.sheet.specs.Memory.{state_of}
use Rattle.sheet.specs.Sheets.{sheet_says}
use Rattle.sheet.proofs.Moving.{not_open_fits, keep_moves}
use Rattle.sheet.proofs.Touching.{refused_done, closes_state, closes_none}
use Rattle.sheet.proofs.sheet.Sheet.keep.Goals as goal

pub returns-in_err-close-clause-lawful : goal.returns-in_err-close-clause-lawful
returns-in_err-close-clause-lawful c =
    let x = c.args.self.now in
    let y = c.close.new.self in
    let none = c.in_err-close.ensures.closed in
    let fits = not_open_fits (state_of x).rows (state_of x).strokes x.given x.room c.args.mark.serial (held x.marks) none.1 ∙ ap (λ k. Some (sheet_says k)) (sym none.0) in
    refused_done (keep c.args.mark.serial) x y c.from_residual.result c.in_err-close.field-0.0 c.from_residual.ensures.1 fits (closes_none x y c.close.ensures.rest none.2)

pub returns-clause-lawful : goal.returns-clause-lawful
returns-clause-lawful c =
    let x = c.args.self.now in
    let y = c.close.new.self in
    let moved = keep_moves (state_of x).rows (state_of x).strokes x.given x.room c.args.mark.serial (held x.marks) (held y.marks) c.in_ok-close.field-0 c.in_ok-close.ensures.closed in
    lawfully (subst (λ t. Moves (keep c.args.mark.serial) done (state_of x) t) (sym (closes_state x y c.close.ensures.rest)) moved)
