use Rattle.std.proofs.Common.{◌≡◌, ◌+◌, true, [], ◌∷◌, ◌++◌, sym, refl, ap, ◌∙◌, subst, arith}
use Rattle.trail.specs.Readings.{height_of}
use Rattle.trail.specs.Stacks.{held}
use Rattle.trail.proofs.Stacked.{held_long, pushed_grows}
use Rattle.histories.specs.Moves.{mark}
use Rattle.histories.proofs.Every.{lawfully}
use Rattle.sheet.specs.Memory.{state_of}
use Rattle.sheet.specs.Sheets.{heights_rise}
use Rattle.sheet.proofs.Heights.{heights_push}
use Rattle.sheet.proofs.Moving.{mark_room, mark_moves}
use Rattle.sheet.proofs.Touching.{untouched, refused_gave}
use Rattle.sheet.proofs.sheet.Sheet.mark.Goals as goal

pub returns-in_err-may_mark-clause-lawful : goal.returns-in_err-may_mark-clause-lawful
returns-in_err-may_mark-clause-lawful c =
    refused_gave mark c.args.self.now c.args.self.now c.from_residual.result c.in_err-may_mark.field-0.0 c.from_residual.ensures.1 c.in_err-may_mark.ensures.0 (untouched c.args.self.now)

pub invariant_of-self : goal.invariant_of-self
invariant_of-self c =
    let x = c.args.self.now in
    let marks = x.marks in
    let free = mark_room (state_of x).rows (state_of x).strokes x.given x.room marks x.within c.in_ok-may_mark.ensures.0 in
    let pushed = pushed_grows marks c.push.new.self _ c.push.result free c.push.ensures in
    let high = c.height-height.ensures ∙ held_long x.trail.struck in
    let grown = pushed.1 ∙ ap (λ h. held marks ++ record { serial = x.given; height = h } ∷ []) high in
    record {
      within = omega (arith, x.within, pushed.0);
      heights = subst (λ ms. heights_rise 0 ms (height_of x.trail) ≡ true) (sym grown) (heights_push 0 (height_of x.trail) x.given (held marks) x.heights);
    }

pub returns-clause-lawful : goal.returns-clause-lawful
returns-clause-lawful c =
    let x = c.args.self.now in
    let marks = x.marks in
    let free = mark_room (state_of x).rows (state_of x).strokes x.given x.room marks x.within c.in_ok-may_mark.ensures.0 in
    let pushed = pushed_grows marks c.push.new.self _ c.push.result free c.push.ensures in
    let grown = pushed.1 ∙ ap (λ h. held marks ++ record { serial = x.given; height = h } ∷ []) c.height-height.ensures in
    lawfully (mark_moves (state_of x).rows (state_of x).strokes x.given x.room (held marks) (held c.push.new.self) (x.given + 1) c.in_ok-may_mark.ensures.0 grown refl)
