use Rattle.std.proofs.Common.{[], length, sym, refl, subst, rules}
use Rattle.trail.specs.Readings.{rows_of}
use Rattle.histories.specs.Laws.{Law}
use Rattle.histories.specs.States.{State}
use Rattle.histories.proofs.Every.{every_history}
use Rattle.sheet.specs.Sheets.{new_state}
use Rattle.sheet.proofs.Moving.{new_fresh}
use Rattle.sheet.proofs.sheet.Sheet.make.Goals as goal

pub returns-clause-law : goal.returns-clause-law
returns-clause-law c =
    let t = c.args.trail in
    let st = new_state (rows_of t) (length c.args.marks.slots.now) in
    subst (λ (s : State). Law s [] s) (sym (search rules)) (every_history st [] st (new_fresh (rows_of t) (length c.args.marks.slots.now) t.some) refl)
