-- A choice stands exactly when it stood at the start and every call that struck it is gone back over.
use Rattle.std.proofs.Common.{false}
use Rattle.rows.specs.Choices.{stands}
use Rattle.banks.specs.Rules.{Sheet, row, Under}
use Rattle.histories.specs.States.{State, Fresh}
use Rattle.histories.specs.Histories.{History, Leads}
use Rattle.histories.specs.Laws.{UndoLaw}
use Rattle.histories.proofs.Standing.{Ended, undone_made, made_undone, ended_undone, undone_holds}
use Rattle.histories.proofs.Reaching.{chain}

pub undo_law : (start : State) (h : History) (end : State) → Fresh start → Leads start h end → UndoLaw start h end
undo_law start h end fresh leads r v =
    let R = λ (s : Sheet). stands (row s r) v in
    let up = λ (s t : Sheet) (u : Under s t). u.part r v in
    let led = chain start h end fresh leads in (
      (λ s. let u = ended_undone R up start (λ _. false) h end.rows end.strokes led s in (u.0, λ later e m k. undone_made (Ended R up) h u.1 later e m k)),
      (λ u. undone_holds R up start (λ _. false) h end.rows end.strokes led u.0 (made_undone (Ended R up) h u.1)),
    )
