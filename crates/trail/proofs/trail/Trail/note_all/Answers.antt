use Rattle.std.proofs.Common.{ℕ, sym, refl, ap, ◌∙◌, subst, length, ◌+◌, ◌*◌, ◌≤◌}
use Rattle.banks.specs.Rules.{Sheet}
use Rattle.rows.specs.Choices.{choices}
use Rattle.trail.specs.Readings.{rows_of, height_of}
use Rattle.trail.specs.Strokes.{standing}
use Rattle.trail.proofs.Noting.{NotingAll, noting_none, noting_more, noting_all, noting_room}
use Rattle.trail.proofs.trail.Trail.note_all.Goals as goal

pub loop-choice-init : goal.loop-choice-init
loop-choice-init c =
    let struck = c.args.self.now.struck in
    let all = ap (λ w. w.rest) c.into_iter-choice-iterator.ensures.into_iter_gives ∙ c.over-choice-items.ensures in
    record {
      rows = refl;
      noting = subst (λ (rest : ℕ). NotingAll c.args.row c.args.lost rest struck struck) (sym all) (noting_none c.args.row c.args.lost struck c.ranges.lost.fits);
    }

pub note-requires : goal.note-requires
note-requires c =
    let t = c.args.self.now in
    let steps = c.in-Some.ensures.steps in
    let so-far = c.loop-choice.invariant in
    let room = noting_room c.args.row c.args.lost t.struck _ _ c.in-Some.choice (standing (rows_of t)) (length (rows_of t) * choices) c.loop-choice.self.struck steps.0 steps.1 so-far.noting c.requires.spare in
    subst (λ (s : Sheet). height_of c.loop-choice.self + 1 + standing s ≤ length s * choices) (sym so-far.rows) room

pub loop-choice-preserved : goal.loop-choice-preserved
loop-choice-preserved c =
    let steps = c.in-Some.ensures.steps in
    let so-far = c.loop-choice.invariant in
    record {
      rows = c.note.ensures.rows ∙ so-far.rows;
      noting = noting_more c.args.row c.args.lost c.args.self.now.struck _ _ c.in-Some.choice c.loop-choice.self.struck c.note.new.self.struck steps.0 steps.1 so-far.noting c.note.ensures.noted;
    }

pub returns-clause-noted : goal.returns-clause-noted
returns-clause-noted c =
    noting_all c.args.row c.args.lost c.args.self.now.struck _ c.loop-choice.self.struck c.in-None.ensures.steps.0 c.loop-choice.invariant.noting
