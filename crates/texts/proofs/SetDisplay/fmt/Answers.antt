use Rattle.std.proofs.Common.{rules, ◌≡◌, true, ◌++◌, codes, decimal, sym, refl, ap, ◌∙◌, subst}
use Rattle.std.specs.Fmt.{HasWritten}
use Rattle.std.proofs.lemmas.List.{append_assoc}
use Rattle.std.proofs.Output.{has_written_append, has_written_of_eq}
use Rattle.rows.specs.Choices.{stands, members}
use Rattle.rows.proofs.Masks.{stands_below, without_stood}
use Rattle.texts.specs.Texts.{further, listed}
use Rattle.texts.proofs.Listing.{nothing_further, none_listed, first_listed, next_listed}
use Rattle.texts.proofs.SetDisplay.fmt.Goals.{in-Some+in_ok-write-2, in_default}
use Rattle.texts.proofs.SetDisplay.fmt.Goals as goal

pub loop-choice-init : goal.loop-choice-init
loop-choice-init g c p =
    let m = c.args.self.now.0 in
    let whole : c.over-choices.result.rest ≡ m = c.over-choices.ensures in
    let rest : c.into_iter-choice-iterator.result.rest ≡ c.next.new.self.rest = ap (λ w. w.rest) c.into_iter-choice-iterator.ensures.into_iter_gives in
    let opened = c.in_ok-write.ensures.writes p refl in
    elim c.match-next.branch [
      | in-Some+in_ok-write-2 w ↦
          let walked = w.in-Some.ensures.steps in
          let low = stands_below 64 c.over-choices.result.rest w.in-Some.first (search rules) walked.0.here in
          record {
            bytes = codes "{" ++ decimal w.in-Some.first;
            wrote = subst (λ f. HasWritten g.W.Write.write_str_gives c.args.f.now (codes "{" ++ decimal w.in-Some.first) f) (sym w.f-is)
                (has_written_append _ _ _ _ _ _ opened (w.in_ok-write-2.ensures.writes opened.plain refl));
            whole = ap (λ r. (codes "{" ++ decimal w.in-Some.first) ++ further (members r)) rest
                ∙ first_listed (codes "{") c.over-choices.result.rest w.in-Some.first c.next.new.self.rest low walked.0 walked.1
                ∙ ap (λ r. codes "{" ++ listed (members r)) whole;
            part = λ v s. subst (λ r. stands r v ≡ true) whole
                (without_stood c.over-choices.result.rest w.in-Some.first c.next.new.self.rest v walked.1 (subst (λ r. stands r v ≡ true) rest s)).0;
          }
      | in_default w ↦
          let none = w.in_default.ensures.steps in
          record {
            bytes = codes "{";
            wrote = subst (λ f. HasWritten g.W.Write.write_str_gives c.args.f.now (codes "{") f) (sym w.f-is) opened;
            whole = nothing_further (codes "{") _ (rest ∙ none.1 ∙ none.0) ∙ sym (none_listed (codes "{") m (sym whole ∙ none.0));
            part = λ v s. subst (λ r. stands r v ≡ true) (rest ∙ none.1 ∙ whole) s;
          }
    ]

pub loop-choice-preserved : goal.loop-choice-preserved
loop-choice-preserved g c p =
    let before = c.loop-choice.invariant p in
    let walked = c.in-Some-choice.ensures.steps in
    let v = c.in-Some-choice.choice in
    let low = stands_below 64 c.args.self.now.0 v (search rules) (before.part v walked.0.here) in
    record {
      bytes = before.bytes ++ (codes "," ++ decimal v);
      wrote = has_written_append _ _ _ _ _ _ before.wrote (search rules);
      whole = next_listed before.bytes c.loop-choice.choice-iterator.rest v c.next-in-loop-choice.new.self.rest low walked.0 walked.1 ∙ before.whole;
      part = λ w s. before.part w (without_stood _ _ _ w walked.1 s).0;
    }

pub returns-clause-writes : goal.returns-clause-writes
returns-clause-writes g c p ok =
    let before = c.loop-choice.invariant p in
    let all : before.bytes ≡ codes "{" ++ listed (members c.args.self.now.0) =
    sym (nothing_further before.bytes c.loop-choice.choice-iterator.rest c.in-None.ensures.steps.0) ∙ before.whole
    in
    has_written_of_eq _ _ (before.bytes ++ codes "}") _ _
    (ap (λ b. b ++ codes "}") all ∙ append_assoc (codes "{") (listed (members c.args.self.now.0)) (codes "}"))
    (has_written_append _ _ _ _ _ _ before.wrote (c.write-2.ensures.writes before.wrote.plain ok))
