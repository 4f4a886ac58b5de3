use Rattle.std.proofs.Common.{◌≤◌, ◌&&◌, leb, length, sym, ◌∙◌, arith, rules}
use borrow.Author.Tests.{tests}
use Rattle.std.proofs.lemmas.Bool.{eqb-false}
use Rattle.std.proofs.lemmas.Iterator.{YieldsList-from_slice}
use Rattle.std.proofs.lemmas.Iterator.Search.{all_from_yields_List}
use Rattle.waiting.proofs.Classing.{each_fine, refused_class, accepted_classes}
use Rattle.waiting.proofs.Measuring.{capacity_fits}
use Rattle.waiting.proofs.classed.Classed.check.Goals as goal

pub returns-then-not-fine : goal.returns-then-not-fine
returns-then-not-fine c =
    let cs = c.args.classes.now in
    let some : 1 ≤ length cs = omega (arith, eqb-false (length cs) 0 (sym c.if-is_empty.ensures)) in
    let tested = all_from_yields_List (λ x. leb 1 x && leb x 7) _ _ c.all-fine.result c.all-fine.ensures.ran (YieldsList-from_slice cs c.iter.ensures.rest) (λ x b q k. search (rules, tests)) in
    (refused_class cs (capacity_fits (length cs) some c.if-classes-gt-MAX_CAPACITY.false) (sym (each_fine cs) ∙ sym tested ∙ c.if-not-fine.true), tt)

pub returns : goal.returns
returns c =
    let cs = c.args.classes.now in
    let some : 1 ≤ length cs = omega (arith, eqb-false (length cs) 0 (sym c.if-is_empty.ensures)) in
    let tested = all_from_yields_List (λ x. leb 1 x && leb x 7) _ _ c.all-fine.result c.all-fine.ensures.ran (YieldsList-from_slice cs c.iter.ensures.rest) (λ x b q k. search (rules, tests)) in
    (accepted_classes cs (capacity_fits (length cs) some c.if-classes-gt-MAX_CAPACITY.false) (sym (each_fine cs) ∙ sym tested ∙ c.if-not-fine.false), tt)
