use Rattle.std.proofs.Common.{List, refl, ap, ◌∙◌, subst, rules}
use Rattle.std.specs.Iterator.Runs.{ItemsMapTo}
use Rattle.std.specs.Slice.Iter.{iter_rest}
use Rattle.waiting.proofs.Classing.{first_of_run}
use Rattle.waiting.specs.declared.numbers.NumberSet.{NumberSet}
use Rattle.waiting.proofs.classed.lowest_of_first.Goals as goal

pub returns : goal.returns
returns c =
    let found = c.find_map.ensures.runs in
    let p = found.0 in
    let items = subst (λ (xs : List NumberSet). ItemsMapTo p (λ y. y.now) xs) (ap iter_rest found.1 ∙ c.iter.ensures.rest) (c.iter.ensures.runs p p.seen) in
    first_of_run _ _ c.args.sets.now p items (λ a r q k. refl) (λ x r k. search rules) c.find_map.result found.2
