use Rattle.std.proofs.Common.{◌≡◌, ◌<◌, ℕ, ℤ, true, not, leb, pos, ◌+ℤ◌, ◌-ℤ◌, Decides, w64, to_z, of_z, sym, ap, ◌∙◌, rules}
use Rattle.std.specs.Int.{int_rem_euclid}
use Rattle.std.proofs.lemmas.Bool.{and_parts, leb-true}
use Rattle.rows.specs.Choices.{choices}
use Rattle.differences.specs.Checks.{in_bounds, offset_fits, modulus_fits}
use Rattle.differences.specs.Differences.{relates, multiple}
use Rattle.differences.specs.Partners.{Finds, itself, another, at_least, at_most}
use Rattle.differences.specs.declared.difference.Difference.{Difference}
use Rattle.differences.specs.declared.difference.Relation.TheVariants.{Congruent}
use Rattle.differences.proofs.Congruence.{congruent_found}
use Rattle.differences.proofs.Sides.{same_turned, at_most_turned, multiple_turned, kept_of_x, kept_of_y}
use Rattle.differences.proofs.support.both_sides.Goals as goal

pub returns-in-Equal-clause-of_x : goal.returns-in-Equal-clause-of_x
returns-in-Equal-clause-of_x c =
    let d = c.args.difference in
    kept_of_x d c.requires c.from-offset.result c.from-offset.ensures _ itself c.args.xs c.args.ys c.keep_by.result (search rules) c.keep_by.ensures
    (λ x y. ap (λ relation. relates relation d.offset x y) (sym c.in-Equal.is)) (λ v b says. search rules)

pub returns-in-Equal-clause-of_y : goal.returns-in-Equal-clause-of_y
returns-in-Equal-clause-of_y c =
    let d = c.args.difference in
    kept_of_y d c.requires c.from-offset.result c.from-offset.ensures _ itself c.args.ys c.args.xs c.keep_by-in-Equal.result (search rules) c.keep_by-in-Equal.ensures
    (λ x y. same_turned d.offset x y ∙ ap (λ relation. relates relation d.offset x y) (sym c.in-Equal.is)) (λ v b says. search rules)

pub returns-in-Unequal-clause-of_x : goal.returns-in-Unequal-clause-of_x
returns-in-Unequal-clause-of_x c =
    let d = c.args.difference in
    kept_of_x d c.requires c.from-offset.result c.from-offset.ensures _ another c.args.xs c.args.ys c.keep_by-in-Unequal.result (search rules) c.keep_by-in-Unequal.ensures
    (λ x y. ap (λ relation. relates relation d.offset x y) (sym c.in-Unequal.is)) (λ v b says. search rules)

pub returns-in-Unequal-clause-of_y : goal.returns-in-Unequal-clause-of_y
returns-in-Unequal-clause-of_y c =
    let d = c.args.difference in
    kept_of_y d c.requires c.from-offset.result c.from-offset.ensures _ another c.args.ys c.args.xs c.keep_by-in-Unequal-2.result (search rules) c.keep_by-in-Unequal-2.ensures
    (λ x y. ap not (same_turned d.offset x y) ∙ ap (λ relation. relates relation d.offset x y) (sym c.in-Unequal.is)) (λ v b says. search rules)

pub returns-in-AtMost-clause-of_x : goal.returns-in-AtMost-clause-of_x
returns-in-AtMost-clause-of_x c =
    let d = c.args.difference in
    kept_of_x d c.requires c.from-offset.result c.from-offset.ensures _ at_least c.args.xs c.args.ys c.keep_by-in-AtMost.result (search rules) c.keep_by-in-AtMost.ensures
    (λ x y. ap (λ relation. relates relation d.offset x y) (sym c.in-AtMost.is)) (λ v b says. search rules)

pub returns-in-AtMost-clause-of_y : goal.returns-in-AtMost-clause-of_y
returns-in-AtMost-clause-of_y c =
    let d = c.args.difference in
    kept_of_y d c.requires c.from-offset.result c.from-offset.ensures _ at_most c.args.ys c.args.xs c.keep_by-in-AtMost-2.result (search rules) c.keep_by-in-AtMost-2.ensures
    (λ x y. at_most_turned d.offset x y ∙ ap (λ relation. relates relation d.offset x y) (sym c.in-AtMost.is)) (λ v b says. search rules)

positive : (d : Difference) (m : ℕ) → in_bounds d ≡ true → d.relation ≡ Congruent m → 0 < m
positive d m bounds is =
    let fits = (and_parts (offset_fits d.offset) (modulus_fits d.relation) bounds).1 in
    leb-true 1 m (and_parts (leb 1 m) (leb m choices) (sym (ap modulus_fits is) ∙ fits)).0

pub returns-in-Congruent-clause-of_x : goal.returns-in-Congruent-clause-of_x
returns-in-Congruent-clause-of_x c =
    let d = c.args.difference in
    let m = c.in-Congruent.modulus in
    kept_of_x d c.requires c.from-offset.result c.from-offset.ensures _ (λ z w. multiple m (z -ℤ pos w)) c.args.xs c.args.ys c.keep_by-in-Congruent.result (search rules) c.keep_by-in-Congruent.ensures
    (λ x y. ap (λ relation. relates relation d.offset x y) (sym c.in-Congruent.is))
    (λ v b says.
    let t : (s r : ℤ) × (s ≡ to_z w64 (of_z w64 (pos v +ℤ to_z w64 (of_z w64 c.from-offset.result)))) × (r ≡ int_rem_euclid s (pos m)) × Decides b (Finds (itself r) c.remainders-of_ys.result) = search rules in
    (t.0, t.2, congruent_found c.args.ys m c.remainders-of_ys.result t.0 t.1 b (positive d m c.requires c.in-Congruent.is) c.remainders-of_ys.ensures t.3 t.4))

pub returns-in-Congruent-clause-of_y : goal.returns-in-Congruent-clause-of_y
returns-in-Congruent-clause-of_y c =
    let d = c.args.difference in
    let m = c.in-Congruent.modulus in
    kept_of_y d c.requires c.from-offset.result c.from-offset.ensures _ (λ z w. multiple m (z -ℤ pos w)) c.args.ys c.args.xs c.keep_by-in-Congruent-2.result (search rules) c.keep_by-in-Congruent-2.ensures
    (λ x y. multiple_turned d.offset x y m ∙ ap (λ relation. relates relation d.offset x y) (sym c.in-Congruent.is))
    (λ v b says.
    let t : (s r : ℤ) × (s ≡ to_z w64 (of_z w64 (pos v -ℤ to_z w64 (of_z w64 c.from-offset.result)))) × (r ≡ int_rem_euclid s (pos m)) × Decides b (Finds (itself r) c.remainders-of_xs.result) = search rules in
    (t.0, t.2, congruent_found c.args.xs m c.remainders-of_xs.result t.0 t.1 b (positive d m c.requires c.in-Congruent.is) c.remainders-of_xs.ensures t.3 t.4))
