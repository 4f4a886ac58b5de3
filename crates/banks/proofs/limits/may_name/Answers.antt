use Rattle.std.proofs.Common.{◌≡◌, ℕ, ◌+◌, ◌-◌, ◌≤◌, Bool, false, eqb, List, ◌∷◌, length, get_or, take, drop, sym, ap, ◌∙◌, arith}
use Rattle.std.specs.List.{IsAnyAnswer}
use Rattle.std.proofs.lemmas.List.{drop_more, take_rest}
use Rattle.std.proofs.lemmas.Bool.{lt-ltb, le-ltb, eqb-false}
use Rattle.banks.specs.Names.{among}
use Rattle.banks.proofs.Naming.{among_has, fine, fine_step, fine_wide, fine_twice, may_name_fine}
use Rattle.banks.proofs.limits.may_name.Goals as goal
use Rattle.banks.proofs.limits.may_name.Goals.{then-row-width-via-then-row-width, then-row-width-via-else-row-width+then-contains}

-- what a search of the rows from a place on answers
searched : (rows : List ℕ) (i x : ℕ) (r : Bool) → IsAnyAnswer (λ y t. eqb y x ≡ t) (take (length rows - i) (drop i rows)) r → among x (drop i rows) ≡ r
searched rows i x r h = ap (among x) (sym (take_rest rows i)) ∙ sym (among_has x (take (length rows - i) (drop i rows)) r h)

pub returns-then-row-width : goal.returns-then-row-width
returns-then-row-width c =
    let rows = c.args.rows.now in
    let i = c.loop-place.place in
    let w = c.args.width in
    let some : 1 ≤ length rows = omega (arith, eqb-false (length rows) 0 (sym c.if-is_empty.ensures)) in
    let front = drop_more rows i 0 c.loop-place-test.true in
    let failed : fine w (get_or rows i 0 ∷ drop (i + 1) rows) ≡ false =
    elim c.then-row-width.branch [
      | then-row-width-via-then-row-width p ↦ fine_wide w (get_or rows i 0) (drop (i + 1) rows) (le-ltb (get_or rows i 0) w p.if-row-width.true)
      | then-row-width-via-else-row-width+then-contains p ↦ fine_twice w (get_or rows i 0) (drop (i + 1) rows)
          (searched rows (i + 1) (get_or rows i 0) p.contains.result p.contains.ensures.cases ∙ p.if-contains.true)
    ]
    in
    sym (may_name_fine w rows some c.if-rows-gt-MAX_ARITY.false ∙ sym c.loop-place.invariant ∙ ap (fine w) front ∙ failed)

pub loop-place-preserved : goal.loop-place-preserved
loop-place-preserved c =
    let rows = c.args.rows.now in
    let i = c.loop-place.place in
    let w = c.args.width in
    let front = drop_more rows i 0 c.loop-place-test.true in
    sym (fine_step w (get_or rows i 0) (drop (i + 1) rows) (lt-ltb (get_or rows i 0) w c.if-row-width.false)
    (searched rows (i + 1) (get_or rows i 0) c.contains.result c.contains.ensures.cases ∙ c.if-contains.false)) ∙ sym (ap (fine w) front) ∙ c.loop-place.invariant
