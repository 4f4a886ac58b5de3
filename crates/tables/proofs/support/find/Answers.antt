use Rattle.std.proofs.Common.{◌≡◌, ℕ, List, length, replicate, refl, ap, ◌∙◌}
use Rattle.std.proofs.lemmas.Slice.Eq.{slice_eq-Decides}
use Rattle.std.proofs.lemmas.Bool.Decides.{not_from_Decides, Decides-eqb}
use Rattle.tables.proofs.Scanning.{scanning_none, line_long, line_fine, scanning_skipped, scanning_added, scanning_all, scanning_full}
use Rattle.tables.proofs.support.find.Goals as goal

-- the choices found before the first line are none
cleared : (found masks after : List ℕ) → length found ≡ length masks → after ≡ replicate (length found) 0 → after ≡ replicate (length masks) 0
cleared found masks after e z = z ∙ ap (λ n. replicate n 0) e

pub returns-then-eq : goal.returns-then-eq
returns-then-eq c =
    let full = (slice_eq-Decides Decides-eqb c.fill.new.self c.args.masks.now c.eq.result c.eq.ensures).0 c.if-eq.true in
    scanning_full c.args.bytes.now c.args.masks.now _ _ c.fill.new.self full
    (scanning_none c.args.bytes.now c.args.masks.now _ _ c.fill.new.self c.requires.some c.requires.fine refl refl
    (cleared c.args.found.now c.args.masks.now c.fill.new.self c.requires.long (c.fill.ensures.after (λ y e. e))))

pub loop-line-init : goal.loop-line-init
loop-line-init c =
    let it = c.into_iter-line-iterator.ensures.into_iter_gives in
    scanning_none c.args.bytes.now c.args.masks.now _ _ c.fill.new.self c.requires.some c.requires.fine
    (ap (λ i. i.size) it ∙ c.chunks_exact-line-items.ensures.size) (ap (λ i. i.rest.now) it ∙ c.chunks_exact-line-items.ensures.rest)
    (cleared c.args.found.now c.args.masks.now c.fill.new.self c.requires.long (c.fill.ensures.after (λ y e. e)))

pub invariant_of-line : goal.invariant_of-line
invariant_of-line c = record {
  long = line_long _ _ _ _ _ _ _ _ c.loop-line.invariant c.in-Some.ensures.steps.0 c.in-Some.ensures.steps.1;
  fine = line_fine _ _ _ _ _ _ _ _ c.loop-line.invariant c.in-Some.ensures.steps.0 c.in-Some.ensures.steps.1;
}

pub returns-then-eq-2 : goal.returns-then-eq-2
returns-then-eq-2 c =
    let full = (slice_eq-Decides Decides-eqb c.add.new.found c.args.masks.now c.eq-then-lives.result c.eq-then-lives.ensures).0 c.if-eq-2.true in
    scanning_full _ _ _ _ c.add.new.found full
    (scanning_added _ _ _ _ _ _ _ _ c.loop-line.invariant c.in-Some.ensures.steps.0 c.in-Some.ensures.steps.1 c.add.new.found (c.if-lives.ensures.0 refl) c.add.ensures)

pub loop-line-preserved-else-eq-2 : goal.loop-line-preserved-else-eq-2
loop-line-preserved-else-eq-2 c =
    scanning_added _ _ _ _ _ _ _ _ c.loop-line.invariant c.in-Some.ensures.steps.0 c.in-Some.ensures.steps.1 c.add.new.found (c.if-lives.ensures.0 refl) c.add.ensures

pub loop-line-preserved : goal.loop-line-preserved
loop-line-preserved c =
    scanning_skipped _ _ _ _ _ _ _ _ c.loop-line.invariant c.in-Some.ensures.steps.0 c.in-Some.ensures.steps.1 (not_from_Decides c.lives.result c.lives.ensures c.if-lives.false)

pub returns : goal.returns
returns c = scanning_all _ _ _ _ _ c.in-None.ensures.steps.1.0 c.loop-line.invariant
