-- The heights of the open marks, and the rows that they store.
use Rattle.std.proofs.Common.{◌≡◌, ℕ, ◌≤◌, true, leb, List, [], ◌∷◌, ◌++◌, map, length, take, drop, sym, refl, ap, ◌∙◌, subst, arith}
use Rattle.std.proofs.lemmas.List.{length-take-le, take-append-drop, drop-append-le}
use Rattle.std.proofs.lemmas.Bool.{and_parts, and_from, leb-true, le-leb}
use Rattle.banks.specs.Rules.{Sheet}
use Rattle.trail.specs.Readings.{record_of}
use Rattle.trail.specs.Stacks.{held}
use Rattle.trail.specs.Strokes.{restored}
use Rattle.trail.proofs.Stacked.{held_long}
use Rattle.trail.proofs.Restoring.{restored_append}
use Rattle.sheet.specs.Closing.{Splits}
use Rattle.sheet.specs.Sheets.{opened_as, heights_rise}
use Rattle.sheet.specs.declared.mark.OpenMark.{OpenMark}
use Rattle.sheet.specs.declared.sheet.Sheet.{Sheet as Held}

-- the record may grow
pub heights_grow : (low high high' : ℕ) (ms : List OpenMark) → high ≤ high' → heights_rise low ms high ≡ true → heights_rise low ms high' ≡ true
heights_grow low high high' [] h r = le-leb low high' (omega (arith, leb-true low high r))
heights_grow low high high' (m ∷ ms) h r =
    let p = and_parts (leb low m.height) (heights_rise m.height ms high) r in
    and_from (leb low m.height) _ p.0 (heights_grow m.height high high' ms h p.1)

-- a mark is given at the record's present height
pub heights_push : (low high serial : ℕ) (ms : List OpenMark) → heights_rise low ms high ≡ true → heights_rise low (ms ++ record { serial = serial; height = high } ∷ []) high ≡ true
heights_push low high serial [] r = and_from (leb low high) (leb high high) r (le-leb high high (omega arith))
heights_push low high serial (m ∷ ms) r =
    let p = and_parts (leb low m.height) (heights_rise m.height ms high) r in
    and_from (leb low m.height) _ p.0 (heights_push m.height high serial ms p.1)

pub heights_le : (low high : ℕ) (ms : List OpenMark) → heights_rise low ms high ≡ true → low ≤ high
heights_le low high [] r = leb-true low high r
heights_le low high (m ∷ ms) r =
    let p = and_parts (leb low m.height) (heights_rise m.height ms high) r in
    omega (arith, leb-true low m.height p.0, heights_le m.height high ms p.1)

-- the marks before one rise to its height, which the record reaches
pub heights_front : (low high : ℕ) (front later : List OpenMark) (m : OpenMark) → heights_rise low (front ++ m ∷ later) high ≡ true
    → (heights_rise low front m.height ≡ true) × (m.height ≤ high)
heights_front low high [] later m r =
    let p = and_parts (leb low m.height) (heights_rise m.height later high) r in (p.0, heights_le m.height high later p.1)
heights_front low high (x ∷ front) later m r =
    let p = and_parts (leb low x.height) (heights_rise x.height (front ++ m ∷ later) high) r in
    let rest = heights_front x.height high front later m p.1 in (and_from (leb low x.height) _ p.0 rest.0, rest.1)

-- what a mark stores stays when strokes are added, put back over which the rows are the same
pub stored_same : (s s' : Sheet) (strokes new : List ℕ) (low : ℕ) (ms : List OpenMark) → restored s' new ≡ s → heights_rise low ms (length strokes) ≡ true
    → map (opened_as s' (strokes ++ new)) ms ≡ map (opened_as s strokes) ms
stored_same s s' strokes new low [] e r = refl
stored_same s s' strokes new low (m ∷ ms) e r =
    let p = and_parts (leb low m.height) (heights_rise m.height ms (length strokes)) r in
    let within = heights_le m.height (length strokes) ms p.1 in
    let rows : restored s' (drop m.height (strokes ++ new)) ≡ restored s (drop m.height strokes) =
    ap (restored s') (drop-append-le m.height strokes new within) ∙ restored_append s' (drop m.height strokes) new ∙ ap (λ t. restored t (drop m.height strokes)) e
    in
    (λ t. record { serial = m.serial; rows = rows t; height = m.height } ∷ stored_same s s' strokes new m.height ms e p.1 t)

-- and when the record is cut at a height that none of them passes
pub stored_cut : (s s' : Sheet) (strokes : List ℕ) (low height : ℕ) (ms : List OpenMark) → height ≤ length strokes → s' ≡ restored s (drop height strokes)
    → heights_rise low ms height ≡ true → map (opened_as s' (take height strokes)) ms ≡ map (opened_as s strokes) ms
stored_cut s s' strokes low height ms h e r =
    sym (stored_same s' s (take height strokes) (drop height strokes) low ms (sym e) (subst (λ n. heights_rise low ms n ≡ true) (sym (length-take-le height strokes h)) r))
    ∙ ap (λ xs. map (opened_as s xs) ms) (take-append-drop height strokes)

-- the marks that stay open when one is closed
pub heights_closed : (k high : ℕ) (ms front : List OpenMark) (m : OpenMark) → heights_rise 0 ms high ≡ true → Splits k ms front m
    → (heights_rise 0 front m.height ≡ true) × (m.height ≤ high) × (heights_rise 0 front high ≡ true)
heights_closed k high ms front m r split =
    let p = heights_front 0 high front split.later m (subst (λ xs. heights_rise 0 xs high ≡ true) split.whole r) in
    (p.0, p.1, heights_grow 0 m.height high front p.1 p.0)

-- the open marks of a sheet were given at heights that its record reaches
pub heights_recorded : (x : Held) → heights_rise 0 (held x.marks) (length (record_of x.trail)) ≡ true
heights_recorded x = subst (λ n. heights_rise 0 (held x.marks) n ≡ true) (sym (held_long x.trail.struck)) x.heights
