-- The choices that are struck between two sheets, as a list that can be computed, and a test that it has each once.
use Rattle.std.proofs.Common.{◌≡◌, ℕ, ◌*◌, ◌/◌, ◌%◌, ◌<◌, ◌≤◌, Bool, true, false, cond, not, ◌&&◌, eqb, ltb, List, [], ◌∷◌, length, sym, refl, ap, ◌∙◌, ⊎_elim, arith}
use Rattle.std.specs.List.{range_with_len, flat_map}
use Rattle.std.proofs.lemmas.Nat.{le-div}
use Rattle.std.proofs.lemmas.List.{get_or_past}
use Rattle.std.proofs.lemmas.Bool.{and_parts, and_from, or_cases, eqb-true, ltb-true, cases_lt, both_ways, not-true, false≢true}
use Rattle.rows.specs.Choices.{choices, stands}
use Rattle.rows.proofs.Masks.{stands_zero}
use Rattle.banks.specs.Names.{among, apart, below}
use Rattle.banks.specs.Rules.{Sheet, row}
use Rattle.trail.specs.Strokes.{Struck, strokes_of}
use Rattle.settling.specs.Settling.{EachOnce}
use Rattle.history_cases.proofs.Small.{every, every_at}

-- row by row, in rising order
abbrev pub struck_between : Sheet → Sheet → List ℕ
struck_between s t = flat_map (λ r. strokes_of r (row s r) (row t r)) (range_with_len 0 (length s))

-- whether a choice was struck
abbrev was_struck : Sheet → Sheet → ℕ → Bool
was_struck s t e = stands (row s (e / choices)) (e % choices) && not (stands (row t (e / choices)) (e % choices))

abbrev alike : Bool → Bool → Bool
alike a b = cond a b (not b)

alike_same : (a b : Bool) → alike a b ≡ true → a ≡ b
alike_same true true e = refl
alike_same true false e = sym e
alike_same false true e = e
alike_same false false e = refl

below_among : (n e : ℕ) (es : List ℕ) → below n es ≡ true → among e es ≡ true → e < n
below_among n e [] b a = absurd (false≢true a)
below_among n e (x ∷ es) b a =
    let p = and_parts (ltb x n) (below n es) b in
    ⊎_elim (λ at. omega (arith, eqb-true e x at, ltb-true x n p.0)) (below_among n e es p.1) (or_cases (eqb e x) (among e es) a)

-- the numbers row × 64 + choice of all rows are those below this one
abbrev spots : Sheet → ℕ
spots s = length s * choices

-- a list agrees with that on each of them, and has nothing beyond
abbrev agree : Sheet → Sheet → List ℕ → Bool
agree s t es = every (λ e. alike (among e es) (was_struck s t e)) (spots s)

abbrev pub each_once : Sheet → Sheet → List ℕ → Bool
each_once s t es = agree s t es && below (spots s) es && apart es

pub each_once_holds : (s t : Sheet) (es : List ℕ) → each_once s t es ≡ true → EachOnce s t es
each_once_holds s t es test = record { exact = λ e. (found e, listed e); once = (and_parts (agree s t es && below (spots s) es) (apart es) test).1 }
  where
    parts : (agree s t es ≡ true) × (below (spots s) es ≡ true)
    parts = and_parts (agree s t es) (below (spots s) es) (and_parts (agree s t es && below (spots s) es) (apart es) test).0

    agrees : (e : ℕ) → e < spots s → among e es ≡ was_struck s t e
    agrees e h = alike_same (among e es) (was_struck s t e) (every_at (λ x. alike (among x es) (was_struck s t x)) (spots s) e parts.0 h)

    found : (e : ℕ) → among e es ≡ true → Struck s t (e / choices) (e % choices)
    found e a =
        let p = and_parts (stands (row s (e / choices)) (e % choices)) (not (stands (row t (e / choices)) (e % choices))) (sym (agrees e (below_among (spots s) e es parts.1 a)) ∙ a) in
        (p.0, not-true (stands (row t (e / choices)) (e % choices)) p.1)

    past : (e : ℕ) → spots s ≤ e → stands (row s (e / choices)) (e % choices) ≡ false
    past e h = ap (λ m. stands m (e % choices)) (get_or_past s (e / choices) 0 (le-div (length s) e choices (omega arith) h)) ∙ stands_zero (e % choices)

    listed : (e : ℕ) → Struck s t (e / choices) (e % choices) → among e es ≡ true
    listed e st =
        ⊎_elim (λ h. agrees e h ∙ and_from (stands (row s (e / choices)) (e % choices)) (not (stands (row t (e / choices)) (e % choices))) st.0 (ap not st.1))
        (λ h. absurd (both_ways (stands (row s (e / choices)) (e % choices)) (past e h) st.0)) (cases_lt e (spots s))
