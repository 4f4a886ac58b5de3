-- One test of a case that is computed, and that a case which passes it holds.
use Rattle.std.proofs.Common.{◌≡◌, ℕ, zero, suc, ◌^◌, Bool, true, false, ◌&&◌, eqb, ltb, List, [], ◌∷◌, map, length, replicate, Decides, sym, refl, ◌∙◌, subst, ap₂, arith, pow_pos}
use Rattle.std.specs.List.{range_with_len, AllByRecursion}
use Rattle.std.proofs.lemmas.List.FromFn.{get_or-map-range_with_len, length-map-range_with_len}
use Rattle.std.proofs.lemmas.List.{get_or_past, length-replicate}
use Rattle.std.proofs.lemmas.Bool.{and_parts, eqb-true, ltb-true}
use Rattle.rows.specs.Choices.{choices, stands, members}
use Rattle.banks.specs.Calls.{Shows}
use Rattle.banks.specs.Rules.{Sheet, Rule, arity, SupportAt}
use Rattle.diagrams.specs.Diagrams.{path}
use Rattle.cases.specs.Cases.{Case, supports, Holds, table, CasesHold}
use Rattle.cases.proofs.Tuples.{Small, live_tuples, at_place, support_decides}

abbrev pub small : Sheet → Bool
small [] = true
small (m ∷ s) = ltb m (2 ^ choices) && small s

pub small_rows : (s : Sheet) → small s ≡ true → Small s
small_rows [] e r = pow_pos choices
small_rows (m ∷ s) e zero = ltb-true m (2 ^ choices) (and_parts (ltb m (2 ^ choices)) (small s) e).0
small_rows (m ∷ s) e (suc r) = small_rows s (and_parts (ltb m (2 ^ choices)) (small s) e).1 r

abbrev pub same : List ℕ → List ℕ → Bool
same [] [] = true
same [] (y ∷ ys) = false
same (x ∷ xs) [] = false
same (x ∷ xs) (y ∷ ys) = eqb x y && same xs ys

pub same_lists : (xs ys : List ℕ) → same xs ys ≡ true → xs ≡ ys
same_lists [] [] e = refl
same_lists [] (y ∷ ys) e = absurd (let z : ◌≡◌ {A = ℕ} 0 1 = cc in omega arith)
same_lists (x ∷ xs) [] e = absurd (let z : ◌≡◌ {A = ℕ} 0 1 = cc in omega arith)
same_lists (x ∷ xs) (y ∷ ys) e =
    let p = and_parts (eqb x y) (same xs ys) e in ap₂ (λ (a : ℕ) (rest : List ℕ). a ∷ rest) (eqb-true x y p.0) (same_lists xs ys p.1)

-- the masks of the choices that the live tuples have at each place
abbrev shown : Sheet → Rule → List ℕ
shown s R = map (λ p. at_place p (live_tuples s R)) (range_with_len 0 (arity R))

zeros : ℕ → List ℕ
zeros n = replicate n 0

zeros_long : (n : ℕ) → length (zeros n) ≡ n
unfolding zeros
zeros_long n = length-replicate n 0

shown_shows : (s : Sheet) (R : Rule) → Small s → Shows s R (replicate (arity R) 0) (shown s R)
unfolding zeros
shown_shows s R low = record {
  long = length-map-range_with_len at 0 (arity R) ∙ sym (length-replicate (arity R) 0);
  exact = λ p v h. subst (λ m. Decides (stands m v) (SupportAt s R p v)) (sym (get_or-map-range_with_len at 0 (arity R) p p 0 h (omega arith))) (support_decides s R low p v h);
  beyond = λ p h. get_or_past (shown s R) p 0 (omega (arith, length-map-range_with_len at 0 (arity R))) ∙ sym (get_or_past (zeros (arity R)) p 0 (omega (arith, zeros_long (arity R))));
}
  where
    at : ℕ → ℕ
    at p = at_place p (live_tuples s R)

abbrev passes : Case → Bool
passes (supports R s masks) = small s && same masks (shown s R)

passes_holds : (c : Case) → passes c ≡ true → Holds c
passes_holds (supports R s masks) e =
    let p = and_parts (small s) (same masks (shown s R)) e in
    subst (Shows s R (replicate (arity R) 0)) (sym (same_lists masks (shown s R) p.1)) (shown_shows s R (small_rows s p.0))

abbrev all_pass : List Case → Bool
all_pass [] = true
all_pass (c ∷ cs) = passes c && all_pass cs

all_hold : (cs : List Case) → all_pass cs ≡ true → AllByRecursion Holds cs
all_hold [] e = tt
all_hold (c ∷ cs) e = let p = and_parts (passes c) (all_pass cs) e in (passes_holds c p.0, all_hold cs p.1)

pub cases_hold : CasesHold
unfolding members stands path
cases_hold = all_hold table refl
