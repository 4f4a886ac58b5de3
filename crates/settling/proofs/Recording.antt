-- The record has each struck choice once, and gives back the rows that were.
use Rattle.std.proofs.Common.{◌≡◌, ℕ, ◌/◌, ◌%◌, ◌<◌, true, List, [], ◌++◌, map, Decides, sym, refl, ap, ◌∙◌, subst, ⊎_elim, arith}
use Rattle.std.proofs.lemmas.Bool.{cases_Bool, both_ways, false≢true}
use Rattle.std.proofs.lemmas.Bool.Decides.{Decides-like}
use Rattle.rows.specs.Choices.{choices, stands}
use Rattle.banks.specs.Names.{among, apart}
use Rattle.banks.specs.Rules.{Sheet, row, Under}
use Rattle.trail.specs.Strokes.{stroke, Struck, lost, strokes_of, Elsewhere}
use Rattle.trail.proofs.Listing.{not_among, among_append, among_either, apart_append, among_map, map_among, apart_map}
use Rattle.trail.proofs.Members.{apart_lost, among_lost}
use Rattle.trail.proofs.Restoring.{stroke_row, stroke_choice, stroke_back}
use Rattle.settling.specs.Settling.{EachOnce}

-- nothing struck
pub each_once_none : (s : Sheet) → EachOnce s s []
each_once_none s = record {
  exact = λ e. ((λ h. absurd (false≢true h)), (λ st. absurd (both_ways (stands (row s (e / choices)) (e % choices)) st.1 st.0)));
  once = refl;
}

-- one row is changed, and a list has the choices that were struck from it
module _ (r : ℕ) (s t : Sheet) (elsewhere : Elsewhere r s t) where
  pub each_once_listed : (xs : List ℕ) → apart xs ≡ true → ((v : ℕ) → Decides (among v xs) ((v < choices) × Struck s t r v)) → EachOnce s t (map (stroke r) xs)
  each_once_listed xs once exact = record { exact = λ e. (found e, listed e); once = apart_map (stroke r) xs (λ v w _ _ e. omega arith) once }
    where
      found : (e : ℕ) → among e (map (stroke r) xs) ≡ true → Struck s t (e / choices) (e % choices)
      found e h =
          let m = map_among (stroke r) e xs h in
          let l = (exact m.0).0 m.1 in
          subst (λ x. Struck s t (x / choices) (x % choices)) (sym m.2)
          (subst (λ k. Struck s t k (stroke r m.0 % choices)) (sym (stroke_row r m.0 l.0)) (subst (Struck s t r) (sym (stroke_choice r m.0 l.0)) l.1))

      -- a row that does not differ has no struck choice
      here : (e : ℕ) → Struck s t (e / choices) (e % choices) → e / choices ≡ r
      here e st =
          grind (arith, st.0, st.1, elsewhere.other (e / choices))

      listed : (e : ℕ) → Struck s t (e / choices) (e % choices) → among e (map (stroke r) xs) ≡ true
      listed e st =
          let at = here e st in
          let is : stroke r (e % choices) ≡ e = ap (λ k. stroke k (e % choices)) (sym at) ∙ stroke_back e in
          subst (λ x. among x (map (stroke r) xs) ≡ true) is
          (among_map (stroke r) (e % choices) xs ((exact (e % choices)).1 (omega arith, subst (λ k. Struck s t k (e % choices)) at st)))

  -- as that of the choices that the row lost
  pub each_once_row : EachOnce s t (strokes_of r (row s r) (row t r))
  each_once_row =
      each_once_listed (lost (row s r) (row t r)) (apart_lost (row s r) (row t r))
      (λ v. Decides-like (among v (lost (row s r) (row t r))) (λ h. (h.0, (h.1, h.2))) (λ h. (h.0, h.1.0, h.1.1)) (among_lost (row s r) (row t r) v))

-- first some are struck, then others
pub each_once_more : (s t u : Sheet) (es fs : List ℕ) → Under t s → Under u t → EachOnce s t es → EachOnce t u fs → EachOnce s u (es ++ fs)
each_once_more s t u es fs low lower a b = record {
  exact = λ e. (
    (λ h. ⊎_elim (early e) (late e) (among_either e es fs h)),
    (λ st. ⊎_elim (λ on. let late = (b.exact e).1 (on, st.1) in grind (arith, among_append e es fs))
        (λ off. let early = (a.exact e).1 (st.0, off) in grind (arith, among_append e es fs)) (cases_Bool (stands (row t (e / choices)) (e % choices)))),
  );
  once = apart_append es fs a.once b.once (λ e h. not_among e fs (λ k. both_ways (stands (row t (e / choices)) (e % choices)) ((a.exact e).0 h).1 ((b.exact e).0 k).0));
}
  where
    early : (e : ℕ) → among e es ≡ true → Struck s u (e / choices) (e % choices)
    early e h =
        let st = (a.exact e).0 h in
        let r = e / choices in
        let v = e % choices in
        (st.0, grind (arith, st.1, lower.part r v))

    late : (e : ℕ) → among e fs ≡ true → Struck s u (e / choices) (e % choices)
    late e h = let st = (b.exact e).0 h in (low.part (e / choices) (e % choices) st.0, st.1)
