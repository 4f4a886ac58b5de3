-- Strikes from one row: what the record gets holds each struck choice once.
use Rattle.std.proofs.Common.{◌≡◌, ℕ, ◌<◌, true, false, not, ◌&&◌, eqb, ltb, List, [], ◌∷◌, map, filter, sym, refl, ap, ◌∙◌, subst, ⊎_elim, arith}
use Rattle.std.proofs.lemmas.Bool.{cases_Bool, eqb-true, eq-eqb, lt-ltb, and_parts, and_from, and_right, both_ways, not-true, or_cases, or_left, true≢false}
use Rattle.rows.specs.Choices.{choices, stands, members, Only, Without}
use Rattle.rows.proofs.Masks.{without_stood}
use Rattle.banks.specs.Names.{among}
use Rattle.banks.specs.Rules.{Sheet, row, Under}
use Rattle.trail.specs.Strokes.{stroke, Struck, Elsewhere}
use Rattle.trail.proofs.Listing.{among_kept, apart_kept}
use Rattle.trail.proofs.Members.{among_members, apart_members}
use Rattle.settling.specs.Settling.{EachOnce}
use Rattle.settling.proofs.Chaining.{elsewhere_under}
use Rattle.settling.proofs.Recording.{each_once_listed}
use Rattle.histories.specs.Laws.{rising}
use Rattle.histories.proofs.Listed.{rising_map, rising_kept, members_rising}

-- strokes of one row rise with their choices
stroke_up : (r x y : ℕ) → x < y → stroke r x < stroke r y
stroke_up r x y h = omega arith

pub strokes_rising : (r : ℕ) (xs : List ℕ) → rising xs ≡ true → rising (map (stroke r) xs) ≡ true
strokes_rising r xs = rising_map (stroke r) (stroke_up r) xs

-- the choices of a row but one
abbrev pub others : Sheet → ℕ → ℕ → List ℕ
others s r v = filter (λ w. not (eqb w v)) (members (row s r))

pub others_rising : (s : Sheet) (r v : ℕ) → rising (others s r v) ≡ true
others_rising s r v = rising_kept (λ w. not (eqb w v)) (members (row s r)) (members_rising (row s r))

-- a choice that stands is struck
module _ (s t : Sheet) (r v : ℕ) (elsewhere : Elsewhere r s t) (low : v < choices) (stood : stands (row s r) v ≡ true) where
  module _ (here : Without v (row s r) (row t r)) where
    pub strike_under : Under t s
    strike_under = elsewhere_under r s t elsewhere (λ w h. (without_stood (row s r) v (row t r) w here h).0)

    pub strike_each : EachOnce s t (stroke r v ∷ [])
    strike_each = each_once_listed r s t elsewhere (v ∷ []) refl (λ w. (is w, was w))
      where
        is : (w : ℕ) → among w (v ∷ []) ≡ true → (w < choices) × Struck s t r w
        is w m =
            let same : w ≡ v = ⊎_elim (eqb-true w v) (λ z. absurd (true≢false (sym z))) (or_cases (eqb w v) false m) in
            (subst (λ x. x < choices) (sym same) low, (ap (stands (row s r)) same ∙ stood, here w ∙ and_right (stands (row s r) w) (not (eqb w v)) (ap not (eq-eqb w v same))))

        was : (w : ℕ) → (w < choices) × Struck s t r w → among w (v ∷ []) ≡ true
        was w k =
            or_left (eqb w v) false
            (⊎_elim (λ e. e) (λ f. absurd (both_ways (stands (row t r) w) k.1.1 (here w ∙ ap (λ b. b && not (eqb w v)) k.1.0 ∙ ap not f))) (cases_Bool (eqb w v)))

  -- every other choice is struck
  module _ (here : Only v (row t r)) where
    pub hold_under : Under t s
    hold_under =
        elsewhere_under r s t elsewhere (λ w h. ap (stands (row s r)) (eqb-true w v (and_parts (eqb w v) (ltb v choices) (sym (here w) ∙ h)).0) ∙ stood)

    pub hold_each : EachOnce s t (map (stroke r) (others s r v))
    hold_each = each_once_listed r s t elsewhere (others s r v) (apart_kept (λ w. not (eqb w v)) (members (row s r)) (apart_members (row s r))) (λ w. (is w, was w))
      where
        same : (w : ℕ) → among w (others s r v) ≡ (among w (members (row s r)) && not (eqb w v))
        same w = among_kept (λ u. not (eqb u v)) w (members (row s r))

        gone : (w : ℕ) → eqb w v ≡ false → stands (row t r) w ≡ false
        gone w f = here w ∙ ap (λ b. b && ltb v choices) f

        is : (w : ℕ) → among w (others s r v) ≡ true → (w < choices) × Struck s t r w
        is w m =
            let kept = and_parts (among w (members (row s r))) (not (eqb w v)) (sym (same w) ∙ m) in
            let member = (among_members (row s r) w).0 kept.0 in
            (member.0, (member.1, gone w (not-true (eqb w v) kept.1)))

        was : (w : ℕ) → (w < choices) × Struck s t r w → among w (others s r v) ≡ true
        was w k =
            same w
            ∙ and_from (among w (members (row s r))) (not (eqb w v)) ((among_members (row s r) w).1 (k.0, k.1.0))
            (⊎_elim (λ e. absurd (both_ways (stands (row t r) w) k.1.1 (here w ∙ and_from (eqb w v) (ltb v choices) e (lt-ltb v choices low)))) (λ f. ap not f) (cases_Bool (eqb w v)))
