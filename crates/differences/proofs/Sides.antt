-- A difference seen from either of its rows: the partners y of x are sought at x + c, and the partners x of y at y - c.
use Rattle.std.proofs.Common.{◌≡◌, ℕ, zero, suc, ◌%◌, ◌^◌, ◌<◌, Bool, true, eqb, ℤ, pos, negsuc, ◌+ℤ◌, ◌-ℤ◌, neg_ℤ, nat_abs, Decides, w32, w64, to_z, of_z, sym, refl, ap, ◌∙◌, subst, arith}
use lib.Signed.{le_z}
use Rattle.std.proofs.lemmas.Int.{ints}
use Rattle.std.proofs.lemmas.Bool.{and_parts, ltb-true}
use Rattle.std.proofs.lemmas.Bool.Decides.{Decides-like}
use Rattle.rows.specs.Choices.{choices, Kept, KeptBy}
use Rattle.rows.proofs.Masks.{stands_below}
use Rattle.rows.proofs.Keeping.{kept_from}
use Rattle.differences.specs.Checks.{in_bounds, offset_fits, modulus_fits}
use Rattle.differences.specs.Differences.{same, multiple, relates}
use Rattle.differences.specs.Partners.{Finds}
use Rattle.differences.specs.declared.difference.Difference.{Difference}

nat_abs_neg : (z : ℤ) → nat_abs (neg_ℤ z) ≡ nat_abs z
nat_abs_neg (pos zero) = refl
nat_abs_neg (pos (suc n)) = refl
nat_abs_neg (negsuc n) = refl

-- what x + c is to y, x is to y - c
module _ (c : ℤ) (x y : ℕ) where
  pub same_turned : same (pos y -ℤ c) (pos x) ≡ same (pos x +ℤ c) (pos y)
  same_turned = grind (arith, ints)

  pub at_most_turned : le_z (pos x) (pos y -ℤ c) ≡ le_z (pos x +ℤ c) (pos y)
  at_most_turned = grind (arith, ints)

  pub multiple_turned : (m : ℕ) → multiple m ((pos y -ℤ c) -ℤ pos x) ≡ multiple m ((pos x +ℤ c) -ℤ pos y)
  multiple_turned m =
      let turned : (pos y -ℤ c) -ℤ pos x ≡ neg_ℤ ((pos x +ℤ c) -ℤ pos y) = omega (arith, ints) in
      ap (λ n. eqb (n % m) 0) (ap nat_abs turned ∙ nat_abs_neg ((pos x +ℤ c) -ℤ pos y))

-- a test that finds what is sought at a sum decides whether a choice there relates
found_like : (sought : ℤ → ℕ → Bool) (relating : ℕ → Bool) (m : ℕ) (b : Bool) (s z : ℤ) → s ≡ z → ((w : ℕ) → sought z w ≡ relating w)
    → Decides b (Finds (sought s) m) → Decides b (Finds relating m)
found_like sought relating m b s z e same d =
    Decides-like b (λ f. (f.0, f.1, sym (same f.0) ∙ f.2)) (λ f. (f.0, f.1, same f.0 ∙ f.2)) (subst (λ x. Decides b (Finds (sought x) m)) e d)

-- an offset c, as a word, and a choice make a sum that a word holds
module _ (c word : ℤ) (v : ℕ) (small : nat_abs c < choices) (is : word ≡ to_z w32 (of_z w32 c)) (low : v < choices) where
  sum_fits : to_z w64 (of_z w64 (pos v +ℤ to_z w64 (of_z w64 word))) ≡ pos v +ℤ c
  sum_fits = omega (arith, ints)

  gap_fits : to_z w64 (of_z w64 (pos v -ℤ to_z w64 (of_z w64 word))) ≡ pos v -ℤ c
  gap_fits = omega (arith, ints)

-- the choices that are kept of either row, by tests that find what is sought at their sums
module _ (d : Difference) (bounds : in_bounds d ≡ true) (word : ℤ) (is : word ≡ to_z w32 (of_z w32 d.offset)) (Says : ℕ → Bool → Type 0) (sought : ℤ → ℕ → Bool) (own others r : ℕ)
    (fits : own < 2 ^ choices) (kept : KeptBy Says own r) where
  small : nat_abs d.offset < choices
  small = ltb-true (nat_abs d.offset) choices (and_parts (offset_fits d.offset) (modulus_fits d.relation) bounds).0

  pub kept_of_x : ((x y : ℕ) → sought (pos x +ℤ d.offset) y ≡ relates d.relation d.offset x y)
      → ((v : ℕ) (b : Bool) → Says v b → (s : ℤ) × (s ≡ to_z w64 (of_z w64 (pos v +ℤ to_z w64 (of_z w64 word)))) × Decides b (Finds (sought s) others))
      → Kept (λ x. Finds (λ y. relates d.relation d.offset x y) others) own r
  kept_of_x same tests = kept_from Says (λ x. Finds (λ y. relates d.relation d.offset x y) others) own r kept
      (λ v b s says. let t = tests v b says in found_like sought (λ y. relates d.relation d.offset v y) others b t.0 (pos v +ℤ d.offset) (t.1 ∙ sum_fits d.offset word v small is (stands_below choices own v fits s)) (same v) t.2)

  pub kept_of_y : ((x y : ℕ) → sought (pos y -ℤ d.offset) x ≡ relates d.relation d.offset x y)
      → ((v : ℕ) (b : Bool) → Says v b → (s : ℤ) × (s ≡ to_z w64 (of_z w64 (pos v -ℤ to_z w64 (of_z w64 word)))) × Decides b (Finds (sought s) others))
      → Kept (λ y. Finds (λ x. relates d.relation d.offset x y) others) own r
  kept_of_y same tests = kept_from Says (λ y. Finds (λ x. relates d.relation d.offset x y) others) own r kept
      (λ v b s says. let t = tests v b says in found_like sought (λ x. relates d.relation d.offset x v) others b t.0 (pos v -ℤ d.offset) (t.1 ∙ gap_fits d.offset word v small is (stands_below choices own v fits s)) (λ x. same x v) t.2)
