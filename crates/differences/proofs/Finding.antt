-- What is sought at a sum, by the tests of a mask that find it.
use Rattle.std.proofs.Common.{◌≡◌, ℕ, ◌+◌, ◌-◌, ◌/◌, ◌^◌, ◌<◌, ◌≤◌, Bool, true, false, not, eqb, leb, ℤ, pos, negsuc, nat_abs, Decides, Some, None, Option, MatchOption, Ok, Err, Result, MatchResult, sym, refl, ap, ◌∙◌, subst, arith}
use lib.Pow.{shr_le}
use lib.Signed.{mag, le_z, lt_z}
use Rattle.std.specs.Int.{FitsUnsignedBits}
use Rattle.std.specs.Result.{OkIff}
use Rattle.std.proofs.lemmas.Int.{ints}
use Rattle.std.proofs.lemmas.Bool.{true≢false, leb-true, le-leb, both_ways, not-true, eqb-false}
use Rattle.std.proofs.lemmas.Bool.Decides.{Decides-like, nat_tests}
use Rattle.rows.specs.Choices.{stands, Without, Lowest, Walks}
use Rattle.rows.proofs.Masks.{some_decides, stands_shr, stands_high, stands_below, without_stood, without_stays}
use Rattle.differences.specs.Differences.{same}
use Rattle.differences.specs.Partners.{Finds, another, at_least, at_most}

-- a sum that is not below 0 is a natural number
pub non_negative : (z : ℤ) → lt_z z (pos 0) ≡ false → z ≡ pos (nat_abs z)
non_negative (pos n) e = refl
non_negative (negsuc n) e = absurd (true≢false e)

pub same_pos : (a b : ℕ) → same (pos a) (pos b) ≡ eqb a b
same_pos a b = grind (arith, nat_tests)

module _ (n m : ℕ) (z : ℤ) (small : m < 2 ^ n) where
  -- below 0, any choice is another
  pub another_below : lt_z z (pos 0) ≡ true → Decides (not (eqb m 0)) (Finds (another z) m)
  another_below b = Decides-like _ (λ st. (st.0, st.1, other st.0)) (λ f. (f.0, f.1)) (some_decides n m small)
    where
      other : (w : ℕ) → not (same z (pos w)) ≡ true
      other w = grind (arith, ints)

  -- from 0 on, one that is left without it
  pub another_without : (k r : ℕ) → z ≡ pos k → r < 2 ^ n → Without k m r → Decides (not (eqb r 0)) (Finds (another z) m)
  another_without k r e h out = Decides-like _ there back (some_decides n r h)
    where
      apart : (w : ℕ) → not (same z (pos w)) ≡ not (eqb k w)
      apart w = ap not (ap (λ x. same x (pos w)) e ∙ same_pos k w)

      there : (w : ℕ) × (stands r w ≡ true) → Finds (another z) m
      there st = let stood = without_stood m k r st.0 out st.1 in (st.0, stood.0, apart st.0 ∙ grind (arith, nat_tests))

      back : Finds (another z) m → (w : ℕ) × (stands r w ≡ true)
      back f =
          let differ : k ≡ f.0 → ⊥ = eqb-false k f.0 (not-true (eqb k f.0) (sym (apart f.0) ∙ f.2)) in
          (f.0, without_stays m k r f.0 out f.1 (λ e. differ (sym e)))

  -- which the conversion of the sum to a choice decides
  pub another_tried : {E : Type 0} (P : ℕ → Type 0) (o : Result ℕ E) (r : ℕ) → mag z < 2 ^ 63 → OkIff o (FitsUnsignedBits 64 z) (nat_abs z)
      → MatchResult o P (λ _. r ≡ m) → r < 2 ^ n → ((k : ℕ) → P k → Without k m r) → Decides (not (eqb r 0)) (Finds (another z) m)
  another_tried P (Ok k) r low tried says h out = another_without k r (whole z tried.0 ∙ ap pos (sym tried.1)) h (out k says)
    where
      whole : (y : ℤ) → FitsUnsignedBits 64 y → y ≡ pos (nat_abs y)
      whole (pos i) f = refl
      whole (negsuc i) f = absurd f
  another_tried P (Err e) r low tried says h out = subst (λ x. Decides (not (eqb x 0)) (Finds (another z) m)) (sym says) (another_below (below z low tried))
    where
      below : (y : ℤ) → mag y < 2 ^ 63 → (FitsUnsignedBits 64 y → ⊥) → lt_z y (pos 0) ≡ true
      below (pos i) l f = absurd (f (omega arith))
      below (negsuc i) l f = refl

  -- at 0 and below, any choice is at or above
  pub at_least_any : le_z z (pos 0) ≡ true → Decides (not (eqb m 0)) (Finds (at_least z) m)
  at_least_any b = Decides-like _ (λ st. (st.0, st.1, above st.0)) (λ f. (f.0, f.1)) (some_decides n m small)
    where
      above : (w : ℕ) → le_z z (pos w) ≡ true
      above w = grind (arith, ints)

  -- past the last choice, none
  pub at_least_none : le_z (pos n) z ≡ true → Decides false (Finds (at_least z) m)
  at_least_none b = ((λ e. absurd (true≢false (sym e))), (λ f. absurd (no_more f.0 (stands_below n m f.0 small f.1) f.2)))
    where
      no_more : (w : ℕ) → w < n → le_z z (pos w) ≡ true → ⊥
      no_more w h e = grind (arith, ints)

  -- else those that are left by a shift
  pub at_least_shifted : (k : ℕ) → z ≡ pos k → Decides (not (eqb (m / 2 ^ k) 0)) (Finds (at_least z) m)
  at_least_shifted k e = Decides-like _ there back (some_decides n (m / 2 ^ k) (omega (arith, shr_le m k)))
    where
      above : (w : ℕ) → le_z z (pos w) ≡ leb k w
      above w = ap (λ x. le_z x (pos w)) e

      there : (v : ℕ) × (stands (m / 2 ^ k) v ≡ true) → Finds (at_least z) m
      there st = (k + st.0, sym (stands_shr m k st.0) ∙ st.1, above (k + st.0) ∙ le-leb k (k + st.0) (omega arith))

      back : Finds (at_least z) m → (v : ℕ) × (stands (m / 2 ^ k) v ≡ true)
      back f =
          let h : k ≤ f.0 = leb-true k f.0 (sym (above f.0) ∙ f.2) in
          let e : k + (f.0 - k) ≡ f.0 = omega arith in
          (f.0 - k, stands_shr m k (f.0 - k) ∙ ap (stands m) e ∙ f.1)

-- in the mask 0 there is none
pub at_most_none : (m : ℕ) (z : ℤ) → m ≡ 0 → Decides false (Finds (at_most z) m)
at_most_none m z e = ((λ t. absurd (true≢false (sym t))), (λ f. absurd (both_ways (stands 0 f.0) (stands_high 0 0 f.0 (omega arith) (omega arith)) (subst (λ x. stands x f.0 ≡ true) e f.1))))

-- the lowest choice decides whether one is at or below
pub at_most_lowest : (m v : ℕ) (z : ℤ) (b : Bool) → Lowest m v → b ≡ le_z (pos v) z → Decides b (Finds (at_most z) m)
at_most_lowest m v z b low e = ((λ t. (v, low.here, sym e ∙ t)), (λ f. e ∙ lower f.0 (not_under f.0 f.1) f.2))
  where
    not_under : (w : ℕ) → stands m w ≡ true → w < v → ⊥
    not_under w s h = both_ways (stands m w) (low.below w h) s

    lower : (w : ℕ) → (w < v → ⊥) → le_z (pos w) z ≡ true → le_z (pos v) z ≡ true
    lower w h t = grind (arith, ints)

-- which is the first of a walk
pub at_most_first : (P : ℕ → Type 0) (m : ℕ) (z : ℤ) (o : Option ℕ) (after : ℕ) (b : Bool) → Walks m o after → MatchOption o (b ≡ false) P
    → ((v : ℕ) → P v → b ≡ le_z (pos v) z) → Decides b (Finds (at_most z) m)
at_most_first P m z None after b w e says = subst (λ x. Decides x (Finds (at_most z) m)) (sym e) (at_most_none m z w.0)
at_most_first P m z (Some v) after b w e says = at_most_lowest m v z b w.0 (says v e)

pub above_zero : (z : ℤ) → le_z z (pos 0) ≡ false → z ≡ pos (nat_abs z)
above_zero z e = non_negative z (grind (arith, ints))
