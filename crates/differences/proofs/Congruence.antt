-- A sum and a choice are congruent exactly where they leave the same remainder.
use Rattle.std.proofs.Common.{◌≡◌, ℕ, suc, ◌+◌, ◌-◌, ◌*◌, ◌/◌, ◌%◌, ◌<◌, ◌≤◌, Bool, eqb, ◌⊎◌, ℤ, pos, negsuc, ◌+ℤ◌, ◌-ℤ◌, nat_abs, Decides, sym, refl, ap, ◌∙◌, inl, inr, ⊎_elim, add-zero, mul-le-mul_left, div-add-mod', mul-one, arith}
use native.Mathlib.Nat.{add-mod, mul-mod_left, add-mul-mod_self_right, mod-mod, mul-add-mod_self_right}
use lib.Signed.{le_z}
use Rattle.std.specs.Int.{int_rem_euclid}
use Rattle.std.proofs.lemmas.Int.{ints, int_rem_euclid_is}
use Rattle.std.proofs.lemmas.Bool.{and_parts, and_from}
use Rattle.std.proofs.lemmas.Bool.Decides.{Decides-eqb, Decides-like}
use Rattle.rows.specs.Choices.{stands}
use Rattle.differences.specs.Differences.{same, multiple}
use Rattle.differences.specs.Partners.{Finds, Leaves, itself}

-- a step of d keeps the remainder exactly where d is a multiple
step_keeps : (x d m : ℕ) → d % m ≡ 0 → (x + d) % m ≡ x % m
step_keeps x d m e = add-mod x d m ∙ ap (λ n. (x % m + n) % m) e ∙ ap (λ n. n % m) (add-zero (x % m)) ∙ mod-mod x m

kept_divides : (x d m : ℕ) → (x + d) % m ≡ x % m → d % m ≡ 0
kept_divides x d m e =
    let far = div-add-mod' (x + d) m in
    let near = div-add-mod' x m in
    let gap : x / m * m + d ≡ (x + d) / m * m = omega arith in
    sym (mul-add-mod_self_right (x / m) m d) ∙ ap (λ n. n % m) gap ∙ mul-mod_left ((x + d) / m) m

-- a whole number is its size, or 0 is its size above it
size_cases : (y : ℤ) → (y ≡ pos (nat_abs y)) ⊎ (y +ℤ pos (nat_abs y) ≡ pos 0)
size_cases (pos n) = inl refl
size_cases (negsuc n) = inr (omega (arith, ints))

-- some multiple of m lifts z to a natural number
lifted : (z : ℤ) (m : ℕ) → 0 < m → (a : ℕ) × (z +ℤ pos (nat_abs z * m) ≡ pos a)
lifted (pos n) m h = (n + n * m, refl)
lifted (negsuc n) m h = let wide : suc n * 1 ≤ suc n * m = mul-le-mul_left (suc n) h in (suc n * m - suc n, omega (arith, ints, mul-one (suc n)))

-- which leaves the remainder of w exactly where m divides the distance of z and w
same_remainder : (m w a k : ℕ) (z : ℤ) → z +ℤ pos (k * m) ≡ pos a → Decides (multiple m (z -ℤ pos w)) (a % m ≡ w % m)
same_remainder m w a k z e =
    let d = nat_abs (z -ℤ pos w) in Decides-like (eqb (d % m) 0) (⊎_elim above below (size_cases (z -ℤ pos w))) (⊎_elim from_above from_below (size_cases (z -ℤ pos w))) (Decides-eqb (d % m) 0)
  where
    over : z -ℤ pos w ≡ pos (nat_abs (z -ℤ pos w)) → a % m ≡ (w + nat_abs (z -ℤ pos w)) % m
    over s = let sum : a ≡ (w + nat_abs (z -ℤ pos w)) + k * m = omega (arith, ints) in ap (λ n. n % m) sum ∙ add-mul-mod_self_right (w + nat_abs (z -ℤ pos w)) k m

    under : (z -ℤ pos w) +ℤ pos (nat_abs (z -ℤ pos w)) ≡ pos 0 → w % m ≡ (a + nat_abs (z -ℤ pos w)) % m
    under s = let sum : w + k * m ≡ a + nat_abs (z -ℤ pos w) = omega (arith, ints) in sym (add-mul-mod_self_right w k m) ∙ ap (λ n. n % m) sum

    above : z -ℤ pos w ≡ pos (nat_abs (z -ℤ pos w)) → nat_abs (z -ℤ pos w) % m ≡ 0 → a % m ≡ w % m
    above s t = over s ∙ step_keeps w (nat_abs (z -ℤ pos w)) m t

    below : (z -ℤ pos w) +ℤ pos (nat_abs (z -ℤ pos w)) ≡ pos 0 → nat_abs (z -ℤ pos w) % m ≡ 0 → a % m ≡ w % m
    below s t = sym (under s ∙ step_keeps a (nat_abs (z -ℤ pos w)) m t)

    from_above : z -ℤ pos w ≡ pos (nat_abs (z -ℤ pos w)) → a % m ≡ w % m → nat_abs (z -ℤ pos w) % m ≡ 0
    from_above s t = kept_divides w (nat_abs (z -ℤ pos w)) m (sym (over s) ∙ t)

    from_below : (z -ℤ pos w) +ℤ pos (nat_abs (z -ℤ pos w)) ≡ pos 0 → a % m ≡ w % m → nat_abs (z -ℤ pos w) % m ≡ 0
    from_below s t = kept_divides a (nat_abs (z -ℤ pos w)) m (sym (under s) ∙ sym t)

-- so the sum and the choice are congruent exactly where they leave the same remainder
pub congruent_decides : (m w : ℕ) (z : ℤ) → 0 < m → Decides (multiple m (z -ℤ pos w)) (int_rem_euclid z (pos m) ≡ pos (w % m))
congruent_decides m w z h =
    let a = lifted z m h in
    let rem = int_rem_euclid_is z (pos m) m (nat_abs z) a.0 h refl a.1 in
    Decides-like (multiple m (z -ℤ pos w)) (λ e. rem ∙ ap pos e) (λ e. ap nat_abs (sym rem ∙ e)) (same_remainder m w a.0 (nat_abs z) z a.1)

-- a sum is the same as a natural number
same_nat : (z : ℤ) (u : ℕ) → Decides (same z (pos u)) (z ≡ pos u)
same_nat z u = ((λ e. let p = and_parts (le_z z (pos u)) (le_z (pos u) z) e in grind (arith, ints)), (λ e. and_from (le_z z (pos u)) (le_z (pos u) z) (grind (arith, ints)) (grind (arith, ints))))

-- the remainder of a sum is among those of a mask's choices exactly where one of them is congruent to the sum
pub congruent_found : (mask m left : ℕ) (z r : ℤ) (b : Bool) → 0 < m → ((v : ℕ) → Decides (stands left v) (Leaves mask m v)) → r ≡ int_rem_euclid z (pos m)
    → Decides b (Finds (itself r) left) → Decides b (Finds (λ w. multiple m (z -ℤ pos w)) mask)
congruent_found mask m left z r b h gathered is d = Decides-like b there back d
  where
    there : Finds (itself r) left → Finds (λ w. multiple m (z -ℤ pos w)) mask
    there f =
        let l = (gathered f.0).0 f.1 in
        (l.0, l.1, (congruent_decides m l.0 z h).1 (sym is ∙ (same_nat r f.0).0 f.2 ∙ ap pos (sym l.2)))

    back : Finds (λ w. multiple m (z -ℤ pos w)) mask → Finds (itself r) left
    back c = (c.0 % m, (gathered (c.0 % m)).1 (c.0, c.1, refl), (same_nat r (c.0 % m)).1 (is ∙ (congruent_decides m c.0 z h).0 c.2))
