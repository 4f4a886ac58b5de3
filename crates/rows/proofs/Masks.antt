-- The laws of `stands`. Later proofs reach masks only through them.
use Rattle.std.proofs.Common.{◌≡◌, ℕ, zero, suc, ◌+◌, ◌-◌, ◌/◌, ◌%◌, ◌^◌, ◌<◌, ◌≤◌, min, max, Bool, true, false, cond, not, ◌&&◌, ◌||◌, eqb, ltb, List, [], ◌∷◌, length, Decides, filter, w64, sym, refl, ap, ◌∙◌, subst, ⊎_elim, mod-lt, div-add-mod', zero-add, div-one, add-one, one-add, arith, lit<, shr-shr, shr_lt}
use lib.Bits.{bit_and, bit_or, bit_xor, and_lt, and_le_r}
use lib.Count.{ones, ones_step, count_trailing_zeros, under}
use Rattle.std.specs.Int.{bit_at, bit_not}
use Rattle.std.specs.List.{range_with_len}
use Rattle.std.proofs.lemmas.Bool.{cases_lt, cases_eq, cases_Bool, eqb-true, eqb-false, eq-eqb, ne_eqb, both_ways, and_parts, and_left, and_right, not-true, cond-true, cond-false}
use Rattle.std.proofs.lemmas.Bool.Decides.{nat_tests}
use Rattle.std.proofs.lemmas.Nat.Bits.{bit_at_and, bit_at_or, bit_at_xor, bit_at_not, bit_at-lt, bit_at-zero, bit_at_above, bit_at_lowest, bit_at-pow_same, bit_at-pow_other, same_from_bits}
use Rattle.rows.specs.Choices.{choices, stands, members, Only, Without, Lowest}

pub and_true : (b : Bool) → b ≡ (b && true)
and_true true = refl
and_true false = refl

digit_lt : (n : ℕ) → n % 2 < 2
digit_lt n = mod-lt n (lit< tt)

digit_zero : (n : ℕ) → n < 2 → eqb n 1 ≡ false → n ≡ 0
digit_zero zero h e = refl
digit_zero (suc zero) h e = absurd (both_ways (eqb 1 1) e refl)
digit_zero (suc (suc n)) h e = omega arith

-- one digit, read as whether it is 1
both_digits : (x y : ℕ) → x < 2 → y < 2 → eqb (min x y) 1 ≡ (eqb x 1 && eqb y 1)
both_digits x y p q = grind (arith, nat_tests)

either_digit : (x y : ℕ) → x < 2 → y < 2 → eqb (max x y) 1 ≡ (eqb x 1 || eqb y 1)
either_digit x y p q = grind (arith, nat_tests)

other_digit : (x : ℕ) → x < 2 → eqb (1 - x) 1 ≡ not (eqb x 1)
other_digit x p = grind (arith, nat_tests)

pub stands_and : (a b v : ℕ) → stands (bit_and a b) v ≡ (stands a v && stands b v)
unfolding stands
stands_and a b v = ap (λ d. eqb d 1) (bit_at_and a b v) ∙ both_digits (bit_at a v) (bit_at b v) (bit_at-lt a v) (bit_at-lt b v)

pub stands_or : (a b v : ℕ) → stands (bit_or a b) v ≡ (stands a v || stands b v)
unfolding stands
stands_or a b v = ap (λ d. eqb d 1) (bit_at_or a b v) ∙ either_digit (bit_at a v) (bit_at b v) (bit_at-lt a v) (bit_at-lt b v)

-- exactly one of two tests
abbrev pub one_of : Bool → Bool → Bool
one_of true b = not b
one_of false b = b

one_digit : (x y : ℕ) → x < 2 → y < 2 → eqb ((x + y) % 2) 1 ≡ one_of (eqb x 1) (eqb y 1)
one_digit zero zero p q = refl
one_digit zero (suc zero) p q = refl
one_digit (suc zero) zero p q = refl
one_digit (suc zero) (suc zero) p q = refl
one_digit (suc (suc x)) y p q = absurd (omega arith)
one_digit zero (suc (suc y)) p q = absurd (omega arith)
one_digit (suc zero) (suc (suc y)) p q = absurd (omega arith)

pub stands_xor : (a b v : ℕ) → stands (bit_xor a b) v ≡ one_of (stands a v) (stands b v)
unfolding stands
stands_xor a b v = ap (λ d. eqb d 1) (bit_at_xor a b v) ∙ one_digit (bit_at a v) (bit_at b v) (bit_at-lt a v) (bit_at-lt b v)

-- in the other mask of 64 bits, the other choices stand
stands_not : (m v : ℕ) → m < 2 ^ choices → v < choices → stands (bit_not w64 m) v ≡ not (stands m v)
unfolding stands
stands_not m v h l = ap (λ d. eqb d 1) (bit_at_not w64 m v h l) ∙ other_digit (bit_at m v) (bit_at-lt m v)

-- no choice stands in the mask 0
pub stands_zero : (v : ℕ) → stands 0 v ≡ false
unfolding stands
stands_zero v = ap (λ d. eqb d 1) (bit_at-zero v)

-- none stands past the mask's bits
pub stands_high : (n m v : ℕ) → m < 2 ^ n → n ≤ v → stands m v ≡ false
unfolding stands
stands_high n m v h k = ap (λ d. eqb d 1) (bit_at_above m n v h k)

-- so a choice that stands is below the number of bits
pub stands_below : (n m v : ℕ) → m < 2 ^ n → stands m v ≡ true → v < n
stands_below n m v h s = ⊎_elim (λ k. k) (λ k. absurd (both_ways (stands m v) (stands_high n m v h k) s)) (cases_lt v n)

-- a shift moves the choices down
pub stands_shr : (m k v : ℕ) → stands (m / 2 ^ k) v ≡ stands m (k + v)
unfolding stands
stands_shr m k v = ap (λ x. eqb (x % 2) 1) (shr-shr m k v)

half_stands : (m v : ℕ) → stands (m / 2) v ≡ stands m (suc v)
half_stands m v = stands_shr m 1 v ∙ ap (stands m) (one-add v)

lowest_digit : (m : ℕ) → stands m 0 ≡ eqb (m % 2) 1
unfolding stands
lowest_digit m = ap (λ d. eqb d 1) (bit_at_lowest m)

-- the mask of one choice
pub stands_bit : (k v : ℕ) → stands (2 ^ k) v ≡ eqb v k
unfolding stands
stands_bit k v =
    ⊎_elim (λ e. ap (λ i. eqb (bit_at (2 ^ k) i) 1) e ∙ ap (λ d. eqb d 1) (bit_at-pow_same k) ∙ sym (eq-eqb v k e))
    (λ ne. ap (λ d. eqb d 1) (bit_at-pow_other k v ne) ∙ sym (ne_eqb v k ne)) (cases_eq v k)

-- masks with the same choices are equal
pub same_mask : (n a b : ℕ) → a < 2 ^ n → b < 2 ^ n → ((v : ℕ) → stands a v ≡ stands b v) → a ≡ b
unfolding stands
same_mask n a b p q h = same_from_bits a b (λ v. same_digit (bit_at a v) (bit_at b v) (bit_at-lt a v) (bit_at-lt b v) (h v))
  where
    same_digit : (x y : ℕ) → x < 2 → y < 2 → eqb x 1 ≡ eqb y 1 → x ≡ y
    same_digit x y p q e =
        ⊎_elim (λ t. eqb-true x 1 t ∙ sym (eqb-true y 1 (sym e ∙ t))) (λ f. digit_zero x p f ∙ sym (digit_zero y q (sym e ∙ f))) (cases_Bool (eqb x 1))

-- a part of a set has no larger mask
pub part_le : (n a b : ℕ) → a < 2 ^ n → b < 2 ^ n → ((v : ℕ) → stands a v ≡ true → stands b v ≡ true) → a ≤ b
part_le n a b p q h =
    let common : a ≡ bit_and a b = same_mask n a (bit_and a b) p (and_lt n a b p q) (λ v. sym (stands_and a b v ∙ meet (stands a v) (stands b v) (h v))) in
    subst (λ x. x ≤ b) (sym common) (and_le_r a b)
  where
    meet : (x y : Bool) → (x ≡ true → y ≡ true) → (x && y) ≡ x
    meet true y f = f refl
    meet false y f = refl

-- the lowest choice of a mask that is not 0
lowest_at_half : (m t : ℕ) → m % 2 ≡ 0 → Lowest (m / 2) t → Lowest m (suc t)
lowest_at_half m t even l = record { here = sym (half_stands m t) ∙ l.here; below = under_it }
  where
    under_it : (w : ℕ) → w < suc t → stands m w ≡ false
    under_it zero k = lowest_digit m ∙ ap (λ d. eqb d 1) even
    under_it (suc w) k = sym (half_stands m w) ∙ l.below w (omega arith)

lowest_odd : (m : ℕ) → m % 2 ≡ 1 → Lowest m 0
lowest_odd m e = record { here = lowest_digit m ∙ ap (λ d. eqb d 1) e; below = λ w k. absurd (omega arith) }

pub lowest_is : (n m : ℕ) → 0 < m → m < 2 ^ n → Lowest m (count_trailing_zeros n m)
unfolding count_trailing_zeros
lowest_is zero m p h = absurd (omega arith)
lowest_is (suc n) m p h =
    go (m % 2) refl (λ e. lowest_is n (m / 2) (omega (arith, div-add-mod' m 2)) (shr_lt n 1 (subst (λ k. m < 2 ^ k) (sym (add-one n)) h)))
  where
    go : (d : ℕ) → m % 2 ≡ d → (m % 2 ≡ 0 → Lowest (m / 2) (count_trailing_zeros n (m / 2))) → Lowest m (under (m % 2) (count_trailing_zeros n (m / 2)))
    go zero e rest =
        subst (λ d. Lowest m (under d (count_trailing_zeros n (m / 2)))) (sym e) (lowest_at_half m (count_trailing_zeros n (m / 2)) e (rest e))
    go (suc zero) e rest = subst (λ d. Lowest m (under d (count_trailing_zeros n (m / 2)))) (sym e) (lowest_odd m e)
    go (suc (suc d)) e rest = absurd (omega (arith, digit_lt m))

-- so some choice stands in a mask that is not 0
pub some_stands : (n m : ℕ) → 0 < m → m < 2 ^ n → (v : ℕ) × (stands m v ≡ true)
some_stands n m p h = (count_trailing_zeros n m, (lowest_is n m p h).here)

pub not_zero : (m v : ℕ) → stands m v ≡ true → 0 < m
not_zero zero v s = absurd (both_ways (stands 0 v) (stands_zero v) s)
not_zero (suc m) v s = omega arith

-- that a mask is not 0 says that some choice stands in it
pub some_decides : (n m : ℕ) → m < 2 ^ n → Decides (not (eqb m 0)) ((v : ℕ) × (stands m v ≡ true))
some_decides n m h = (
  (λ t. some_stands n m (⊎_elim (λ e. absurd (both_ways (eqb m 0) (not-true (eqb m 0) t) (eq-eqb m 0 e))) (λ ne. omega arith) (cases_eq m 0)) h),
  (λ st. ap not (ne_eqb m 0 (λ e. omega (arith, not_zero m st.0 st.1)))),
)

-- how many choices stand is the number of ones
ones_from : (n a m : ℕ) → m / 2 ^ a < 2 ^ n → length (filter (stands m) (range_with_len a n)) ≡ ones (m / 2 ^ a)
unfolding stands ones
ones_from zero a m h = let none : m / 2 ^ a ≡ 0 = omega arith in sym (ap ones none)
ones_from (suc n) a m h =
    let half : m / 2 ^ a / 2 ≡ m / 2 ^ (a + 1) = shr-shr m a 1 in
    let rest = ones_from n (a + 1) m (subst (λ x. x < 2 ^ n) half (shr_lt n 1 (subst (λ k. m / 2 ^ a < 2 ^ k) (sym (add-one n)) h))) in
    one_more (m / 2 ^ a) a (filter (stands m) (range_with_len (a + 1) n)) (rest ∙ ap ones (sym half))
  where
    one_more : (x a : ℕ) (rest : List ℕ) → length rest ≡ ones (x / 2) → length (cond (eqb (x % 2) 1) (a ∷ rest) rest) ≡ ones x
    one_more x a rest e =
        ⊎_elim
        (λ t. ap length (cond-true (eqb (x % 2) 1) (a ∷ rest) rest t) ∙ ap suc e
        ∙ sym (ones_step x ∙ ap (λ d. d + ones (x / 2)) (eqb-true (x % 2) 1 t) ∙ one-add (ones (x / 2))))
        (λ f. ap length (cond-false (eqb (x % 2) 1) (a ∷ rest) rest f) ∙ e
        ∙ sym (ones_step x ∙ ap (λ d. d + ones (x / 2)) (digit_zero (x % 2) (digit_lt x) f) ∙ zero-add (ones (x / 2))))
        (cases_Bool (eqb (x % 2) 1))

pub members_ones : (m : ℕ) → m < 2 ^ choices → length (members m) ≡ ones m
unfolding members
members_ones m h = ones_from choices 0 m (subst (λ x. x < 2 ^ choices) (sym (div-one m)) h) ∙ ap ones (div-one m)

-- a choice that stands is taken out by the exclusive or with its mask
pub taken_out : (m v : ℕ) → stands m v ≡ true → Without v m (bit_xor m (2 ^ v))
taken_out m v s w = stands_xor m (2 ^ v) w ∙ ap (one_of (stands m w)) (stands_bit v w) ∙ ⊎_elim here elsewhere (cases_eq w v)
  where
    here : w ≡ v → one_of (stands m w) (eqb w v) ≡ (stands m w && not (eqb w v))
    here e = let at : stands m w ≡ true = ap (stands m) e ∙ s in simp (at, eq-eqb w v e)

    elsewhere : (w ≡ v → ⊥) → one_of (stands m w) (eqb w v) ≡ (stands m w && not (eqb w v))
    elsewhere ne = simp (ne_eqb w v ne) (as_it_is (stands m w))
      where
        as_it_is : (b : Bool) → one_of b false ≡ (b && true)
        as_it_is true = refl
        as_it_is false = refl

-- and any choice by the mask of all the others
pub left_out : (m v only : ℕ) → m < 2 ^ choices → only < 2 ^ choices → Only v only → Without v m (bit_and m (bit_not w64 only))
left_out m v only h k is w = stands_and m (bit_not w64 only) w ∙ ⊎_elim low high (cases_lt w choices)
  where
    low : w < choices → (stands m w && stands (bit_not w64 only) w) ≡ (stands m w && not (eqb w v))
    low l =
        let same : (eqb w v && ltb v choices) ≡ eqb w v = grind (arith, nat_tests) in
        ap (λ b. stands m w && b) (stands_not only w k l ∙ ap not (is w ∙ same))

    high : choices ≤ w → (stands m w && stands (bit_not w64 only) w) ≡ (stands m w && not (eqb w v))
    high l = let none : stands m w ≡ false = stands_high choices m w h l in simp none refl

-- the choice that is taken out does not stand, and any other stands as it stood
pub without_itself : (m v r : ℕ) → Without v m r → stands r v ≡ false
without_itself m v r k = k v ∙ simp (eq-eqb v v refl) (and_right (stands m v) false refl)

pub without_other : (m v r w : ℕ) → Without v m r → (w ≡ v → ⊥) → stands r w ≡ stands m w
without_other m v r w k ne = k w ∙ ap (λ b. stands m w && not b) (ne_eqb w v ne) ∙ sym (and_true (stands m w))

-- without a choice that stood, a mask is a smaller number
pub without_lt : (n m v r : ℕ) → m < 2 ^ n → r < 2 ^ n → stands m v ≡ true → Without v m r → r < m
without_lt n m v r p q s k = ⊎_elim (λ h. h) (λ h. absurd (no_less h)) (cases_lt r m)
  where
    part : r ≤ m
    part = part_le n r m q p (λ w t. (and_parts (stands m w) (not (eqb w v)) (sym (k w) ∙ t)).0)

    no_less : m ≤ r → ⊥
    no_less h =
        let same : r ≡ m = omega (arith, part) in
        both_ways (stands r v) (without_itself m v r k) (ap (λ x. stands x v) same ∙ s)

-- what stands without v is what stood and is not v
pub without_stood : (m v r w : ℕ) → Without v m r → stands r w ≡ true → (stands m w ≡ true) × (w ≡ v → ⊥)
without_stood m v r w k s =
    let parts = and_parts (stands m w) (not (eqb w v)) (sym (k w) ∙ s) in (parts.0, eqb-false w v (not-true (eqb w v) parts.1))

pub without_stays : (m v r w : ℕ) → Without v m r → stands m w ≡ true → (w ≡ v → ⊥) → stands r w ≡ true
without_stays m v r w k s ne = without_other m v r w k ne ∙ s

-- above a choice that is taken out, the choices are the same
above_taken : (n a m r v : ℕ) → v < a → Without v m r → filter (stands m) (range_with_len a n) ≡ filter (stands r) (range_with_len a n)
above_taken zero a m r v h out = refl
above_taken (suc n) a m r v h out =
    let same : stands r a ≡ stands m a = without_other m v r a out (λ e. omega arith) in
    let rest = above_taken n (a + 1) m r v (omega arith) out in
    ap (λ t. cond (stands m a) (a ∷ t) t) rest ∙ ap (λ b. cond b (a ∷ filter (stands r) (range_with_len (a + 1) n)) (filter (stands r) (range_with_len (a + 1) n))) (sym same)

lowest_first : (n a m r v : ℕ) → a ≤ v → v < a + n → Lowest m v → Without v m r → filter (stands m) (range_with_len a n) ≡ v ∷ filter (stands r) (range_with_len a n)
lowest_first zero a m r v h k low out = absurd (omega arith)
lowest_first (suc n) a m r v h k low out = ⊎_elim here (λ ne. later ne (lowest_first n (a + 1) m r v (omega arith) (omega arith) low out)) (cases_eq a v)
  where
    gone : a ≡ v → stands r a ≡ false
    gone e = out a ∙ ap (λ b. stands m a && not b) (eq-eqb a v e) ∙ and_right (stands m a) false refl

    here : a ≡ v → filter (stands m) (range_with_len a (suc n)) ≡ v ∷ filter (stands r) (range_with_len a (suc n))
    here e =
        cond-true (stands m a) _ _ (ap (stands m) e ∙ low.here) ∙ ap (λ x. x ∷ filter (stands m) (range_with_len (a + 1) n)) e
        ∙ ap (λ t. v ∷ t) (above_taken n (a + 1) m r v (omega arith) out ∙ sym (cond-false (stands r a) _ _ (gone e)))

    later : (a ≡ v → ⊥) → filter (stands m) (range_with_len (a + 1) n) ≡ v ∷ filter (stands r) (range_with_len (a + 1) n)
        → filter (stands m) (range_with_len a (suc n)) ≡ v ∷ filter (stands r) (range_with_len a (suc n))
    later ne rest =
        let none : stands m a ≡ false = low.below a (omega arith) in
        let none' : stands r a ≡ false = out a ∙ and_left (stands m a) (not (eqb a v)) none in
        cond-false (stands m a) _ _ none ∙ rest ∙ ap (λ t. v ∷ t) (sym (cond-false (stands r a) _ _ none'))

-- the choices of a mask are its lowest, and then those of the mask without it
pub members_lowest : (m r v : ℕ) → v < choices → Lowest m v → Without v m r → members m ≡ v ∷ members r
unfolding members
members_lowest m r v h low out = lowest_first choices 0 m r v (omega arith) (omega arith) low out

pub members_none : members 0 ≡ []
unfolding members stands
members_none = refl
