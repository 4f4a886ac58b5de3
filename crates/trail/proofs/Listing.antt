-- Lists of numbers: which numbers a list has, and that it has each once; what passes a test, images, and counting up.
use Rattle.std.proofs.Common.{◌≡◌, ℕ, zero, suc, ◌+◌, ◌<◌, ◌≤◌, Bool, true, false, cond, not, ◌&&◌, ◌||◌, eqb, ◌⊎◌, List, [], ◌∷◌, ◌++◌, map, length, get_or, Decides, filter, sym, refl, ap, ◌∙◌, subst, ⊎_elim, arith}
use mathlib.Core.Bool.{or_assoc}
use Rattle.std.specs.List.{range_with_len, AllByRecursion}
use Rattle.std.proofs.lemmas.List.Sums.{length-filter, count_by-le-length}
use Rattle.std.proofs.lemmas.Bool.{cases_Bool, cases_eq, both_ways, and_parts, and_from, and_left, and_right, cond_both, false≢true, or_cases, or_left, or_right, or_from, eqb-true, eq-eqb, not-true}
use Rattle.banks.specs.Names.{among, apart}

-- the first of a list is in it
pub among_first : (x : ℕ) (xs : List ℕ) → among x (x ∷ xs) ≡ true
among_first x xs = or_left (eqb x x) (among x xs) (eq-eqb x x refl)

-- and the element at each index
pub among_get_or : (xs : List ℕ) (i : ℕ) → i < length xs → among (get_or xs i 0) xs ≡ true
among_get_or [] i h = absurd (omega arith)
among_get_or (x ∷ xs) zero h = among_first x xs
among_get_or (x ∷ xs) (suc i) h = or_right (eqb (get_or xs i 0) x) (among (get_or xs i 0) xs) (among_get_or xs i (omega arith))

pub not_among : (x : ℕ) (xs : List ℕ) → (among x xs ≡ true → ⊥) → among x xs ≡ false
not_among x xs f = ⊎_elim (λ e. absurd (f e)) (λ e. e) (cases_Bool (among x xs))

-- a list that has each number once: its first is not in the rest
pub apart_parts : (x : ℕ) (xs : List ℕ) → apart (x ∷ xs) ≡ true → (among x xs ≡ false) × (apart xs ≡ true)
apart_parts x xs a = let p = and_parts (not (among x xs)) (apart xs) a in (not-true (among x xs) p.0, p.1)

pub apart_from : (x : ℕ) (xs : List ℕ) → among x xs ≡ false → apart xs ≡ true → apart (x ∷ xs) ≡ true
apart_from x xs e a = and_from (not (among x xs)) (apart xs) (ap not e) a

-- equal elements of it have equal indices
pub apart_get_or : (xs : List ℕ) (i j : ℕ) → apart xs ≡ true → i < length xs → j < length xs → get_or xs i 0 ≡ get_or xs j 0 → i ≡ j
apart_get_or [] i j a h k e = absurd (omega arith)
apart_get_or (x ∷ xs) zero zero a h k e = refl
apart_get_or (x ∷ xs) zero (suc j) a h k e =
    absurd (both_ways (among x xs) (apart_parts x xs a).0 (subst (λ y. among y xs ≡ true) (sym e) (among_get_or xs j (omega arith))))
apart_get_or (x ∷ xs) (suc i) zero a h k e =
    absurd (both_ways (among x xs) (apart_parts x xs a).0 (subst (λ y. among y xs ≡ true) e (among_get_or xs i (omega arith))))
apart_get_or (x ∷ xs) (suc i) (suc j) a h k e = ap suc (apart_get_or xs i j (apart_parts x xs a).1 (omega arith) (omega arith) e)

-- two lists, one after the other
pub among_append : (x : ℕ) (xs ys : List ℕ) → among x (xs ++ ys) ≡ (among x xs || among x ys)
among_append x [] ys = refl
among_append x (y ∷ xs) ys = ap (λ b. eqb x y || b) (among_append x xs ys) ∙ sym (or_assoc (eqb x y) (among x xs) (among x ys))

pub among_either : (x : ℕ) (xs ys : List ℕ) → among x (xs ++ ys) ≡ true → (among x xs ≡ true) ⊎ (among x ys ≡ true)
among_either x xs ys h = or_cases (among x xs) (among x ys) (sym (among_append x xs ys) ∙ h)

pub apart_append : (xs ys : List ℕ) → apart xs ≡ true → apart ys ≡ true → ((x : ℕ) → among x xs ≡ true → among x ys ≡ false) → apart (xs ++ ys) ≡ true
apart_append [] ys a b other = b
apart_append (x ∷ xs) ys a b other =
    let p = apart_parts x xs a in
    apart_from x (xs ++ ys) (among_append x xs ys ∙ or_from (among x xs) (among x ys) p.0 (other x (among_first x xs)))
    (apart_append xs ys p.1 b (λ y h. other y (or_right (eqb y x) (among y xs) h)))

module _ {X : Type 0} where
  -- equal tests keep the same
  pub kept_alike : (P Q : X → Bool) → ((x : X) → P x ≡ Q x) → (xs : List X) → filter P xs ≡ filter Q xs
  kept_alike P Q h [] = refl
  kept_alike P Q h (x ∷ xs) = ap (λ b. cond b (x ∷ filter P xs) (filter P xs)) (h x) ∙ ap (λ t. cond (Q x) (x ∷ t) t) (kept_alike P Q h xs)

  -- what passes one test and then another
  pub kept_twice : (P Q : X → Bool) (xs : List X) → filter P (filter Q xs) ≡ filter (λ x. Q x && P x) xs
  kept_twice P Q [] = refl
  kept_twice P Q (x ∷ xs) = let rest = kept_twice P Q xs in ⊎_elim (λ (e : Q x ≡ true). simp (e, rest)) (λ (e : Q x ≡ false). simp (e, rest)) (cases_Bool (Q x))

  -- a test keeps no more than there is
  pub kept_few : (P : X → Bool) (xs : List X) → length (filter P xs) ≤ length xs
  kept_few P xs = omega (arith, length-filter P xs, count_by-le-length P xs)

-- the numbers that pass a test
pub among_kept : (p : ℕ → Bool) (x : ℕ) (xs : List ℕ) → among x (filter p xs) ≡ (among x xs && p x)
among_kept p x [] = refl
among_kept p x (y ∷ xs) =
    let rest = among_kept p x xs in
    ⊎_elim
    (λ (e : eqb x y ≡ true). let same : p x ≡ p y = ap p (eqb-true x y e) in
    ⊎_elim (λ (t : p y ≡ true). let u = same ∙ t in simp (t, e, u)) (λ (f : p y ≡ false). let u = same ∙ f in simp (f, e, u) (rest ∙ and_right (among x xs) (p x) u)) (cases_Bool (p y)))
    (λ (e : eqb x y ≡ false). ⊎_elim (λ (t : p y ≡ true). simp (t, e) rest) (λ (f : p y ≡ false). simp (f, e) rest) (cases_Bool (p y)))
    (cases_Bool (eqb x y))

pub apart_kept : (p : ℕ → Bool) (xs : List ℕ) → apart xs ≡ true → apart (filter p xs) ≡ true
apart_kept p [] a = refl
apart_kept p (x ∷ xs) a =
    let q = apart_parts x xs a in
    let rest = apart_kept p xs q.1 in
    cond_both (p x) (x ∷ filter p xs) (filter p xs) (λ l. apart l ≡ true)
    (λ _. apart_from x (filter p xs) (among_kept p x xs ∙ and_left (among x xs) (p x) q.0) rest) (λ _. rest)

-- the images of numbers under a function
pub among_map : (f : ℕ → ℕ) (x : ℕ) (xs : List ℕ) → among x xs ≡ true → among (f x) (map f xs) ≡ true
among_map f x [] h = absurd (false≢true h)
among_map f x (y ∷ xs) h =
    ⊎_elim (λ e. or_left (eqb (f x) (f y)) (among (f x) (map f xs)) (eq-eqb (f x) (f y) (ap f (eqb-true x y e))))
    (λ k. or_right (eqb (f x) (f y)) (among (f x) (map f xs)) (among_map f x xs k)) (or_cases (eqb x y) (among x xs) h)

pub map_among : (f : ℕ → ℕ) (y : ℕ) (xs : List ℕ) → among y (map f xs) ≡ true → (x : ℕ) × (among x xs ≡ true) × (y ≡ f x)
map_among f y [] h = absurd (false≢true h)
map_among f y (x ∷ xs) h =
    ⊎_elim (λ e. (x, among_first x xs, eqb-true y (f x) e))
    (λ k. let r = map_among f y xs k in (r.0, or_right (eqb r.0 x) (among r.0 xs) r.1, r.2)) (or_cases (eqb y (f x)) (among y (map f xs)) h)

-- one that keeps them apart
pub apart_map : (f : ℕ → ℕ) (xs : List ℕ) → ((x y : ℕ) → among x xs ≡ true → among y xs ≡ true → f x ≡ f y → x ≡ y) → apart xs ≡ true → apart (map f xs) ≡ true
apart_map f [] one a = refl
apart_map f (x ∷ xs) one a =
    let p = apart_parts x xs a in
    apart_from (f x) (map f xs) (not_among (f x) (map f xs) (λ h. met p.0 (map_among f (f x) xs h))) (apart_map f xs (λ y z h k. one y z (later y h) (later z k)) p.1)
  where
    later : (y : ℕ) → among y xs ≡ true → among y (x ∷ xs) ≡ true
    later y h = or_right (eqb y x) (among y xs) h

    met : among x xs ≡ false → (y : ℕ) × (among y xs ≡ true) × (f x ≡ f y) → ⊥
    met out m =
        both_ways (among x xs) out (subst (λ y. among y xs ≡ true) (sym (one x m.0 (among_first x xs) (later m.0 m.1) m.2)) m.1)

-- the numbers from a on, n of them
pub all_counting : (P : ℕ → Type 0) (a n : ℕ) → ((v : ℕ) → a ≤ v → v < a + n → P v) → AllByRecursion P (range_with_len a n)
all_counting P a zero f = tt
all_counting P a (suc n) f = (f a (omega arith) (omega arith), all_counting P (a + 1) n (λ v h k. f v (omega arith) (omega arith)))

pub among_counting : (x a n : ℕ) → Decides (among x (range_with_len a n)) ((a ≤ x) × (x < a + n))
among_counting x a zero = ((λ h. absurd (false≢true h)), (λ h. absurd (omega arith)))
among_counting x a (suc n) =
    let rest = among_counting x (a + 1) n in (
      (λ h. ⊎_elim (λ e. let same = eqb-true x a e in (omega arith, omega arith)) (λ k. let q = rest.0 k in (omega arith, omega arith)) (or_cases (eqb x a) (among x (range_with_len (a + 1) n)) h)),
      (λ h. ⊎_elim (λ e. or_left (eqb x a) (among x (range_with_len (a + 1) n)) (eq-eqb x a e)) (λ ne. or_right (eqb x a) (among x (range_with_len (a + 1) n)) (rest.1 (omega arith, omega arith))) (cases_eq x a)),
    )

pub apart_counting : (a n : ℕ) → apart (range_with_len a n) ≡ true
apart_counting a zero = refl
apart_counting a (suc n) =
    apart_from a (range_with_len (a + 1) n) (not_among a (range_with_len (a + 1) n) (λ h. let q = (among_counting a (a + 1) n).0 h in omega arith)) (apart_counting (a + 1) n)
