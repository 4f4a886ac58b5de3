-- Rising lists of numbers, and the choices of a mask as such a list.
use Rattle.std.proofs.Common.{◌≡◌, ℕ, zero, suc, ◌+◌, ◌<◌, Bool, true, ltb, List, [], ◌∷◌, map, filter, refl, arith}
use Rattle.std.specs.List.{range_with_len, AllByRecursion}
use Rattle.std.proofs.ByRecursion.{All-weaker, all_kept_by}
use Rattle.std.proofs.lemmas.Bool.{ltb-true, lt-ltb, and_parts, and_from, cond_both}
use Rattle.rows.specs.Choices.{choices, stands, members}
use Rattle.trail.proofs.Listing.{all_counting}
use Rattle.histories.specs.Laws.{rising}

-- the head of a rising list is below the rest
rising_parts : (x : ℕ) (xs : List ℕ) → rising (x ∷ xs) ≡ true → AllByRecursion (λ y. x < y) xs × (rising xs ≡ true)
rising_parts x [] e = (tt, refl)
rising_parts x (y ∷ xs) e =
    let p = and_parts (ltb x y) (rising (y ∷ xs)) e in
    let low = ltb-true x y p.0 in
    ((low, All-weaker (λ z. y < z) (λ z. x < z) (λ z h. omega arith) xs (rising_parts y xs p.1).0), p.1)

rising_from : (x : ℕ) (xs : List ℕ) → AllByRecursion (λ y. x < y) xs → rising xs ≡ true → rising (x ∷ xs) ≡ true
rising_from x [] a e = refl
rising_from x (y ∷ xs) a e = and_from (ltb x y) (rising (y ∷ xs)) (lt-ltb x y a.0) e

-- what a function that keeps the order makes of it
pub rising_map : (f : ℕ → ℕ) → ((x y : ℕ) → x < y → f x < f y) → (xs : List ℕ) → rising xs ≡ true → rising (map f xs) ≡ true
rising_map f up [] e = e
rising_map f up (x ∷ []) e = e
rising_map f up (x ∷ y ∷ xs) e =
    let p = and_parts (ltb x y) (rising (y ∷ xs)) e in
    and_from (ltb (f x) (f y)) (rising (map f (y ∷ xs))) (lt-ltb (f x) (f y) (up x y (ltb-true x y p.0))) (rising_map f up (y ∷ xs) p.1)

-- what passes a test
pub rising_kept : (p : ℕ → Bool) (xs : List ℕ) → rising xs ≡ true → rising (filter p xs) ≡ true
rising_kept p [] e = e
rising_kept p (x ∷ xs) e =
    let h = rising_parts x xs e in
    let rest = rising_kept p xs h.1 in
    cond_both (p x) (x ∷ filter p xs) (filter p xs) (λ l. rising l ≡ true) (λ _. rising_from x (filter p xs) (all_kept_by p (λ y. x < y) xs h.0) rest) (λ _. rest)

-- counting up
counting_rising : (n a : ℕ) → rising (range_with_len a n) ≡ true
counting_rising zero a = refl
counting_rising (suc n) a = rising_from a (range_with_len (a + 1) n) (all_counting (λ y. a < y) (a + 1) n (λ y h _. omega arith)) (counting_rising n (a + 1))

-- the choices of a mask are in rising order
pub members_rising : (m : ℕ) → rising (members m) ≡ true
unfolding members
members_rising m = rising_kept (stands m) (range_with_len 0 choices) (counting_rising choices 0)
