-- What a push and a pop make of the order of a ring.
use Rattle.std.proofs.Common.{◌≡◌, ℕ, zero, suc, ◌+◌, ◌-◌, ◌%◌, ◌<◌, List, [], ◌∷◌, ◌++◌, length, get_or, set, sym, refl, ap, ◌∙◌, arith}
use Rattle.std.proofs.lemmas.List.FromFn.{length-map-range_with_len, get_or-map-range_with_len, map-range_with_len_more}
use Rattle.std.proofs.lemmas.List.{ext_get_or, get_or-set_same, get_or-set_other}
use Rattle.waiting.specs.Rings.{in_turn, slots_there}

module _ (slots : List ℕ) (first : ℕ) where
  pub none_in_turn : in_turn slots first 0 ≡ []
  unfolding in_turn
  none_in_turn = refl

  pub length_in_turn : (n : ℕ) → length (in_turn slots first n) ≡ n
  unfolding in_turn
  length_in_turn n = length-map-range_with_len (λ i. get_or slots ((first + i) % slots_there) 0) 0 n

  pub at_in_turn : (n i : ℕ) → i < n → get_or (in_turn slots first n) i 0 ≡ get_or slots ((first + i) % slots_there) 0
  unfolding in_turn
  at_in_turn n i h = get_or-map-range_with_len (λ i. get_or slots ((first + i) % slots_there) 0) 0 n i i 0 h (omega arith)

  one_more_in_turn : (n : ℕ) → in_turn slots first (n + 1) ≡ in_turn slots first n ++ get_or slots ((first + n) % slots_there) 0 ∷ []
  unfolding in_turn
  one_more_in_turn n = map-range_with_len_more (λ i. get_or slots ((first + i) % slots_there) 0) 0 n n (omega arith)

-- the front is what follows it, one slot on
pub popped_in_turn : (slots : List ℕ) (first n : ℕ) → first < slots_there → 0 < n
    → in_turn slots first n ≡ get_or slots first 0 ∷ in_turn slots ((first + 1) % slots_there) (n - 1)
popped_in_turn slots first n h p =
    ext_get_or 0 (in_turn slots first n) (get_or slots first 0 ∷ in_turn slots ((first + 1) % slots_there) (n - 1))
    (length_in_turn slots first n ∙ long) (λ i l. each i (omega (arith, length_in_turn slots first n)))
  where
    long : n ≡ suc (length (in_turn slots ((first + 1) % slots_there) (n - 1)))
    long = omega (arith, length_again)
      where
        length_again : length (in_turn slots ((first + 1) % slots_there) (n - 1)) ≡ n - 1
        length_again = length_in_turn slots ((first + 1) % slots_there) (n - 1)

    each : (i : ℕ) → i < n → get_or (in_turn slots first n) i 0 ≡ get_or (get_or slots first 0 ∷ in_turn slots ((first + 1) % slots_there) (n - 1)) i 0
    each zero l = at_in_turn slots first n 0 l ∙ ap (λ k. get_or slots k 0) (omega arith)
    each (suc i) l = at_in_turn slots first n (suc i) l ∙ ap (λ k. get_or slots k 0) turned ∙ sym (at_in_turn slots ((first + 1) % slots_there) (n - 1) i (omega arith))
      where
        turned : (first + suc i) % slots_there ≡ ((first + 1) % slots_there + i) % slots_there
        turned = omega arith

-- a number written into the slot after the last in use comes last
pub pushed_in_turn : (slots : List ℕ) (first n v : ℕ) → length slots ≡ slots_there → n < slots_there
    → in_turn (set slots ((first + n) % slots_there) v) first (n + 1) ≡ in_turn slots first n ++ v ∷ []
pushed_in_turn slots first n v long h =
    let last = (first + n) % slots_there in
    let inside : last < length slots = omega arith in
    one_more_in_turn (set slots last v) first n
    ∙ ap (λ q. q ++ get_or (set slots last v) last 0 ∷ []) same
    ∙ ap (λ x. in_turn slots first n ++ x ∷ []) (get_or-set_same slots last v 0 inside)
  where
    other : (i : ℕ) → i < n → ((first + i) % slots_there ≡ (first + n) % slots_there) → ⊥
    other i l e = omega arith

    same : in_turn (set slots ((first + n) % slots_there) v) first n ≡ in_turn slots first n
    same =
        ext_get_or 0 (in_turn (set slots ((first + n) % slots_there) v) first n) (in_turn slots first n)
        (length_in_turn (set slots ((first + n) % slots_there) v) first n ∙ sym (length_in_turn slots first n))
        (λ i l. each i (omega (arith, length_in_turn (set slots ((first + n) % slots_there) v) first n)))
      where
        each : (i : ℕ) → i < n → get_or (in_turn (set slots ((first + n) % slots_there) v) first n) i 0 ≡ get_or (in_turn slots first n) i 0
        each i l =
            at_in_turn (set slots ((first + n) % slots_there) v) first n i l
            ∙ get_or-set_other slots ((first + n) % slots_there) ((first + i) % slots_there) v 0 (other i l)
            ∙ sym (at_in_turn slots first n i l)
