-- Being in a list, and in lists that are made of others.
use Rattle.std.proofs.Common.{◌≡◌, ℕ, zero, suc, ◌+◌, ◌^◌, ◌<◌, ◌≤◌, Bool, true, false, cond, ◌⊎◌, List, [], ◌∷◌, ◌++◌, map, filter, sym, refl, ap, ◌∙◌, subst, inl, inr, ⊎_elim, arith}
use Rattle.std.specs.List.{range_with_len, flat_map}
use Rattle.std.proofs.lemmas.Bool.{cases_Bool, cases_eq, both_ways, cond-true, cond-false}
use Rattle.rows.specs.Choices.{choices, stands, members}
use Rattle.rows.proofs.Masks.{stands_below}

abbrev pub In : {X : Type 0} → X → List X → Type 0
In x [] = ⊥
In x (y ∷ ys) = (x ≡ y) ⊎ In x ys

in_left : {X : Type 0} (x : X) (xs ys : List X) → In x xs → In x (xs ++ ys)
in_left x [] ys i = absurd i
in_left x (y ∷ xs) ys i = ⊎_elim inl (λ j. inr (in_left x xs ys j)) i

in_right : {X : Type 0} (x : X) (xs ys : List X) → In x ys → In x (xs ++ ys)
in_right x [] ys i = i
in_right x (y ∷ xs) ys i = inr (in_right x xs ys i)

in_append : {X : Type 0} (x : X) (xs ys : List X) → In x (xs ++ ys) → In x xs ⊎ In x ys
in_append x [] ys i = inr i
in_append x (y ∷ xs) ys i = ⊎_elim (λ e. inl (inl e)) (λ j. ⊎_elim (λ k. inl (inr k)) inr (in_append x xs ys j)) i

pub in_map : {X Y : Type 0} (f : X → Y) (x : X) (xs : List X) → In x xs → In (f x) (map f xs)
in_map f x [] i = absurd i
in_map f x (y ∷ xs) i = ⊎_elim (λ e. inl (ap f e)) (λ j. inr (in_map f x xs j)) i

pub map_in : {X Y : Type 0} (f : X → Y) (y : Y) (xs : List X) → In y (map f xs) → (x : X) × In x xs × (y ≡ f x)
map_in f y [] i = absurd i
map_in f y (x ∷ xs) i = ⊎_elim (λ e. (x, inl refl, e)) (λ j. let m = map_in f y xs j in (m.0, inr m.1, m.2)) i

pub in_joined : {X Y : Type 0} (f : X → List Y) (x : X) (y : Y) (xs : List X) → In x xs → In y (f x) → In y (flat_map f xs)
in_joined f x y [] i j = absurd i
in_joined f x y (z ∷ xs) i j =
    ⊎_elim (λ e. in_left y (f z) (flat_map f xs) (subst (λ w. In y (f w)) e j)) (λ k. in_right y (f z) (flat_map f xs) (in_joined f x y xs k j)) i

pub joined_in : {X Y : Type 0} (f : X → List Y) (y : Y) (xs : List X) → In y (flat_map f xs) → (x : X) × In x xs × In y (f x)
joined_in f y [] i = absurd i
joined_in f y (x ∷ xs) i =
    ⊎_elim (λ j. (x, inl refl, j)) (λ j. let m = joined_in f y xs j in (m.0, inr m.1, m.2)) (in_append y (f x) (flat_map f xs) i)

pub in_kept : {X : Type 0} (p : X → Bool) (x : X) (xs : List X) → In x xs → p x ≡ true → In x (filter p xs)
in_kept p x [] i t = absurd i
in_kept p x (y ∷ xs) i t = go (in_kept p x xs) (cases_Bool (p y))
  where
    go : (In x xs → p x ≡ true → In x (filter p xs)) → (p y ≡ true) ⊎ (p y ≡ false) → In x (cond (p y) (y ∷ filter p xs) (filter p xs))
    go rest (inl e) = subst (In x) (sym (cond-true (p y) (y ∷ filter p xs) (filter p xs) e)) (⊎_elim inl (λ j. inr (rest j t)) i)
    go rest (inr e) = subst (In x) (sym (cond-false (p y) (y ∷ filter p xs) (filter p xs) e)) (⊎_elim (λ q. absurd (both_ways (p y) e (ap p (sym q) ∙ t))) (λ j. rest j t) i)

pub kept_in : {X : Type 0} (p : X → Bool) (x : X) (xs : List X) → In x (filter p xs) → In x xs × (p x ≡ true)
kept_in p x [] i = absurd i
kept_in p x (y ∷ xs) i = go (kept_in p x xs) (cases_Bool (p y))
  where
    go : (In x (filter p xs) → In x xs × (p x ≡ true)) → (p y ≡ true) ⊎ (p y ≡ false) → In x (y ∷ xs) × (p x ≡ true)
    go rest (inl e) =
        ⊎_elim (λ q. (inl q, ap p q ∙ e)) (λ j. let r = rest j in (inr r.0, r.1)) (subst (In x) (cond-true (p y) (y ∷ filter p xs) (filter p xs) e) i)
    go rest (inr e) = let r = rest (subst (In x) (cond-false (p y) (y ∷ filter p xs) (filter p xs) e) i) in (inr r.0, r.1)

in_counting : (n a v : ℕ) → a ≤ v → v < a + n → In v (range_with_len a n)
in_counting zero a v h k = absurd (omega arith)
in_counting (suc n) a v h k = ⊎_elim (λ e. inl e) (λ ne. inr (in_counting n (a + 1) v (omega arith) (omega arith))) (cases_eq v a)

-- the choices in the list of a mask are those that stand in it
pub in_members : (m v : ℕ) → m < 2 ^ choices → stands m v ≡ true → In v (members m)
unfolding members
in_members m v h s = in_kept (stands m) v (range_with_len 0 choices) (in_counting choices 0 v (omega arith) (omega (arith, stands_below choices m v h s))) s

pub members_in : (m v : ℕ) → In v (members m) → stands m v ≡ true
unfolding members
members_in m v i = (kept_in (stands m) v (range_with_len 0 choices) i).1
