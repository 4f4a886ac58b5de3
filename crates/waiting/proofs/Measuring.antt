-- How many numbers wait: a measure that falls with each take and grows by at most one with each put.
use Rattle.std.proofs.Common.{◌≡◌, ℕ, zero, suc, ◌<◌, ◌≤◌, true, false, leb, sym, refl, ap, ◌∙◌, ⊎_elim, arith}
use Rattle.std.proofs.lemmas.Bool.{cases_eq, cases_Bool, cond-true, cond-false, and_parts, and_from, leb-true, le-leb}
use Rattle.waiting.specs.Waiting.{Numbers, Empty, Same, With, But, how_many, may_have, max_capacity}
use Rattle.waiting.proofs.Changing.{with_here, with_other, with_from, but_here, but_other}

-- one number more to look at
module _ (s : Numbers) (n : ℕ) where
  pub many_here : s n ≡ true → how_many s (suc n) ≡ suc (how_many s n)
  unfolding how_many
  many_here e = cond-true (s n) (suc (how_many s n)) (how_many s n) e

  pub many_not_here : s n ≡ false → how_many s (suc n) ≡ how_many s n
  unfolding how_many
  many_not_here e = cond-false (s n) (suc (how_many s n)) (how_many s n) e

-- sets that agree below n have equally many numbers there
pub many_like : (s t : Numbers) (n : ℕ) → ((k : ℕ) → k < n → t k ≡ s k) → how_many t n ≡ how_many s n
unfolding how_many
many_like s t zero e = refl
many_like s t (suc n) e =
    let less = many_like s t n (λ k h. e k (omega arith)) in
    ⊎_elim (λ y. many_here t n (e n (omega arith) ∙ y) ∙ ap suc less ∙ sym (many_here s n y))
    (λ z. many_not_here t n (e n (omega arith) ∙ z) ∙ less ∙ sym (many_not_here s n z)) (cases_Bool (s n))

pub many_same : (s t : Numbers) (n : ℕ) → Same s t → how_many t n ≡ how_many s n
many_same s t n e = many_like s t n (λ k _. e k)

pub many_empty : (s : Numbers) (n : ℕ) → Empty s → how_many s n ≡ 0
unfolding how_many
many_empty s zero e = refl
many_empty s (suc n) e = many_not_here s n (e n) ∙ many_empty s n e

-- there are at most n
pub many_le : (s : Numbers) (n : ℕ) → how_many s n ≤ n
unfolding how_many
many_le s zero = omega arith
many_le s (suc n) =
    ⊎_elim (λ y. omega (arith, many_here s n y, many_le s n)) (λ z. omega (arith, many_not_here s n z, many_le s n)) (cases_Bool (s n))

-- a number that was not in the set makes one more
pub many_more : (s t : Numbers) (v n : ℕ) → s v ≡ false → v < n → With v s t → how_many t n ≡ suc (how_many s n)
many_more s t v zero e h more = absurd (omega arith)
many_more s t v (suc n) e h more = ⊎_elim here (λ ne. before (many_more s t v n e (omega arith) more) ne) (cases_eq n v)
  where
    here : n ≡ v → how_many t (suc n) ≡ suc (how_many s (suc n))
    here at =
        many_here t n (ap t at ∙ with_here s t v more)
        ∙ ap suc (many_like s t n (λ k l. with_other s t v more k (λ c. omega arith)) ∙ sym (many_not_here s n (ap s at ∙ e)))

    before : how_many t n ≡ suc (how_many s n) → (n ≡ v → ⊥) → how_many t (suc n) ≡ suc (how_many s (suc n))
    before less ne =
        ⊎_elim (λ y. many_here t n (with_other s t v more n ne ∙ y) ∙ ap suc (less ∙ sym (many_here s n y)))
        (λ z. many_not_here t n (with_other s t v more n ne ∙ z) ∙ less ∙ ap suc (sym (many_not_here s n z))) (cases_Bool (s n))

-- so a put makes at most one more
pub many_put : (s t : Numbers) (v n : ℕ) → v < n → With v s t → how_many t n ≤ suc (how_many s n)
many_put s t v n h more = ⊎_elim there (λ z. omega (arith, many_more s t v n z h more)) (cases_Bool (s v))
  where
    there : s v ≡ true → how_many t n ≤ suc (how_many s n)
    there y = omega (arith, many_same s t n (λ k. ⊎_elim (λ e. ap t e ∙ with_here s t v more ∙ sym (ap s e ∙ y)) (with_other s t v more k) (cases_eq k v)))

-- and a take one less
pub many_take : (s t : Numbers) (v n : ℕ) → v < n → s v ≡ true → But v s t → suc (how_many t n) ≡ how_many s n
many_take s t v n h y less =
    sym (many_more t s v n (but_here s t v less) h (with_from t s v y (λ k ne. sym (but_other s t v less k ne))))

-- a list's capacity is from 1 to the largest
pub capacity_some : (n : ℕ) → may_have n ≡ true → 1 ≤ n
capacity_some n e = leb-true 1 n (and_parts (leb 1 n) (leb n max_capacity) e).0

pub capacity_le : (n : ℕ) → may_have n ≡ true → n ≤ max_capacity
capacity_le n e = leb-true n max_capacity (and_parts (leb 1 n) (leb n max_capacity) e).1

pub capacity_fits : (n : ℕ) → 1 ≤ n → n ≤ max_capacity → may_have n ≡ true
capacity_fits n low high = and_from (leb 1 n) (leb n max_capacity) (le-leb 1 n low) (le-leb n max_capacity high)
