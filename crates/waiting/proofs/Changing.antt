-- A set with one number more or less: what is said at that number, and at every other.
use Rattle.std.proofs.Common.{◌≡◌, ℕ, true, false, not, ◌&&◌, ◌||◌, eqb, sym, refl, ap, ◌∙◌, ⊎_elim}
use mathlib.Core.Bool.{and-true, or-false}
use Rattle.std.proofs.lemmas.Bool.{cases_eq, eq-eqb, ne_eqb, and_right, or_right}
use Rattle.waiting.specs.Waiting.{Numbers, With, But}

module _ (s t : Numbers) (v : ℕ) where
  pub with_here : With v s t → t v ≡ true
  with_here more = more v ∙ or_right (s v) (eqb v v) (eq-eqb v v refl)

  pub with_other : With v s t → (k : ℕ) → (k ≡ v → ⊥) → t k ≡ s k
  with_other more k ne = more k ∙ ap (λ b. s k || b) (ne_eqb k v ne) ∙ or-false (s k)

  pub with_from : t v ≡ true → ((k : ℕ) → (k ≡ v → ⊥) → t k ≡ s k) → With v s t
  with_from here others k =
      ⊎_elim (λ e. ap t e ∙ here ∙ sym (or_right (s k) (eqb k v) (eq-eqb k v e)))
      (λ ne. others k ne ∙ sym (ap (λ b. s k || b) (ne_eqb k v ne) ∙ or-false (s k))) (cases_eq k v)

  pub but_here : But v s t → t v ≡ false
  but_here less = less v ∙ and_right (s v) (not (eqb v v)) (ap not (eq-eqb v v refl))

  pub but_other : But v s t → (k : ℕ) → (k ≡ v → ⊥) → t k ≡ s k
  but_other less k ne = less k ∙ ap (λ b. s k && not b) (ne_eqb k v ne) ∙ and-true (s k)

  pub but_from : t v ≡ false → ((k : ℕ) → (k ≡ v → ⊥) → t k ≡ s k) → But v s t
  but_from here others k =
      ⊎_elim (λ e. ap t e ∙ here ∙ sym (and_right (s k) (not (eqb k v)) (ap not (eq-eqb k v e))))
      (λ ne. others k ne ∙ sym (ap (λ b. s k && not b) (ne_eqb k v ne) ∙ and-true (s k))) (cases_eq k v)
