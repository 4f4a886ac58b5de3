-- The loop that keeps the choices of a mask by what a test answers: at a choice that is walked over the test may have answered whether it is
-- left, and one that is still to be walked over is left.
use Rattle.std.proofs.Common.{◌≡◌, ℕ, Bool, true, false, Decides, ap, ◌∙◌, ⊎_elim}
use Rattle.std.proofs.lemmas.Bool.{cases_Bool, both_ways}
use Rattle.rows.specs.Choices.{stands, Kept, KeptBy}
use Rattle.rows.proofs.Masks.{stands_zero}

pub record Keeping (Says : ℕ → Bool → Type 0) (mask rest passing : ℕ) : Type 0 where
  pub part : (w : ℕ) → stands rest w ≡ true → stands mask w ≡ true
  pub asked : (w : ℕ) → stands mask w ≡ true → stands rest w ≡ false → Says w (stands passing w)
  pub ahead : (w : ℕ) → stands rest w ≡ true → stands passing w ≡ true
  pub outside : (w : ℕ) → stands mask w ≡ false → stands passing w ≡ false

pub keeping_all : (Says : ℕ → Bool → Type 0) (mask rest passing : ℕ) → rest ≡ 0 → Keeping Says mask rest passing → KeptBy Says mask passing
keeping_all Says mask rest passing e k = record { asked = λ w s. k.asked w s (ap (λ x. stands x w) e ∙ stands_zero w); others = k.outside }

-- where each answer at a choice of the mask decides whether it passes, exactly the choices that pass are kept
pub kept_from : (Says : ℕ → Bool → Type 0) (Passes : ℕ → Type 0) (m r : ℕ) → KeptBy Says m r
    → ((v : ℕ) (b : Bool) → stands m v ≡ true → Says v b → Decides b (Passes v)) → Kept Passes m r
kept_from Says Passes m r k decides v =
    ⊎_elim
    (λ s. let d = decides v (stands r v) s (k.asked v s) in ((λ t. (s, d.0 t)), (λ p. d.1 p.1)))
    (λ f. ((λ t. absurd (both_ways (stands r v) (k.others v f) t)), (λ p. absurd (both_ways (stands m v) f p.0))))
    (cases_Bool (stands m v))

-- what is kept by one test is kept by an equal one
pub kept_like : (P Q : ℕ → Type 0) (m r : ℕ) → ((v : ℕ) → P v → Q v) → ((v : ℕ) → Q v → P v) → Kept P m r → Kept Q m r
kept_like P Q m r there back k v = ((λ s. (((k v).0 s).0, there v ((k v).0 s).1)), (λ q. (k v).1 (q.0, back v q.1)))
