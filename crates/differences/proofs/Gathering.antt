-- The loop that gathers the remainders of the choices of a mask: each that is in is left by a choice, and each choice's is in or still to
-- come.
use Rattle.std.proofs.Common.{◌≡◌, ℕ, ◌%◌, ◌^◌, true, ◌⊎◌, Decides, sym, refl, ap, ◌∙◌, subst, inl, inr, ⊎_elim}
use lib.Bits.{bit_or}
use Rattle.std.proofs.lemmas.Bool.{or_cases, or_left, or_right, eqb-true, eq-eqb, both_ways, cases_eq}
use Rattle.rows.specs.Choices.{stands, Without}
use Rattle.rows.proofs.Masks.{stands_zero, stands_or, stands_bit, without_stood, without_stays}
use Rattle.differences.specs.Partners.{Leaves}

pub record Gathering (mask m rest left : ℕ) : Type 0 where
  pub part : (w : ℕ) → stands rest w ≡ true → stands mask w ≡ true
  pub sound : (v : ℕ) → stands left v ≡ true → Leaves mask m v
  pub whole : (w : ℕ) → stands mask w ≡ true → (stands rest w ≡ true) ⊎ (stands left (w % m) ≡ true)

module _ (mask m : ℕ) where
  pub gathering_none : Gathering mask m mask 0
  gathering_none = record { part = λ w s. s; sound = λ v s. absurd (both_ways (stands 0 v) (stands_zero v) s); whole = λ w s. inl s }

  pub gathering_more : (rest after v left : ℕ) → stands rest v ≡ true → Without v rest after → Gathering mask m rest left
      → Gathering mask m after (bit_or left (2 ^ (v % m)))
  gathering_more rest after v left here out g = record {
    part = λ w s. g.part w (without_stood rest v after w out s).0;
    sound = λ u s. ⊎_elim (g.sound u) (λ t. (v, g.part v here, sym (eqb-true u (v % m) (sym (stands_bit (v % m) u) ∙ t)))) (or_cases (stands left u) (stands (2 ^ (v % m)) u) (sym (stands_or left (2 ^ (v % m)) u) ∙ s));
    whole = λ w s. ⊎_elim (λ r. ⊎_elim (λ e. inr (ap (λ x. stands (bit_or left (2 ^ (v % m))) (x % m)) e ∙ added)) (λ ne. inl (without_stays rest v after w out r ne)) (cases_eq w v)) (λ l. inr (stays (w % m) l)) (g.whole w s);
  }
    where
      added : stands (bit_or left (2 ^ (v % m))) (v % m) ≡ true
      added = stands_or left (2 ^ (v % m)) (v % m) ∙ or_right (stands left (v % m)) (stands (2 ^ (v % m)) (v % m)) (stands_bit (v % m) (v % m) ∙ eq-eqb (v % m) (v % m) refl)

      stays : (u : ℕ) → stands left u ≡ true → stands (bit_or left (2 ^ (v % m))) u ≡ true
      stays u l = stands_or left (2 ^ (v % m)) u ∙ or_left (stands left u) (stands (2 ^ (v % m)) u) l

  pub gathering_all : (rest left : ℕ) → rest ≡ 0 → Gathering mask m rest left → (v : ℕ) → Decides (stands left v) (Leaves mask m v)
  gathering_all rest left e g v = (g.sound v, (λ l. ⊎_elim (λ r. absurd (both_ways (stands 0 l.0) (stands_zero l.0) (subst (λ x. stands x l.0 ≡ true) e r))) (λ s. subst (λ u. stands left u ≡ true) l.2 s) (g.whole l.0 l.1)))
