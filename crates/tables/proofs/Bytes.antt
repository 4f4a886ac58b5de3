-- The choices that match a byte of a table, and the bytes of a part of others.
use Rattle.std.proofs.Common.{◌≡◌, ℕ, ◌*◌, ◌%◌, ◌^◌, ◌<◌, true, eqb, List, ◌++◌, length, take, drop, sym, refl, ◌∙◌, ⊎_elim, arith}
use lib.Bits.{bit_and}
use Rattle.std.proofs.lemmas.Nat.{one_shl}
use Rattle.std.proofs.lemmas.List.{take_at, drop_at}
use Rattle.std.proofs.lemmas.List.Elements.{All-same, All-take, All-drop}
use Rattle.std.proofs.lemmas.Bool.{and_parts, and_from, or_cases, or_right, eqb-true, eq-eqb}
use Rattle.rows.specs.Choices.{choices, stands, Kept}
use Rattle.rows.proofs.Masks.{stands_and, stands_bit}
use Rattle.tables.specs.Checks.{table_byte, TableBytes}
use Rattle.tables.specs.Tables.{star, takes}

-- the bytes of a front, and those after it
pub front_fine : (front rest : List ℕ) → TableBytes (front ++ rest) → TableBytes front
front_fine front rest fine =
    All-same (λ b. table_byte b ≡ true) front (take (length front) (front ++ rest)) (sym (take_at front rest (length front) refl)) (All-take (λ b. table_byte b ≡ true) (length front) (front ++ rest) fine)

pub rest_fine : (front rest : List ℕ) → TableBytes (front ++ rest) → TableBytes rest
rest_fine front rest fine =
    All-same (λ b. table_byte b ≡ true) rest (drop (length front) (front ++ rest)) (sym (drop_at front rest (length front) refl)) (All-drop (λ b. table_byte b ≡ true) (length front) (front ++ rest) fine)

-- a choice alone matches its byte
pub one_choice : (b m : ℕ) → b < choices → Kept (λ v. takes b v ≡ true) m (bit_and m (2 ^ b))
one_choice b m h v = (there, back)
  where
    there : stands (bit_and m (2 ^ b)) v ≡ true → (stands m v ≡ true) × (takes b v ≡ true)
    there s =
        let p = and_parts (stands m v) (stands (2 ^ b) v) (sym (stands_and m (2 ^ b) v) ∙ s) in
        let e = eqb-true v b (sym (stands_bit b v) ∙ p.1) in
        (p.0, or_right (eqb b star) (eqb b v) (eq-eqb b v (sym e)))

    same : takes b v ≡ true → b ≡ v
    same t = ⊎_elim (λ e. absurd (not_star (eqb-true b star e))) (eqb-true b v) (or_cases (eqb b star) (eqb b v) t)
      where
        not_star : b ≡ star → ⊥
        not_star e = omega arith

    back : (stands m v ≡ true) × (takes b v ≡ true) → stands (bit_and m (2 ^ b)) v ≡ true
    back k =
        stands_and m (2 ^ b) v
        ∙ and_from (stands m v) (stands (2 ^ b) v) k.0 (stands_bit b v ∙ eq-eqb v b (sym (same k.1)))

-- the same choice, as the shift of a word gives it
pub one_shifted : (b m : ℕ) → b < choices → Kept (λ v. takes b v ≡ true) m (bit_and m (1 * 2 ^ b % 18446744073709551616))
one_shifted b m h = simp (one_shl b 64 h) (one_choice b m h)
