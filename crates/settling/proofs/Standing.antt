-- How many choices stand on a sheet: what is struck from a row is exactly what is missing.
use Rattle.std.proofs.Common.{◌≡◌, ℕ, suc, ◌+◌, ◌^◌, ◌<◌, ◌≤◌, true, [], ◌∷◌, length, set, sym, ap, ◌∙◌, ⊎_elim, arith}
use Rattle.std.proofs.lemmas.List.{ext_get_or, get_or-set_same, get_or-set_other, length-set, length-map, nil_from_length}
use Rattle.std.proofs.lemmas.List.Sums.{sum_by-cons}
use Rattle.std.proofs.lemmas.Bool.{true_from_ne_false, cases_eq}
use Rattle.rows.specs.Choices.{choices, stands, members}
use Rattle.rows.proofs.Masks.{stands_below, same_mask}
use Rattle.banks.specs.Rules.{Sheet, row, Under}
use Rattle.trail.specs.Strokes.{stroke, lost, strokes_of, standing, Elsewhere}
use Rattle.trail.proofs.Members.{among_lost, lost_count}
use Rattle.trail.proofs.Storing.{standing_set}

-- a part of a mask
module _ (m n : ℕ) (part : (v : ℕ) → stands n v ≡ true → stands m v ≡ true) where
  -- that is smaller leaves something lost
  pub some_lost : m < 2 ^ choices → n < 2 ^ choices → (m ≡ n → ⊥) → 0 < length (lost m n)
  some_lost a b differ = ⊎_elim (λ e. absurd (differ (same_mask choices m n a b (λ v. grind (arith, kept (nil_from_length (lost m n) e) v, part v))))) (λ ne. omega arith) (cases_eq (length (lost m n)) 0)
    where
      kept : lost m n ≡ [] → (v : ℕ) → stands m v ≡ true → stands n v ≡ true
      kept e v on = true_from_ne_false (stands n v) (λ off. let has = (among_lost m n v).1 (stands_below choices m v a on, on, off) in grind (arith, has, e))

-- a sheet that differs at most in a row is the other with that row stored
pub stored_row : (r : ℕ) (s t : Sheet) → r < length s → Elsewhere r s t → t ≡ set s r (row t r)
stored_row r s t h e =
    ext_get_or 0 t (set s r (row t r)) (e.same ∙ sym (length-set s r (row t r)))
    (λ k _. grind (arith, get_or-set_same s r (row t r) 0 h, e.other k, get_or-set_other s r k (row t r) 0))

-- so the strokes of a row are as many as stand no more
pub standing_row : (r : ℕ) (s t : Sheet) → r < length s → Elsewhere r s t → ((v : ℕ) → stands (row t r) v ≡ true → stands (row s r) v ≡ true)
    → standing t + length (strokes_of r (row s r) (row t r)) ≡ standing s
standing_row r s t h e part =
    let stored : standing t + length (members (row s r)) ≡ standing s + length (members (row t r)) =
    ap (λ x. standing x + length (members (row s r))) (stored_row r s t h e) ∙ standing_set s r (row t r) h
    in
    let struck : length (strokes_of r (row s r) (row t r)) ≡ length (lost (row s r) (row t r)) = length-map (lost (row s r) (row t r)) (stroke r) in
    omega (arith, lost_count (row s r) (row t r) part)

-- which is something where the row differs
pub standing_falls : (r : ℕ) (s t : Sheet) → r < length s → Elsewhere r s t → ((v : ℕ) → stands (row t r) v ≡ true → stands (row s r) v ≡ true)
    → row s r < 2 ^ choices → row t r < 2 ^ choices → (row s r ≡ row t r → ⊥) → standing t < standing s
standing_falls r s t h e part a b differ =
    omega (arith, standing_row r s t h e part, some_lost (row s r) (row t r) part a b differ, length-map (lost (row s r) (row t r)) (stroke r))

-- a sheet under another has no more choices
standing_le : (s t : Sheet) → length s ≡ length t → ((r : ℕ) → length (members (row s r)) ≤ length (members (row t r))) → standing s ≤ standing t
standing_le [] [] e h = omega arith
standing_le [] (n ∷ t) e h = absurd (omega arith)
standing_le (m ∷ s) [] e h = absurd (omega arith)
standing_le (m ∷ s) (n ∷ t) e h =
    omega (arith, sum_by-cons (λ x. length (members x)) m s, sum_by-cons (λ x. length (members x)) n t, h 0, standing_le s t (omega arith) (λ r. h (suc r)))

pub standing_under : (s t : Sheet) → Under s t → standing s ≤ standing t
standing_under s t under = standing_le s t under.same (λ r. omega (arith, lost_count (row t r) (row s r) (under.part r)))
