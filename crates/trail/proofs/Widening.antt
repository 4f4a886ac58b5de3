-- Struck choices that are put back, the latest first.
use Rattle.std.proofs.Common.{◌≡◌, ℕ, zero, suc, ◌+◌, ◌^◌, ◌<◌, ◌≤◌, Bool, true, not, ◌&&◌, ◌||◌, eqb, List, [], ◌∷◌, length, take, drop, set, Some, None, Ok, Err, Result, ◌*◌, filter, sym, refl, ap, ◌∙◌, subst, ⊎_elim, arith}
use lib.Bits.{bit_or, or_lt}
use lib.Pow.{pow-lt}
use Rattle.std.specs.List.{range_with_len}
use Rattle.std.specs.Result.{IsOk}
use Rattle.std.proofs.lemmas.List.{take_all, drop_all, take-append-le, drop-append-le, length_push}
use Rattle.std.proofs.lemmas.Bool.{cases_Bool, cond-true, cond-false, and_parts, not-true, eqb-true, eq-eqb, ne_eqb, or_right}
use Rattle.rows.specs.Choices.{choices, stands, members}
use Rattle.rows.specs.Refusals.{plain, fits, first, Answer}
use Rattle.rows.specs.RowRefusals.{row_says}
use Rattle.rows.specs.declared.refusal.RowError.{RowError}
use Rattle.rows.specs.declared.row.Row.{Row}
use Rattle.rows.proofs.Refusing.{some_not_none}
use Rattle.rows.proofs.Masks.{stands_or, stands_bit, not_zero}
use Rattle.banks.specs.Rules.{Sheet, row}
use Rattle.trail.specs.Calls.{UndoesOne}
use Rattle.trail.specs.Readings.{rows_of, memory_of, height_of, record_of}
use Rattle.trail.specs.Strokes.{lost, standing, with_choice, restored}
use Rattle.trail.specs.Trails.{Undoes}
use Rattle.trail.specs.declared.trail.Trail.{Trail}
use Rattle.trail.proofs.Admitting.{Owed}
use Rattle.trail.proofs.Listing.{kept_twice}
use Rattle.trail.proofs.Members.{lost_count}
use Rattle.trail.proofs.Restoring.{restored_append}
use Rattle.trail.proofs.Storing.{standing_set, set_owes}

-- a choice that is added stands
added_stands : (m v : ℕ) → stands (bit_or m (2 ^ v)) v ≡ true
added_stands m v = stands_or m (2 ^ v) v ∙ ap (λ b. stands m v || b) (stands_bit v v ∙ eq-eqb v v refl) ∙ or_right (stands m v) true refl

pub wider_some : (m v : ℕ) → 0 < bit_or m (2 ^ v)
wider_some m v = not_zero (bit_or m (2 ^ v)) v (added_stands m v)

-- at most one number passes a test that only one can pass
none_past : (P : ℕ → Bool) (v a n : ℕ) → ((w : ℕ) → P w ≡ true → w ≡ v) → v < a → length (filter P (range_with_len a n)) ≡ 0
none_past P v a zero only h = refl
none_past P v a (suc n) only h =
    ⊎_elim (λ t. absurd (let e = only a t in omega arith)) (λ f. ap length (cond-false (P a) _ _ f) ∙ none_past P v (a + 1) n only (omega arith)) (cases_Bool (P a))

one_at_most : (P : ℕ → Bool) (v a n : ℕ) → ((w : ℕ) → P w ≡ true → w ≡ v) → length (filter P (range_with_len a n)) ≤ 1
one_at_most P v a zero only = omega arith
one_at_most P v a (suc n) only = ⊎_elim here (λ f. subst (λ k. k ≤ 1) (sym (ap length (cond-false (P a) _ _ f))) (one_at_most P v (a + 1) n only)) (cases_Bool (P a))
  where
    here : P a ≡ true → length (filter P (range_with_len a (suc n))) ≤ 1
    here t =
        let at = only a t in
        subst (λ k. k ≤ 1) (sym (ap length (cond-true (P a) _ _ t))) (omega (arith, none_past P v (a + 1) n only (omega arith)))

-- a mask gains at most one choice
gained : (m k v : ℕ) → ((w : ℕ) → (stands m w && not (stands k w)) ≡ true → w ≡ v) → length (lost m k) ≤ 1
unfolding members
gained m k v only =
    subst (λ xs. length xs ≤ 1) (sym (kept_twice (λ w. not (stands k w)) (stands m) (range_with_len 0 choices)))
    (one_at_most (λ w. stands m w && not (stands k w)) v 0 choices only)

pub wider_count : (m v : ℕ) → length (members (bit_or m (2 ^ v))) ≤ length (members m) + 1
wider_count m v = omega (arith, lost_count (bit_or m (2 ^ v)) m within, gained (bit_or m (2 ^ v)) m v only)
  where
    within : (w : ℕ) → stands m w ≡ true → stands (bit_or m (2 ^ v)) w ≡ true
    within w s = stands_or m (2 ^ v) w ∙ ap (λ b. b || stands (2 ^ v) w) s

    only : (w : ℕ) → (stands (bit_or m (2 ^ v)) w && not (stands m w)) ≡ true → w ≡ v
    only w s =
        let parts = and_parts (stands (bit_or m (2 ^ v)) w) (not (stands m w)) s in
        let out = not-true (stands m w) parts.1 in
        eqb-true w v (sym (stands_bit v w) ∙ sym (ap (λ b. b || stands (2 ^ v) w) out) ∙ sym (stands_or m (2 ^ v) w) ∙ parts.0)

pub standing_wider : (s : Sheet) (r v : ℕ) → r < length s → standing (with_choice r v s) ≤ standing s + 1
standing_wider s r v h = omega (arith, standing_set s r (bit_or (row s r) (2 ^ v)) h, wider_count (row s r) v)

-- a row is made of any mask but 0, and has that mask
module _ (m : ℕ) where
  abbrev MadeOf : Result Row RowError → Type 0
  MadeOf r = Answer row_says (first (fits (eqb m 0) (plain 1) ∷ [])) (Unit {0}) (λ x. x.mask ≡ m) r

  pub made_ok : (r : Result Row RowError) → 0 < m → MadeOf r → IsOk r
  made_ok (Ok x) h a = refl
  made_ok (Err e) h a = absurd (some_not_none _ (row_says e) a.0 (ap (λ o. first (o ∷ [])) (cond-false (eqb m 0) (Some (plain 1)) None (ne_eqb m 0 (λ z. omega arith)))))

  pub made_mask : (r : Result Row RowError) (row : Row) → r ≡ Ok row → MadeOf r → row.mask ≡ m
  made_mask r x e a = (subst MadeOf e a).1

-- a choice is put back that can be struck again
pub wider_owes : (t : Trail) (r v k : ℕ) → k ≡ bit_or (row (rows_of t) r) (2 ^ v) → r < length (rows_of t) → row (rows_of t) r < 2 ^ choices → v < choices
    → height_of t + 1 + standing (rows_of t) ≤ length (rows_of t) * choices → Owed (set (rows_of t) r k) (memory_of t) (height_of t)
wider_owes t r v k e inside fit below spare =
    subst (λ m. Owed (set (rows_of t) r m) (memory_of t) (height_of t)) (sym e)
    (set_owes t r (bit_or (row (rows_of t) r) (2 ^ v)) inside (wider_some (row (rows_of t) r) v) (or_lt choices (row (rows_of t) r) (2 ^ v) fit (pow-lt below))
    (omega (arith, standing_wider (rows_of t) r v inside, spare)))

-- The loop: what lies above the height, put back, gives the same rows at each turn, and what lies below it stays.
pub record Undoing (height : ℕ) (s₀ : Sheet) (strokes₀ : List ℕ) (s : Sheet) (strokes : List ℕ) : Type 0 where
  pub same : restored s (drop height strokes) ≡ restored s₀ (drop height strokes₀)
  pub below : take height strokes ≡ take height strokes₀

module _ (height : ℕ) (s₀ : Sheet) (strokes₀ : List ℕ) where
  pub undoing_none : Undoing height s₀ strokes₀ s₀ strokes₀
  undoing_none = record { same = refl; below = refl }

  pub undoing_more : (t u : Trail) → height < length (record_of t) → UndoesOne t u → Undoing height s₀ strokes₀ (rows_of t) (record_of t)
      → Undoing height s₀ strokes₀ (rows_of u) (record_of u)
  undoing_more t u h one so-far = record {
    same =
        ap (λ s. restored s (drop height strokes)) one.rows ∙ sym (restored_append (rows_of t) (drop height strokes) (one.latest ∷ []))
        ∙ ap (restored (rows_of t)) (sym (drop-append-le height strokes (one.latest ∷ []) left)) ∙ ap (λ xs. restored (rows_of t) (drop height xs)) (sym one.recorded)
        ∙ so-far.same;
    below = sym (take-append-le height strokes (one.latest ∷ []) left) ∙ ap (take height) (sym one.recorded) ∙ so-far.below;
  }
    where
      strokes : List ℕ
      strokes = record_of u

      left : height ≤ length strokes
      left = omega (arith, h, ap length one.recorded, length_push strokes one.latest)

  pub undoing_all : (s : Sheet) (strokes : List ℕ) → length strokes ≤ height → Undoing height s₀ strokes₀ s strokes → Undoes height s₀ s strokes₀ strokes
  undoing_all s strokes h u = record {
    rows = sym (ap (restored s) (drop_all height strokes h)) ∙ u.same;
    recorded = sym (take_all height strokes h) ∙ u.below;
  }
