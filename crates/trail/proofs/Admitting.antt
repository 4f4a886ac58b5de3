-- The making of a trail: no mask is 0, and the record has room.
use Rattle.std.proofs.Common.{◌≡◌, ℕ, zero, suc, ◌+◌, ◌*◌, ◌^◌, ◌<◌, ◌≤◌, Bool, true, false, not, ◌||◌, eqb, ltb, leb, List, [], ◌∷◌, length, take, Some, None, sym, refl, ap, ◌∙◌, subst, arith}
use Rattle.std.specs.List.{AllByRecursion}
use Rattle.std.proofs.ByRecursion.{sum_by_le}
use Rattle.std.proofs.lemmas.List.Sums.{sum_by-cons}
use Rattle.std.proofs.lemmas.List.{take_all, length-take-le}
use Rattle.std.proofs.lemmas.Bool.{ne_eqb, eq-eqb, eqb-false, or_parts, and_parts, leb-true, not-false}
use Rattle.rows.specs.Refusals.{Refusal, plain, fits}
use Rattle.rows.proofs.Refusing.{first_none, fits_none, not_lt_from}
use Rattle.rows.specs.Choices.{choices, members}
use Rattle.banks.specs.Rules.{Sheet, row}
use Rattle.trail.specs.Readings.{rows_of, memory_of, height_of}
use Rattle.trail.specs.Strokes.{standing}
use Rattle.trail.specs.Trails.{some_empty, SomeStand, may_count, max_rows, entries_a_row, no_trail, made_rows, Admits}
use Rattle.trail.specs.declared.trail.Trail.{Trail}
use Rattle.trail.proofs.Members.{members_few, some_member, member_not_zero}

-- where no mask is 0, some choice stands in each row
pub all_stand : (s : Sheet) → ((r : ℕ) → r < length s → row s r < 2 ^ choices) → some_empty s ≡ false → SomeStand s
all_stand [] fit none r h = absurd (omega arith)
all_stand (m ∷ s) fit none zero h =
    some_member m (pos_from_ne m (eqb-false m 0 (or_parts (eqb m 0) (some_empty s) none).0)) (fit 0 h)
  where
    pos_from_ne : (n : ℕ) → (n ≡ 0 → ⊥) → 0 < n
    pos_from_ne zero ne = absurd (ne refl)
    pos_from_ne (suc n) ne = omega arith
all_stand (m ∷ s) fit none (suc r) h = all_stand s (λ k i. fit (suc k) (omega arith)) (or_parts (eqb m 0) (some_empty s) none).1 r (omega arith)

-- a row of mask 0 is an empty one, and where some choice stands in each row no mask is 0
pub empty_at : (s : Sheet) (i : ℕ) → i < length s → row s i ≡ 0 → some_empty s ≡ true
empty_at [] i h e = absurd (omega arith)
empty_at (m ∷ s) zero h e = ap (λ b. b || some_empty s) (eq-eqb m 0 e)
empty_at (m ∷ s) (suc i) h e = later (eqb m 0) (empty_at s i (omega arith) e)
  where
    later : (b : Bool) → some_empty s ≡ true → (b || some_empty s) ≡ true
    later true t = refl
    later false t = t

pub none_empty : (s : Sheet) → SomeStand s → some_empty s ≡ false
none_empty [] h = refl
none_empty (m ∷ s) h =
    ap (λ b. b || some_empty s) (ne_eqb m 0 (λ e. omega (arith, member_not_zero m (h 0 (omega arith))))) ∙ none_empty s (λ r k. h (suc r) (omega arith))

-- at least one choice stands in each row, and at most all
pub standing_least : (s : Sheet) → SomeStand s → length s ≤ standing s
standing_least [] h = omega arith
standing_least (m ∷ s) h =
    omega (arith, sum_by-cons (λ x. length (members x)) m s, h 0 (omega arith), standing_least s (λ r k. h (suc r) (omega arith)))

pub standing_most : (s : Sheet) → standing s ≤ length s * choices
standing_most s = sum_by_le (λ m. length (members m)) choices s (every s)
  where
    every : (xs : List ℕ) → AllByRecursion (λ m. length (members m) ≤ choices) xs
    every [] = tt
    every (x ∷ xs) = (members_few x, every xs)

-- all masks become rows where nothing speaks against it
pub admits_all : (s : Sheet) (entries : ℕ) → no_trail s entries ≡ None → SomeStand s → Admits s entries (length s)
admits_all s entries e some =
    let past = first_none (fits (some_empty s) (plain 1)) _ e in
    let past' = first_none (fits (not (may_count (length s))) (plain 2)) _ past.1 in
    let past'' = first_none (fits (ltb entries (entries_a_row * length s)) (plain 3)) [] past'.1 in
    let counted = and_parts (leb 1 (length s)) (leb (length s) max_rows) (not-false (may_count (length s)) (fits_none _ (plain 2) past'.0)) in
    let all = take_all (length s) s (omega arith) in
    record {
      made = all ∙ ap (λ o. made_rows o s) (sym e);
      some = subst SomeStand (sym all) some;
      within = omega arith;
      few = leb-true (length s) max_rows counted.1;
      enough = not_lt_from entries (entries_a_row * length s) (plain 3) past''.0;
    }

-- and none where something does
pub admits_none : (s : Sheet) (entries : ℕ) (f : Refusal) → no_trail s entries ≡ Some f → Admits s entries 0
admits_none s entries f e = record {
  made = ap (λ o. made_rows o s) (sym e);
  some = λ r h. absurd (omega arith);
  within = omega arith;
  few = omega arith;
  enough = omega arith;
}

-- what the fields of a trail owe, of its rows, the record's memory and its height
abbrev pub Owed : Sheet → List ℕ → ℕ → Type 0
Owed s slots top = SomeStand s × (length s ≤ max_rows) × (entries_a_row * length s ≤ length slots) × (top + standing s ≤ length s * choices)

-- for the admitted masks and an empty record
pub admitted_owes : {slots slots' : List ℕ} (s : Sheet) (n top : ℕ) → Admits s (length slots) n → slots' ≡ slots → top ≡ 0 → Owed (take n s) slots' top
admitted_owes s n top a e z =
    let long = length-take-le n s a.within in
    (a.some, omega (arith, long, a.few), omega (arith, long, a.enough, ap length e), omega (arith, z, standing_most (take n s)))

-- where one choice more can be lost, the record is not full
pub room_left : (t : Trail) → height_of t + 1 + standing (rows_of t) ≤ length (rows_of t) * choices → height_of t < length (memory_of t)
room_left t spare = omega (arith, standing_least (rows_of t) t.some, t.enough)
