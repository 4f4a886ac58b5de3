-- Strike and hold as narrowings of one row.
use Rattle.std.proofs.Common.{◌≡◌, ℕ, zero, suc, ◌+◌, ◌<◌, ◌≤◌, Bool, true, false, cond, not, ◌&&◌, eqb, ltb, List, [], ◌∷◌, ◌++◌, map, length, Some, None, Ok, Err, filter, Result, sym, refl, ap, ◌∙◌, ⊎_elim, arith}
use lib.Bits.{bit_and}
use Rattle.std.specs.List.{range_with_len}
use Rattle.std.specs.Result.{IsOk}
use Rattle.std.proofs.lemmas.List.{length-append}
use Rattle.std.proofs.lemmas.Bool.{false≢true, cases_eq, cond-true, cond-false, eqb-true, eq-eqb, ne_eqb, and_parts, and_from, both_ways, lt-ltb, ltb-true, not-false}
use Rattle.rows.specs.Choices.{choices, stands, members, Only, Without}
use Rattle.rows.specs.Refusals.{plain, first}
use Rattle.rows.proofs.Masks.{and_true, stands_and, not_zero}
use Rattle.rows.proofs.Refusing.{first_none, first_past, fits_none, le_fits_not, not_le_from, some_not_none}
use Rattle.banks.specs.Rules.{Sheet, row}
use Rattle.trail.specs.Strokes.{stroke, lost, strokes_of}
use Rattle.trail.specs.Trails.{Narrows, no_such_row, trail_says}
use Rattle.trail.specs.Calls.{NarrowAnswer}
use Rattle.trail.specs.Readings.{rows_of, height_of, record_of}
use Rattle.trail.specs.declared.trail.Trail.{Trail}
use Rattle.trail.proofs.Stacked.{held_long}
use Rattle.trail.specs.declared.refusal.TrailError.{TrailError}
use Rattle.trail.proofs.Listing.{kept_alike, kept_twice}
use Rattle.trail.proofs.Members.{member_not_zero, lost_count}
use Rattle.settling.proofs.Ending.{any_stands}
use Rattle.histories.specs.Moves.{strike, hold, done, why, not_standing, last_choice, SameMarks, strikes, holds, Moves, accepts}
use Rattle.sheet.specs.Sheets.{opened_as, state, heights_rise}
use Rattle.sheet.specs.declared.mark.OpenMark.{OpenMark}
use Rattle.sheet.proofs.Heights.{stored_same}

-- of all numbers only one passes an equality
kept_one : (v a n : ℕ) → a ≤ v → v < a + n → filter (λ w. eqb w v) (range_with_len a n) ≡ v ∷ []
kept_one v a zero h k = absurd (omega arith)
kept_one v a (suc n) h k = ⊎_elim here (λ ne. later ne (kept_one v (a + 1) n)) (cases_eq a v)
  where
    none : (b m : ℕ) → v < b → filter (λ w. eqb w v) (range_with_len b m) ≡ []
    none b zero p = refl
    none b (suc m) p = cond-false (eqb b v) _ _ (ne_eqb b v (λ e. omega arith)) ∙ none (b + 1) m (omega arith)

    here : a ≡ v → filter (λ w. eqb w v) (range_with_len a (suc n)) ≡ v ∷ []
    here e = cond-true (eqb a v) _ _ (eq-eqb a v e) ∙ ap (λ t. a ∷ t) (none (a + 1) n (omega arith)) ∙ ap (λ x. x ∷ []) e

    later : (a ≡ v → ⊥) → (a + 1 ≤ v → v < a + 1 + n → filter (λ w. eqb w v) (range_with_len (a + 1) n) ≡ v ∷ []) → filter (λ w. eqb w v) (range_with_len a (suc n)) ≡ v ∷ []
    later ne f = cond-false (eqb a v) _ _ (ne_eqb a v ne) ∙ f (omega (arith, ne)) (omega arith)

-- a mask without one of its choices has lost just that
pub lost_one : (m k v : ℕ) → v < choices → stands m v ≡ true → Without v m k → lost m k ≡ v ∷ []
unfolding members
lost_one m k v low s out =
    kept_twice (λ w. not (stands k w)) (stands m) (range_with_len 0 choices) ∙ kept_alike (λ w. stands m w && not (stands k w)) (λ w. eqb w v) only (range_with_len 0 choices)
    ∙ kept_one v 0 choices (omega arith) (omega arith)
  where
    taken : (a e : Bool) → (e ≡ true → a ≡ true) → (a && not (a && not e)) ≡ e
    taken true true f = refl
    taken true false f = refl
    taken false true f = f refl
    taken false false f = refl

    only : (w : ℕ) → (stands m w && not (stands k w)) ≡ eqb w v
    only w = ap (λ b. stands m w && not b) (out w) ∙ taken (stands m w) (eqb w v) (λ e. ap (stands m) (eqb-true w v e) ∙ s)

-- what the refusals of strike and hold leave
pub holdable : (s : Sheet) (r v : ℕ) → first (no_such_row s r ∷ not_standing s r v ∷ []) ≡ None → (r < length s) × (v < choices) × (stands (row s r) v ≡ true)
holdable s r v w =
    let past = first_none (no_such_row s r) _ w in
    let past' = first_none (not_standing s r v) [] past.1 in
    let here = and_parts (ltb v choices) (stands (row s r) v) (not-false (ltb v choices && stands (row s r) v) (fits_none _ (plain 5) past'.0)) in
    (not_le_from (length s) r (plain 4) past.0, ltb-true v choices here.0, here.1)

pub strikable : (s : Sheet) (r v : ℕ) → first (no_such_row s r ∷ not_standing s r v ∷ last_choice s r ∷ []) ≡ None
    → (r < length s) × (v < choices) × (stands (row s r) v ≡ true) × (eqb (length (members (row s r))) 1 ≡ false)
strikable s r v w =
    let past = first_none (no_such_row s r) _ w in
    let past' = first_none (not_standing s r v) _ past.1 in
    let past'' = first_none (last_choice s r) [] past'.1 in
    let here = and_parts (ltb v choices) (stands (row s r) v) (not-false (ltb v choices && stands (row s r) v) (fits_none _ (plain 5) past'.0)) in
    (not_le_from (length s) r (plain 4) past.0, ltb-true v choices here.0, here.1, fits_none _ (plain 6) past''.0)

module _ (s s' : Sheet) (xs xs' : List ℕ) (ms : List OpenMark) (given room r wanted : ℕ) (n : Narrows r wanted s s' xs xs') (rise : heights_rise 0 ms (length xs) ≡ true) where
  same_marks : SameMarks (state s xs ms given room) (state s' xs' ms given room)
  same_marks = record {
    opened = ap (λ l. map (opened_as s' l) ms) n.recorded ∙ stored_same s s' xs (strokes_of r (row s r) (row s' r)) 0 ms n.undone rise;
    given = refl;
    room = refl;
  }

  pub strike_moves : (v : ℕ) → why (strike r v) (state s xs ms given room) ≡ None → Without v (row s r) wanted
      → Moves (strike r v) done (state s xs ms given room) (state s' xs' ms given room)
  strike_moves v w out = accepts w (strikes (record {
    here = here;
    elsewhere = n.elsewhere;
    strokes = n.recorded ∙ ap (λ l. xs ++ map (stroke r) l) (lost_one (row s r) (row s' r) v fine.1 fine.2 here);
    marks = same_marks;
  }))
    where
      fine : (r < length s) × (v < choices) × (stands (row s r) v ≡ true) × (eqb (length (members (row s r))) 1 ≡ false)
      fine = strikable s r v w

      again : (a b : Bool) → (a && (a && b)) ≡ (a && b)
      again true b = refl
      again false b = refl

      here : Without v (row s r) (row s' r)
      here x = n.here x ∙ ap (λ b. stands (row s r) x && b) (out x) ∙ again (stands (row s r) x) (not (eqb x v))

  pub hold_moves : (v : ℕ) → why (hold r v) (state s xs ms given room) ≡ None → Only v wanted → Moves (hold r v) done (state s xs ms given room) (state s' xs' ms given room)
  hold_moves v w only = accepts w (holds (record {
    here = here;
    elsewhere = n.elsewhere;
    strokes = n.recorded ∙ ap (λ l. xs ++ map (stroke r) l) (kept_alike (λ x. not (stands (row s' r) x)) (λ x. not (eqb x v)) others (members (row s r)));
    marks = same_marks;
  }))
    where
      fine : (r < length s) × (v < choices) × (stands (row s r) v ≡ true)
      fine = holdable s r v w

      within : (a e l : Bool) → (e ≡ true → a ≡ true) → (a && (e && l)) ≡ (e && l)
      within true e l f = refl
      within false true l f = absurd (let z : ◌≡◌ {A = ℕ} 0 1 = ap (λ b. cond b 1 0) (f refl) in omega arith)
      within false false l f = refl

      here : Only v (row s' r)
      here x = n.here x ∙ ap (λ b. stands (row s r) x && b) (only x) ∙ within (stands (row s r) x) (eqb x v) (ltb v choices) (λ e. ap (stands (row s r)) (eqb-true x v e) ∙ fine.2)

      others : (x : ℕ) → not (stands (row s' r) x) ≡ not (eqb x v)
      others x = ap not (here x ∙ ap (λ b. eqb x v && b) (lt-ltb v choices fine.1) ∙ sym (and_true (eqb x v)))

-- a row that is there, and a choice of it that is wanted: the narrowing is not refused
module _ (r wanted : ℕ) (t u : Trail) where
  pub narrow_ok : (res : Result (Unit {0}) TrailError) → r < length (rows_of t) → 0 < bit_and (row (rows_of t) r) wanted → NarrowAnswer r wanted t u res → IsOk res
  narrow_ok (Ok v) inside some a = refl
  narrow_ok (Err e) inside some a =
      absurd (some_not_none _ (trail_says e) a.0 (first_past _ _ (le_fits_not (length (rows_of t)) r (plain 4) inside) ∙ first_past _ [] (cond-false (eqb (bit_and (row (rows_of t) r) wanted) 0) (Some (plain 1)) None (ne_eqb (bit_and (row (rows_of t) r) wanted) 0 (λ z. omega arith)))))

  pub narrow_done : (res : Result (Unit {0}) TrailError) → r < length (rows_of t) → 0 < bit_and (row (rows_of t) r) wanted → NarrowAnswer r wanted t u res
      → Narrows r wanted (rows_of t) (rows_of u) (record_of t) (record_of u)
  narrow_done (Ok v) inside some a = a.1.1
  narrow_done (Err e) inside some a = absurd (false≢true (narrow_ok (Err e) inside some a))

  -- the record only grows
  pub narrow_grows : Narrows r wanted (rows_of t) (rows_of u) (record_of t) (record_of u) → height_of t ≤ height_of u
  narrow_grows n =
      omega (arith, held_long t.struck, held_long u.struck, ap length n.recorded, length-append (record_of t) (strokes_of r (row (rows_of t) r) (row (rows_of u) r)))

-- a choice that stands in both of two masks
both_stand : (m k v : ℕ) → stands m v ≡ true → stands k v ≡ true → 0 < bit_and m k
both_stand m k v a b = not_zero (bit_and m k) v (stands_and m k v ∙ and_from (stands m v) (stands k v) a b)

pub held_some : (s : Sheet) (r v wanted : ℕ) → first (no_such_row s r ∷ not_standing s r v ∷ []) ≡ None → Only v wanted → (r < length s) × (0 < bit_and (row s r) wanted)
held_some s r v wanted w only =
    let fine = holdable s r v w in
    (fine.0, both_stand (row s r) wanted v fine.2 (only v ∙ and_from (eqb v v) (ltb v choices) (eq-eqb v v refl) (lt-ltb v choices fine.1)))

pub struck_some : (s : Sheet) (r v wanted : ℕ) → first (no_such_row s r ∷ not_standing s r v ∷ last_choice s r ∷ []) ≡ None → Without v (row s r) wanted
    → (r < length s) × (0 < bit_and (row s r) wanted)
struck_some s r v wanted w out =
    let fine = strikable s r v w in
    let m = row s r in
    let part : (x : ℕ) → stands wanted x ≡ true → stands m x ≡ true = λ x t. (and_parts (stands m x) (not (eqb x v)) (sym (out x) ∙ t)).0 in
    let many = lost_count m wanted part in
    let one = ap length (lost_one m wanted v fine.1 fine.2 out) in
    let left : 0 < length (members wanted) = two (length (members wanted)) (length (members m)) (sym many ∙ ap (λ n. length (members wanted) + n) one) fine.3 in
    let some = any_stands wanted (member_not_zero wanted left) in
    (fine.0, both_stand m wanted some.0 (part some.0 some.1) some.1)
  where
    two : (a b : ℕ) → b ≡ a + 1 → eqb b 1 ≡ false → 0 < a
    two zero b e f = absurd (both_ways (eqb b 1) f (eq-eqb b 1 e))
    two (suc a) b e f = omega arith
