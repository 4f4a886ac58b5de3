-- A row is replaced by a part of it, or by a wider one.
use Rattle.std.proofs.Common.{◌≡◌, ℕ, ◌+◌, ◌*◌, ◌^◌, ◌<◌, ◌≤◌, Bool, true, false, not, ◌&&◌, ◌++◌, map, length, set, sym, refl, ap, ◌∙◌, subst, ⊎_elim, arith}
use lib.Bits.{bit_and, bit_xor}
use Rattle.std.proofs.lemmas.List.{length-set, get_or-set_same, get_or-set_other}
use Rattle.std.proofs.lemmas.List.Sums.{sum_by-set}
use Rattle.std.proofs.lemmas.Bool.{cases_eq, and_parts}
use Rattle.rows.specs.Choices.{choices, stands, members}
use Rattle.rows.proofs.Masks.{stands_and, stands_xor, one_of}
use Rattle.banks.specs.Rules.{Sheet, row}
use Rattle.trail.specs.Strokes.{stroke, lost, strokes_of, restored, standing, Elsewhere}
use Rattle.trail.specs.Calls.{Noted, Stored}
use Rattle.trail.specs.Readings.{rows_of, memory_of, height_of, record_of}
use Rattle.trail.specs.Trails.{SomeStand, Parts, Narrows}
use Rattle.trail.specs.declared.trail.Trail.{Trail}
use Rattle.trail.proofs.Admitting.{Owed}
use Rattle.trail.proofs.Members.{some_member, members_kept, lost_count}
use Rattle.trail.proofs.Restoring.{restored_lost}

module _ (s : Sheet) (r k : ℕ) (inside : r < length s) where
  pub some_set : SomeStand s → 0 < length (members k) → SomeStand (set s r k)
  some_set some here q h =
      ⊎_elim
      (λ e. subst (λ i. 0 < length (members (row (set s r k) i))) (sym e) (subst (λ m. 0 < length (members m)) (sym (get_or-set_same s r k 0 inside)) here))
      (λ ne. subst (λ m. 0 < length (members m)) (sym (get_or-set_other s r q k 0 ne)) (some q (subst (λ n. q < n) (length-set s r k) h)))
      (cases_eq q r)

  pub standing_set : standing (set s r k) + length (members (row s r)) ≡ standing s + length (members k)
  standing_set = sum_by-set (λ m. length (members m)) s r k 0 inside

  pub elsewhere_set : Elsewhere r s (set s r k)
  elsewhere_set = record { same = length-set s r k; other = λ q ne. get_or-set_other s r q k 0 ne }

-- the lost choices, as a mask, are the lost ones
pub members_lost : (m k l : ℕ) → Parts m k l → members l ≡ lost m k
members_lost m k l p = members_kept m l (λ v. not (stands k v)) p.losing

-- what a narrowing keeps and loses
pub parts_and : (m wanted : ℕ) → Parts m (bit_and m wanted) (bit_xor m (bit_and m wanted))
parts_and m wanted = record { staying = within; losing = out }
  where
    within : (v : ℕ) → stands (bit_and m wanted) v ≡ true → stands m v ≡ true
    within v s = (and_parts (stands m v) (stands wanted v) (sym (stands_and m wanted v) ∙ s)).0

    differ : (a b : Bool) → (b ≡ true → a ≡ true) → one_of a b ≡ (a && not b)
    differ true b f = refl
    differ false true f = sym (f refl)
    differ false false f = refl

    out : (v : ℕ) → stands (bit_xor m (bit_and m wanted)) v ≡ (stands m v && not (stands (bit_and m wanted) v))
    out v = stands_xor m (bit_and m wanted) v ∙ differ (stands m v) (stands (bit_and m wanted) v) (within v)

-- what the fields of a trail owe, where a row of it becomes another mask
pub set_owes : (t : Trail) (r k : ℕ) → r < length (rows_of t) → 0 < k → k < 2 ^ choices → height_of t + standing (set (rows_of t) r k) ≤ length (rows_of t) * choices
    → Owed (set (rows_of t) r k) (memory_of t) (height_of t)
set_owes t r k inside some fit spare =
    let long = length-set (rows_of t) r k in
    (some_set (rows_of t) r k inside t.some (some_member k some fit), omega (arith, long, t.few), omega (arith, long, t.enough), omega (arith, long, spare))

-- the record has room for what a row loses
pub room_for_lost : (t : Trail) (r k l : ℕ) → r < length (rows_of t) → Parts (row (rows_of t) r) k l
    → height_of t + length (members l) + standing (set (rows_of t) r k) ≤ length (set (rows_of t) r k) * choices
room_for_lost t r k l inside parts =
    let split : length (members k) + length (members l) ≡ length (members (row (rows_of t) r)) =
    ap (λ xs. length (members k) + length xs) (members_lost (row (rows_of t) r) k l parts) ∙ lost_count (row (rows_of t) r) k parts.staying
    in omega (arith, split, standing_set (rows_of t) r k inside, length-set (rows_of t) r k, t.spare)

-- storing a part of a row, and noting what it loses
pub stored_as : (t u : Trail) (r k l : ℕ) → Parts (row (rows_of t) r) k l → rows_of u ≡ set (rows_of t) r k → Noted (map (stroke r) (members l)) t u → Stored r k t u
stored_as t u r k l parts e noted =
    record { rows = e; noted = subst (λ xs. Noted (map (stroke r) xs) t u) (members_lost (row (rows_of t) r) k l parts) noted }

-- and that is a narrowing
pub narrowed_as : (t u : Trail) (r wanted : ℕ) → r < length (rows_of t) → row (rows_of t) r < 2 ^ choices → bit_and (row (rows_of t) r) wanted < 2 ^ choices
    → Stored r (bit_and (row (rows_of t) r) wanted) t u → Narrows r wanted (rows_of t) (rows_of u) (record_of t) (record_of u)
narrowed_as t u r wanted inside hm hk st =
    subst (λ s'. Narrows r wanted s s' (record_of t) (record_of u)) (sym st.rows) (record {
      elsewhere = elsewhere_set s r k inside;
      here = λ v. ap (λ m. stands m v) row_is ∙ stands_and (row s r) wanted v;
      recorded = st.noted.1 ∙ ap (λ m. record_of t ++ strokes_of r (row s r) m) (sym row_is);
      undone = ap (λ m. restored (set s r k) (strokes_of r (row s r) m)) row_is ∙ restored_lost s r k inside hm hk (parts_and (row s r) wanted).staying;
    })
  where
    s : Sheet
    s = rows_of t

    k : ℕ
    k = bit_and (row s r) wanted

    row_is : row (set s r k) r ≡ k
    row_is = get_or-set_same s r k 0 inside
