-- The choices of a mask as a list, and what is lost of them.
use Rattle.std.proofs.Common.{◌≡◌, ℕ, zero, suc, ◌+◌, ◌^◌, ◌<◌, ◌≤◌, Bool, true, false, not, ◌&&◌, length, Decides, filter, sym, refl, ap, ◌∙◌, subst, arith}
use lib.Bits.{bit_xor}
use lib.Count.{count_trailing_zeros}
use Rattle.std.specs.List.{range_with_len, AllByRecursion}
use Rattle.std.proofs.lemmas.List.Filters.{length-filter_both}
use Rattle.std.proofs.ByRecursion.{all_kept_by}
use Rattle.std.proofs.lemmas.Bool.{not-true}
use Rattle.std.proofs.lemmas.Bool.Decides.{Decides-at, Decides-and, Decides-like}
use Rattle.rows.specs.Choices.{choices, stands, members}
use Rattle.rows.proofs.Masks.{lowest_is, members_lowest, members_none, stands_below, taken_out}
use Rattle.banks.specs.Names.{among, apart}
use Rattle.trail.specs.Strokes.{lost}
use Rattle.trail.proofs.Listing.{kept_alike, kept_twice, kept_few, among_kept, apart_kept, all_counting, among_counting, apart_counting}

-- the choices of a mask that pass a test are those of a mask that has just these
pub members_kept : (m k : ℕ) (P : ℕ → Bool) → ((v : ℕ) → stands k v ≡ (stands m v && P v)) → members k ≡ filter P (members m)
unfolding members
members_kept m k P h =
    kept_alike (stands k) (λ v. stands m v && P v) h (range_with_len 0 choices) ∙ sym (kept_twice P (stands m) (range_with_len 0 choices))

-- a mask has at most as many choices as there are
pub members_few : (m : ℕ) → length (members m) ≤ choices
unfolding members
members_few m = kept_few (stands m) (range_with_len 0 choices)

-- what stays and what is lost are all that was
pub lost_count : (m k : ℕ) → ((v : ℕ) → stands k v ≡ true → stands m v ≡ true) → length (members k) + length (lost m k) ≡ length (members m)
lost_count m k h =
    ap (λ xs. length xs + length (lost m k)) (members_kept m k (stands k) (λ v. part (stands k v) (stands m v) (h v)))
    ∙ length-filter_both (stands k) (λ v. not (stands k v)) (λ v. refl) (members m)
  where
    part : (a b : Bool) → (a ≡ true → b ≡ true) → a ≡ (b && a)
    part true b f = sym (ap (λ x. x && true) (f refl))
    part false true f = refl
    part false false f = refl

-- a mask that is not 0 has a choice
pub some_member : (m : ℕ) → 0 < m → m < 2 ^ choices → 0 < length (members m)
some_member m p h =
    let low = lowest_is choices m p h in
    let v = count_trailing_zeros choices m in
    let first-is = members_lowest m (bit_xor m (2 ^ v)) v (stands_below choices m v h low.here) low (taken_out m v low.here) in
    subst (λ xs. 0 < length xs) (sym first-is) (omega arith)

-- a mask that has a choice is not 0
pub member_not_zero : (m : ℕ) → 0 < length (members m) → 0 < m
member_not_zero zero h = absurd (let none : 0 < 0 = subst (λ xs. 0 < length xs) members_none h in omega arith)
member_not_zero (suc m) h = omega arith

-- a mask's choices are those below 64 that stand in it, each once
pub all_members : (m : ℕ) → AllByRecursion (λ v. v < choices) (members m)
unfolding members
all_members m = all_kept_by (stands m) (λ v. v < choices) (range_with_len 0 choices) (all_counting (λ v. v < choices) 0 choices (λ v _ h. omega arith))

pub among_members : (m v : ℕ) → Decides (among v (members m)) ((v < choices) × (stands m v ≡ true))
unfolding members
among_members m v =
    Decides-at (among v (members m)) (among v (range_with_len 0 choices) && stands m v) (among_kept (stands m) v (range_with_len 0 choices))
    (Decides-and (among v (range_with_len 0 choices)) (stands m v)
    (Decides-like (among v (range_with_len 0 choices)) (λ h. h.1) (λ h. (omega arith, h)) (among_counting v 0 choices)) ((λ e. e), (λ e. e)))

pub apart_members : (m : ℕ) → apart (members m) ≡ true
unfolding members
apart_members m = apart_kept (stands m) (range_with_len 0 choices) (apart_counting 0 choices)

-- and the lost ones those that stand no more
pub all_lost : (m k : ℕ) → AllByRecursion (λ v. v < choices) (lost m k)
all_lost m k = all_kept_by (λ w. not (stands k w)) (λ v. v < choices) (members m) (all_members m)

pub among_lost : (m k v : ℕ) → Decides (among v (lost m k)) ((v < choices) × (stands m v ≡ true) × (stands k v ≡ false))
among_lost m k v =
    Decides-at (among v (lost m k)) (among v (members m) && not (stands k v)) (among_kept (λ w. not (stands k w)) v (members m))
    (Decides-like (among v (members m) && not (stands k v)) (λ h. (h.0.0, h.0.1, h.1)) (λ h. ((h.0, h.1), h.2))
    (Decides-and (among v (members m)) (not (stands k v)) (among_members m v) (not-true (stands k v), ap not)))

pub apart_lost : (m k : ℕ) → apart (lost m k) ≡ true
apart_lost m k = apart_kept (λ v. not (stands k v)) (members m) (apart_members m)
