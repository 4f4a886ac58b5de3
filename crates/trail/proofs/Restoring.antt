-- Strokes that are put back give the rows that were.
use Rattle.std.proofs.Common.{◌≡◌, ℕ, ◌/◌, ◌%◌, ◌^◌, ◌<◌, Bool, true, false, ◌||◌, eqb, List, [], ◌∷◌, ◌++◌, map, length, set, refl, ap, ◌∙◌, ⊎_elim, arith}
use lib.Bits.{bit_or, or_lt}
use lib.Pow.{pow-lt}
use Rattle.std.specs.List.{AllByRecursion}
use Rattle.std.proofs.lemmas.List.{length-set, get_or-set_same, set-set, set-get_or}
use Rattle.std.proofs.lemmas.Bool.{cases_Bool, or_cases, or_left, or_right}
use Rattle.std.proofs.lemmas.Bool.Decides.{same_from_decides}
use Rattle.rows.specs.Choices.{choices, stands}
use Rattle.rows.proofs.Masks.{stands_or, stands_bit, stands_below, same_mask}
use Rattle.banks.specs.Names.{among}
use Rattle.banks.specs.Rules.{Sheet, row}
use Rattle.trail.specs.Strokes.{stroke, lost, strokes_of, put_back, restored}
use Rattle.trail.proofs.Members.{among_lost, all_lost}

-- a list of strokes after another
pub restored_append : (s : Sheet) (xs ys : List ℕ) → restored s (xs ++ ys) ≡ restored (restored s ys) xs
restored_append s [] ys = refl
restored_append s (x ∷ xs) ys = ap (put_back x) (restored_append s xs ys)

pub restored_long : (s : Sheet) (es : List ℕ) → length (restored s es) ≡ length s
restored_long s [] = refl
restored_long s (e ∷ es) = length-set (restored s es) _ _ ∙ restored_long s es

-- a stroke is read back
pub stroke_row : (r v : ℕ) → v < choices → stroke r v / choices ≡ r
stroke_row r v h = omega arith

pub stroke_choice : (r v : ℕ) → v < choices → stroke r v % choices ≡ v
stroke_choice r v h = omega arith

pub stroke_back : (e : ℕ) → stroke (e / choices) (e % choices) ≡ e
stroke_back e = omega arith

-- a mask with the choices of a list added
abbrev pub with_all : ℕ → List ℕ → ℕ
with_all m [] = m
with_all m (v ∷ vs) = bit_or (with_all m vs) (2 ^ v)

pub with_all_stands : (m w : ℕ) (vs : List ℕ) → stands (with_all m vs) w ≡ (stands m w || among w vs)
with_all_stands m w [] = or_nothing (stands m w)
  where
    or_nothing : (b : Bool) → b ≡ (b || false)
    or_nothing true = refl
    or_nothing false = refl
with_all_stands m w (v ∷ vs) =
    stands_or (with_all m vs) (2 ^ v) w ∙ ap (λ b. b || stands (2 ^ v) w) (with_all_stands m w vs) ∙ ap (λ b. (stands m w || among w vs) || b) (stands_bit v w)
    ∙ turned (stands m w) (among w vs) (eqb w v)
  where
    turned : (a b c : Bool) → ((a || b) || c) ≡ (a || (c || b))
    turned true b c = refl
    turned false true true = refl
    turned false true false = refl
    turned false false true = refl
    turned false false false = refl

pub with_all_lt : (n m : ℕ) (vs : List ℕ) → m < 2 ^ n → AllByRecursion (λ v. v < n) vs → with_all m vs < 2 ^ n
with_all_lt n m [] h all = h
with_all_lt n m (v ∷ vs) h all = or_lt n (with_all m vs) (2 ^ v) (with_all_lt n m vs h all.1) (pow-lt all.0)

-- putting back strokes of one row
pub restored_row : (s : Sheet) (r m : ℕ) (vs : List ℕ) → r < length s → AllByRecursion (λ v. v < choices) vs → restored (set s r m) (map (stroke r) vs) ≡ set s r (with_all m vs)
restored_row s r m [] h all = refl
restored_row s r m (v ∷ vs) h all =
    ap (put_back (stroke r v)) (restored_row s r m vs h all.1)
    ∙ ap (λ k. set t k (bit_or (row t k) (2 ^ (stroke r v % choices)))) (stroke_row r v all.0)
    ∙ ap (λ k. set t r (bit_or (row t r) (2 ^ k))) (stroke_choice r v all.0)
    ∙ ap (λ k. set t r (bit_or k (2 ^ v))) (get_or-set_same s r (with_all m vs) 0 h)
    ∙ set-set s r (with_all m vs) (bit_or (with_all m vs) (2 ^ v))
  where
    t : Sheet
    t = set s r (with_all m vs)

-- what stays with what is lost is the mask that was
with_lost : (m k : ℕ) → m < 2 ^ choices → k < 2 ^ choices → ((v : ℕ) → stands k v ≡ true → stands m v ≡ true) → with_all k (lost m k) ≡ m
with_lost m k hm hk part = same_mask choices (with_all k (lost m k)) m all_lt hm each
  where
    all_lt : with_all k (lost m k) < 2 ^ choices
    all_lt = with_all_lt choices k (lost m k) hk (all_lost m k)

    each : (v : ℕ) → stands (with_all k (lost m k)) v ≡ stands m v
    each v =
        with_all_stands k v (lost m k)
        ∙ same_from_decides (stands k v || among v (lost m k)) (stands m v) (
          (λ e. ⊎_elim (part v) (λ l. ((among_lost m k v).0 l).1) (or_cases (stands k v) (among v (lost m k)) e)),
          (λ on. ⊎_elim (or_left (stands k v) (among v (lost m k))) (λ off. or_right (stands k v) (among v (lost m k)) ((among_lost m k v).1 (stands_below choices m v hm on, on, off)))
              (cases_Bool (stands k v))),
        ) ((λ e. e), (λ e. e))

pub restored_lost : (s : Sheet) (r k : ℕ) → r < length s → row s r < 2 ^ choices → k < 2 ^ choices → ((v : ℕ) → stands k v ≡ true → stands (row s r) v ≡ true)
    → restored (set s r k) (strokes_of r (row s r) k) ≡ s
restored_lost s r k h hm hk part =
    restored_row s r k (lost (row s r) k) h (all_lost (row s r) k) ∙ ap (set s r) (with_lost (row s r) k hm hk part) ∙ set-get_or s r 0
