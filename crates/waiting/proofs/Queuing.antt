-- The order in which numbers wait, and the set of them.
use Rattle.std.proofs.Common.{◌≡◌, ℕ, zero, suc, ◌<◌, Bool, true, false, not, ◌||◌, eqb, ltb, List, [], ◌∷◌, ◌++◌, length, get_or, set, replicate, sym, refl, ap, ◌∙◌, arith}
use Rattle.std.proofs.lemmas.List.{get_or-set_same, get_or-set_other}
use mathlib.Core.Bool.{or-false, or_assoc, or_comm}
use Rattle.std.proofs.lemmas.Bool.{ne_eqb, and_parts, and_from, not-true, or_from, or_parts, lt-ltb, ltb-true, eqb-false}
use Rattle.waiting.specs.Waiting.{With, how_many}
use Rattle.waiting.specs.Turns.{among, apart, below}
use Rattle.waiting.proofs.Changing.{with_from}
use Rattle.waiting.proofs.Measuring.{many_le, many_more, many_empty}

-- a number put last
pub among_push : (q : List ℕ) (v : ℕ) → With v (among q) (among (q ++ v ∷ []))
among_push [] v k = or-false (eqb k v)
among_push (x ∷ q) v k = ap (λ b. eqb k x || b) (among_push q v k) ∙ sym (or_assoc (eqb k x) (among q k) (eqb k v))

pub apart_push : (q : List ℕ) (v : ℕ) → apart q ≡ true → among q v ≡ false → apart (q ++ v ∷ []) ≡ true
apart_push [] v a n = refl
apart_push (x ∷ q) v a n =
    let p = and_parts (not (among q x)) (apart q) a in
    and_from (not (among (q ++ v ∷ []) x)) (apart (q ++ v ∷ []))
    (ap not (among_push q v x ∙ or_from (among q x) (eqb x v) (not-true (among q x) p.0) (other (or_parts (eqb v x) (among q v) n).0)))
    (apart_push q v p.1 (or_parts (eqb v x) (among q v) n).1)
  where
    other : eqb v x ≡ false → eqb x v ≡ false
    other e = ne_eqb x v (λ same. eqb-false v x e (sym same))

pub below_push : (n : ℕ) (q : List ℕ) (v : ℕ) → below n q ≡ true → v < n → below n (q ++ v ∷ []) ≡ true
below_push n [] v b h = and_from (ltb v n) true (lt-ltb v n h) refl
below_push n (x ∷ q) v b h =
    let p = and_parts (ltb x n) (below n q) b in and_from (ltb x n) (below n (q ++ v ∷ [])) p.0 (below_push n q v p.1 h)

-- a list without repetition has as many numbers as it is long
pub many_among : (n : ℕ) (q : List ℕ) → apart q ≡ true → below n q ≡ true → how_many (among q) n ≡ length q
many_among n [] a b = many_empty (among []) n (λ _. refl)
many_among n (x ∷ q) a b =
    let p = and_parts (not (among q x)) (apart q) a in
    let h = and_parts (ltb x n) (below n q) b in
    many_more (among q) (among (x ∷ q)) x n (not-true (among q x) p.0) (ltb-true x n h.0) (λ k. or_comm (eqb k x) (among q k)) ∙ ap suc (many_among n q p.1 h.1)

-- so where another number below n is not in it, it is shorter than n
pub room_left : (n : ℕ) (q : List ℕ) (v : ℕ) → apart q ≡ true → below n q ≡ true → among q v ≡ false → v < n → length q < n
room_left n q v a b e h =
    omega (arith, many_among n q a b, many_more (among q) (among (q ++ v ∷ [])) v n e h (among_push q v), many_le (among (q ++ v ∷ [])) n)

-- flags of which none is set
pub none_known : (n k : ℕ) → get_or (replicate n false) k false ≡ false
none_known zero k = refl
none_known (suc n) zero = refl
none_known (suc n) (suc k) = none_known n k

-- one more is set
pub one_known : (flags : List Bool) (q : List ℕ) (v : ℕ) → v < length flags → ((k : ℕ) → get_or flags k false ≡ among q k)
    → (k : ℕ) → get_or (set flags v true) k false ≡ among (q ++ v ∷ []) k
one_known flags q v h known k =
    with_from (λ i. get_or flags i false) (λ i. get_or (set flags v true) i false) v (get_or-set_same flags v true false h) (λ i ne. get_or-set_other flags v i true false ne) k
    ∙ ap (λ b. b || eqb k v) (known k) ∙ sym (among_push q v k)
