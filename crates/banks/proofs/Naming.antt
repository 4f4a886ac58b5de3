-- What a bank's law gives of the rows that a rule names.
use Rattle.std.proofs.Common.{◌≡◌, ℕ, zero, suc, ◌<◌, ◌≤◌, Bool, true, false, ◌&&◌, eqb, ltb, leb, List, [], ◌∷◌, length, get_or, sym, refl, arith}
use Rattle.std.specs.List.{IsAnyAnswer}
use Rattle.std.proofs.lemmas.List.Elements.{contains_decides}
use Rattle.std.proofs.ByRecursion.{All-get_or}
use Rattle.std.proofs.lemmas.Bool.{and_parts, and_right, ltb-true, leb-true, le-leb}
use Rattle.std.proofs.lemmas.Bool.Decides.{same_from_decides, Decides-by_or, Decides-like, Decides-eqb}
use Rattle.banks.specs.Calls.{rule_at}
use Rattle.banks.specs.Lawful.{Lawful, max_width, max_rules}
use Rattle.banks.specs.Names.{may_name, among, apart, below, max_arity}
use Rattle.banks.specs.Rules.{Rule}

below_at : (w : ℕ) (rs : List ℕ) (p : ℕ) → below w rs ≡ true → p < length rs → get_or rs p 0 < w
below_at w [] p e h = absurd (omega arith)
below_at w (x ∷ xs) zero e h = ltb-true x w (and_parts (ltb x w) (below w xs) e).0
below_at w (x ∷ xs) (suc p) e h = below_at w xs p (and_parts (ltb x w) (below w xs) e).1 (omega arith)

pub record Named (w : ℕ) (rs : List ℕ) : Type 0 where
  pub some : 1 ≤ length rs
  pub few : length rs ≤ max_arity
  pub distinct : apart rs ≡ true
  pub within : (p : ℕ) → p < length rs → get_or rs p 0 < w

pub named_from : (w : ℕ) (rs : List ℕ) → may_name w rs ≡ true → Named w rs
named_from w rs e =
    let p = and_parts (leb 1 (length rs) && leb (length rs) max_arity && apart rs) (below w rs) e in
    let q = and_parts (leb 1 (length rs) && leb (length rs) max_arity) (apart rs) p.0 in
    let r = and_parts (leb 1 (length rs)) (leb (length rs) max_arity) q.0 in
    record { some = leb-true _ _ r.0; few = leb-true _ _ r.1; distinct = q.1; within = λ k h. below_at w rs k p.1 h }

-- of a rule of a bank
pub rule_named : (w : ℕ) (Rs : List Rule) (k : ℕ) → Lawful w Rs → k < length Rs → Named w (rule_at Rs k).names
rule_named w Rs k l h = named_from w (rule_at Rs k).names (All-get_or (λ R. may_name w R.names ≡ true) Rs k _ h l.names)

-- of the bank's size
pub record Sized (w n : ℕ) : Type 0 where
  pub low : 1 ≤ w
  pub high : w ≤ max_width
  pub few : n ≤ max_rules

pub sized_from : (w : ℕ) (Rs : List Rule) → Lawful w Rs → Sized w (length Rs)
sized_from w Rs l =
    let p = and_parts (leb 1 w && leb w max_width) (leb (length Rs) max_rules) l.size in
    let q = and_parts (leb 1 w) (leb w max_width) p.0 in
    record { low = leb-true _ _ q.0; high = leb-true _ _ q.1; few = leb-true _ _ p.1 }

-- a search of a list comes to `among`
pub among_has : (x : ℕ) (xs : List ℕ) (r : Bool) → IsAnyAnswer (λ y t. eqb y x ≡ t) xs r → r ≡ among x xs
among_has x xs r h =
    same_from_decides r (among x xs) (contains_decides eqb Decides-eqb xs x r h)
    (Decides-by_or (eqb x) (λ y. y ≡ x) (among x) (λ y. Decides-like (eqb x y) sym sym (Decides-eqb x y)) refl (λ _ _. refl) xs)

-- the rows from one place on are apart and below the width, as a test that goes on from place to place
abbrev pub fine : ℕ → List ℕ → Bool
fine w rs = apart rs && below w rs

pub fine_step : (w x : ℕ) (xs : List ℕ) → ltb x w ≡ true → among x xs ≡ false → fine w (x ∷ xs) ≡ fine w xs
fine_step w x xs l a = simp (l, a)

pub fine_wide : (w x : ℕ) (xs : List ℕ) → ltb x w ≡ false → fine w (x ∷ xs) ≡ false
fine_wide w x xs l = simp l (and_right (apart (x ∷ xs)) false refl)

pub fine_twice : (w x : ℕ) (xs : List ℕ) → among x xs ≡ true → fine w (x ∷ xs) ≡ false
fine_twice w x xs a = simp a

pub may_name_fine : (w : ℕ) (rs : List ℕ) → 1 ≤ length rs → length rs ≤ max_arity → may_name w rs ≡ fine w rs
may_name_fine w rs a b = simp (le-leb 1 (length rs) a, le-leb (length rs) max_arity b)
