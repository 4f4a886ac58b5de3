-- Numbers are put one after another.
use Rattle.std.proofs.Common.{◌≡◌, ℕ, suc, ◌<◌, ◌≤◌, false, not, ◌||◌, eqb, List, [], ◌∷◌, length, get_or, sym, refl, ap, arith}
use Rattle.std.proofs.lemmas.Bool.{and_left, ne_eqb, or_from}
use Rattle.banks.specs.Calls.{rule_at}
use Rattle.banks.specs.Names.{among}
use Rattle.banks.specs.Rules.{Rule}
use Rattle.waiting.specs.Waiting.{Numbers}
use Rattle.settling.specs.Loop.{other_names, Woken}
use Rattle.settling.proofs.Asking.{names_past}

-- a list has no number that it has at no index
pub not_among : (x : ℕ) (xs : List ℕ) → ((p : ℕ) → p < length xs → get_or xs p 0 ≡ x → ⊥) → among x xs ≡ false
not_among x [] out = refl
not_among x (y ∷ xs) out =
    or_from (eqb x y) (among x xs) (ne_eqb x y (λ e. out 0 (omega arith) (sym e))) (not_among x xs (λ p h. out (suc p) (omega arith)))

-- of the numbers below i those of a set have been put, and no others
pub record Waking (these before : Numbers) (i : ℕ) (waits : Numbers) : Type 0 where
  pub behind : (k : ℕ) → k < i → waits k ≡ (before k || these k)
  pub ahead : (k : ℕ) → i ≤ k → waits k ≡ before k

-- all rules but one that name a row; a rule that is not there names none
pub none_named : (Rs : List Rule) (k r j : ℕ) → length Rs ≤ j → other_names Rs k r j ≡ false
none_named Rs k r j h = and_left (among r (rule_at Rs j).names) (not (eqb j k)) (ap (among r) (names_past Rs j h))

pub waking_woken : (Rs : List Rule) (k r : ℕ) (before waits : Numbers) → Waking (other_names Rs k r) before (length Rs) waits → Woken Rs k r before waits
waking_woken Rs k r before waits w j =
    grind (arith, w.behind j, w.ahead j, none_named Rs k r j)
