-- The first refusal that fits: how a call that tests one reason after another comes to it.
use Rattle.std.proofs.Common.{◌≡◌, ℕ, ◌<◌, ◌≤◌, Bool, true, false, ltb, leb, List, ◌∷◌, Some, None, Option, refl, ap, arith}
use Rattle.std.proofs.lemmas.Bool.{lt-ltb, le-ltb, le-leb, lt-leb, cond-true, cond-false, ltb-false, leb-false}
use Rattle.rows.specs.Refusals.{Refusal, fits, first}

-- a reason that does not fit is passed over
pub first_past : (o : Option Refusal) (rest : List (Option Refusal)) → o ≡ None → first (o ∷ rest) ≡ first rest
first_past o rest e = ap (λ x. first (x ∷ rest)) e

-- one that fits decides
pub first_here : (o : Option Refusal) (rest : List (Option Refusal)) (f : Refusal) → o ≡ Some f → first (o ∷ rest) ≡ Some f
first_here o rest f e = ap (λ x. first (x ∷ rest)) e

-- where none fits, the first does not, and none of the rest
pub first_none : (o : Option Refusal) (rest : List (Option Refusal)) → first (o ∷ rest) ≡ None → (o ≡ None) × (first rest ≡ None)
first_none None rest e = (refl, e)
first_none (Some f) rest e = absurd (let z : ◌≡◌ {A = ℕ} 0 1 = cc in omega arith)

pub some_not_none : (o : Option Refusal) (f : Refusal) → o ≡ Some f → o ≡ None → ⊥
some_not_none o f e n = let z : ◌≡◌ {A = ℕ} 0 1 = cc in omega arith

pub fits_none : (b : Bool) (f : Refusal) → fits b f ≡ None → b ≡ false
fits_none true f e = absurd (some_not_none (Some f) f refl e)
fits_none false f e = refl

-- the two tests on numbers that the reasons are made of
pub lt_fits : (a b : ℕ) (f : Refusal) → a < b → fits (ltb a b) f ≡ Some f
lt_fits a b f h = cond-true (ltb a b) (Some f) None (lt-ltb a b h)

pub lt_fits_not : (a b : ℕ) (f : Refusal) → b ≤ a → fits (ltb a b) f ≡ None
lt_fits_not a b f h = cond-false (ltb a b) (Some f) None (le-ltb a b h)

pub le_fits : (a b : ℕ) (f : Refusal) → a ≤ b → fits (leb a b) f ≡ Some f
le_fits a b f h = cond-true (leb a b) (Some f) None (le-leb a b h)

pub le_fits_not : (a b : ℕ) (f : Refusal) → b < a → fits (leb a b) f ≡ None
le_fits_not a b f h = cond-false (leb a b) (Some f) None (lt-leb a b h)

pub not_lt_from : (a b : ℕ) (f : Refusal) → fits (ltb a b) f ≡ None → b ≤ a
not_lt_from a b f e = ltb-false a b (fits_none (ltb a b) f e)

pub not_le_from : (a b : ℕ) (f : Refusal) → fits (leb a b) f ≡ None → b < a
not_le_from a b f e = leb-false a b (fits_none (leb a b) f e)
