-- How the engine refuses: each reason has a number, and some carry values with it.
use Rattle.std.specs.Prelude.{◌≡◌, ℕ, Bool, cond, List, [], ◌∷◌, Some, None, Ok, Err, Option, Result}

-- A refusal: its number, and the values that it carries.
pub record Refusal : Type 0 where
  pub number : ℕ
  pub values : List ℕ

-- A refusal that carries no value.
abbrev pub plain : ℕ → Refusal
plain n = record { number = n; values = [] }

-- The refusal f where its reason b fits, and none where it does not.
abbrev pub fits : Bool → Refusal → Option Refusal
fits b f = cond b (Some f) None

-- The first refusal in a list of reasons, each of which fits or does not.
abbrev pub first : List (Option Refusal) → Option Refusal
first [] = None
first (Some f ∷ rest) = Some f
first (None ∷ rest) = first rest

-- What a call answers, where `why` is the first refusal that fits it: `says` reads an error as a refusal.
-- Accepted, nothing fits, and the value and the memory after the call are as `gives` says. Refused, it answers exactly `why`, and
-- the memory is as it was, which `same` says.
abbrev pub Answer : {A E : Type 0} → (E → Refusal) → Option Refusal → Type 0 → (A → Type 0) → Result A E → Type 0
Answer says why same gives (Ok a) = (why ≡ None) × gives a
Answer says why same gives (Err e) = (why ≡ Some (says e)) × same
