-- Making a bank of one kind: which refusal comes first.
use Rattle.std.specs.Prelude.{◌≡◌, ℕ, suc, true, false, not, List, [], ◌∷◌, length, take, Some, Ok, Err, Option, Result}
use Rattle.std.specs.List.{AllByRecursion, slice_get}
use Rattle.std.specs.Option.{option_map}
use Rattle.rows.specs.Refusals.{Refusal, plain, fits, first}
use Rattle.banks.specs.Lawful.{may_hold}
use Rattle.banks.specs.declared.refusal.BankError.{BankError}
use Rattle.banks.specs.declared.refusal.BankError.TheVariants.{Size, Rule}

-- A fault of a rule by its number and its spot.
abbrev pub at_spot : ℕ → ℕ → Refusal
at_spot n spot = record { number = n; values = spot ∷ [] }

-- The fault of a rule, carried with the rule's number.
abbrev pub of_rule : ℕ → Refusal → Refusal
of_rule k f = record { number = f.number; values = k ∷ f.values }

-- 11: a bank would have more than 512 rules, or a width outside 1 to 256. Any other refusal is that of a rule, and carries its number.
abbrev pub bank_says : {F : Type 0} → (F → Refusal) → BankError F → Refusal
bank_says says Size = plain 11
bank_says says (Rule k f) = of_rule k (says f)

-- The faults of rules that are numbered from k on.
abbrev pub faults : {X : Type 0} → (X → Option Refusal) → ℕ → List X → List (Option Refusal)
faults fault k [] = []
faults fault k (x ∷ xs) = option_map (of_rule k) (fault x) ∷ faults fault (suc k) xs

-- The refusal of a bank of width w with the rules xs, each of which may have a fault: 11 comes first, then the first faulty rule decides.
abbrev pub bank_refusal : {X : Type 0} → ℕ → (X → Option Refusal) → List X → Option Refusal
bank_refusal w fault xs = first (fits (not (may_hold w (length xs))) (plain 11) ∷ faults fault 0 xs)

-- What an examination of the rules xs of a bank of width w comes to, where `Says x r` holds of what the check of a rule x answers: the
-- size is refused first, and then the first rule that its check refuses, after rules that it accepts.
abbrev pub Examined : {X F : Type 0} → (X → Result (Unit {0}) F → Type 0) → ℕ → List X → Result (Unit {0}) (BankError F) → Type 0
Examined Says w xs (Ok u) = (may_hold w (length xs) ≡ true) × AllByRecursion (λ x. Says x (Ok tt)) xs
Examined Says w xs (Err Size) = may_hold w (length xs) ≡ false
Examined {X} Says w xs (Err (Rule k f)) =
    (may_hold w (length xs) ≡ true) × AllByRecursion (λ x. Says x (Ok tt)) (take k xs) × (x : X) × (slice_get xs k ≡ Some x) × Says x (Err f)
