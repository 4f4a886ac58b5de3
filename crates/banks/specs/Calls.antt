-- What the calls of a rule bank answer, read off its width and its list of rules.
use Rattle.std.specs.Prelude.{◌≡◌, ℕ, ◌<◌, ◌≤◌, Bool, false, List, [], ◌∷◌, length, replicate, Decides, Option, Result, nat_le, nat_lt, slice_index, slice_index_or}
use Rattle.std.specs.List.{AllByRecursion}
use Rattle.rows.specs.Choices.{stands, Kept}
use Rattle.rows.specs.Refusals.{Refusal, plain, fits, first, Answer}
use Rattle.banks.specs.Names.{max_arity}
use Rattle.banks.specs.Rules.{Sheet, Tuple, Rule, arity, row, named, SupportAt, SupportIn, SupportedBy, Supported, Live, Plan, OfChoices, Meets}
use Rattle.banks.specs.declared.refusal.CallError.{CallError}
use Rattle.banks.specs.declared.refusal.CallError.TheVariants.{NoSuchRule, NoSuchPlace, TooFewRows, TooFewMasks}

-- The number of each refusal of a bank's calls.
abbrev pub call_says : CallError → Refusal
call_says NoSuchRule = plain 22
call_says NoSuchPlace = plain 23
call_says TooFewRows = plain 24
call_says TooFewMasks = plain 25

-- The rule of a number; past the end of the list, a rule that names no row and permits nothing.
abbrev pub rule_at : List Rule → ℕ → Rule
rule_at Rs k = slice_index_or Rs k (record { names = []; permits = λ _. false })

-- 22: the rule number is not below the bank's count.
abbrev pub no_such_rule : List Rule → ℕ → Option Refusal
no_such_rule Rs k = fits (nat_le (length Rs) k) (plain 22)

-- 23: the place is not below the arity.
abbrev pub no_such_place : Rule → ℕ → Option Refusal
no_such_place R p = fits (nat_le (arity R) p) (plain 23)

-- 24: there are fewer rows than the width.
abbrev pub too_few_rows : ℕ → Sheet → Option Refusal
too_few_rows w s = fits (nat_lt (length s) w) (plain 24)

-- 25: there are fewer masks than the arity.
abbrev pub too_few_masks : ℕ → List ℕ → Option Refusal
too_few_masks a masks = fits (nat_lt (length masks) a) (plain 25)

-- The arity of a rule.
abbrev pub ArityAnswer : List Rule → ℕ → Result ℕ CallError → Type 0
ArityAnswer Rs k = Answer call_says (first (no_such_rule Rs k ∷ [])) (Unit {0}) (λ a. a ≡ arity (rule_at Rs k))

-- The row at a place of a rule.
abbrev pub RowAnswer : List Rule → ℕ → ℕ → Result ℕ CallError → Type 0
RowAnswer Rs k p = Answer call_says (first (no_such_rule Rs k ∷ no_such_place (rule_at Rs k) p ∷ [])) (Unit {0}) (λ r. r ≡ named (rule_at Rs k) p)

-- The masks after a support show exactly the choices that have support at each place of the rule. Those beyond its arity stay.
pub record Shows (s : Sheet) (R : Rule) (before after : List ℕ) : Type 0 where
  pub long : length after ≡ length before
  pub exact : (p v : ℕ) → p < arity R → Decides (stands (slice_index after p) v) (SupportAt s R p v)
  pub beyond : (p : ℕ) → arity R ≤ p → slice_index after p ≡ slice_index before p

-- Support of a rule on rows.
abbrev pub SupportAnswer : ℕ → List Rule → ℕ → Sheet → List ℕ → List ℕ → Result (Unit {0}) CallError → Type 0
SupportAnswer w Rs k s before after =
    Answer call_says (first (no_such_rule Rs k ∷ too_few_rows w s ∷ too_few_masks (arity (rule_at Rs k)) before ∷ [])) (after ≡ before)
    (λ _. Shows s (rule_at Rs k) before after)

-- The masks of the choices that have support at each place of a rule, with no choice beyond its arity.
abbrev pub ShownAnswer : ℕ → List Rule → ℕ → Sheet → Result (List ℕ) CallError → Type 0
ShownAnswer w Rs k s =
    Answer call_says (first (no_such_rule Rs k ∷ too_few_rows w s ∷ [])) (Unit {0}) (λ masks. Shows s (rule_at Rs k) (replicate max_arity 0) masks)

-- Whether a sheet is supported for the rules of a bank.
abbrev pub SupportedAnswer : ℕ → List Rule → Sheet → Result Bool CallError → Type 0
SupportedAnswer w Rs s = Answer call_says (first (too_few_rows w s ∷ [])) (Unit {0}) (λ r. Decides r (Supported s Rs))

-- Whether every choice of a sheet has support in one rule of a bank.
abbrev pub SupportedByAnswer : ℕ → List Rule → ℕ → Sheet → Result Bool CallError → Type 0
SupportedByAnswer w Rs k s =
    Answer call_says (first (no_such_rule Rs k ∷ too_few_rows w s ∷ [])) (Unit {0}) (λ r. Decides r (SupportedBy s (rule_at Rs k)))

-- Whether a rule of a bank has a live tuple on a sheet.
abbrev pub LiveAnswer : ℕ → List Rule → ℕ → Sheet → Result Bool CallError → Type 0
LiveAnswer w Rs k s =
    Answer call_says (first (no_such_rule Rs k ∷ too_few_rows w s ∷ [])) (Unit {0}) (λ r. Decides r ((t : Tuple) × Live s (rule_at Rs k) t))

-- Whether a plan meets every rule of a bank: each of its numbers is a choice, and its choices form a permitted tuple of each rule.
abbrev pub MeetsAnswer : ℕ → List Rule → Plan → Result Bool CallError → Type 0
MeetsAnswer w Rs plan = Answer call_says (first (too_few_rows w plan ∷ [])) (Unit {0}) (λ r. Decides r (OfChoices plan × AllByRecursion (Meets plan) Rs))

-- The choices of a row that stand and have support in every rule of a bank.
abbrev pub ChoicesAnswer : ℕ → List Rule → Sheet → ℕ → Result ℕ CallError → Type 0
ChoicesAnswer w Rs s r = Answer call_says (first (too_few_rows w s ∷ [])) (Unit {0}) (λ m. Kept (λ v. AllByRecursion (λ R. SupportIn s R r v) Rs) (row s r) m)

-- Those of a mask that have support in one rule.
abbrev pub NarrowedAnswer : ℕ → List Rule → ℕ → Sheet → ℕ → ℕ → Result ℕ CallError → Type 0
NarrowedAnswer w Rs k s r mask =
    Answer call_says (first (no_such_rule Rs k ∷ too_few_rows w s ∷ [])) (Unit {0}) (λ m. Kept (SupportIn s (rule_at Rs k) r) mask m)
