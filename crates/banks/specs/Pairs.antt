-- A pair of two banks: its width is the larger one, and its rules are the first bank's, then the second's. Two banks of more than 512 rules
-- together make no pair: what is answered then means width 1 and no rules.
use Rattle.std.specs.Prelude.{◌≡◌, ℕ, ◌+◌, ◌<◌, max, Bool, cond, not, List, [], ◌∷◌, ◌++◌, length, Option, nat_le}
use Rattle.rows.specs.Refusals.{Refusal, plain, fits, first}
use Rattle.banks.specs.Calls.{rule_at}
use Rattle.banks.specs.Lawful.{max_rules}
use Rattle.banks.specs.Rules.{Rule}
use Rattle.banks.specs.declared.pair.Half.{Half}
use Rattle.banks.specs.declared.pair.Half.TheVariants.{First, Second}
use Rattle.banks.specs.declared.refusal.PairError.{PairError}
use Rattle.banks.specs.declared.refusal.PairError.TheVariants.{TooManyRules}

-- Two lists of rules fit into one bank.
abbrev pub fit_together : List Rule → List Rule → Bool
fit_together Rs Ss = nat_le (length Rs + length Ss) max_rules

-- The width of the pair, from the widths and the rules of the two banks.
abbrev pub pair_width : ℕ → List Rule → ℕ → List Rule → ℕ
pair_width w Rs u Ss = cond (fit_together Rs Ss) (max w u) 1

-- The rules of the pair.
abbrev pub pair_rules : List Rule → List Rule → List Rule
pair_rules Rs Ss = cond (fit_together Rs Ss) (Rs ++ Ss) []

-- 11: the pair would have more than 512 rules.
abbrev pub pair_says : PairError → Refusal
pair_says TooManyRules = plain 11

abbrev pub pair_refusal : List Rule → List Rule → Option Refusal
pair_refusal Rs Ss = first (fits (not (fit_together Rs Ss)) (plain 11) ∷ [])

-- The rule k of the pair is a rule of the first bank or of the second, by its number there.
abbrev pub LiesAt : List Rule → List Rule → ℕ → Half → Type 0
LiesAt Rs Ss k (First j) = (j < length Rs) × (rule_at (pair_rules Rs Ss) k ≡ rule_at Rs j)
LiesAt Rs Ss k (Second j) = (j < length Ss) × (rule_at (pair_rules Rs Ss) k ≡ rule_at Ss j)
