-- What every rule bank owes: a width, and a list of rules that name rows below it.
use Rattle.std.specs.Prelude.{◌≡◌, ℕ, Bool, true, ◌&&◌, List, length, nat_le}
use Rattle.std.specs.List.{AllByRecursion}
use Rattle.banks.specs.Names.{may_name}
use Rattle.banks.specs.Rules.{Rule}

-- The largest width of a bank, and the most rules that it has.
abbrev pub max_width : ℕ
max_width = 256

abbrev pub max_rules : ℕ
max_rules = 512

-- A bank may have the width w and n rules.
abbrev pub may_hold : ℕ → ℕ → Bool
may_hold w n = nat_le 1 w && nat_le w max_width && nat_le n max_rules

-- The width and the rules of a bank: the width is 1 to 256, there are at most 512 rules, and each names 1 to 16 different rows below the
-- width.
pub record Lawful (w : ℕ) (Rs : List Rule) : Type 0 where
  pub size : may_hold w (length Rs) ≡ true
  pub names : AllByRecursion (λ R. may_name w R.names ≡ true) Rs
