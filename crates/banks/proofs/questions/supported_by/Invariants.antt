use Rattle.std.proofs.Common.{◌≡◌, ℕ, ◌<◌, get_or}
use Rattle.banks.specs.Calls.{rule_at}
use Rattle.banks.specs.Rules.{row, named}
use Rattle.banks.proofs.questions.supported_by.Given as goal

abbrev pub invariant-loop-place : goal.invariant-loop-place
invariant-loop-place g l =
    (p : ℕ) → p < l.place → get_or l.mask-items p 0 ≡ row l.rows (named (rule_at (g.B.Bank.rules l.bank) l.rule) p)
