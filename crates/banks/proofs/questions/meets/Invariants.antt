use Rattle.std.proofs.Common.{ℕ, ◌<◌}
use Rattle.banks.specs.Calls.{rule_at}
use Rattle.banks.specs.Rules.{Meets}
use Rattle.banks.proofs.questions.meets.Given as goal

abbrev pub invariant-loop-rule : goal.invariant-loop-rule
invariant-loop-rule g l = (k : ℕ) → k < l.rule → Meets l.plan (rule_at (g.B.Bank.rules l.bank) k)
