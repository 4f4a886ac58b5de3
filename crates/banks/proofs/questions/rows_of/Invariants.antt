use Rattle.std.proofs.Common.{◌≡◌, ℕ, ◌<◌, length, get_or}
use Rattle.rows.specs.Choices.{Only}
use Rattle.banks.specs.Lawful.{max_width}
use Rattle.banks.proofs.questions.rows_of.Given as goal

abbrev pub invariant-loop-row : goal.invariant-loop-row
invariant-loop-row l = (length l.rows ≡ max_width) × ((k : ℕ) → k < l.row → k < max_width → Only (get_or l.plan k 0) (get_or l.rows k 0))
