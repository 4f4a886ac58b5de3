use Rattle.std.proofs.Common.{◌≡◌, ℕ, ◌<◌, ◌≤◌, length, get_or}
use Rattle.banks.specs.Names.{max_arity}
use Rattle.banks.specs.Rules.{row}
use Rattle.banks.proofs.picking.masks_of.Given as goal

-- the masks so far are those of the rows so far, and the others are 0
abbrev pub invariant-loop-place : goal.invariant-loop-place
invariant-loop-place l = record {
  long : length l.masks ≡ max_arity;
  named : (p : ℕ) → p < l.place → get_or l.masks p 0 ≡ row l.rows (get_or l.names p 0);
  rest : (p : ℕ) → l.place ≤ p → get_or l.masks p 0 ≡ 0;
}
