use Rattle.std.proofs.Common.{◌≡◌, drop}
use Rattle.banks.proofs.Naming.{fine}
use Rattle.banks.proofs.limits.may_name.Given as goal

-- the rows from this place on decide
abbrev pub invariant-loop-place : goal.invariant-loop-place
invariant-loop-place l = fine l.width (drop l.place l.rows) ≡ fine l.width l.rows
