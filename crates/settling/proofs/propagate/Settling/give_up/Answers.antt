use Rattle.std.proofs.Common.{◌≡◌, ℕ, List, length, drop, refl, ap, ◌∙◌, arith}
use Rattle.banks.specs.Rules.{Sheet}
use Rattle.trail.specs.Trails.{Undoes}
use Rattle.trail.proofs.Restoring.{restored_long}
use Rattle.settling.proofs.propagate.Settling.give_up.Goals as goal

-- there are as many rows
undoes_long : (height : ℕ) (s t : Sheet) (a b : List ℕ) → Undoes height s t a b → length t ≡ length s
undoes_long height s t a b undoes = ap length undoes.rows ∙ restored_long s (drop height a)

pub returns-clause-keeps : goal.returns-clause-keeps
returns-clause-keeps g c =
    record { trail = refl; list = refl; bank = refl; rows = undoes_long _ _ _ _ _ c.undo_to.ensures.rows; memory = omega (arith, c.undo_to.ensures.memory); room = c.clear.ensures.0 }
