-- Rules that fit what settling works on.
use Rattle.std.proofs.Common.{ℕ, List, length, ap, arith}
use Rattle.banks.specs.Rules.{Rule}
use Rattle.settling.specs.States.{Fits, Keeps}
use Rattle.settling.specs.declared.propagate.Settling.{Settling}

-- they do so still, as long as settling goes on with the same
pub fits_kept : {B L : Type 0} (wide : B → ℕ) (rules : B → List Rule) (room_of : L → ℕ) (x y : Settling B L) → Fits wide rules room_of x → Keeps room_of x y → Fits wide rules room_of y
fits_kept wide rules room_of x y fits keeps = record {
  width = omega (arith, fits.width, ap wide keeps.bank, keeps.rows);
  capacity = omega (arith, fits.capacity, ap (λ b. length (rules b)) keeps.bank, keeps.room);
}
