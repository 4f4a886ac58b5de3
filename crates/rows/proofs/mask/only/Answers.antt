use Rattle.std.proofs.Common.{false, eqb, sym, refl, ◌∙◌}
use Rattle.std.proofs.lemmas.Nat.{one_shl}
use Rattle.std.proofs.lemmas.Bool.{lt-ltb, le-ltb, and_right}
use Rattle.rows.proofs.Masks.{stands_bit, stands_zero, and_true}
use Rattle.rows.proofs.mask.only.Goals as goal

pub returns-then-choice-lt-CHOICES : goal.returns-then-choice-lt-CHOICES
returns-then-choice-lt-CHOICES c w =
    let low = c.if-choice-lt-CHOICES.true in
    simp (one_shl c.args.choice 64 low) (stands_bit c.args.choice w ∙ simp (lt-ltb c.args.choice 64 low) (and_true (eqb w c.args.choice)))

pub returns-else-choice-lt-CHOICES : goal.returns-else-choice-lt-CHOICES
returns-else-choice-lt-CHOICES c w =
    stands_zero w ∙ sym (simp (le-ltb c.args.choice 64 c.if-choice-lt-CHOICES.false) (and_right (eqb w c.args.choice) false refl))
