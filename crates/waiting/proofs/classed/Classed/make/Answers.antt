use Rattle.std.proofs.Common.{◌≡◌, ◌-◌, true, refl, rules, length, sym, ◌∙◌}
use Rattle.waiting.specs.Classes.{all_classes, class_of}
use Rattle.waiting.specs.Waiting.{may_have}
use Rattle.waiting.proofs.Classing.{none_own, sound_classes}
use Rattle.waiting.proofs.classed.Classed.make.Goals as goal
use Rattle.waiting.proofs.classed.Classed.make.Goals.{then-is_ok, else-is_ok}

pub invariant_of-result : goal.invariant_of-result
invariant_of-result c =
    let cs = c.args.classes.now in
    let made = c.if-is_ok.classes.now in
    let sound : (may_have (length made) ≡ true) × (all_classes made ≡ true) =
    elim c.if-is_ok.branch [
      | then-is_ok w ↦ rw w.classes-is (sound_classes cs c.check.result c.check.ensures (sym c.is_ok.ensures.value ∙ w.if-is_ok.true))
      | else-is_ok w ↦ rw w.classes-is (refl, refl)
    ]
    in
    record { size = sound.0; fine = sound.1; own = none_own made c.no_numbers.result c.no_numbers.ensures }

pub returns : goal.returns
returns c = (elim c.if-is_ok.branch [ then-is_ok w ↦ search rules | else-is_ok w ↦ search rules ], (λ k. c.no_numbers.ensures (class_of c.if-is_ok.classes.now k - 1) k))
