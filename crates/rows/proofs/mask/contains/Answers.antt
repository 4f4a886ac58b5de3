use Rattle.std.proofs.Common.{◌/◌, ◌^◌, eqb, sym, ap, ◌∙◌, rules}
use lib.Bits.{and_mask}
use Rattle.std.proofs.lemmas.Bool.{le-ltb}
use Rattle.rows.specs.Choices.{stands}
use Rattle.rows.proofs.Masks.{stands_high}
use Rattle.rows.proofs.mask.contains.Goals as goal

pub returns-then-choice-lt-CHOICES : goal.returns-then-choice-lt-CHOICES
unfolding stands
returns-then-choice-lt-CHOICES c = ap (λ n. eqb n 1) (and_mask (c.args.mask / 2 ^ c.args.choice) 1)

pub returns-else-choice-lt-CHOICES : goal.returns-else-choice-lt-CHOICES
returns-else-choice-lt-CHOICES c =
    le-ltb c.args.choice 64 c.if-choice-lt-CHOICES.false
    ∙ sym (stands_high 64 c.args.mask c.args.choice (search rules) c.if-choice-lt-CHOICES.false)
