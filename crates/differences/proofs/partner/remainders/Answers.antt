use Rattle.std.proofs.Common.{ℕ, ◌%◌, ◌<◌, sym, ap, ◌∙◌, subst, arith}
use Rattle.std.proofs.lemmas.Nat.{one_shl, mod_below}
use Rattle.differences.proofs.Gathering.{Gathering, gathering_none, gathering_more, gathering_all}
use Rattle.differences.proofs.partner.remainders.Goals as goal

pub loop-choice-init : goal.loop-choice-init
loop-choice-init c =
    let all = ap (λ w. w.rest) c.into_iter-choice-iterator.ensures.into_iter_gives ∙ c.over-choice-items.ensures in
    subst (λ (rest : ℕ). Gathering c.args.mask c.args.modulus rest 0) (sym all) (gathering_none c.args.mask c.args.modulus)

pub loop-choice-preserved : goal.loop-choice-preserved
loop-choice-preserved c =
    let low : c.in-Some.choice % c.args.modulus < 64 = omega (arith, mod_below c.in-Some.choice c.args.modulus c.requires.0) in
    let walked = c.in-Some.ensures.steps in
    simp (c.from.ensures, one_shl (c.in-Some.choice % c.args.modulus) 64 low)
    (gathering_more c.args.mask c.args.modulus c.loop-choice.choice-iterator.rest c.next.new.self.rest c.in-Some.choice c.loop-choice.left walked.0.here walked.1 c.loop-choice.invariant)

pub returns : goal.returns
returns c = gathering_all c.args.mask c.args.modulus c.loop-choice.choice-iterator.rest c.loop-choice.left c.in-None.ensures.steps.0 c.loop-choice.invariant
