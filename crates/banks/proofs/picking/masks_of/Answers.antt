use Rattle.std.proofs.Common.{◌≡◌, ◌∙◌, ap, get_or, set, take, below_more, arith}
use Rattle.std.specs.Option.{unwrap_or}
use Rattle.std.proofs.lemmas.List.{length-take, length-set, get_or-set_same, get_or-set_other}
use Rattle.banks.specs.Rules.{row}
use Rattle.banks.proofs.picking.masks_of.Goals as goal

pub loop-place-preserved : goal.loop-place-preserved
loop-place-preserved c =
    let n = c.loop-place.place in
    let masks = c.loop-place.masks in
    let mask = c.unwrap_or.result in
    let picked = c.unwrap_or.ensures ∙ ap (λ o. unwrap_or o 0) c.copied.ensures ∙ c.get.ensures.lookup.4 (omega arith) 0 in
    let inside = length-take c.min.result c.args.names.now in
    record {
      long = length-set masks n mask ∙ c.loop-place.invariant.long;
      named = below_more (λ p. get_or (set masks n mask) p 0 ≡ row c.args.rows.now (get_or (take c.min.result c.args.names.now) p 0)) n
          (λ p h. get_or-set_other masks n p mask 0 (λ e. omega arith) ∙ c.loop-place.invariant.named p h) (get_or-set_same masks n mask 0 (omega (arith, inside, c.min.ensures, c.loop-place.invariant.long, c.loop-place-test.true)) ∙ picked);
      rest = λ p h. get_or-set_other masks n p mask 0 (λ e. omega arith) ∙ c.loop-place.invariant.rest p (omega arith);
    }
