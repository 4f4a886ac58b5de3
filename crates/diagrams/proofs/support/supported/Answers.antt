use Rattle.std.proofs.Common.{length, take, ◌∙◌, arith}
use Rattle.std.proofs.lemmas.List.{get_or-take}
use Rattle.diagrams.proofs.Supporting.{through_shows}
use Rattle.diagrams.proofs.support.supported.Goals as goal

pub returns : goal.returns
returns c =
    let names = c.args.names.now in
    let by_place = c.masks_of-by_place.result in
    through_shows c.args.rows.now names c.args.nodes.now c.args.arcs.now (take (length names) by_place) c.requires
    (λ p h. get_or-take (length names) by_place p 0 h ∙ c.masks_of-by_place.ensures.named p h (omega (arith, c.requires.narrow))) c.on_paths.result c.on_paths.ensures
