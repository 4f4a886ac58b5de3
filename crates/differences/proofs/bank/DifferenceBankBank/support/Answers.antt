use Rattle.std.proofs.Common.{length, sym, ◌∙◌, ap}
use Rattle.std.proofs.lemmas.List.{length-take-le}
use Rattle.banks.specs.Rules.{arity}
use Rattle.banks.proofs.Calling.{masks_enough}
use Rattle.differences.proofs.Banking.{after_find, pair_shows}
use Rattle.differences.proofs.bank.DifferenceBankBank.support.Goals as goal

pub returns : goal.returns
returns c =
    let s = c.args.rows.now in
    let before = c.args.masks.now in
    let sides = c.both_sides-sides.result in
    let found = c.in_ok-difference.ensures in
    let admitted = c.in_ok-admit.ensures in
    let enough = masks_enough c.args.self.now.width 2 s before admitted.0 in
    let two = sym (ap length c.copy_from_slice.ensures.after) ∙ c.copy_from_slice.ensures.len ∙ length-take-le 2 before enough in (
      after_find _ c.args.rule c.args.self.now.width s before found.0 (ap arity found.1.means) ∙ admitted.0,
      rw (c.copy_from_slice.ensures.after, found.1.means) (pair_shows s c.in_ok-difference.difference before sides enough two c.both_sides-sides.ensures.of_x c.both_sides-sides.ensures.of_y),
    )
