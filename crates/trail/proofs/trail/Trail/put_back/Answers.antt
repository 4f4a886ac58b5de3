use Rattle.std.proofs.Common.{◌≡◌, ◌^◌, ◌<◌, sym, ap, ◌∙◌, subst, rules}
use lib.Bits.{bit_or}
use Rattle.std.proofs.lemmas.Nat.{one_shl}
use Rattle.banks.specs.Rules.{row}
use Rattle.trail.specs.Readings.{rows_of}
use Rattle.trail.proofs.Widening.{made_ok, made_mask, wider_some, wider_owes}
use Rattle.trail.proofs.trail.Trail.put_back.Goals as goal

pub unwrap-wider-requires : goal.unwrap-wider-requires
unwrap-wider-requires c =
    let m = row (rows_of c.args.self.now) c.args.row in
    let some : 0 < bit_or m (2 ^ c.args.choice) = wider_some m c.args.choice in
    made_ok _ c.new.result (subst (λ b. 0 < bit_or m b) (sym (one_shl c.args.choice 64 c.requires.below)) some) c.new.ensures

pub invariant_of-self : goal.invariant_of-self
invariant_of-self c =
    let t = c.args.self.now in
    let fit : row (rows_of t) c.args.row < 2 ^ 64 = search rules in
    let stored : c.mask.result ≡ bit_or (row (rows_of t) c.args.row) (2 ^ c.args.choice) =
    c.mask.ensures ∙ made_mask _ c.new.result c.unwrap-wider.result c.unwrap-wider.ensures c.new.ensures
    ∙ ap (bit_or (row (rows_of t) c.args.row)) (one_shl c.args.choice 64 c.requires.below)
    in
    let owed = wider_owes t c.args.row c.args.choice _ stored c.if-row-self.true fit c.requires.below c.requires.spare in
    record { some = owed.0; few = owed.1; enough = owed.2; spare = owed.3 }
