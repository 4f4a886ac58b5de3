use Rattle.std.proofs.Common.{◌≡◌, ◌^◌, ◌<◌, length, eqb, [], ◌∷◌, sym, ap, ◌∙◌, subst, rules}
use lib.Bits.{bit_and}
use Rattle.rows.specs.Refusals.{plain, fits, first}
use Rattle.rows.proofs.Refusing.{first_past, le_fits_not}
use Rattle.banks.specs.Rules.{row}
use Rattle.trail.specs.Calls.{Stored}
use Rattle.trail.specs.Readings.{rows_of}
use Rattle.trail.proofs.Storing.{parts_and, narrowed_as}
use Rattle.trail.proofs.trail.Trail.narrow.Goals as goal

pub store-requires-clause-parts : goal.store-requires-clause-parts
store-requires-clause-parts c =
    let m = c.in_ok-mask.mask in
    let is : m ≡ row (rows_of c.args.self.now) c.args.row = search rules in
    rw (← is, c.in_ok-narrowed.ensures.1) (parts_and m c.args.wanted)

pub returns : goal.returns
returns c =
    let t = c.args.self.now in
    let u = c.store.new.self in
    let inside : c.args.row < length (rows_of t) = search rules in
    let is : c.in_ok-mask.mask ≡ row (rows_of t) c.args.row = search rules in
    let m-lt : row (rows_of t) c.args.row < 2 ^ 64 = search rules in
    let k_lt : bit_and (row (rows_of t) c.args.row) c.args.wanted < 2 ^ 64 = search rules in
    let kept : c.in_ok-narrowed.narrowed.mask ≡ bit_and (row (rows_of t) c.args.row) c.args.wanted = c.in_ok-narrowed.ensures.1 ∙ ap (λ m. bit_and m c.args.wanted) is in
    let stored = subst (λ k. Stored c.args.row k t u) kept c.store.ensures in (
      first_past _ _ (le_fits_not (length (rows_of t)) c.args.row (plain 4) inside) ∙ ap (λ m. first (fits (eqb (bit_and m c.args.wanted) 0) (plain 1) ∷ [])) (sym is) ∙ c.in_ok-narrowed.ensures.0,
      (c.store.ensures.noted.0, narrowed_as t u c.args.row c.args.wanted inside m-lt k_lt stored),
    )
