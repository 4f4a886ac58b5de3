use Rattle.std.proofs.Common.{◌≡◌, ℕ, ◌-◌, ◌<◌, Bool, true, false, length, MatchBool, sym, refl, subst, rules, tests, arith}
use Rattle.std.specs.List.{HoldsAt, AllWithin, range_with_len}
use Rattle.std.proofs.lemmas.Iterator.{cases_from_any, YieldsList-from_range}
use Rattle.std.proofs.lemmas.List.FromFn.{get_or-range_with_len, length-range_with_len}
use Rattle.banks.specs.Calls.{rule_at}
use Rattle.banks.specs.Names.{among}
use Rattle.banks.specs.Rules.{Rule, arity, named}
use Rattle.trail.proofs.Listing.{among_get_or}
use Rattle.settling.specs.States.{rules_of}
use Rattle.settling.proofs.Asking.{places, found, missed}
use Rattle.settling.proofs.Waking.{not_among}
use Rattle.settling.proofs.propagate.Settling.names.Goals as goal

-- whether any place of a rule has a row is whether the rule names it
module _ (R : Rule) (row : ℕ) where
  abbrev Here : ℕ → Type 0
  Here p = (p < arity R) × (named R p ≡ row)

  abbrev NotHere : ℕ → Type 0
  NotHere p = p < arity R → named R p ≡ row → ⊥

  among_any : (r : Bool)
      → MatchBool r ((k : ℕ) × (k < length (range_with_len 0 (arity R))) × HoldsAt Here (range_with_len 0 (arity R)) k)
      (AllWithin NotHere (range_with_len 0 (arity R)) 0 (length (range_with_len 0 (arity R)))) → r ≡ among row R.names
  among_any true h = let at = h.2 0 in sym (subst (λ x. among x R.names ≡ true) at.1 (among_get_or R.names _ at.0))
  among_any false h = sym (not_among row R.names out)
    where
      out : (p : ℕ) → NotHere p
      out p l = subst NotHere (omega (arith, get_or-range_with_len 0 (arity R) p 0 l)) (h p 0 (omega arith) (omega (arith, length-range_with_len 0 (arity R)))) l

pub returns : goal.returns
returns g c =
    let Rs = rules_of g.B.Bank.rules c.args.self.now in
    let k = c.args.rule in
    let row = c.args.row in
    let R = rule_at Rs k in
    let n = c.unwrap_or-arity.result in
    let whole : n - 0 ≡ arity R = omega (arith, c.unwrap_or-arity.ensures, places Rs k _ c.arity.ensures) in
    among_any R row _
    (cases_from_any _ _ _ (Here R row) (NotHere R row) c.any.ensures.ran (YieldsList-from_range 0 n (arity R) refl whole)
    (λ x q k. search (rules, tests, found)) (λ x q k. (search rules, search (rules, tests, missed))))
