-- How settling ends: nothing waits, and the sheet is the largest supported one; or a rule has no live tuple, and there is none.
use Rattle.std.proofs.Common.{◌≡◌, ℕ, zero, suc, ◌^◌, ◌<◌, ◌≤◌, true, false, List, length, get_or, refl, subst, arith}
use lib.Pow.{pow-lt}
use Rattle.std.proofs.ByRecursion.{All-from_get_or}
use Rattle.std.proofs.lemmas.Bool.{both_ways}
use Rattle.rows.specs.Choices.{stands}
use Rattle.rows.proofs.Masks.{stands_zero, some_stands}
use Rattle.banks.specs.Calls.{rule_at, Shows}
use Rattle.banks.specs.Lawful.{Lawful}
use Rattle.banks.specs.Rules.{Sheet, Tuple, Rule, row, arity, named, Live, SupportAt, NoRowEmpty, SupportedBy, Supported}
use Rattle.banks.proofs.Naming.{rule_named}
use Rattle.waiting.specs.Waiting.{Numbers, Empty}
use Rattle.settling.specs.Settling.{Largest, Chain, WipedOut}
use Rattle.settling.proofs.Supporting.{live_above}
use Rattle.settling.proofs.Chaining.{rule_supports, chain_under, chain_rows, chain_above}

-- a tuple that is live supports its choice at each place
pub live_supports : (s : Sheet) (R : Rule) (p : ℕ) (t : Tuple) → p < arity R → Live s R t → SupportAt s R p (get_or t p 0)
live_supports s R p t h l = record { placed = h; tuple = t; live = l; there = refl }

-- so a rule that shows no choice at a place has no live tuple
pub none_live : (s : Sheet) (R : Rule) (p : ℕ) (before after : List ℕ) → Shows s R before after → p < arity R → get_or after p 0 ≡ 0 → (t : Tuple) → Live s R t → ⊥
none_live s R p before after shows h e t l =
    both_ways (stands 0 (get_or t p 0)) (stands_zero (get_or t p 0))
    (subst (λ m. stands m (get_or t p 0) ≡ true) e ((shows.exact p (get_or t p 0) h).1 (live_supports s R p t h l)))

-- some choice stands in a mask of any size that is not 0
below_power : (m : ℕ) → m < 2 ^ m
below_power zero = omega arith
below_power (suc m) = let rest = below_power m in let more : 2 ^ m < 2 ^ suc m = pow-lt (omega arith) in omega arith

pub any_stands : (m : ℕ) → 0 < m → (v : ℕ) × (stands m v ≡ true)
any_stands m h = some_stands m m h (below_power m)

-- a rule of a supported sheet has a live tuple
pub some_live : (w : ℕ) (Rs : List Rule) (c : Sheet) (k : ℕ) → Lawful w Rs → w ≤ length c → k < length Rs → Supported c Rs → (t : Tuple) × Live c (rule_at Rs k) t
some_live w Rs c k lawful enough listed sup =
    let names = rule_named w Rs k lawful listed in
    let r = named (rule_at Rs k) 0 in
    let on = any_stands (row c r) (sup.rows r (omega (arith, names.within 0 names.some))) in
    let at = rule_supports Rs c k sup listed r on.0 on.1 0 names.some refl in
    (at.tuple, at.live)

-- so where a chain leads to a rule without one, no supported sheet lies under the first
pub wiped_out : (w : ℕ) (Rs : List Rule) (s t : Sheet) (k : ℕ) → Lawful w Rs → w ≤ length s → k < length Rs → Chain Rs s t
    → ((tuple : Tuple) → Live t (rule_at Rs k) tuple → ⊥) → WipedOut Rs s k
wiped_out w Rs s t k lawful enough listed chain dead = record {
  none = λ c cand.
      let live = some_live w Rs c k lawful (omega (arith, cand.under.same)) listed cand.supported in
      dead live.0 (live_above c t (rule_at Rs k) (chain_above Rs s t chain c cand) live.0 live.1);
  named = record { listed = listed; sheet = t; reached = chain; dead = dead };
}

-- every rule that does not wait supports the sheet
abbrev pub Revised : List Rule → Numbers → Sheet → Type 0
Revised Rs waits s = (k : ℕ) → k < length Rs → waits k ≡ false → SupportedBy s (rule_at Rs k)

-- where none waits, the sheet that a chain leads to is the largest
pub settled : (Rs : List Rule) (s t : Sheet) (waits : Numbers) → NoRowEmpty s → Chain Rs s t → Revised Rs waits t → Empty waits → Largest Rs s t
settled Rs s t waits full chain revised empty = record {
  candidate = record {
    supported = record { rows = chain_rows Rs s t chain full; rules = All-from_get_or (SupportedBy t) Rs _ (λ k h. revised k h (empty k)) };
    under = chain_under Rs s t chain;
  };
  above = chain_above Rs s t chain;
}
