-- Rows in each of which only the choice of a plan stands: a rule has a live tuple there exactly where the plan meets it.
use Rattle.std.proofs.Common.{◌≡◌, ℕ, ◌<◌, ◌≤◌, true, eqb, ltb, List, map, length, get_or, sym, refl, ap, ◌∙◌, subst, arith}
use lib.ListN.{get_or-map}
use Rattle.std.proofs.lemmas.List.{get_or_default, length-map, ext_get_or}
use Rattle.std.proofs.lemmas.Bool.{and_parts, and_from, eqb-true, eq-eqb, lt-ltb}
use Rattle.rows.specs.Choices.{choices, stands, Only}
use Rattle.banks.specs.Rules.{Sheet, Tuple, Rule, Plan, row, arity, named, OfChoices, Live, Meets}
use Rattle.banks.specs.Calls.{rule_at}
use Rattle.banks.specs.Lawful.{Lawful, max_width}
use Rattle.banks.proofs.Naming.{Named, rule_named, sized_from}

module _ (s : Sheet) (plan : Plan) (w : ℕ) (only : (k : ℕ) → k < w → Only (get_or plan k 0) (row s k)) (of-choices : (k : ℕ) → k < w → get_or plan k 0 < choices) where
  module _ (R : Rule) (fine : Named w R.names) where
    -- the choice of the plan at a place
    at_place : (p : ℕ) → p < arity R → get_or (map (λ r. get_or plan r 0) R.names) p 0 ≡ get_or plan (named R p) 0
    at_place p h =
        get_or_default (map (λ r. get_or plan r 0) R.names) p 0 (get_or plan 0 0) (simp length-map h) ∙ get_or-map (λ r. get_or plan r 0) R.names p 0

    pub meets_live : Meets plan R → Live s R (map (λ r. get_or plan r 0) R.names)
    meets_live m = record { whole = length-map R.names (λ r. get_or plan r 0); permitted = m; standing = each }
      where
        each : (p : ℕ) → p < arity R → stands (row s (named R p)) (get_or (map (λ r. get_or plan r 0) R.names) p 0) ≡ true
        each p h =
            let k = named R p in
            let low = fine.within p h in
            ap (stands (row s k)) (at_place p h) ∙ only k low (get_or plan k 0)
            ∙ and_from (eqb (get_or plan k 0) (get_or plan k 0)) (ltb (get_or plan k 0) choices) (eq-eqb _ _ refl) (lt-ltb (get_or plan k 0) choices (of-choices k low))

    live_is_plan : (t : Tuple) → Live s R t → t ≡ map (λ r. get_or plan r 0) R.names
    live_is_plan t l = ext_get_or 0 t (map (λ r. get_or plan r 0) R.names) (l.whole ∙ sym (length-map R.names (λ r. get_or plan r 0))) each
      where
        each : (p : ℕ) → p < length t → get_or t p 0 ≡ get_or (map (λ r. get_or plan r 0) R.names) p 0
        each p h =
            let inside : p < arity R = subst (λ n. p < n) l.whole h in
            let k = named R p in
            let stood = sym (only k (fine.within p inside) (get_or t p 0)) ∙ l.standing p inside in
            eqb-true (get_or t p 0) (get_or plan k 0) (and_parts (eqb (get_or t p 0) (get_or plan k 0)) (ltb (get_or plan k 0) choices) stood).0 ∙ sym (at_place p inside)

    pub live_meets : (t : Tuple) × Live s R t → Meets plan R
    live_meets l = subst (λ u. R.permits u ≡ true) (live_is_plan l.0 l.1) l.1.permitted

-- of a rule of a bank, where the plan has a choice for each row below the width
module _ (w : ℕ) (Rs : List Rule) (lawful : Lawful w Rs) (k : ℕ) (here : k < length Rs) (plan : Plan) (s : Sheet) (long : w ≤ length plan)
    (only : (j : ℕ) → j < length plan → j < max_width → Only (get_or plan j 0) (get_or s j 0)) (of-choices : OfChoices plan) where
  below : (j : ℕ) → j < w → (j < length plan) × (j < max_width)
  below j h = let high = (sized_from w Rs lawful).high in (omega arith, omega arith)

  pub rule_met : ((t : Tuple) × Live s (rule_at Rs k) t → Meets plan (rule_at Rs k)) × (Meets plan (rule_at Rs k) → (t : Tuple) × Live s (rule_at Rs k) t)
  rule_met =
      let only-low = λ (j : ℕ) (h : j < w). only j (below j h).0 (below j h).1 in
      let low = λ (j : ℕ) (h : j < w). of-choices j (below j h).0 in
      let fine = rule_named w Rs k lawful here in
      (live_meets s plan w only-low low (rule_at Rs k) fine, (λ m. (_, meets_live s plan w only-low low (rule_at Rs k) fine m)))
