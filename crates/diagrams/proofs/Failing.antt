-- The first reason of a list of reasons that a test makes, and that none is made where nothing fails it.
use Rattle.std.proofs.Common.{◌≡◌, ℕ, zero, suc, ◌+◌, ◌<◌, ◌≤◌, Bool, true, false, not, cond, List, [], ◌∷◌, ◌++◌, map, length, Some, None, Option, sym, refl, ap, ◌∙◌, ⊎_elim, arith}
use Rattle.std.specs.List.{range_with_len, find}
use Rattle.std.specs.Option.{option_map, option_or}
use Rattle.std.proofs.lemmas.List.{append-nil}
use Rattle.std.proofs.lemmas.Bool.{cases_eq}
use Rattle.rows.specs.Refusals.{Refusal, fits, first}
use Rattle.banks.specs.Faults.{at_spot}
use Rattle.diagrams.specs.declared.diagram.Arc.{Arc}
use Rattle.diagrams.specs.Checks.{reasons, first_failing, layer_reasons}
use Rattle.diagrams.specs.Layers.{node_fits, arc_fits}

or_nothing : {X : Type 0} (o : Option X) → option_or o None ≡ o
or_nothing None = refl
or_nothing (Some x) = refl

-- neither of two is there
pub or_none : {X Y Z : Type 0} (f : X → Z) (g : Y → Z) (o : Option X) (p : Option Y) → option_or (option_map f o) (option_map g p) ≡ None → (o ≡ None) × (p ≡ None)
or_none f g None None e = (refl, refl)
or_none f g None (Some y) e = absurd cc
or_none f g (Some x) p e = absurd cc

module _ (test : ℕ → Bool) (says : ℕ → Refusal) where
  reason_past : (b : Bool) (x : ℕ) (o : Option ℕ) (rest : List (Option Refusal)) (q : Option Refusal) → first rest ≡ option_or (option_map says o) q
      → first (fits b (says x) ∷ rest) ≡ option_or (option_map says (cond b (Some x) o)) q
  reason_past true x o rest q e = refl
  reason_past false x o rest q e = e

  first_reason : (xs : List ℕ) (rest : List (Option Refusal))
      → first (map (λ i. fits (not (test i)) (says i)) xs ++ rest) ≡ option_or (option_map says (find (λ i. not (test i)) xs)) (first rest)
  first_reason [] rest = refl
  first_reason (x ∷ xs) rest = reason_past (not (test x)) x _ _ (first rest) (first_reason xs rest)

-- the first reason of nodes and arcs
module _ (k from : ℕ) (nodes : List ℕ) (from' : ℕ) (arcs : List Arc) where
  pub first_of_layers : first (layer_reasons k from nodes from' arcs)
      ≡ option_or (option_map (λ i. at_spot 17 (from + i)) (first_failing (node_fits k nodes) (length nodes)))
      (option_map (λ i. at_spot 18 (from' + i)) (first_failing (arc_fits nodes arcs) (length arcs)))
  first_of_layers =
      let of_arcs = reasons (arc_fits nodes arcs) (λ i. at_spot 18 (from' + i)) (length arcs) in
      first_reason (node_fits k nodes) (λ i. at_spot 17 (from + i)) _ of_arcs
      ∙ ap (option_or _) (ap first (sym (append-nil of_arcs)) ∙ first_reason (arc_fits nodes arcs) (λ i. at_spot 18 (from' + i)) _ [] ∙ or_nothing _)

-- where no number fails a test, each passes
module _ (test : ℕ → Bool) where
  none_past : (b : Bool) (x : ℕ) (o : Option ℕ) → cond (not b) (Some x) o ≡ None → (b ≡ true) × (o ≡ None)
  none_past true x o e = (refl, e)
  none_past false x o e = absurd cc

  pass_from : (a n i : ℕ) → find (λ i. not (test i)) (range_with_len a n) ≡ None → a ≤ i → i < a + n → test i ≡ true
  pass_from a zero i e le lt = absurd (omega arith)
  pass_from a (suc n) i e le lt =
      let p = none_past (test a) a _ e in ⊎_elim (λ s. ap test (sym s) ∙ p.0) (λ ne. pass_from (a + 1) n i p.1 (omega arith) (omega arith)) (cases_eq a i)

  pub all_pass : (n : ℕ) → first_failing test n ≡ None → (i : ℕ) → i < n → test i ≡ true
  all_pass n e i h = pass_from 0 n i e (omega arith) (omega arith)
