-- What a check of a diagram comes to, what a bank of diagrams means, and what its support shows.
use Rattle.std.proofs.Common.{◌≡◌, ℕ, ◌+◌, ◌-◌, ◌<◌, ◌≤◌, true, false, List, [], ◌∷◌, ◌++◌, map, length, get_or, take, drop, is_some, Some, None, Decides, Option, sym, refl, ap, ◌∙◌, subst, arith, rules, tests}
use Rattle.std.specs.List.{slice_get}
use Rattle.std.specs.Option.{option_map, option_or, ok_or}
use Rattle.std.proofs.lemmas.Option.{slice_get-map, slice_get_within, get_or_from_slice_get, gets}
use Rattle.std.proofs.lemmas.Grind.{common_steps}
use Rattle.std.proofs.ByRecursion.{All-get_or}
use Rattle.std.proofs.lemmas.List.{length-append, length-map, length-drop, length-take-le, get_or_append_left, get_or-append_right, get_or-take, get_or-drop}
use Rattle.rows.specs.Choices.{stands}
use Rattle.rows.specs.Refusals.{first, plain}
use Rattle.rows.proofs.Refusing.{first_past, le_fits_not}
use Rattle.banks.specs.Calls.{Shows, rule_at, no_such_rule, too_few_rows, too_few_masks}
use Rattle.banks.specs.Faults.{at_spot}
use Rattle.banks.specs.Names.{may_name, max_arity}
use Rattle.banks.specs.Rules.{Sheet, Rule, arity, named, SupportAt}
use Rattle.banks.proofs.Calling.{masks_enough}
use Rattle.banks.proofs.Faulting.{sound_bank, none_from_test}
use Rattle.banks.proofs.Naming.{Named, named_from}
use Rattle.banks.specs.declared.refusal.CallError.TheVariants.{NoSuchRule}
use Rattle.diagrams.specs.declared.diagram.Arc.{Arc}
use Rattle.diagrams.specs.declared.diagram.Diagram.{Diagram}
use Rattle.diagrams.specs.Checks.{counts_fit, first_failing, layer_reasons, fault, refusal}
use Rattle.diagrams.specs.Diagrams.{part, rule, meaning}
use Rattle.diagrams.specs.Layers.{max_arcs, max_nodes, node_fits, arc_fits, Layered}
use Rattle.diagrams.specs.Owed.{Fine, fine_from, IsRule, Found}
use Rattle.diagrams.proofs.Failing.{first_of_layers, or_none, all_pass}

-- the bounds of the nodes
pub record Counted (n m : ℕ) (d : Diagram) : Type 0 where
  pub two : 2 ≤ d.nodes.count
  pub nodes_few : d.nodes.count ≤ max_nodes
  pub arcs_few : d.arcs.count ≤ max_arcs
  pub nodes_in : d.nodes.start + d.nodes.count ≤ n
  pub arcs_in : d.arcs.start + d.arcs.count ≤ m

pub counted_from : (n m : ℕ) (d : Diagram) → counts_fit n m d ≡ true → Counted n m d
counted_from n m d e = search (rules, tests)

-- the check of a diagram, after its rows and its counts
module _ (w : ℕ) (places : List ℕ) (pool : List Arc) (d : Diagram) (may : may_name w d.rows.now ≡ true) (counted : counts_fit (length places) (length pool) d ≡ true) where
  abbrev k : ℕ
  k = length d.rows.now

  past_counts : fault w places pool d ≡ first (layer_reasons k d.nodes.start (part places d.nodes) d.arcs.start (part pool d.arcs))
  past_counts = cc (may, counted)

  pub past_checks : (nodes : List ℕ) (arcs : List Arc) (bad_node bad_arc : Option ℕ) → nodes ≡ part places d.nodes → arcs ≡ part pool d.arcs
      → bad_node ≡ first_failing (node_fits k nodes) (length nodes) → bad_arc ≡ first_failing (arc_fits nodes arcs) (length arcs)
      → fault w places pool d ≡ option_or (option_map (λ i. at_spot 17 (d.nodes.start + i)) bad_node) (option_map (λ i. at_spot 18 (d.arcs.start + i)) bad_arc)
  past_checks nodes arcs bad_node bad_arc own own' e e' =
      rw (e, e', own, own') (past_counts ∙ first_of_layers k d.nodes.start (part places d.nodes) d.arcs.start (part pool d.arcs))

-- the element that is read past the end
abbrev pub no_diagram : Diagram
no_diagram = record { rows = record { ref_ptr = (0, 0); now = [] }; nodes = record { start = 0; count = 0 }; arcs = record { start = 0; count = 0 } }

-- a diagram without a fault
module _ (w : ℕ) (places : List ℕ) (pool : List Arc) (d : Diagram) (fine : Fine w places pool d) where
  counted : Counted (length places) (length pool) d
  counted = counted_from (length places) (length pool) d fine.counts

  pub rows_named : Named w d.rows.now
  rows_named = named_from w d.rows.now fine.names

  node_count : length (part places d.nodes) ≡ d.nodes.count
  node_count =
      let b = counted.nodes_in in
      length-take-le d.nodes.count (drop d.nodes.start places) (omega (arith, length-drop d.nodes.start places))

  pub layered : (nodes : List ℕ) (arcs : List Arc) → nodes ≡ part places d.nodes → arcs ≡ part pool d.arcs → Layered (length d.rows.now) nodes arcs
  layered nodes arcs own own' =
      let n = counted in
      let two : 2 ≤ length (part places d.nodes) = omega (arith, node_count, n.two) in
      let few : length (part places d.nodes) ≤ max_nodes = omega (arith, node_count, n.nodes_few) in
      let s = or_none _ _ _ _ (sym (first_of_layers (length d.rows.now) d.nodes.start (part places d.nodes) d.arcs.start (part pool d.arcs)) ∙ fine.layers) in
      rw (own, own') (record { narrow = rows_named.few; some = two; few = few; places = all_pass _ _ s.0; order = all_pass _ _ s.1 })

-- the diagram at a rule number, if the bank has it
module _ (w : ℕ) (places : List ℕ) (pool : List Arc) (ds : List Diagram) (sound : is_some (refusal w places pool ds) ≡ false) (r : ℕ) where
  pub is_rule : (d : Diagram) → slice_get ds r ≡ Some d → IsRule w places pool ds r d
  is_rule d e = record {
    there = omega (arith, within, length-map ds (meaning pool));
    means = means;
    many = ap arity means;
    row = λ p. ap (λ R. named R p) means;
    few = (rows_named w places pool d fine).few;
    fine = fine;
  }
    where
      within : r < length ds
      within = slice_get_within ds r d e

      means : rule_at (map (meaning pool) ds) r ≡ meaning pool d
      means = get_or_from_slice_get (map (meaning pool) ds) r (meaning pool d) _ (slice_get-map (meaning pool) ds r ∙ ap (option_map (meaning pool)) e)

      fine : Fine w places pool d
      fine =
          let s = sound_bank (fault w places pool) w ds (none_from_test (refusal w places pool ds) sound) in
          fine_from w places pool d (ap (fault w places pool) (sym (get_or_from_slice_get ds r d d e)) ∙ All-get_or (λ x. fault w places pool x ≡ None) ds r d within s.1)

  pub found : (o : Option Diagram) → o ≡ slice_get ds r → Found w places pool ds r (ok_or o NoSuchRule)
  found None e = (refl, simp length-map (none_past e))
    where
      none_past : None ≡ slice_get ds r → length ds ≤ r
      none_past e = grind (arith, common_steps, gets)
  found (Some d) e = is_rule d (sym e)

-- masks of which the first are written
front_shows : (s : Sheet) (R : Rule) (shown before : List ℕ) → arity R ≤ length shown → arity R ≤ length before
    → ((p v : ℕ) → p < arity R → Decides (stands (get_or shown p 0) v) (SupportAt s R p v)) → Shows s R before (take (arity R) shown ++ drop (arity R) before)
front_shows s R shown before a b exact = record {
  long = length-append (take (arity R) shown) (drop (arity R) before) ∙ omega (arith, front, length-drop (arity R) before);
  exact = λ p v h. subst (λ m. Decides (stands m v) (SupportAt s R p v)) (sym (get_or_append_left (take (arity R) shown) (drop (arity R) before) 0 p (omega (arith, front)) ∙ get_or-take (arity R) shown p 0 h)) (exact p v h);
  beyond = λ p h.
      let e : arity R + (p - arity R) ≡ p = omega arith in
      get_or-append_right (take (arity R) shown) (drop (arity R) before) (arity R) p 0 front h ∙ get_or-drop (arity R) before (p - arity R) 0 ∙ ap (λ x. get_or before x 0) e;
}
  where
    front : length (take (arity R) shown) ≡ arity R
    front = length-take-le (arity R) shown a

-- what support leaves: the choices of the diagram's own nodes and arcs, in front of the masks beyond its arity
pub support_shows : (w : ℕ) (places : List ℕ) (pool : List Arc) (ds : List Diagram) (r : ℕ) (d : Diagram) → IsRule w places pool ds r d → (s before : List ℕ)
    → first (too_few_rows w s ∷ too_few_masks (length d.rows.now) before ∷ []) ≡ None
    → (nodes : List ℕ) (arcs : List Arc) → nodes ≡ part places d.nodes → arcs ≡ part pool d.arcs → (shown : List ℕ) → length shown ≡ max_arity
    → ((p v : ℕ) → p < length d.rows.now → Decides (stands (get_or shown p 0) v) (SupportAt s (rule d.rows.now (length nodes) arcs) p v))
    → (front : List ℕ) → front ≡ take (length d.rows.now) shown
    → (first (no_such_rule (map (meaning pool) ds) r ∷ too_few_rows w s ∷ too_few_masks (arity (rule_at (map (meaning pool) ds) r)) before ∷ []) ≡ None)
    × Shows s (rule_at (map (meaning pool) ds) r) before (front ++ drop (length d.rows.now) before)
support_shows w places pool ds r d is s before none nodes arcs own own' shown long exact front e =
    let k = length d.rows.now in
    let Rs = map (meaning pool) ds in
    let count = ap length own ∙ node_count w places pool d is.fine in (
      first_past (no_such_rule Rs r) (too_few_rows w s ∷ too_few_masks (arity (rule_at Rs r)) before ∷ []) (le_fits_not (length Rs) r (plain 22) is.there)
          ∙ ap (λ a. first (too_few_rows w s ∷ too_few_masks a before ∷ [])) is.many ∙ none,
      rw (is.means, e) (front_shows s (meaning pool d) shown before (omega (arith, long, is.few)) (masks_enough w k s before none) (rw (count, own') at exact)),
    )
