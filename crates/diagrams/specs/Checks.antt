-- Which diagrams a bank may hold.
use Rattle.std.specs.Prelude.{◌≡◌, ℕ, ◌+◌, Bool, not, ◌&&◌, List, [], ◌∷◌, ◌++◌, map, length, Option, MatchOption, nat_le}
use Rattle.std.specs.List.{range_with_len, find}
use Rattle.rows.specs.Refusals.{Refusal, fits, first}
use Rattle.banks.specs.Faults.{at_spot, bank_refusal}
use Rattle.banks.specs.Names.{may_name}
use Rattle.banks.specs.Rules.{Rule}
use Rattle.diagrams.specs.Diagrams.{part, meaning}
use Rattle.diagrams.specs.Layers.{max_nodes, max_arcs, node_fits, arc_fits}
use Rattle.diagrams.specs.declared.diagram.Arc.{Arc}
use Rattle.diagrams.specs.declared.diagram.Diagram.{Diagram}
use Rattle.diagrams.specs.declared.diagram.Span.{Span}
use Rattle.diagrams.specs.declared.refusal.DiagramFault.{DiagramFault}
use Rattle.diagrams.specs.declared.refusal.DiagramFault.TheVariants.{Rows, Counts, BadNode, BadArc}

-- 12: the rows may not be named. 16: the nodes or the arcs are too few or too many, or pass their pool. 17: a node breaks the rule for
-- places. 18: an arc breaks the rule for arcs. The spot is the index in the pool for 17 and 18, and 0 otherwise.
abbrev pub fault_says : DiagramFault → Refusal
fault_says Rows = at_spot 12 0
fault_says Counts = at_spot 16 0
fault_says (BadNode spot) = at_spot 17 spot
fault_says (BadArc spot) = at_spot 18 spot

-- A part does not pass the end of a pool of n entries.
abbrev pub within : ℕ → Span → Bool
within n s = nat_le (s.start + s.count) n

-- A diagram has 2 to 4,096 nodes and at most 65,535 arcs, which lie in pools of n places and m arcs.
abbrev pub counts_fit : ℕ → ℕ → Diagram → Bool
counts_fit n m d =
    nat_le 2 d.nodes.count && nat_le d.nodes.count max_nodes && nat_le d.arcs.count max_arcs && within n d.nodes && within m d.arcs

-- The reasons of the numbers below n, in order: one for each that fails a test.
abbrev pub reasons : (ℕ → Bool) → (ℕ → Refusal) → ℕ → List (Option Refusal)
reasons test says n = map (λ i. fits (not (test i)) (says i)) (range_with_len 0 n)

-- The first number below n that fails a test, if any.
abbrev pub first_failing : (ℕ → Bool) → ℕ → Option ℕ
first_failing test n = find (λ i. not (test i)) (range_with_len 0 n)

-- The reasons to refuse the nodes and the arcs of a diagram of arity k: all nodes in order, then all arcs. They start at these indices of
-- their pools.
abbrev pub layer_reasons : ℕ → ℕ → List ℕ → ℕ → List Arc → List (Option Refusal)
layer_reasons k from nodes from' arcs =
    reasons (node_fits k nodes) (λ i. at_spot 17 (from + i)) (length nodes)
    ++ reasons (arc_fits nodes arcs) (λ i. at_spot 18 (from' + i)) (length arcs)

-- The fault of a diagram in a bank of width w over pools of places and arcs, if any.
abbrev pub fault : ℕ → List ℕ → List Arc → Diagram → Option Refusal
fault w places pool d =
    first (fits (not (may_name w d.rows.now)) (at_spot 12 0) ∷ fits (not (counts_fit (length places) (length pool) d)) (at_spot 16 0)
    ∷ layer_reasons (length d.rows.now) d.nodes.start (part places d.nodes) d.arcs.start (part pool d.arcs))

-- The refusal of a bank of width w with the diagrams ds, if any.
abbrev pub refusal : ℕ → List ℕ → List Arc → List Diagram → Option Refusal
refusal w places pool ds = bank_refusal w (fault w places pool) ds

-- The meaning of the bank that is made: the given width and exactly the given rules in their order, or, where the check refuses, the
-- width 1 and no rules.
abbrev pub Made : ℕ → List ℕ → List Arc → List Diagram → ℕ → List Rule → Type 0
Made w places pool ds width rules =
    MatchOption (refusal w places pool ds) ((width ≡ w) × (rules ≡ map (meaning pool) ds)) (λ _. (width ≡ 1) × (rules ≡ []))
