-- What a layered decision diagram means.
use Rattle.std.specs.Prelude.{ℕ, ◌-◌, Bool, ◌&&◌, List, [], ◌∷◌, take, drop, ◌==◌}
use Rattle.std.specs.List.{list_any}
use Rattle.banks.specs.Rules.{Rule, Tuple}
use Rattle.diagrams.specs.declared.diagram.Arc.{Arc}
use Rattle.diagrams.specs.declared.diagram.Diagram.{Diagram}
use Rattle.diagrams.specs.declared.diagram.Span.{Span}

-- The entries of a pool that a part of it has.
abbrev pub part : {X : Type 0} → List X → Span → List X
part pool s = take s.count (drop s.start pool)

-- Some path from the node n to the node `last` has the choices t, in order: there is an arc out of n by the first choice, and from its
-- target a path with the others. With no choice left, n is the last node.
unfoldable pub path : List Arc → ℕ → ℕ → Tuple → Bool
path arcs last n [] = n == last
path arcs last n (v ∷ t) = list_any (λ a. (a.node == n) && a.choice == v && path arcs last a.target t) arcs

-- The rule that names these rows, and permits the choices along each path from node 0 to the last of so many nodes.
abbrev pub rule : List ℕ → ℕ → List Arc → Rule
rule names count arcs = record { names = names; permits = path arcs (count - 1) 0 }

-- What a diagram means, whose arcs lie in a pool.
abbrev pub meaning : List Arc → Diagram → Rule
meaning pool d = rule d.rows.now d.nodes.count (part pool d.arcs)
