-- The rules for the places of a diagram's nodes, and for its arcs.
use Rattle.std.specs.Prelude.{◌≡◌, ℕ, suc, ◌-◌, ◌<◌, ◌≤◌, Bool, true, ◌&&◌, ◌||◌, List, length, ◌==◌, nat_le, nat_lt, slice_index, slice_index_or}
use Rattle.std.specs.Bool.{beq}
use Rattle.rows.specs.Choices.{choices}
use Rattle.banks.specs.Names.{max_arity}
use Rattle.diagrams.specs.declared.diagram.Arc.{Arc}

-- The most nodes of a diagram, and the most arcs.
abbrev pub max_nodes : ℕ
max_nodes = 4096

abbrev pub max_arcs : ℕ
max_arcs = 65535

-- The place of a node, where the list has the places of all nodes by their numbers.
abbrev pub place : List ℕ → ℕ → ℕ
place nodes n = slice_index nodes n

-- The arc of a number.
abbrev pub arc : List Arc → ℕ → Arc
arc arcs i = slice_index_or arcs i (record { node = 0; choice = 0; target = 0 })

-- The node n keeps the rule for places in a diagram of arity k: its place is at most k, and not below that of the node before; it is 0
-- exactly at node 0, and k exactly at the last node.
abbrev pub node_fits : ℕ → List ℕ → ℕ → Bool
node_fits k nodes n =
    nat_le (place nodes n) k && nat_le (place nodes (n - 1)) (place nodes n) && beq (place nodes n == 0) (n == 0)
    && beq (place nodes n == k) (suc n == length nodes)

-- One arc comes before another: its node is lower, or it has the same node and a lower choice.
abbrev pub before : Arc → Arc → Bool
before a b = nat_lt a.node b.node || a.node == b.node && nat_lt a.choice b.choice

-- The arc i keeps the rule for arcs: its node and its target are nodes, the target's place is one above that of the node, its choice is
-- one, and the arc before it, if any, comes before it.
abbrev pub arc_fits : List ℕ → List Arc → ℕ → Bool
arc_fits nodes arcs i =
    nat_lt (arc arcs i).node (length nodes) && nat_lt (arc arcs i).target (length nodes)
    && place nodes (arc arcs i).target == suc (place nodes (arc arcs i).node) && nat_lt (arc arcs i).choice choices
    && (i == 0 || before (arc arcs (i - 1)) (arc arcs i))

-- The nodes and arcs of a diagram of arity k.
pub record Layered (k : ℕ) (nodes : List ℕ) (arcs : List Arc) : Type 0 where
  pub narrow : k ≤ max_arity
  pub some : 2 ≤ length nodes
  pub few : length nodes ≤ max_nodes
  pub places : (n : ℕ) → n < length nodes → node_fits k nodes n ≡ true
  pub order : (i : ℕ) → i < length arcs → arc_fits nodes arcs i ≡ true

-- What is asked of an arc of a diagram of arity k: its node is one, at a place below k, and its node and its target are below the most.
pub record ArcBounds (k : ℕ) (nodes : List ℕ) (a : Arc) : Type 0 where
  pub node_in : a.node < length nodes
  pub placed : place nodes a.node < k
  pub node_low : a.node < max_nodes
  pub target_low : a.target < max_nodes
