-- Paths along standing choices.
use Rattle.std.specs.Prelude.{◌≡◌, ℕ, ◌-◌, ◌<◌, Bool, true, List, [], ◌∷◌, length, slice_index}
use Rattle.rows.specs.Choices.{stands}
use Rattle.banks.specs.Rules.{Tuple}
use Rattle.diagrams.specs.declared.diagram.Arc.{Arc}
use Rattle.diagrams.specs.Layers.{place, arc}

-- The choice of an arc stands at the place of its node.
abbrev pub arc_stands : List ℕ → List ℕ → Arc → Bool
arc_stands nodes masks a = stands (slice_index masks (place nodes a.node)) a.choice

-- The nodes and arcs of a diagram, and the mask of the standing choices of each place.
module _ (nodes : List ℕ) (arcs : List Arc) (masks : List ℕ) where
  -- An arc leads from the node n to the node m by the choice v, which stands at the place of n.
  pub record Step (n v m : ℕ) : Type 0 where
    pub number : ℕ
    pub there : number < length arcs
    pub from : (arc arcs number).node ≡ n
    pub by : (arc arcs number).choice ≡ v
    pub to : (arc arcs number).target ≡ m
    pub standing : stands (slice_index masks (place nodes n)) v ≡ true

  -- A path from the node n to the node m has the choices t, and each of them stands.
  abbrev pub Way : ℕ → ℕ → Tuple → Type 0
  Way n m [] = n ≡ m
  Way n m (v ∷ t) = (o : ℕ) × Step n v o × Way o m t

  -- The last node is reached from the node n by standing choices.
  abbrev pub Ends : ℕ → Type 0
  Ends n = (t : Tuple) × Way n (length nodes - 1) t

  -- Some path of standing choices from node 0 to the last node has the choice v at the place p.
  pub record Through (p v : ℕ) : Type 0 where
    pub node : ℕ
    pub target : ℕ
    pub placed : place nodes node ≡ p
    pub front : Tuple
    pub reached : Way 0 node front
    pub step : Step node v target
    pub ends : Ends target
