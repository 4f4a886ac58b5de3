-- What the rules for nodes and arcs give: places and the nodes of the arcs never fall, and a target comes after its node.
use Rattle.std.proofs.Common.{◌≡◌, ℕ, zero, suc, ◌-◌, ◌<◌, ◌≤◌, true, ◌||◌, eqb, List, length, ap, ◌∙◌, ⊎_elim, arith, rules, tests}
use Rattle.std.proofs.lemmas.Bool.{or_cases, eqb-true, eq-eqb, cases_eq, cases_lt}
use Rattle.std.proofs.lemmas.Bool.Decides.{nat_tests}
use Rattle.rows.specs.Choices.{choices}
use Rattle.diagrams.specs.declared.diagram.Arc.{Arc}
use Rattle.diagrams.specs.Layers.{place, arc, ArcBounds, node_fits, before, arc_fits, Layered}

-- what never falls from one number to the next never falls
pub rising : (f : ℕ → ℕ) (n : ℕ) → ((i : ℕ) → suc i < n → f i ≤ f (suc i)) → (i j : ℕ) → i ≤ j → j < n → f i ≤ f j
rising f n step i zero le lt = let e : i ≡ 0 = omega arith in omega (arith, ap f e)
rising f n step i (suc j) le lt =
    ⊎_elim (λ e. omega (arith, ap f e)) (λ ne. omega (arith, rising f n step i j (omega arith) (omega arith), step j lt)) (cases_eq i (suc j))

-- a node that keeps its rule
record Node (k : ℕ) (nodes : List ℕ) (n : ℕ) : Type 0 where
  pub most : place nodes n ≤ k
  pub rises : place nodes (n - 1) ≤ place nodes n
  pub first : eqb (place nodes n) 0 ≡ eqb n 0
  pub last : eqb (place nodes n) k ≡ eqb (suc n) (length nodes)

node_from : (k : ℕ) (nodes : List ℕ) (n : ℕ) → node_fits k nodes n ≡ true → Node k nodes n
node_from k nodes n e = search (rules, tests)

-- an arc that keeps its rule
pub record Placed (nodes : List ℕ) (arcs : List Arc) (i : ℕ) : Type 0 where
  pub node_in : (arc arcs i).node < length nodes
  pub target_in : (arc arcs i).target < length nodes
  pub above : place nodes (arc arcs i).target ≡ suc (place nodes (arc arcs i).node)
  pub small : (arc arcs i).choice < choices
  pub after : (eqb i 0 || before (arc arcs (i - 1)) (arc arcs i)) ≡ true

placed_from : (nodes : List ℕ) (arcs : List Arc) (i : ℕ) → arc_fits nodes arcs i ≡ true → Placed nodes arcs i
placed_from nodes arcs i e = search (rules, tests)

not_after : (a b : Arc) → before a b ≡ true → a.node ≤ b.node
not_after a b e = grind (arith, nat_tests)

module _ (k : ℕ) (nodes : List ℕ) (arcs : List Arc) (l : Layered k nodes arcs) where
  node_at : (n : ℕ) → n < length nodes → Node k nodes n
  node_at n h = node_from k nodes n (l.places n h)

  pub placed_at : (i : ℕ) → i < length arcs → Placed nodes arcs i
  placed_at i h = placed_from nodes arcs i (l.order i h)

  pub first_place : place nodes 0 ≡ 0
  first_place = eqb-true (place nodes 0) 0 (node_at 0 (omega (arith, l.some))).first

  pub last_place : place nodes (length nodes - 1) ≡ k
  last_place =
      let h = l.some in
      eqb-true (place nodes (length nodes - 1)) k ((node_at (length nodes - 1) (omega arith)).last ∙ eq-eqb (suc (length nodes - 1)) (length nodes) (omega arith))

  never_falls : (n m : ℕ) → n ≤ m → m < length nodes → place nodes n ≤ place nodes m
  never_falls = rising (place nodes) (length nodes) (λ i h. let e : suc i - 1 ≡ i = omega arith in omega (arith, (node_at (suc i) h).rises, ap (place nodes) e))

  -- no arc leads from the last node
  pub node_place : (i : ℕ) → i < length arcs → place nodes (arc arcs i).node < k
  node_place i h = let p = placed_at i h in omega (arith, (node_at (arc arcs i).target p.target_in).most, p.above)

  pub target_later : (i : ℕ) → i < length arcs → (arc arcs i).node < (arc arcs i).target
  target_later i h =
      let p = placed_at i h in
      ⊎_elim (λ lt. lt) (λ le. absurd (omega (arith, p.above, never_falls (arc arcs i).target (arc arcs i).node le p.node_in))) (cases_lt (arc arcs i).node (arc arcs i).target)

  pub nodes_rise : (i j : ℕ) → i ≤ j → j < length arcs → (arc arcs i).node ≤ (arc arcs j).node
  nodes_rise = rising (λ i. (arc arcs i).node) (length arcs) next
    where
      next : (i : ℕ) → suc i < length arcs → (arc arcs i).node ≤ (arc arcs (suc i)).node
      next i h =
          let e : suc i - 1 ≡ i = omega arith in
          ⊎_elim (λ t. absurd (let z = eqb-true (suc i) 0 t in omega arith))
          (λ t. omega (arith, not_after (arc arcs (suc i - 1)) (arc arcs (suc i)) t, ap (λ j. (arc arcs j).node) e))
          (or_cases (eqb (suc i) 0) (before (arc arcs (suc i - 1)) (arc arcs (suc i))) (placed_at (suc i) h).after)

  pub arc_bounds : (i : ℕ) (a : Arc) → i < length arcs → a ≡ arc arcs i → ArcBounds k nodes a
  arc_bounds i a h e =
      let p = placed_at i h in
      rw e (record { node_in = p.node_in; placed = node_place i h; node_low = omega (arith, p.node_in, l.few); target_low = omega (arith, p.target_in, l.few) })
