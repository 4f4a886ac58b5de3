-- Paths along standing choices: how they join, which places they pass, and that they are the paths of the meaning.
use Rattle.std.proofs.Common.{◌≡◌, ℕ, zero, suc, ◌+◌, ◌-◌, ◌<◌, true, ◌&&◌, eqb, List, [], ◌∷◌, ◌++◌, length, get_or, sym, refl, ap, ◌∙◌, subst, arith}
use Rattle.std.proofs.lemmas.Bool.{and_parts, and_from, eqb-true, eq-eqb}
use Rattle.std.proofs.lemmas.List.{get_or_default}
use Rattle.std.proofs.lemmas.List.Folds.{list_any_at, Any-from_list_any}
use Rattle.rows.specs.Choices.{stands}
use Rattle.banks.specs.Rules.{Tuple}
use Rattle.diagrams.specs.declared.diagram.Arc.{Arc}
use Rattle.diagrams.specs.Diagrams.{path}
use Rattle.diagrams.specs.Layers.{place, arc, Layered}
use Rattle.diagrams.specs.Ways.{Step, Way, Through}
use Rattle.diagrams.proofs.Layering.{placed_at}

module _ (nodes : List ℕ) (arcs : List Arc) (masks : List ℕ) where
  pub way_joined : (t u : Tuple) (n m o : ℕ) → Way nodes arcs masks n m t → Way nodes arcs masks m o u → Way nodes arcs masks n o (t ++ u)
  way_joined [] u n m o w x = subst (λ y. Way nodes arcs masks y o u) (sym w) x
  way_joined (v ∷ t) u n m o w x = (w.0, w.1, way_joined t u w.0 m o w.2 x)

  -- the arc of a number, where its choice stands
  pub step_at : (i : ℕ) → i < length arcs → stands (get_or masks (place nodes (arc arcs i).node) 0) (arc arcs i).choice ≡ true
      → Step nodes arcs masks (arc arcs i).node (arc arcs i).choice (arc arcs i).target
  step_at i h s = record { number = i; there = h; from = refl; by = refl; to = refl; standing = s }

  -- a standing path is a path
  pub way_path : (t : Tuple) (n last : ℕ) → Way nodes arcs masks n last t → path arcs last n t ≡ true
  unfolding path
  way_path [] n last w = eq-eqb n last w
  way_path (v ∷ t) n last w =
      let s = w.1 in
      let a = arc arcs s.number in
      list_any_at (λ b. eqb b.node n && eqb b.choice v && path arcs last b.target t) arcs s.number _ s.there
      (and_from (eqb a.node n && eqb a.choice v) (path arcs last a.target t)
      (and_from (eqb a.node n) (eqb a.choice v) (eq-eqb a.node n s.from) (eq-eqb a.choice v s.by))
      (ap (λ m. path arcs last m t) s.to ∙ way_path t w.0 last w.2))

  module _ (k : ℕ) (l : Layered k nodes arcs) where
    pub step_place : (n v m : ℕ) → Step nodes arcs masks n v m → place nodes m ≡ suc (place nodes n)
    step_place n v m s = ap (place nodes) (sym s.to) ∙ (placed_at k nodes arcs l s.number s.there).above ∙ ap (λ x. suc (place nodes x)) s.from

    pub way_place : (t : Tuple) (n m : ℕ) → Way nodes arcs masks n m t → place nodes n + length t ≡ place nodes m
    way_place [] n m w = omega (arith, ap (place nodes) w)
    way_place (v ∷ t) n m w = omega (arith, step_place n v w.0 w.1, way_place t w.0 m w.2)

    pub way_stands : (t : Tuple) (n m p : ℕ) → Way nodes arcs masks n m t → p < length t → stands (get_or masks (place nodes n + p) 0) (get_or t p 0) ≡ true
    way_stands [] n m p w h = absurd (omega arith)
    way_stands (v ∷ t) n m zero w h = let e : place nodes n ≡ place nodes n + 0 = omega arith in subst (λ q. stands (get_or masks q 0) v ≡ true) e w.1.standing
    way_stands (v ∷ t) n m (suc p) w h =
        let e : place nodes w.0 + p ≡ place nodes n + suc p = omega (arith, step_place n v w.0 w.1) in
        subst (λ q. stands (get_or masks q 0) (get_or t p 0) ≡ true) e (way_stands t w.0 m p w.2 (omega arith))

    -- a path whose choices stand at their places is a standing path
    pub path_way : (t : Tuple) (n last : ℕ) → path arcs last n t ≡ true
        → ((p : ℕ) → p < length t → stands (get_or masks (place nodes n + p) 0) (get_or t p 0) ≡ true) → Way nodes arcs masks n last t
    unfolding path
    path_way [] n last e stood = eqb-true n last e
    path_way (v ∷ t) n last e stood =
        let f = Any-from_list_any (λ b. eqb b.node n && eqb b.choice v && path arcs last b.target t) arcs e in
        let a = f.1 in
        let p = and_parts (eqb a.node n && eqb a.choice v) (path arcs last a.target t) f.4 in
        let q = and_parts (eqb a.node n) (eqb a.choice v) p.0 in
        let it : arc arcs f.0 ≡ a = get_or_default arcs f.0 _ a f.2 ∙ f.3 in
        let here : place nodes n + 0 ≡ place nodes n = omega arith in
        let s : Step nodes arcs masks n v a.target = record {
          number = f.0;
          there = f.2;
          from = ap (λ b. b.node) it ∙ eqb-true a.node n q.0;
          by = ap (λ b. b.choice) it ∙ eqb-true a.choice v q.1;
          to = ap (λ b. b.target) it;
          standing = subst (λ x. stands (get_or masks x 0) v ≡ true) here (stood 0 (omega arith));
        } in (
          a.target,
          s,
          path_way t a.target last p.1 (λ r h.
              let e : place nodes n + suc r ≡ place nodes a.target + r = omega (arith, step_place n v a.target s) in
              subst (λ x. stands (get_or masks x 0) (get_or t r 0) ≡ true) e (stood (suc r) (omega arith))),
        )

    -- each choice of a standing path from node 0 to the last node is on such a path at its place
    pub way_through : (t front : Tuple) (n p : ℕ) → Way nodes arcs masks 0 n front → Way nodes arcs masks n (length nodes - 1) t → p < length t
        → Through nodes arcs masks (place nodes n + p) (get_or t p 0)
    way_through [] front n p r w h = absurd (omega arith)
    way_through (v ∷ t) front n zero r w h = record {
      node = n;
      target = w.0;
      placed = omega arith;
      front = front;
      reached = r;
      step = w.1;
      ends = (t, w.2);
    }
    way_through (v ∷ t) front n (suc p) r w h =
        let e : place nodes w.0 + p ≡ place nodes n + suc p = omega (arith, step_place n v w.0 w.1) in
        subst (λ q. Through nodes arcs masks q (get_or t p 0)) e
        (way_through t (front ++ v ∷ []) w.0 p (way_joined front (v ∷ []) 0 n w.0 r (w.0, w.1, refl)) w.2 (omega arith))
