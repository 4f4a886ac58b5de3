-- A choice is on a path of standing choices exactly if it has support there.
use Rattle.std.proofs.Common.{◌≡◌, ℕ, ◌+◌, ◌-◌, ◌<◌, true, List, [], ◌∷◌, ◌++◌, length, get_or, Decides, sym, refl, ap, ◌∙◌, subst, arith}
use Rattle.std.proofs.lemmas.List.{get_or_at}
use Rattle.std.proofs.lemmas.Bool.Decides.{Decides-like}
use Rattle.rows.specs.Choices.{stands}
use Rattle.banks.specs.Rules.{Sheet, Tuple, row, SupportAt}
use Rattle.diagrams.specs.declared.diagram.Arc.{Arc}
use Rattle.diagrams.specs.Diagrams.{rule}
use Rattle.diagrams.specs.Layers.{place, Layered}
use Rattle.diagrams.specs.Ways.{Way, Through}
use Rattle.diagrams.proofs.Layering.{first_place, last_place}
use Rattle.diagrams.proofs.Walking.{way_joined, way_path, way_place, way_stands, path_way, way_through}

module _ (s : Sheet) (names nodes : List ℕ) (arcs : List Arc) (masks : List ℕ) (l : Layered (length names) nodes arcs)
    (same : (p : ℕ) → p < length names → get_or masks p 0 ≡ row s (get_or names p 0)) where
  through_support : (p v : ℕ) → p < length names → Through nodes arcs masks p v → SupportAt s (rule names (length nodes) arcs) p v
  through_support p v h g = record {
    placed = h;
    tuple = tuple;
    live = record { whole = whole; permitted = way_path nodes arcs masks tuple 0 (length nodes - 1) way; standing = each };
    there = get_or_at g.front v g.ends.0 0 p (omega (arith, way_place nodes arcs masks (length names) l g.front 0 g.node g.reached, g.placed, start));
  }
    where
      start : place nodes 0 ≡ 0
      start = first_place (length names) nodes arcs l

      tuple : Tuple
      tuple = g.front ++ (v ∷ g.ends.0)

      way : Way nodes arcs masks 0 (length nodes - 1) (g.front ++ (v ∷ g.ends.0))
      way = way_joined nodes arcs masks g.front (v ∷ g.ends.0) 0 g.node (length nodes - 1) g.reached (g.target, g.step, g.ends.1)

      whole : length (g.front ++ (v ∷ g.ends.0)) ≡ length names
      whole = omega (arith, way_place nodes arcs masks (length names) l (g.front ++ (v ∷ g.ends.0)) 0 (length nodes - 1) way, start, last_place (length names) nodes arcs l)

      each : (q : ℕ) → q < length names → stands (row s (get_or names q 0)) (get_or (g.front ++ (v ∷ g.ends.0)) q 0) ≡ true
      each q k =
          let e : place nodes 0 + q ≡ q = omega (arith, start) in
          subst (λ m. stands m (get_or (g.front ++ (v ∷ g.ends.0)) q 0) ≡ true) (ap (λ x. get_or masks x 0) e ∙ same q k)
          (way_stands nodes arcs masks (length names) l (g.front ++ (v ∷ g.ends.0)) 0 (length nodes - 1) q way (omega (arith, whole)))

  support_through : (p v : ℕ) → p < length names → SupportAt s (rule names (length nodes) arcs) p v → Through nodes arcs masks p v
  support_through p v h g =
      let t = g.tuple in
      let start = first_place (length names) nodes arcs l in
      let way : Way nodes arcs masks 0 (length nodes - 1) t = path_way nodes arcs masks (length names) l t 0 (length nodes - 1) g.live.permitted (stood t g.live.whole g.live.standing) in
      let e : place nodes 0 + p ≡ p = omega (arith, start) in
      subst (Through nodes arcs masks p) g.there
      (subst (λ q. Through nodes arcs masks q (get_or t p 0)) e (way_through nodes arcs masks (length names) l t [] 0 p refl way (omega (arith, g.live.whole))))
    where
      stood : (t : Tuple) → length t ≡ length names → ((q : ℕ) → q < length names → stands (row s (get_or names q 0)) (get_or t q 0) ≡ true)
          → (q : ℕ) → q < length t → stands (get_or masks (place nodes 0 + q) 0) (get_or t q 0) ≡ true
      stood t whole each q k =
          let f : place nodes 0 + q ≡ q = omega (arith, first_place (length names) nodes arcs l) in
          subst (λ m. stands m (get_or t q 0) ≡ true) (sym (ap (λ x. get_or masks x 0) f ∙ same q (omega (arith, whole)))) (each q (omega (arith, whole)))

  pub through_shows : (shown : List ℕ) → ((p v : ℕ) → Decides (stands (get_or shown p 0) v) (Through nodes arcs masks p v))
      → (p v : ℕ) → p < length names → Decides (stands (get_or shown p 0) v) (SupportAt s (rule names (length nodes) arcs) p v)
  through_shows shown d p v h = Decides-like (stands (get_or shown p 0) v) (through_support p v h) (support_through p v h) (d p v)
