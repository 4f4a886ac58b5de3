-- The sweep from the last arc to the first, and the one from the first to the last.
use Rattle.std.proofs.Common.{◌≡◌, ℕ, ◌+◌, ◌-◌, ◌*◌, ◌%◌, ◌^◌, ◌<◌, ◌≤◌, Bool, true, false, ◌&&◌, ◌||◌, eqb, List, [], ◌∷◌, ◌++◌, length, get_or, set, take, replicate, Decides, sym, refl, ap, ◌∙◌, subst, ◌⊎◌, inl, inr, ⊎_elim, arith, rules, tests}
use lib.Bits.{bit_or}
use Rattle.std.proofs.lemmas.Nat.{one_shl}
use Rattle.std.specs.List.{push}
use Rattle.std.proofs.Math.Bool.{or-false}
use Rattle.std.proofs.Math.Seq.{take-append_seam}
use Rattle.std.proofs.lemmas.List.{get_or_push, length_push, get_or-take, length-take, take-take, get_or-set_same, get_or-set_other, length-set}
use Rattle.std.proofs.lemmas.Bool.{and_parts, and_from, or_cases, or_left, or_right, eqb-true, eq-eqb, ne_eqb, both_ways, cases_eq}
use Rattle.rows.specs.Choices.{stands}
use Rattle.rows.proofs.Masks.{stands_zero, stands_or, stands_bit}
use Rattle.banks.specs.Names.{max_arity}
use Rattle.banks.specs.Rules.{Tuple}
use Rattle.diagrams.specs.declared.diagram.Arc.{Arc}
use Rattle.diagrams.specs.Layers.{place, arc, ArcBounds, Layered}
use Rattle.diagrams.specs.Ways.{arc_stands, Step, Way, Ends, Through}
use Rattle.diagrams.proofs.Layering.{arc_bounds, placed_at, node_place, target_later, nodes_rise}
use Rattle.diagrams.proofs.Walking.{step_at, way_joined}
use Rattle.rows.proofs.Wording.{zeros}

-- the set T has the node x, and the nodes of the set S
module _ (x : ℕ) (S T : ℕ → Bool) (more : (n : ℕ) → T n ≡ (eqb n x || S n)) where
  added : (n : ℕ) → n ≡ x → T n ≡ true
  added n e = more n ∙ or_left (eqb n x) (S n) (eq-eqb n x e)

  stays : (n : ℕ) → S n ≡ true → T n ≡ true
  stays n s = more n ∙ or_right (eqb n x) (S n) s

  -- no more than those
  was : (n : ℕ) → T n ≡ true → (n ≡ x) ⊎ (S n ≡ true)
  was n t = ⊎_elim (λ e. inl (eqb-true n x e)) inr (or_cases (eqb n x) (S n) (sym (more n) ∙ t))

module _ (nodes : List ℕ) (arcs : List Arc) (masks : List ℕ) where
  -- the choice of an arc stands
  abbrev pub live : ℕ → Bool
  live i = arc_stands nodes masks (arc arcs i)

  step_live : (n v m : ℕ) (s : Step nodes arcs masks n v m) → live s.number ≡ true
  step_live n v m s =
      ap (λ x. stands (get_or masks (place nodes x) 0) (arc arcs s.number).choice) s.from ∙ ap (stands (get_or masks (place nodes n) 0)) s.by ∙ s.standing

  -- all arcs but the first, which are left, are swept: each node that is in reaches the end, and a swept arc whose target is in has its
  -- node in
  pub record Back (left : List Arc) (S : ℕ → Bool) : Type 0 where
    pub front : left ≡ take (length left) arcs
    pub sound : (n : ℕ) → S n ≡ true → Ends nodes arcs masks n
    pub end : S (length nodes - 1) ≡ true
    pub closed : (j : ℕ) → length left ≤ j → j < length arcs → live j ≡ true → S (arc arcs j).target ≡ true → S (arc arcs j).node ≡ true

  -- the last arc that is left is swept next
  module _ (rest left : List Arc) (a : Arc) (S : ℕ → Bool) (b : Back rest S) (last : rest ≡ push left a) where
    one_less : length rest ≡ length left + 1
    one_less = ap length last ∙ length_push left a

    within : length left < length arcs
    within = omega (arith, one_less, ap length b.front, length-take (length rest) arcs)

    here : a ≡ arc arcs (length left)
    here =
        let d : Arc = record { node = 0; choice = 0; target = 0 } in
        sym (get_or_push left a d (length left) refl) ∙ ap (λ x. get_or x (length left) d) (sym last ∙ b.front) ∙ get_or-take (length rest) arcs (length left) d (omega (arith, one_less))

    front_left : left ≡ take (length left) arcs
    front_left = sym (take-append_seam left (a ∷ [])) ∙ ap (take (length left)) (sym last ∙ b.front) ∙ take-take (length left) (length rest) arcs (omega (arith, one_less))

    pub next_bounds : (k : ℕ) → Layered k nodes arcs → ArcBounds k nodes a
    next_bounds k l = arc_bounds k nodes arcs l (length left) a within here

    pub back_skip : (S a.target && arc_stands nodes masks a) ≡ false → Back left S
    back_skip fails = record {
      front = front_left;
      sound = b.sound;
      end = b.end;
      closed = λ j le lt lv s. ⊎_elim (λ e. absurd (passed j e lv s)) (λ ne. b.closed j (omega (arith, one_less)) lt lv s) (cases_eq j (length left));
    }
      where
        passed : (j : ℕ) → j ≡ length left → live j ≡ true → S (arc arcs j).target ≡ true → ⊥
        passed j e lv s =
            let h : arc arcs j ≡ a = ap (arc arcs) e ∙ sym here in
            both_ways (S (arc arcs j).target && live j) (rw h fails) (and_from (S (arc arcs j).target) (live j) s lv)

    pub back_more : (k : ℕ) (T : ℕ → Bool) → Layered k nodes arcs → ((n : ℕ) → T n ≡ (eqb n a.node || S n))
        → (S a.target && arc_stands nodes masks a) ≡ true → Back left T
    back_more k T l more both = record {
      front = front_left;
      sound = λ n t. ⊎_elim (λ e. subst (Ends nodes arcs masks) (sym e) through) (b.sound n) (was a.node S T more n t);
      end = stays a.node S T more (length nodes - 1) b.end;
      closed = λ j le lt lj t. ⊎_elim (λ e. added a.node S T more _ (ap (λ x. x.node) (ap (arc arcs) e ∙ sym here))) (λ ne. stays a.node S T more _ (b.closed j (omega (arith, one_less)) lt lj (before_it j le lt t))) (cases_eq j (length left));
    }
      where
        through : Ends nodes arcs masks a.node
        through =
            let p = and_parts (S a.target) (arc_stands nodes masks a) both in
            let r = b.sound a.target p.0 in
            (a.choice ∷ r.0, (a.target, rw here (step_at nodes arcs masks (length left) within (rw here at p.1)), r.1))

        -- the target of an arc that was swept is not the node that is added
        before_it : (j : ℕ) → length left ≤ j → j < length arcs → T (arc arcs j).target ≡ true → S (arc arcs j).target ≡ true
        before_it j le lt t =
            ⊎_elim (λ e. absurd (omega (arith, e, ap (λ x. x.node) here, target_later k nodes arcs l j lt, nodes_rise k nodes arcs l (length left) j le lt))) (λ r. r)
            (was a.node S T more (arc arcs j).target t)

  pub back_all : (left : List Arc) (S : ℕ → Bool) → length left ≡ 0 → Back left S → (n : ℕ) → Decides (S n) (Ends nodes arcs masks n)
  back_all left S z b n = (b.sound n, (λ w. whole w.0 n w.1))
    where
      whole : (t : Tuple) (n : ℕ) → Way nodes arcs masks n (length nodes - 1) t → S n ≡ true
      whole [] n w = ap S w ∙ b.end
      whole (v ∷ t) n w =
          let s = w.1 in
          ap S (sym s.from) ∙ b.closed s.number (omega (arith, z)) s.there (step_live n v w.0 s) (ap S s.to ∙ whole t w.0 w.2)

  -- an arc leads on from a node that is reached, and its target reaches the end
  abbrev pub passes : (ℕ → Bool) → (ℕ → Bool) → ℕ → Bool
  passes S E i = S (arc arcs i).node && (E (arc arcs i).target && live i)

  -- the arcs below number i are swept: each node that is in is reached, a swept arc that passes has its target in, and the masks show the
  -- choices of exactly these arcs
  pub record Fore (i : ℕ) (S E : ℕ → Bool) (shown : List ℕ) : Type 0 where
    pub reached : (n : ℕ) → S n ≡ true → (t : Tuple) × Way nodes arcs masks 0 n t
    pub start : S 0 ≡ true
    pub closed : (j : ℕ) → j < i → j < length arcs → passes S E j ≡ true → S (arc arcs j).target ≡ true
    pub long : length shown ≡ max_arity
    pub sound : (p v : ℕ) → stands (get_or shown p 0) v ≡ true → Through nodes arcs masks p v
    pub whole : (j : ℕ) → j < i → j < length arcs → passes S E j ≡ true → stands (get_or shown (place nodes (arc arcs j).node) 0) (arc arcs j).choice ≡ true

  pub fore_none : (S T E : ℕ → Bool) → ((n : ℕ) → S n ≡ false) → ((n : ℕ) → T n ≡ (eqb n 0 || S n)) → Fore 0 T E (replicate max_arity 0)
  fore_none S T E none more = record {
    reached = λ n t. ⊎_elim (λ e. ([], sym e)) (λ s. absurd (both_ways (S n) (none n) s)) (was 0 S T more n t);
    start = more 0;
    closed = λ j a b. absurd (omega arith);
    long = refl;
    sound = λ p v s. absurd (both_ways (stands 0 v) (stands_zero v) (subst (λ m. stands m v ≡ true) (zeros max_arity p) s));
    whole = λ j a b. absurd (omega arith);
  }

  module _ (i : ℕ) (S E : ℕ → Bool) (shown : List ℕ) (f : Fore i S E shown) where
    pub fore_skip : passes S E i ≡ false → Fore (i + 1) S E shown
    fore_skip fails = record {
      reached = f.reached;
      start = f.start;
      closed = λ j a b p. ⊎_elim (λ e. absurd (both_ways (passes S E i) fails (ap (passes S E) (sym e) ∙ p))) (λ ne. f.closed j (omega arith) b p) (cases_eq j i);
      long = f.long;
      sound = f.sound;
      whole = λ j a b p. ⊎_elim (λ e. absurd (both_ways (passes S E i) fails (ap (passes S E) (sym e) ∙ p))) (λ ne. f.whole j (omega arith) b p) (cases_eq j i);
    }

    module _ (k : ℕ) (l : Layered k nodes arcs) (within : i < length arcs) (T : ℕ → Bool) (more : (n : ℕ) → T n ≡ (eqb n (arc arcs i).target || S n))
        (ends : (n : ℕ) → Decides (E n) (Ends nodes arcs masks n)) (passed : passes S E i ≡ true) where
      abbrev q : ℕ
      q = place nodes (arc arcs i).node

      abbrev v : ℕ
      v = (arc arcs i).choice

      abbrev shows : List ℕ
      shows = set shown q (bit_or (get_or shown q 0) ((1 * 2 ^ v) % 2 ^ 64))

      in_bounds : q < length shown
      in_bounds = omega (arith, node_place k nodes arcs l i within, l.narrow, f.long)

      -- the choices that the masks show now
      shows_at : (p u : ℕ) → stands (get_or shows p 0) u ≡ (stands (get_or shown p 0) u || eqb p q && eqb u v)
      shows_at p u = ⊎_elim here elsewhere (cases_eq p q)
        where
          here : p ≡ q → stands (get_or shows p 0) u ≡ (stands (get_or shown p 0) u || eqb p q && eqb u v)
          here e =
              ap (λ x. stands (get_or shows x 0) u) e
              ∙ ap (λ m. stands m u) (get_or-set_same shown q (bit_or (get_or shown q 0) ((1 * 2 ^ v) % 2 ^ 64)) 0 in_bounds)
              ∙ ap (λ x. stands (bit_or (get_or shown q 0) x) u) (one_shl v 64 (placed_at k nodes arcs l i within).small)
              ∙ stands_or (get_or shown q 0) (2 ^ v) u
              ∙ ap (λ b. stands (get_or shown q 0) u || b) (stands_bit v u ∙ sym (ap (λ b. b && eqb u v) (eq-eqb p q e)))
              ∙ ap (λ x. stands (get_or shown x 0) u || eqb p q && eqb u v) (sym e)

          elsewhere : (p ≡ q → ⊥) → stands (get_or shows p 0) u ≡ (stands (get_or shown p 0) u || eqb p q && eqb u v)
          elsewhere ne =
              ap (λ m. stands m u) (get_or-set_other shown q p (bit_or (get_or shown q 0) ((1 * 2 ^ v) % 2 ^ 64)) 0 ne)
              ∙ sym (ap (λ b. stands (get_or shown p 0) u || b && eqb u v) (ne_eqb p q ne) ∙ or-false (stands (get_or shown p 0) u))

      parts : (S (arc arcs i).node ≡ true) × (E (arc arcs i).target ≡ true) × (live i ≡ true)
      parts = search (rules, tests)

      stepped : Step nodes arcs masks (arc arcs i).node v (arc arcs i).target
      stepped = step_at nodes arcs masks i within parts.2

      came : (t : Tuple) × Way nodes arcs masks 0 (arc arcs i).target t
      came =
          let r = f.reached (arc arcs i).node parts.0 in
          (r.0 ++ v ∷ [], way_joined nodes arcs masks r.0 (v ∷ []) 0 (arc arcs i).node (arc arcs i).target r.1 ((arc arcs i).target, stepped, refl))

      through : Through nodes arcs masks q v
      through =
          let r = f.reached (arc arcs i).node parts.0 in
          record { node = (arc arcs i).node; target = (arc arcs i).target; placed = refl; front = r.0; reached = r.1; step = stepped; ends = (ends (arc arcs i).target).0 parts.1 }

      -- the node of an arc that was swept is not the target that is added
      passed_before : (j : ℕ) → j ≤ i → passes T E j ≡ true → passes S E j ≡ true
      passed_before j le p =
          let a = and_parts (T (arc arcs j).node) (E (arc arcs j).target && live j) p in
          let s : S (arc arcs j).node ≡ true =
          ⊎_elim (λ e. absurd (omega (arith, e, target_later k nodes arcs l i within, nodes_rise k nodes arcs l j i le within))) (λ r. r)
          (was (arc arcs i).target S T more (arc arcs j).node a.0)
          in
          and_from (S (arc arcs j).node) (E (arc arcs j).target && live j) s a.1

      pub fore_more : Fore (i + 1) T E shows
      fore_more = record {
        reached = λ n t. ⊎_elim (λ e. subst (λ x. (u : Tuple) × Way nodes arcs masks 0 x u) (sym e) came) (f.reached n) (was (arc arcs i).target S T more n t);
        start = stays (arc arcs i).target S T more 0 f.start;
        closed = λ j a b p. ⊎_elim (λ e. added (arc arcs i).target S T more _ (ap (λ x. (arc arcs x).target) e)) (λ ne. stays (arc arcs i).target S T more _ (f.closed j (omega arith) b (passed_before j (omega arith) p))) (cases_eq j i);
        long = length-set shown q (bit_or (get_or shown q 0) ((1 * 2 ^ v) % 2 ^ 64)) ∙ f.long;
        sound = λ p u s. ⊎_elim (f.sound p u) (λ e. let b = and_parts (eqb p q) (eqb u v) e in moved p u (eqb-true p q b.0) (eqb-true u v b.1)) (or_cases (stands (get_or shown p 0) u) (eqb p q && eqb u v) (sym (shows_at p u) ∙ s));
        whole = λ j a b p. ⊎_elim (λ e. shown_now (place nodes (arc arcs j).node) (arc arcs j).choice (ap (λ x. place nodes (arc arcs x).node) e) (ap (λ x. (arc arcs x).choice) e)) (λ ne. shown_still (place nodes (arc arcs j).node) (arc arcs j).choice (f.whole j (omega arith) b (passed_before j (omega arith) p))) (cases_eq j i);
      }
        where
          moved : (p u : ℕ) → p ≡ q → u ≡ v → Through nodes arcs masks p u
          moved p u e e' = subst (λ x. Through nodes arcs masks x u) (sym e) (subst (Through nodes arcs masks q) (sym e') through)

          shown_now : (p u : ℕ) → p ≡ q → u ≡ v → stands (get_or shows p 0) u ≡ true
          shown_now p u e e' = shows_at p u ∙ or_right (stands (get_or shown p 0) u) (eqb p q && eqb u v) (and_from (eqb p q) (eqb u v) (eq-eqb p q e) (eq-eqb u v e'))

          shown_still : (p u : ℕ) → stands (get_or shown p 0) u ≡ true → stands (get_or shows p 0) u ≡ true
          shown_still p u s = shows_at p u ∙ or_left (stands (get_or shown p 0) u) (eqb p q && eqb u v) s

  -- at the end every choice on a path is shown
  pub fore_all : (i : ℕ) (S E : ℕ → Bool) (shown : List ℕ) → length arcs ≤ i → ((n : ℕ) → Decides (E n) (Ends nodes arcs masks n)) → Fore i S E shown
      → (p v : ℕ) → Decides (stands (get_or shown p 0) v) (Through nodes arcs masks p v)
  fore_all i S E shown done ends f p v = (f.sound p v, whole)
    where
      -- an arc on a path passes, where its node is in
      passing : (n u m : ℕ) (s : Step nodes arcs masks n u m) → S n ≡ true → Ends nodes arcs masks m → passes S E s.number ≡ true
      passing n u m s i' e =
          and_from (S (arc arcs s.number).node) (E (arc arcs s.number).target && live s.number) (ap S s.from ∙ i')
          (and_from (E (arc arcs s.number).target) (live s.number) (ap E s.to ∙ (ends m).1 e) (step_live n u m s))

      -- so a node on a path to a node that reaches the end is in
      onward : (t : Tuple) (n m : ℕ) → Way nodes arcs masks n m t → S n ≡ true → Ends nodes arcs masks m → S m ≡ true
      onward [] n m w s e = ap S (sym w) ∙ s
      onward (u ∷ t) n m w s e =
          let st = w.1 in
          let rest : Ends nodes arcs masks w.0 = (t ++ e.0, way_joined nodes arcs masks t e.0 w.0 m (length nodes - 1) w.2 e.1) in
          onward t w.0 m w.2 (ap S (sym st.to) ∙ f.closed st.number (omega (arith, st.there)) st.there (passing n u w.0 st s rest)) e

      whole : Through nodes arcs masks p v → stands (get_or shown p 0) v ≡ true
      whole h =
          let st = h.step in
          let to_end : Ends nodes arcs masks h.node = (v ∷ h.ends.0, (h.target, st, h.ends.1)) in
          let into : S h.node ≡ true = onward h.front 0 h.node h.reached f.start to_end in
          subst (λ x. stands (get_or shown x 0) v ≡ true) h.placed
          (subst (λ x. stands (get_or shown (place nodes x) 0) v ≡ true) st.from
          (subst (λ x. stands (get_or shown (place nodes (arc arcs st.number).node) 0) x ≡ true) st.by
          (f.whole st.number (omega (arith, st.there)) st.there (passing h.node v h.target st into h.ends))))
