-- A rule is revised place by place: the rows at the places behind show the support, and those ahead are as they were.
use Rattle.std.proofs.Common.{◌≡◌, ℕ, ◌+◌, ◌<◌, ◌≤◌, true, List, length, get_or, replicate, take, Decides, sym, refl, ap, ◌∙◌, subst, arith, below_more}
use lib.Bits.{bit_and}
use Rattle.std.proofs.lemmas.List.{get_or_past, get_or-take, length-replicate, length-take-le}
use Rattle.rows.specs.Choices.{stands}
use Rattle.rows.proofs.Masks.{stands_and, not_zero}
use Rattle.banks.specs.Calls.{Shows}
use Rattle.banks.specs.Names.{apart}
use Rattle.banks.specs.Rules.{Sheet, Tuple, Rule, row, arity, named, Live, SupportAt, SupportedBy, Under}
use Rattle.trail.specs.Trails.{Narrows}
use Rattle.trail.proofs.Listing.{apart_get_or}
use Rattle.settling.proofs.Chaining.{elsewhere_under}
use Rattle.settling.proofs.Ending.{live_supports, any_stands}
use Rattle.settling.proofs.Supporting.{under_self, under_trans, support_stands, support_moved, live_moved}

-- the places below i are done, and the others are ahead
pub record Revising (seen : Sheet) (R : Rule) (masks : List ℕ) (i : ℕ) (s : Sheet) : Type 0 where
  pub below : Under s seen
  pub done : (q v : ℕ) → q < i → stands (row s (named R q)) v ≡ stands (get_or masks q 0) v
  pub ahead : (q : ℕ) → i ≤ q → q < arity R → row s (named R q) ≡ row seen (named R q)
  pub others : (r : ℕ) → ((q : ℕ) → q < arity R → named R q ≡ r → ⊥) → row s r ≡ row seen r

-- the masks of a rule's own places show the same
pub shows_first : (s : Sheet) (R : Rule) (before after : List ℕ) (n : ℕ) → Shows s R before after → n ≡ arity R → n ≤ length after → Shows s R (replicate (arity R) 0) (take n after)
shows_first s R before after n shows whole enough = record {
  long = omega (arith, length-take-le n after enough, length-replicate {A = ℕ} (arity R) 0);
  exact = λ p v h. subst (λ m. Decides (stands m v) (SupportAt s R p v)) (sym (get_or-take n after p 0 (omega arith))) (shows.exact p v h);
  beyond = λ p h. get_or_past (take n after) p 0 (omega (arith, length-take-le n after enough)) ∙ sym (get_or_past (replicate (arity R) 0) p 0 (omega (arith, length-replicate {A = ℕ} (arity R) 0)));
}

module _ (seen : Sheet) (R : Rule) (before masks : List ℕ) (shows : Shows seen R before masks) where
  pub revising_none : Revising seen R masks 0 seen
  revising_none = record { below = under_self seen; done = λ q v h. absurd (omega arith); ahead = λ q h k. refl; others = λ r h. refl }

  -- a row that is as its mask says needs nothing
  pub revising_same : (i : ℕ) (s : Sheet) → row s (named R i) ≡ get_or masks i 0 → Revising seen R masks i s → Revising seen R masks (i + 1) s
  revising_same i s e rev = record {
    below = rev.below;
    done = λ q v h. below_more (λ q. stands (row s (named R q)) v ≡ stands (get_or masks q 0) v) i (λ k l. rev.done k v l) (ap (λ m. stands m v) e) q h;
    ahead = λ q h k. rev.ahead q (omega arith) k;
    others = rev.others;
  }

  -- the mask of a place is part of the row that is still ahead
  pub shown_part : (i : ℕ) (s : Sheet) → i < arity R → Revising seen R masks i s → (v : ℕ) → stands (get_or masks i 0) v ≡ true → stands (row s (named R i)) v ≡ true
  shown_part i s h rev v on = subst (λ m. stands m v ≡ true) (sym (rev.ahead i (omega arith) h)) (support_stands seen R i v ((shows.exact i v h).0 on))

  -- a row is narrowed to its mask
  pub revising_narrowed : (i : ℕ) (s t : Sheet) (strokes strokes' : List ℕ) → apart R.names ≡ true → i < arity R
      → Narrows (named R i) (get_or masks i 0) s t strokes strokes' → Revising seen R masks i s → Revising seen R masks (i + 1) t
  revising_narrowed i s t strokes strokes' distinct h n rev = record {
    below = under_trans t s seen (elsewhere_under (named R i) s t n.elsewhere (λ v on. grind (arith, n.here v))) rev.below;
    done = λ q v l. below_more (λ q. stands (row t (named R q)) v ≡ stands (get_or masks q 0) v) i (λ k m. ap (λ x. stands x v) (other k (omega arith) (λ e. omega arith)) ∙ rev.done k v m) (exact v) q l;
    ahead = λ q l k. other q k (λ e. omega arith) ∙ rev.ahead q (omega arith) k;
    others = λ r out. n.elsewhere.other r (λ e. out i h (sym e)) ∙ rev.others r out;
  }
    where
      -- another place names another row
      other : (q : ℕ) → q < arity R → (q ≡ i → ⊥) → row t (named R q) ≡ row s (named R q)
      other q l ne = n.elsewhere.other (named R q) (λ e. ne (apart_get_or R.names q i distinct l h e))

      exact : (v : ℕ) → stands (row t (named R i)) v ≡ stands (get_or masks i 0) v
      exact v =
          grind (arith, n.here v, shown_part i s h rev v)

  -- some choice is left of a row ahead, where the rule has a live tuple
  pub some_left : (i : ℕ) (s : Sheet) → i < arity R → 0 < get_or masks 0 0 → Revising seen R masks i s → 0 < bit_and (row s (named R i)) (get_or masks i 0)
  some_left i s h some rev =
      let first = any_stands (get_or masks 0 0) some in
      let sup = (shows.exact 0 first.0 (omega arith)).0 first.1 in
      let v = get_or sup.tuple i 0 in
      let on = (shows.exact i v h).1 (live_supports seen R i sup.tuple h sup.live) in
      not_zero (bit_and (row s (named R i)) (get_or masks i 0)) v
      (grind (arith, stands_and (row s (named R i)) (get_or masks i 0) v, shown_part i s h rev v, on))

  -- when all places are done, the rule supports the sheet
  pub revising_all : (s : Sheet) → Revising seen R masks (arity R) s → SupportedBy s R
  revising_all s rev r v on p h e =
      let at : stands (row s (named R p)) v ≡ true = subst (λ x. stands (row s x) v ≡ true) (sym e) on in
      support_moved seen s R p v moved ((shows.exact p v h).0 (sym (rev.done p v h) ∙ at))
    where
      moved : (tuple : Tuple) → Live seen R tuple → Live s R tuple
      moved tuple l =
          live_moved seen s R tuple (λ q k _. rev.done q (get_or tuple q 0) k ∙ (shows.exact q (get_or tuple q 0) k).1 (live_supports seen R q tuple k l)) l
