-- The record grows by the strokes that are noted.
use Rattle.std.proofs.Common.{◌≡◌, ℕ, ◌+◌, ◌^◌, ◌<◌, ◌≤◌, true, List, [], ◌∷◌, ◌++◌, map, length, sym, refl, ap, ◌∙◌, subst, arith}
use Rattle.std.proofs.lemmas.List.{append-nil, append_assoc, length-append, length-map}
use Rattle.rows.specs.Choices.{choices, stands, members, Lowest, Without}
use Rattle.rows.proofs.Masks.{members_lowest, members_none, stands_below, without_stood}
use Rattle.trail.specs.Stacks.{Grows}
use Rattle.trail.specs.Strokes.{stroke}
use Rattle.trail.specs.declared.stack.Stack.{Stack}
use Rattle.trail.proofs.Stacked.{grows_none, grows_more, grows_top}

-- The loop that notes the choices of a mask, lowest first: what is noted, and then the strokes of the rest, are the strokes of all.
pub record NotingAll (r lost rest : ℕ) (s t : Stack ℕ) : Type 0 where
  pub front : List ℕ
  pub split : map (stroke r) (members lost) ≡ front ++ map (stroke r) (members rest)
  pub noted : Grows front s t
  pub below : (v : ℕ) → stands rest v ≡ true → v < choices

module _ (r lost : ℕ) (s : Stack ℕ) where
  pub noting_none : lost < 2 ^ choices → NotingAll r lost lost s s
  noting_none h = record { front = []; split = refl; noted = grows_none s; below = λ v. stands_below choices lost v h }

  pub noting_more : (rest after v : ℕ) (t u : Stack ℕ) → Lowest rest v → Without v rest after → NotingAll r lost rest s t → Grows (stroke r v ∷ []) t u
      → NotingAll r lost after s u
  noting_more rest after v t u low out n one = record {
    front = n.front ++ stroke r v ∷ [];
    split = n.split ∙ ap (λ xs. n.front ++ map (stroke r) xs) (members_lowest rest after v (n.below v low.here) low out)
        ∙ sym (append_assoc n.front (stroke r v ∷ []) (map (stroke r) (members after)));
    noted = grows_more n.front (stroke r v ∷ []) s t u n.noted one;
    below = λ w x. n.below w (without_stood rest v after w out x).0;
  }

  pub noting_all : (rest : ℕ) (t : Stack ℕ) → rest ≡ 0 → NotingAll r lost rest s t → Grows (map (stroke r) (members lost)) s t
  noting_all rest t e n =
      let all : map (stroke r) (members lost) ≡ n.front =
      n.split ∙ ap (λ m. n.front ++ map (stroke r) (members m)) e ∙ ap (λ xs. n.front ++ map (stroke r) xs) members_none ∙ append-nil n.front
      in subst (λ xs. Grows xs s t) (sym all) n.noted

  -- the record has room for the next
  pub noting_room : (rest after v stay bound : ℕ) (t : Stack ℕ) → Lowest rest v → Without v rest after → NotingAll r lost rest s t
      → s.top + length (members lost) + stay ≤ bound → t.top + 1 + stay ≤ bound
  noting_room rest after v stay bound t low out n room =
      let rest-long : length (members rest) ≡ length (members after) + 1 = ap length (members_lowest rest after v (n.below v low.here) low out) ∙ omega arith in
      let all-long : length (members lost) ≡ length n.front + length (members rest) =
      sym (length-map (members lost) (stroke r)) ∙ ap length n.split ∙ length-append n.front (map (stroke r) (members rest))
      ∙ ap (λ k. length n.front + k) (length-map (members rest) (stroke r))
      in omega (arith, grows_top n.front s t n.noted)
