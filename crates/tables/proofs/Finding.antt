-- The choices found so far are those that the lines so far give: what the next line adds to this.
use Rattle.std.proofs.Common.{◌≡◌, ℕ, true, ◌⊎◌, List, [], ◌∷◌, ◌++◌, length, get_or, replicate, sym, ◌∙◌, subst, inl, inr, ⊎_elim, arith}
use Rattle.std.proofs.lemmas.List.{get_or-replicate, length-replicate}
use Rattle.std.proofs.lemmas.List.Elements.{Contains-append_left, Contains-push, Contains-push_cases}
use Rattle.std.proofs.lemmas.Bool.{both_ways}
use Rattle.std.proofs.lemmas.Bool.Decides.{Decides-like}
use Rattle.rows.specs.Choices.{stands}
use Rattle.rows.proofs.Masks.{stands_zero}
use Rattle.tables.specs.Lines.{Lives, Gives, Given, Found, Added}

module _ (masks : List ℕ) where
  pub found_none : Found [] masks (replicate (length masks) 0)
  found_none = record {
    long = length-replicate (length masks) 0;
    exact = λ p v h. (
      (λ s. absurd (both_ways (stands 0 v) (stands_zero v) (subst (λ m. stands m v ≡ true) (get_or-replicate (length masks) p 0 0 h) s))),
      (λ g. let at = g.1.1 in absurd (omega arith)),
    );
  }

  module _ (done : List (List ℕ)) where
    given_before : (later : List (List ℕ)) (p v : ℕ) → Given done masks p v → Given (done ++ later) masks p v
    given_before later p v g = (g.0, Contains-append_left done later g.0 g.1, g.2)

    module _ (line found : List ℕ) (f : Found done masks found) where
      given_cases : (p v : ℕ) → Given (done ++ line ∷ []) masks p v → Given done masks p v ⊎ Gives line masks p v
      given_cases p v g =
          ⊎_elim (λ at. inl (g.0, at, g.2)) (λ e. inr (subst (λ l. Gives l masks p v) (sym e) g.2)) (Contains-push_cases done line g.0 g.1)

      -- a line that does not live gives nothing
      pub found_skipped : (Lives line masks → ⊥) → Found (done ++ line ∷ []) masks found
      found_skipped dead = record {
        long = f.long;
        exact = λ p v h. Decides-like (stands (get_or found p 0) v) (given_before (line ∷ []) p v)
            (λ g. ⊎_elim (λ old. old) (λ new. absurd (dead new.0)) (given_cases p v g)) (f.exact p v h);
      }

      -- and of one that lives, all that it gives is found
      pub found_added : (after : List ℕ) → Lives line masks → Added line masks found after → Found (done ++ line ∷ []) masks after
      found_added after lives a = record {
        long = a.long ∙ f.long;
        exact = λ p v h. (
          (λ s. ⊎_elim (λ old. given_before (line ∷ []) p v ((f.exact p v h).0 old)) (λ fit. (line, Contains-push done line, (lives, fit))) ((a.exact p v h).0 s)),
          (λ g. (a.exact p v h).1 (⊎_elim (λ old. inl ((f.exact p v h).1 old)) (λ new. inr new.1) (given_cases p v g))),
        );
      }

    -- once the masks found are the masks themselves, every standing choice is found
    pub found_full : (later : List (List ℕ)) (found : List ℕ) → found ≡ masks → Found done masks found → Found (done ++ later) masks found
    found_full later found e f = record {
      long = f.long;
      exact = λ p v h. ((λ s. given_before later p v ((f.exact p v h).0 s)), (λ g. subst (λ x. stands (get_or x p 0) v ≡ true) (sym e) g.2.1.0));
    }
