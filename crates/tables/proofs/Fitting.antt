-- The loop that tests a line: so far, at each place, some standing choice matches its byte.
use Rattle.std.proofs.Common.{◌≡◌, ℕ, ◌+◌, ◌^◌, ◌<◌, Bool, true, not, ◌&&◌, eqb, List, get_or, Decides, subst, arith, below_more}
use Rattle.std.proofs.lemmas.Bool.Decides.{Decides-and, Decides-like}
use Rattle.rows.specs.Choices.{choices, stands, Kept}
use Rattle.rows.proofs.Masks.{some_decides}
use Rattle.tables.specs.Lines.{Fits}
use Rattle.tables.specs.Tables.{takes}

module _ (line masks : List ℕ) where
  -- some standing choice matches the byte at a place
  abbrev pub Fitted : ℕ → Type 0
  Fitted p = (v : ℕ) × Fits (get_or line p 0) (get_or masks p 0) v

  abbrev pub Fitting : ℕ → Bool → Type 0
  Fitting n fitting = Decides fitting ((p : ℕ) → p < n → Fitted p)

  -- a byte and a mask that follow are those at the next place
  pub fitting_more : (n r b m : ℕ) (fitting : Bool) → b ≡ get_or line n 0 → m ≡ get_or masks n 0 → r < 2 ^ choices → Kept (λ v. takes b v ≡ true) m r
      → Fitting n fitting → Fitting (n + 1) (fitting && not (eqb r 0))
  fitting_more n r b m fitting at_byte at_mask small kept far =
      Decides-like (fitting && not (eqb r 0)) (λ both. below_more Fitted n both.0 (found both.1))
      (λ all. ((λ p k. all p (omega arith)), lost (all n (omega arith))))
      (Decides-and fitting (not (eqb r 0)) far (some_decides choices r small))
    where
      kept_there : Kept (λ v. takes (get_or line n 0) v ≡ true) (get_or masks n 0) r
      kept_there = subst (λ x. Kept (λ v. takes x v ≡ true) (get_or masks n 0) r) at_byte (subst (λ x. Kept (λ v. takes b v ≡ true) x r) at_mask kept)

      found : (v : ℕ) × (stands r v ≡ true) → Fitted n
      found s = (s.0, (kept_there s.0).0 s.1)

      lost : Fitted n → (v : ℕ) × (stands r v ≡ true)
      lost f = (f.0, (kept_there f.0).1 f.1)
