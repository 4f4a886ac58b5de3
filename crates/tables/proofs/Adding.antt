-- The loop that adds a line to the choices found: done at the places so far, and the others as they were.
use Rattle.std.proofs.Common.{◌≡◌, ℕ, ◌+◌, ◌<◌, ◌≤◌, true, ◌||◌, ◌⊎◌, List, length, get_or, set, Decides, sym, ap, ◌∙◌, subst, inl, inr, ⊎_elim, below_more, arith}
use lib.Bits.{bit_or}
use Rattle.std.proofs.lemmas.List.{get_or-set_same, get_or-set_other, length-set}
use Rattle.std.proofs.lemmas.Bool.{or_cases, or_left, or_right}
use Rattle.rows.specs.Choices.{stands, Kept}
use Rattle.rows.proofs.Masks.{stands_or}
use Rattle.tables.specs.Lines.{Fits}
use Rattle.tables.specs.Tables.{takes}

module _ (line masks before : List ℕ) where
  -- what stands at a place once the line is added there
  abbrev pub WithLine : ℕ → ℕ → Type 0
  WithLine p v = (stands (get_or before p 0) v ≡ true) ⊎ Fits (get_or line p 0) (get_or masks p 0) v

  pub record Adding (n : ℕ) (after : List ℕ) : Type 0 where
    pub long : length after ≡ length before
    pub done : (p v : ℕ) → p < n → Decides (stands (get_or after p 0) v) (WithLine p v)
    pub rest : (p : ℕ) → n ≤ p → get_or after p 0 ≡ get_or before p 0

  pub adding_more : (n more : ℕ) (after : List ℕ) → n < length before → Kept (λ v. takes (get_or line n 0) v ≡ true) (get_or masks n 0) more
      → Adding n after → Adding (n + 1) (set after n (bit_or (get_or after n 0) more))
  adding_more n more after h kept a = record {
    long = length-set after n _ ∙ a.long;
    done = λ p v l. below_more (λ q. (w : ℕ) → Decides (stands (get_or (set after n (bit_or (get_or after n 0) more)) q 0) w) (WithLine q w)) n
        (λ q k w. far q w (λ e. omega arith) k) here p l v;
    rest = λ p l. get_or-set_other after n p _ 0 (λ e. omega arith) ∙ a.rest p (omega arith);
  }
    where
      put : get_or (set after n (bit_or (get_or after n 0) more)) n 0 ≡ bit_or (get_or before n 0) more
      put = get_or-set_same after n _ 0 (omega (arith, a.long)) ∙ ap (λ m. bit_or m more) (a.rest n (omega arith))

      both : (v : ℕ) → stands (get_or (set after n (bit_or (get_or after n 0) more)) n 0) v ≡ (stands (get_or before n 0) v || stands more v)
      both v = ap (λ m. stands m v) put ∙ stands_or (get_or before n 0) more v

      here : (v : ℕ) → Decides (stands (get_or (set after n (bit_or (get_or after n 0) more)) n 0) v) (WithLine n v)
      here v = (
        (λ s. ⊎_elim inl (λ t. inr ((kept v).0 t)) (or_cases (stands (get_or before n 0) v) (stands more v) (sym (both v) ∙ s))),
        (λ w. both v ∙ ⊎_elim (or_left (stands (get_or before n 0) v) (stands more v)) (λ f. or_right (stands (get_or before n 0) v) (stands more v) ((kept v).1 f)) w),
      )

      far : (p v : ℕ) → (p ≡ n → ⊥) → p < n → Decides (stands (get_or (set after n (bit_or (get_or after n 0) more)) p 0) v) (WithLine p v)
      far p v ne l = subst (λ m. Decides (stands m v) (WithLine p v)) (sym (get_or-set_other after n p _ 0 ne)) (a.done p v l)
