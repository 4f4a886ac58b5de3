-- A row is cut to the choices that have support at a place of a rule: one strike after another.
use Rattle.std.proofs.Common.{◌≡◌, ℕ, zero, suc, ◌^◌, ◌<◌, ◌≤◌, true, ◌⊎◌, List, length, set, Decides, sym, refl, ◌∙◌, subst, inl, inr, ⊎_elim, arith}
use lib.Bits.{bit_xor, xor_lt}
use lib.Pow.{pow-lt}
use Rattle.std.proofs.lemmas.List.{ext_get_or, get_or-set_same, get_or-set_other, length-set}
use Rattle.std.proofs.lemmas.Bool.{cases_Bool}
use Rattle.rows.specs.Choices.{choices, stands, Without}
use Rattle.rows.proofs.Masks.{stands_high, same_mask, some_stands, not_zero, taken_out, without_stood, without_stays}
use Rattle.banks.specs.Calls.{rule_at}
use Rattle.banks.specs.Rules.{Sheet, Rule, row, arity, named, SupportAt, Under}
use Rattle.trail.specs.Strokes.{Struck, Elsewhere}
use Rattle.trail.specs.Trails.{Narrows}
use Rattle.waiting.proofs.Changing.{but_here, but_other}
use Rattle.settling.specs.Settling.{StrikesUnsupported, Chain}
use Rattle.settling.specs.Settling.Chain.{◌then◌}
use Rattle.settling.proofs.Chaining.{strike_under}
use Rattle.settling.proofs.Supporting.{support_above, under_trans}

-- the row at a place of a rule loses only choices without support there, on the sheet `seen`
pub record Cuts (seen : Sheet) (R : Rule) (p : ℕ) (s t : Sheet) : Type 0 where
  pub placed : p < arity R
  pub elsewhere : Elsewhere (named R p) s t
  pub part : (v : ℕ) → stands (row t (named R p)) v ≡ true → stands (row s (named R p)) v ≡ true
  pub only : (v : ℕ) → Struck s t (named R p) v → SupportAt seen R p v → ⊥

-- as a narrowing to a mask that shows support
pub cuts_from : (seen : Sheet) (R : Rule) (p wanted : ℕ) (s t : Sheet) (strokes strokes' : List ℕ)
    → p < arity R → ((v : ℕ) → Decides (stands wanted v) (SupportAt seen R p v)) → Narrows (named R p) wanted s t strokes strokes' → Cuts seen R p s t
cuts_from seen R p wanted s t strokes strokes' h shows n = record {
  placed = h;
  elsewhere = n.elsewhere;
  part = λ v on. grind (arith, n.here v);
  only = λ v struck sup. let shown = (shows v).1 sup in grind (arith, n.here v, struck.0, struck.1);
}

-- a sheet with one choice of a row taken out
abbrev less : Sheet → ℕ → ℕ → Sheet
less s r v = set s r (bit_xor (row s r) (2 ^ v))

module _ (s : Sheet) (r v : ℕ) (inside : r < length s) where
  less_here : row (less s r v) r ≡ bit_xor (row s r) (2 ^ v)
  less_here = get_or-set_same s r (bit_xor (row s r) (2 ^ v)) 0 inside

  less_taken : stands (row s r) v ≡ true → Without v (row s r) (row (less s r v) r)
  less_taken stood = subst (Without v (row s r)) (sym less_here) (taken_out (row s r) v stood)

  less_elsewhere : Elsewhere r s (less s r v)
  less_elsewhere = record { same = length-set s r (bit_xor (row s r) (2 ^ v)); other = λ k ne. get_or-set_other s r k (bit_xor (row s r) (2 ^ v)) 0 ne }

  less_bounded : row s r < 2 ^ choices → v < choices → row (less s r v) r < 2 ^ choices
  less_bounded b h = subst (λ m. m < 2 ^ choices) (sym less_here) (xor_lt choices (row s r) (2 ^ v) b (pow-lt h))

-- sheets that differ at most in a row, and there in no choice
same_sheet : (r : ℕ) (s t : Sheet) → Elsewhere r s t → row s r < 2 ^ choices → row t r < 2 ^ choices → ((v : ℕ) → stands (row s r) v ≡ stands (row t r) v) → s ≡ t
same_sheet r s t e a b h =
    ext_get_or 0 s t (sym e.same)
    (λ k _. grind (arith, same_mask choices (row s r) (row t r) a b h, e.other k))

module _ (Rs : List Rule) (k : ℕ) (listed : k < length Rs) (seen : Sheet) (p : ℕ) (t : Sheet) (bound : row t (named (rule_at Rs k) p) < 2 ^ choices)
    (left : 0 < row t (named (rule_at Rs k) p)) where
  abbrev R : Rule
  R = rule_at Rs k

  abbrev r : ℕ
  r = named R p

  -- one strike of a choice that the cut takes
  module _ (s : Sheet) (cuts : Cuts seen R p s t) (below : Under s seen) (inside : r < length s) (v : ℕ) (struck : Struck s t r v) where
    taken : Without v (row s r) (row (less s r v) r)
    taken = less_taken s r v inside struck.0

    stays : (w : ℕ) → stands (row t r) w ≡ true → stands (row (less s r v) r) w ≡ true
    stays w on =
        without_stays (row s r) v (row (less s r v) r) w taken (cuts.part w on) (λ e. grind (arith, struck.1))

    strike : StrikesUnsupported Rs s (less s r v)
    strike = record {
      where_row = r;
      what = v;
      stood = struck.0;
      taken = taken;
      elsewhere = less_elsewhere s r v inside;
      not_last = let some = some_stands choices (row t r) left bound in not_zero (row (less s r v) r) some.0 (stays some.0 some.1);
      rule = k;
      listed = listed;
      unsupported = λ sup. cuts.only v struck (support_above s seen R below p v (sup p cuts.placed refl));
    }

    -- and what is still to be cut
    rest : Cuts seen R p (less s r v) t
    rest = record {
      placed = cuts.placed;
      elsewhere = record {
        same = cuts.elsewhere.same ∙ sym (less_elsewhere s r v inside).same;
        other = λ i ne. cuts.elsewhere.other i ne ∙ sym ((less_elsewhere s r v inside).other i ne);
      };
      part = stays;
      only = λ w st. cuts.only w ((without_stood (row s r) v (row (less s r v) r) w taken st.0).0, st.1);
    }

    -- from this choice on nothing is left to be cut, if that was so above it
    rest_above : ((w : ℕ) → suc v ≤ w → stands (row s r) w ≡ stands (row t r) w) → (w : ℕ) → v ≤ w → stands (row (less s r v) r) w ≡ stands (row t r) w
    rest_above above w h =
        grind (arith, but_here (stands (row s r)) (stands (row (less s r v) r)) v taken, struck.1, but_other (stands (row s r)) (stands (row (less s r v) r)) v taken w, above w)

  -- the choices below n are still to be looked at
  strikes : (s₀ : Sheet) (n : ℕ) (s : Sheet) → n ≤ choices → Cuts seen R p s t → Under s seen → r < length s → row s r < 2 ^ choices
      → ((w : ℕ) → n ≤ w → stands (row s r) w ≡ stands (row t r) w) → Chain Rs s₀ s → Chain Rs s₀ t
  strikes s₀ zero s h cuts below inside b same chain = subst (Chain Rs s₀) (same_sheet r s t cuts.elsewhere b bound (λ w. same w (omega arith))) chain
  strikes s₀ (suc n) s h cuts below inside b same chain =
      ⊎_elim
      (λ struck. strikes s₀ n (less s r n) (omega arith) (rest s cuts below inside n struck)
      (under_trans (less s r n) s seen (strike_under Rs s (less s r n) (strike s cuts below inside n struck)) below)
      (omega (arith, (less_elsewhere s r n inside).same)) (less_bounded s r n inside b (omega arith)) (rest_above s cuts below inside n struck same)
      (◌then◌ chain (strike s cuts below inside n struck)))
      (λ stays. strikes s₀ n s (omega arith) cuts below inside b (λ w l. grind (arith, stays, same w)) chain)
      (looked s n cuts)
    where
      looked : (s : Sheet) (v : ℕ) → Cuts seen R p s t → Struck s t r v ⊎ (stands (row s r) v ≡ stands (row t r) v)
      looked s v cuts =
          ⊎_elim (λ on. inr (cuts.part v on ∙ sym on)) (λ off. ⊎_elim (λ stood. inl (stood, off)) (λ never. inr (never ∙ sym off)) (cases_Bool (stands (row s r) v))) (cases_Bool (stands (row t r) v))

  -- so the cut makes a chain longer
  pub chain_cut : (s₀ s : Sheet) → Cuts seen R p s t → Under s seen → r < length s → row s r < 2 ^ choices → Chain Rs s₀ s → Chain Rs s₀ t
  chain_cut s₀ s cuts below inside b chain =
      strikes s₀ choices s (omega arith) cuts below inside b (λ w h. stands_high choices (row s r) w b h ∙ sym (stands_high choices (row t r) w bound h)) chain
