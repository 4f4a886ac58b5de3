-- What the masks that show support say of a sheet.
use Rattle.std.proofs.Common.{◌≡◌, ℕ, ◌^◌, ◌<◌, true, not, eqb, List, length, get_or, take, Decides, sym, refl, ◌∙◌, subst, arith}
use Rattle.std.proofs.lemmas.List.{length-take-le, get_or-take}
use Rattle.std.proofs.lemmas.Bool.Decides.{same_from_decides, Decides-like}
use Rattle.rows.specs.Choices.{choices, stands}
use Rattle.rows.proofs.Masks.{same_mask, some_decides}
use Rattle.banks.specs.Calls.{rule_at, Shows}
use Rattle.banks.specs.Lawful.{Lawful}
use Rattle.banks.specs.Names.{max_arity}
use Rattle.banks.specs.Rules.{Sheet, Tuple, Rule, arity, named, row, Live, SupportAt, SupportedBy}
use Rattle.banks.proofs.Calling.{arity_few}

-- only a standing choice has support
pub support_stands : (s : Sheet) (R : Rule) (p v : ℕ) → SupportAt s R p v → stands (row s (named R p)) v ≡ true
support_stands s R p v h = subst (λ x. stands (row s (named R p)) x ≡ true) h.there (h.live.standing p h.placed)

module _ (s : Sheet) (R : Rule) (before after : List ℕ) (shows : Shows s R before after) where
  -- where each mask is the row itself, every choice has support
  pub all_shown : ((p : ℕ) → p < arity R → get_or after p 0 ≡ row s (named R p)) → SupportedBy s R
  all_shown same r v st p h e =
      (shows.exact p v h).0 (subst (λ m. stands m v ≡ true) (sym (same p h)) (subst (λ x. stands (row s x) v ≡ true) (sym e) st))

  -- and where a mask differs, some choice has none
  pub one_missing : (p : ℕ) → p < arity R → get_or after p 0 < 2 ^ choices → row s (named R p) < 2 ^ choices
      → (get_or after p 0 ≡ row s (named R p) → ⊥) → SupportedBy s R → ⊥
  one_missing p h small small' differs supported =
      differs (same_mask choices (get_or after p 0) (row s (named R p)) small small' (λ v. same_from_decides _ _ (shown v) (stood v)))
    where
      shown : (v : ℕ) → Decides (stands (get_or after p 0) v) (SupportAt s R p v)
      shown v = shows.exact p v h

      stood : (v : ℕ) → Decides (stands (row s (named R p)) v) (SupportAt s R p v)
      stood v = ((λ st. supported (named R p) v st p h refl), support_stands s R p v)

  -- a rule has a live tuple exactly where some choice has support at its first place
  pub live_shown : 0 < arity R → get_or after 0 0 < 2 ^ choices → Decides (not (eqb (get_or after 0 0) 0)) ((t : Tuple) × Live s R t)
  live_shown h small =
      Decides-like (not (eqb (get_or after 0 0) 0)) (λ st. let a = (shows.exact 0 st.0 h).0 st.1 in (a.tuple, a.live))
      (λ l. (get_or l.0 0 0, (shows.exact 0 (get_or l.0 0 0) h).1 (record { placed = h; tuple = l.0; live = l.1; there = refl })))
      (some_decides choices (get_or after 0 0) small)

-- the masks of the places of a rule, as the front of as many masks as any rule may have places
module _ (w : ℕ) (Rs : List Rule) (lawful : Lawful w Rs) (k n : ℕ) (masks : List ℕ) (whole : n ≡ arity (rule_at Rs k)) (long : length masks ≡ max_arity) where
  pub front_long : length (take n masks) ≡ arity (rule_at Rs k)
  front_long = length-take-le n masks (omega (arith, arity_few w Rs lawful k)) ∙ whole

  pub front_at : (p : ℕ) → p < arity (rule_at Rs k) → get_or (take n masks) p 0 ≡ get_or masks p 0
  front_at p h = get_or-take n masks p 0 (omega arith)

  pub front_shows : (s : Sheet) (before : List ℕ) → Shows s (rule_at Rs k) before masks → (p : ℕ) → p < arity (rule_at Rs k)
      → (v : ℕ) → Decides (stands (get_or (take n masks) p 0) v) (SupportAt s (rule_at Rs k) p v)
  front_shows s before shows p h v = subst (λ m. Decides (stands m v) (SupportAt s (rule_at Rs k) p v)) (sym (front_at p h)) (shows.exact p v h)
