-- What a bank of differences means, and what its support shows.
use Rattle.std.proofs.Common.{◌≡◌, ℕ, zero, suc, ◌<◌, ◌≤◌, true, false, ltb, List, [], ◌∷◌, ◌++◌, map, length, get_or, drop, ◌+◌, ◌-◌, Option, is_some, Some, None, IfSome, Bor, Decides, sym, refl, ap, ◌∙◌, subst, arith}
use Rattle.std.proofs.ByRecursion.{All-get_or}
use Rattle.std.proofs.lemmas.List.{get_or_append_left, get_or-append_right, get_or-drop, length-append, length-drop}
use Rattle.std.proofs.lemmas.Bool.Decides.{Decides-like}
use Rattle.rows.specs.Choices.{stands, Kept}
use Rattle.std.specs.Option.{ok_or, option_copied}
use Rattle.std.proofs.lemmas.Bool.{ltb-true, ltb-false}
use Rattle.rows.specs.Refusals.{Answer, first}
use Rattle.rows.proofs.Refusing.{first_past, first_none}
use Rattle.banks.specs.Calls.{Shows, call_says, rule_at, no_such_rule, too_few_rows, too_few_masks}
use Rattle.banks.specs.declared.refusal.CallError.TheVariants.{NoSuchRule}
use Rattle.banks.specs.Lawful.{max_width}
use Rattle.banks.specs.Rules.{Sheet, row, arity, Rule, named, Live, SupportAt}
use Rattle.banks.proofs.Calling.{rule_missing, rule_there, rule_found}
use Rattle.banks.proofs.Faulting.{sound_bank, none_from_test}
use Rattle.banks.proofs.Naming.{named_from, sized_from}
use Rattle.banks.proofs.Showing.{support_stands}
use Rattle.differences.specs.Checks.{fault, refusal}
use Rattle.differences.specs.Differences.{relates, meaning}
use Rattle.differences.specs.Partners.{Finds}
use Rattle.differences.specs.Owed.{Fine, Found, fine_from, lawful_bank}
use Rattle.differences.specs.declared.difference.Difference.{Difference}

module _ (w : ℕ) (ds : List Difference) (sound : is_some (refusal w ds) ≡ false) where
  pub fine_at : (k : ℕ) (d : Difference) → k < length ds → Fine w (get_or ds k d)
  fine_at k d h =
      let s = sound_bank (fault w) w ds (none_from_test (refusal w ds) sound) in
      fine_from w (get_or ds k d) (All-get_or (λ x. fault w x ≡ None) ds k d h s.1)

  -- so its rows are below the width
  pub rows_within : (k : ℕ) (d : Difference) → k < length ds → ((get_or ds k d).x < w) × ((get_or ds k d).y < w)
  rows_within k d h = let n = named_from w ((get_or ds k d).x ∷ (get_or ds k d).y ∷ []) (fine_at k d h).names in (n.within 0 (omega arith), n.within 1 (omega arith))

  -- what a number finds
  pub found_at : (k : ℕ) (g : Option (Bor Difference)) → is_some g ≡ ltb k (length ds) → IfSome g (λ x. x.now ≡ get_or ds k x.now)
      → Answer call_says (first (no_such_rule (map meaning ds) k ∷ [])) (Unit {0}) (Found w ds k) (ok_or (option_copied g) NoSuchRule)
  found_at k None there is = (rule_missing meaning ds k [] (ltb-false k (length ds) (sym there)), tt)
  found_at k (Some x) there is =
      let h = ltb-true k (length ds) (sym there) in
      (rule_there meaning ds k [] h, record { means = rule_found meaning ds k x.now h ∙ ap meaning (sym is); fine = subst (Fine w) (sym is) (fine_at k x.now h) })

  pub wide_at_most : w ≤ max_width
  wide_at_most = (sized_from w (map meaning ds) (lawful_bank w ds sound)).high

-- the two masks show the support of both places
module _ (s : Sheet) (d : Difference) where
  live_pair : (x y : ℕ) → stands (row s d.x) x ≡ true → stands (row s d.y) y ≡ true → relates d.relation d.offset x y ≡ true
      → Live s (meaning d) (x ∷ y ∷ [])
  live_pair x y sx sy rel = record { whole = refl; permitted = rel; standing = each }
    where
      each : (p : ℕ) → p < 2 → stands (row s (named (meaning d) p)) (get_or (x ∷ y ∷ []) p 0) ≡ true
      each zero h = sx
      each (suc zero) h = sy
      each (suc (suc p)) h = absurd (omega arith)

  place_x : (a v : ℕ) → Kept (λ x. Finds (λ y. relates d.relation d.offset x y) (row s d.y)) (row s d.x) a → Decides (stands a v) (SupportAt s (meaning d) 0 v)
  place_x a v k =
      Decides-like (stands a v)
      (λ m. record { placed = omega arith; tuple = v ∷ m.1.0 ∷ []; live = live_pair v m.1.0 m.0 m.1.1 m.1.2; there = refl })
      (λ h. (
        support_stands s (meaning d) 0 v h,
        (
          get_or h.tuple 1 0,
          h.live.standing 1 (omega arith),
          subst (λ x. relates d.relation d.offset x (get_or h.tuple 1 0) ≡ true) h.there h.live.permitted,
        ),
      ))
      (k v)

  place_y : (b v : ℕ) → Kept (λ y. Finds (λ x. relates d.relation d.offset x y) (row s d.x)) (row s d.y) b → Decides (stands b v) (SupportAt s (meaning d) 1 v)
  place_y b v k =
      Decides-like (stands b v)
      (λ m. record { placed = omega arith; tuple = m.1.0 ∷ v ∷ []; live = live_pair m.1.0 v m.1.1 m.0 m.1.2; there = refl })
      (λ h. (
        support_stands s (meaning d) 1 v h,
        (
          get_or h.tuple 0 0,
          h.live.standing 0 (omega arith),
          subst (λ y. relates d.relation d.offset (get_or h.tuple 0 0) y ≡ true) h.there h.live.permitted,
        ),
      ))
      (k v)

  pub pair_shows : (before sides : List ℕ) → 2 ≤ length before → length sides ≡ 2
      → Kept (λ x. Finds (λ y. relates d.relation d.offset x y) (row s d.y)) (row s d.x) (get_or sides 0 0)
      → Kept (λ y. Finds (λ x. relates d.relation d.offset x y) (row s d.x)) (row s d.y) (get_or sides 1 0)
      → Shows s (meaning d) before (sides ++ drop 2 before)
  pair_shows before sides h two ka kb = record { long = long; exact = each; beyond = rest }
    where
      long : length (sides ++ drop 2 before) ≡ length before
      long = omega (arith, length-append sides (drop 2 before), length-drop 2 before)

      at : (p : ℕ) → p < 2 → get_or (sides ++ drop 2 before) p 0 ≡ get_or sides p 0
      at p l = get_or_append_left sides (drop 2 before) 0 p (omega arith)

      each : (p v : ℕ) → p < 2 → Decides (stands (get_or (sides ++ drop 2 before) p 0) v) (SupportAt s (meaning d) p v)
      each zero v l = subst (λ m. Decides (stands m v) (SupportAt s (meaning d) 0 v)) (sym (at 0 l)) (place_x (get_or sides 0 0) v ka)
      each (suc zero) v l = subst (λ m. Decides (stands m v) (SupportAt s (meaning d) 1 v)) (sym (at 1 l)) (place_y (get_or sides 1 0) v kb)
      each (suc (suc p)) v l = absurd (omega arith)

      rest : (p : ℕ) → 2 ≤ p → get_or (sides ++ drop 2 before) p 0 ≡ get_or before p 0
      rest p l =
          let past : 2 + (p - 2) ≡ p = omega arith in
          get_or-append_right sides (drop 2 before) 2 p 0 two l ∙ get_or-drop 2 before (p - 2) 0 ∙ ap (λ i. get_or before i 0) past

-- support has the reasons of `admit` after that of the rule
pub after_find : (Rs : List Rule) (k w : ℕ) (s before : List ℕ) → first (no_such_rule Rs k ∷ []) ≡ None → arity (rule_at Rs k) ≡ 2
    → first (no_such_rule Rs k ∷ too_few_rows w s ∷ too_few_masks (arity (rule_at Rs k)) before ∷ []) ≡ first (too_few_rows w s ∷ too_few_masks 2 before ∷ [])
after_find Rs k w s before there two =
    first_past (no_such_rule Rs k) _ (first_none (no_such_rule Rs k) [] there).0 ∙ ap (λ a. first (too_few_rows w s ∷ too_few_masks a before ∷ [])) two
