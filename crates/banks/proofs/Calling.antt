-- What an accepted call of a bank says of its arguments, and the refusals of a call that makes another.
use Rattle.std.proofs.Common.{◌≡◌, ℕ, ◌<◌, ◌≤◌, false, List, [], ◌∷◌, map, length, get_or, Some, None, Option, sym, refl, ap, ◌∙◌, ⊎_elim, arith}
use lib.ListN.{get_or-map}
use Rattle.std.proofs.lemmas.List.{get_or_past, get_or_default, length-map}
use Rattle.std.proofs.lemmas.Bool.{cases_lt}
use Rattle.rows.specs.Refusals.{Refusal, plain, first}
use Rattle.rows.proofs.Refusing.{first_past, first_here, first_none, not_lt_from, not_le_from, lt_fits_not, le_fits, le_fits_not}
use Rattle.banks.specs.Calls.{rule_at, no_such_rule, too_few_rows, too_few_masks}
use Rattle.banks.specs.Lawful.{Lawful, max_width}
use Rattle.banks.specs.Names.{max_arity}
use Rattle.banks.specs.Rules.{Sheet, Rule, arity, named}
use Rattle.banks.proofs.Naming.{rule_named, sized_from}

-- a last reason that does not fit changes nothing
first_two : (a b o : Option Refusal) → o ≡ None → first (a ∷ b ∷ o ∷ []) ≡ first (a ∷ b ∷ [])
first_two (Some f) b o e = refl
first_two None (Some f) o e = refl
first_two None None o e = ap (λ x. first (None ∷ None ∷ x ∷ [])) e

module _ (w : ℕ) (Rs : List Rule) (lawful : Lawful w Rs) (k : ℕ) where
  -- no rule has an arity above the largest
  pub arity_few : arity (rule_at Rs k) ≤ max_arity
  arity_few = ⊎_elim (λ h. (rule_named w Rs k lawful h).few) (λ h. past (get_or_past Rs k _ h)) (cases_lt k (length Rs))
    where
      past : rule_at Rs k ≡ record { names = []; permits = λ _. false } → arity (rule_at Rs k) ≤ max_arity
      past e = omega (arith, ap arity e)

  -- so as many masks always suffice
  enough_masks : (masks : List ℕ) → length masks ≡ max_arity → too_few_masks (arity (rule_at Rs k)) masks ≡ None
  enough_masks masks e = lt_fits_not (length masks) (arity (rule_at Rs k)) (plain 25) (omega (arith, arity_few))

  -- and support has only the other two reasons to refuse
  pub support_reasons : (s : Sheet) (masks : List ℕ) → length masks ≡ max_arity
      → first (no_such_rule Rs k ∷ too_few_rows w s ∷ []) ≡ first (no_such_rule Rs k ∷ too_few_rows w s ∷ too_few_masks (arity (rule_at Rs k)) masks ∷ [])
  support_reasons s masks e = sym (first_two (no_such_rule Rs k) (too_few_rows w s) (too_few_masks (arity (rule_at Rs k)) masks) (enough_masks masks e))

-- the rule is there, and the rows suffice
pub admitted : (w : ℕ) (Rs : List Rule) (k : ℕ) (s : Sheet) (rest : List (Option Refusal))
    → first (no_such_rule Rs k ∷ too_few_rows w s ∷ rest) ≡ None → (k < length Rs) × (w ≤ length s)
admitted w Rs k s rest e =
    let p = first_none (no_such_rule Rs k) (too_few_rows w s ∷ rest) e in
    (not_le_from (length Rs) k (plain 22) p.0, not_lt_from (length s) w (plain 24) (first_none (too_few_rows w s) rest p.1).0)

pub none_refused : (w : ℕ) (Rs : List Rule) (k : ℕ) (s : Sheet) → k < length Rs → w ≤ length s → first (no_such_rule Rs k ∷ too_few_rows w s ∷ []) ≡ None
none_refused w Rs k s h l =
    first_past (no_such_rule Rs k) (too_few_rows w s ∷ []) (le_fits_not (length Rs) k (plain 22) h)
    ∙ first_past (too_few_rows w s) [] (lt_fits_not (length s) w (plain 24) l)

-- a row that the rule names is one of the rows
pub row_within : (w : ℕ) (Rs : List Rule) (k : ℕ) (s : Sheet) (p r : ℕ)
    → Lawful w Rs → (k < length Rs) × (w ≤ length s) → p < arity (rule_at Rs k) → r ≡ named (rule_at Rs k) p → (r < length s) × (r < max_width)
row_within w Rs k s p r lawful adm h e =
    let low = (rule_named w Rs k lawful adm.0).within p h in
    let high = (sized_from w Rs lawful).high in
    (omega (arith, adm.1), omega arith)

-- a bank of one kind, whose rules are the meanings of the entries of a list
module _ {X : Type 0} (meaning : X → Rule) (xs : List X) (k : ℕ) where
  pub rule_missing : (rest : List (Option Refusal)) → length xs ≤ k → first (no_such_rule (map meaning xs) k ∷ rest) ≡ Some (plain 22)
  rule_missing rest h = first_here (no_such_rule (map meaning xs) k) rest (plain 22) (le_fits (length (map meaning xs)) k (plain 22) (simp length-map h))

  pub rule_there : (rest : List (Option Refusal)) → k < length xs → first (no_such_rule (map meaning xs) k ∷ rest) ≡ first rest
  rule_there rest h = first_past (no_such_rule (map meaning xs) k) rest (le_fits_not (length (map meaning xs)) k (plain 22) (simp length-map h))

  pub rule_found : (d : X) → k < length xs → rule_at (map meaning xs) k ≡ meaning (get_or xs k d)
  rule_found d h = get_or_default (map meaning xs) k _ (meaning d) (simp length-map h) ∙ get_or-map meaning xs k d

-- what was admitted by `admit`
pub rows_enough : (w : ℕ) (s : Sheet) (rest : List (Option Refusal)) → first (too_few_rows w s ∷ rest) ≡ None → w ≤ length s
rows_enough w s rest e = not_lt_from (length s) w (plain 24) (first_none (too_few_rows w s) rest e).0

pub masks_enough : (w a : ℕ) (s : Sheet) (masks : List ℕ) → first (too_few_rows w s ∷ too_few_masks a masks ∷ []) ≡ None → a ≤ length masks
masks_enough w a s masks e =
    not_lt_from (length masks) a (plain 25) (first_none (too_few_masks a masks) [] (first_none (too_few_rows w s) (too_few_masks a masks ∷ []) e).1).0
