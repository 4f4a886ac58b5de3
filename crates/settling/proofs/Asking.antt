-- What the calls of banks and lists answer, where they are accepted.
use Rattle.std.proofs.Common.{◌≡◌, ℕ, ◌<◌, ◌≤◌, List, [], ◌∷◌, length, Some, None, Ok, Err, Option, Result, sym, ap, ◌∙◌, ⊎_elim, arith, rules}
use Rattle.std.specs.Result.{result_unwrap_or}
use Rattle.std.proofs.lemmas.List.{get_or_past}
use Rattle.std.proofs.lemmas.Bool.{cases_lt}
use Rattle.rows.specs.Refusals.{Refusal, plain, first, Answer}
use Rattle.rows.proofs.Refusing.{first_past, first_none, some_not_none, le_fits_not, not_le_from}
use Rattle.banks.specs.Calls.{call_says, rule_at, no_such_rule, no_such_place, Shows, ArityAnswer, RowAnswer, SupportAnswer}
use Rattle.banks.specs.Lawful.{Lawful}
use Rattle.banks.specs.Names.{max_arity}
use Rattle.banks.specs.Rules.{Sheet, Rule, arity, named}
use Rattle.banks.specs.declared.refusal.CallError.{CallError}
use Rattle.banks.proofs.Calling.{support_reasons, none_refused}

-- a call for which no refusal fits is accepted
pub accepted : {A E : Type 0} (says : E → Refusal) (why : Option Refusal) (same : Type 0) (gives : A → Type 0) (r : Result A E)
    → why ≡ None → Answer says why same gives r → (a : A) × gives a
accepted says why same gives (Ok a) none answer = (a, answer.1)
accepted says why same gives (Err e) none answer = absurd (some_not_none why (says e) answer.0 none)

-- a rule that is not there names no row
pub names_past : (Rs : List Rule) (k : ℕ) → length Rs ≤ k → (rule_at Rs k).names ≡ []
names_past Rs k h = ap (λ R. R.names) (get_or_past Rs k _ h)

module _ (Rs : List Rule) (k p : ℕ) where
  -- a row is answered at each place, and at no other
  pub placed : first (no_such_rule Rs k ∷ no_such_place (rule_at Rs k) p ∷ []) ≡ None → (k < length Rs) × (p < arity (rule_at Rs k))
  placed e =
      let first_two = first_none (no_such_rule Rs k) (no_such_place (rule_at Rs k) p ∷ []) e in
      (not_le_from (length Rs) k (plain 22) first_two.0, not_le_from (arity (rule_at Rs k)) p (plain 23) (first_none (no_such_place (rule_at Rs k) p) [] first_two.1).0)

  pub not_placed : (f : Refusal) → first (no_such_rule Rs k ∷ no_such_place (rule_at Rs k) p ∷ []) ≡ Some f → arity (rule_at Rs k) ≤ p
  not_placed f e = ⊎_elim (λ h. ⊎_elim (λ l. absurd (some_not_none _ f e (both h l))) (λ l. l) (cases_lt p (arity (rule_at Rs k)))) (λ h. omega (arith, ap length (names_past Rs k h))) (cases_lt k (length Rs))
    where
      both : k < length Rs → p < arity (rule_at Rs k) → first (no_such_rule Rs k ∷ no_such_place (rule_at Rs k) p ∷ []) ≡ None
      both h l =
          first_past (no_such_rule Rs k) (no_such_place (rule_at Rs k) p ∷ []) (le_fits_not (length Rs) k (plain 22) h)
          ∙ first_past (no_such_place (rule_at Rs k) p) [] (le_fits_not (arity (rule_at Rs k)) p (plain 23) l)

-- a rule that is there shows its support in as many masks as any rule has places
pub support_shown : (w : ℕ) (Rs : List Rule) (k : ℕ) (s : Sheet) (before after : List ℕ) (r : Result (Unit {0}) CallError) → Lawful w Rs → length before ≡ max_arity
    → k < length Rs → w ≤ length s → SupportAnswer w Rs k s before after r → Shows s (rule_at Rs k) before after
support_shown w Rs k s before after r lawful long h enough answer =
    (accepted call_says _ (after ≡ before) (λ _. Shows s (rule_at Rs k) before after) r (sym (support_reasons w Rs lawful k s before long) ∙ none_refused w Rs k s h enough) answer).1

-- the arity that is answered is that of the rule, and a rule that is not there names no row
pub places : (Rs : List Rule) (k : ℕ) (r : Result ℕ CallError) → ArityAnswer Rs k r → result_unwrap_or r 0 ≡ arity (rule_at Rs k)
places Rs k (Ok a) answer = answer.1
places Rs k (Err f) answer =
    ⊎_elim (λ h. absurd (some_not_none _ (call_says f) answer.0 (first_past (no_such_rule Rs k) [] (le_fits_not (length Rs) k (plain 22) h))))
    (λ h. sym (ap length (names_past Rs k h))) (cases_lt k (length Rs))

-- and the row that is answered at a place tells which row is there
module _ (Rs : List Rule) (k p row : ℕ) where
  pub found : (r : Result ℕ CallError) → RowAnswer Rs k p r → r ≡ Ok row → (p < arity (rule_at Rs k)) × (named (rule_at Rs k) p ≡ row)
  found (Ok r) answer e = ((placed Rs k p answer.0).1, cc)
  found (Err f) answer e = absurd (search (rules, e))

  pub missed : (r : Result ℕ CallError) → RowAnswer Rs k p r → p < arity (rule_at Rs k) → named (rule_at Rs k) p ≡ row → r ≡ Ok row
  missed (Ok r) answer h e = ap Ok (answer.1 ∙ e)
  missed (Err f) answer h e = absurd (omega (arith, h, not_placed Rs k p _ answer.0))
