-- The check of a bank of one kind: what a loop over its rules comes to, whatever the kind.
use Rattle.std.proofs.Common.{◌≡◌, ℕ, zero, suc, ◌+◌, ◌<◌, true, false, not, List, [], ◌∷◌, length, get_or, take, Bor, is_some, Some, None, Ok, Err, Option, Result, sym, refl, ap, ◌∙◌, subst, add-zero, zero-add, arith}
use Rattle.std.specs.Option.{option_map}
use Rattle.std.specs.Fn.{Shared, FnReturnsAt}
use Rattle.std.specs.List.{AllByRecursion, slice_get}
use Rattle.std.proofs.ByRecursion.{All-weaker}
use Rattle.std.proofs.lemmas.Option.{slice_get_within, get_or_from_slice_get}
use Rattle.std.proofs.lemmas.Bool.{cond-true, cond-false, not-false, true≢false}
use Rattle.rows.specs.Refusals.{Refusal, plain, fits, first, Answer}
use Rattle.rows.proofs.Refusing.{first_past, first_here, first_none, fits_none}
use Rattle.banks.specs.Faults.{of_rule, bank_says, faults, bank_refusal, Examined}
use Rattle.banks.specs.Lawful.{may_hold}
use Rattle.banks.specs.declared.refusal.BankError.{BankError}
use Rattle.banks.specs.declared.refusal.BankError.TheVariants.{Size, Rule}

module _ {X : Type 0} (fault : X → Option Refusal) where
  -- the rules have no fault
  abbrev pub Faultless : List X → Type 0
  Faultless = AllByRecursion (λ x. fault x ≡ None)

  -- the first fault, after rules that have none
  faults_at : (xs : List X) (k i : ℕ) (d : X) (f : Refusal) → Faultless (take i xs) → i < length xs → fault (get_or xs i d) ≡ Some f
      → first (faults fault k xs) ≡ Some (of_rule (k + i) f)
  faults_at [] k i d f fine h e = absurd (omega arith)
  faults_at (x ∷ xs) k zero d f fine h e =
      first_here (option_map (of_rule k) (fault x)) (faults fault (suc k) xs) (of_rule k f) (ap (option_map (of_rule k)) e) ∙ ap (λ n. Some (of_rule n f)) (sym (add-zero k))
  faults_at (x ∷ xs) k (suc i) d f fine h e =
      first_past (option_map (of_rule k) (fault x)) (faults fault (suc k) xs) (ap (option_map (of_rule k)) fine.0)
      ∙ faults_at xs (suc k) i d f fine.1 (omega arith) e ∙ ap (λ n. Some (of_rule n f)) (omega arith)

  faults_none : (xs : List X) (k : ℕ) → Faultless xs → first (faults fault k xs) ≡ None
  faults_none [] k fine = refl
  faults_none (x ∷ xs) k fine = first_past (option_map (of_rule k) (fault x)) (faults fault (suc k) xs) (ap (option_map (of_rule k)) fine.0) ∙ faults_none xs (suc k) fine.1

  none_mapped : (k : ℕ) (o : Option Refusal) → option_map (of_rule k) o ≡ None → o ≡ None
  none_mapped k None e = refl
  none_mapped k (Some f) e = absurd (let z : ◌≡◌ {A = ℕ} 0 1 = cc in omega arith)

  none_faults : (xs : List X) (k : ℕ) → first (faults fault k xs) ≡ None → Faultless xs
  none_faults [] k e = tt
  none_faults (x ∷ xs) k e =
      let p = first_none (option_map (of_rule k) (fault x)) (faults fault (suc k) xs) e in (none_mapped k (fault x) p.0, none_faults xs (suc k) p.1)

  module _ (w : ℕ) (xs : List X) where
    pub refused_size : may_hold w (length xs) ≡ false → bank_refusal w fault xs ≡ Some (plain 11)
    refused_size e = first_here _ (faults fault 0 xs) (plain 11) (cond-true (not (may_hold w (length xs))) (Some (plain 11)) None (ap not e))

    sized : may_hold w (length xs) ≡ true → bank_refusal w fault xs ≡ first (faults fault 0 xs)
    sized e = first_past _ (faults fault 0 xs) (cond-false (not (may_hold w (length xs))) (Some (plain 11)) None (ap not e))

    pub refused_rule : (i : ℕ) (d : X) (f : Refusal) → may_hold w (length xs) ≡ true → Faultless (take i xs) → i < length xs → fault (get_or xs i d) ≡ Some f
        → bank_refusal w fault xs ≡ Some (of_rule i f)
    refused_rule i d f e fine h at = sized e ∙ faults_at xs 0 i d f fine h at ∙ ap (λ n. Some (of_rule n f)) (zero-add i)

    pub accepted : may_hold w (length xs) ≡ true → Faultless xs → bank_refusal w fault xs ≡ None
    accepted e fine = sized e ∙ faults_none xs 0 fine

    pub sound_bank : bank_refusal w fault xs ≡ None → (may_hold w (length xs) ≡ true) × Faultless xs
    sound_bank e =
        let p = first_none (fits (not (may_hold w (length xs))) (plain 11)) (faults fault 0 xs) e in
        (not-false (may_hold w (length xs)) (fits_none (not (may_hold w (length xs))) (plain 11) p.0), none_faults xs 0 p.1)

-- where the check of each rule refuses exactly by the rule's fault, examining the rules refuses exactly by the refusal of the bank
module _ {X F : Type 0} (says : F → Refusal) (fault : X → Option Refusal) (Says : X → Result (Unit {0}) F → Type 0)
    (exact : (x : X) (r : Result (Unit {0}) F) → Says x r → Answer says (fault x) (Unit {0}) (λ _. Unit {0}) r) where
  all_fine : (xs : List X) → AllByRecursion (λ x. Says x (Ok tt)) xs → Faultless fault xs
  all_fine = All-weaker _ _ (λ x s. (exact x (Ok tt) s).0)

  pub examined : (w : ℕ) (xs : List X) (r : Result (Unit {0}) (BankError F)) → Examined Says w xs r
      → Answer (bank_says says) (bank_refusal w fault xs) (Unit {0}) (λ _. Unit {0}) r
  examined w xs (Ok u) e = (accepted fault w xs e.0 (all_fine xs e.1), tt)
  examined w xs (Err Size) e = (refused_size fault w xs e, tt)
  examined w xs (Err (Rule k f)) e =
      let x = e.2 in
      let there : slice_get xs k ≡ Some x = e.3 in (
        refused_rule fault w xs k x (says f) e.0 (all_fine (take k xs) e.1) (slice_get_within xs k x there)
            (ap fault (get_or_from_slice_get xs k x x there) ∙ (exact x (Err f) e.4).0),
        tt,
      )

-- the same of a check that is a closure, by what its calls ensure; a caller shows `exact` by `λ x r p. search rules`
module _ {X F C : Type 0} (says : F → Refusal) (fault : X → Option Refusal) (g : Shared C (Bor X × Unit {0}) (Result (Unit {0}) F)) (check : C)
    (exact : (x : Bor X) (r : Result (Unit {0}) F) → g.post check (x, tt) r → Answer says (fault x.now) (Unit {0}) (λ _. Unit {0}) r) where
  pub examined_by : (w : ℕ) (xs : List X) (r : Result (Unit {0}) (BankError F)) → Examined (FnReturnsAt g check) w xs r
      → Answer (bank_says says) (bank_refusal w fault xs) (Unit {0}) (λ _. Unit {0}) r
  examined_by = examined says fault (FnReturnsAt g check)
      (λ x r s. subst (λ y. Answer says (fault y) (Unit {0}) (λ _. Unit {0}) r) s.shows (exact s.shown r s.says.met))

-- a test that there is no refusal
pub none_from_test : (o : Option Refusal) → is_some o ≡ false → o ≡ None
none_from_test None e = refl
none_from_test (Some f) e = absurd (true≢false e)
