-- Narrowing a mask to the choices that have support: what a loop over the places of a rule, and over the rules of a bank, keeps.
use Rattle.std.proofs.Common.{◌≡◌, ℕ, ◌+◌, ◌<◌, ◌≤◌, List, length, Decides, sym, ap, ◌∙◌, arith, below_more}
use lib.Bits.{bit_and}
use Rattle.std.specs.List.{AllByRecursion}
use Rattle.std.proofs.ByRecursion.{All-get_or, All-from_get_or}
use Rattle.std.proofs.lemmas.Bool.{and_parts, and_from, both_ways}
use Rattle.std.proofs.lemmas.List.{get_or_past}
use Rattle.rows.specs.Choices.{stands, Kept}
use Rattle.rows.proofs.Keeping.{kept_like}
use Rattle.rows.proofs.Masks.{stands_and, stands_zero}
use Rattle.banks.specs.Calls.{rule_at}
use Rattle.banks.specs.Rules.{Sheet, Rule, row, arity, named, SupportAt, SupportIn}

-- nothing asked keeps all
pub kept_all : (P : ℕ → Type 0) (m : ℕ) → ((v : ℕ) → P v) → Kept P m m
kept_all P m all v = ((λ s. (s, all v)), (λ q. q.0))

-- one more thing asked, by a mask that shows it
pub kept_and : (P Q : ℕ → Type 0) (m r shown : ℕ) → Kept P m r → ((v : ℕ) → Decides (stands shown v) (Q v)) → Kept (λ v. P v × Q v) m (bit_and r shown)
kept_and P Q m r shown k d v = (
  (λ s. let b = and_parts (stands r v) (stands shown v) (sym (stands_and r shown v) ∙ s) in let p = (k v).0 b.0 in (p.0, (p.1, (d v).0 b.1))),
  (λ q. stands_and r shown v ∙ and_from (stands r v) (stands shown v) ((k v).1 (q.0, q.1.0)) ((d v).1 q.1.1)),
)

-- one more thing asked of what is kept
pub kept_more : (P Q : ℕ → Type 0) (m r t : ℕ) → Kept P m r → Kept Q r t → Kept (λ v. P v × Q v) m t
kept_more P Q m r t k l v =
    ((λ s. let b = (l v).0 s in let p = (k v).0 b.0 in (p.0, (p.1, b.1))), (λ q. (l v).1 ((k v).1 (q.0, q.1.0), q.1.1)))

-- the places below i at which the rule names the row show support
module _ (s : Sheet) (R : Rule) (r mask : ℕ) where
  abbrev pub Narrowing : ℕ → ℕ → Type 0
  Narrowing i m = Kept (λ v. (p : ℕ) → p < i → named R p ≡ r → SupportAt s R p v) mask m

  pub narrowing_none : Narrowing 0 mask
  narrowing_none = kept_all _ mask (λ v p h e. absurd (omega arith))

  pub narrowing_other : (i m : ℕ) → (named R i ≡ r → ⊥) → Narrowing i m → Narrowing (i + 1) m
  narrowing_other i m other k =
      kept_like _ _ mask m (λ v f. below_more (λ p. named R p ≡ r → SupportAt s R p v) i f (λ e. absurd (other e))) (λ v f p h. f p (omega arith)) k

  pub narrowing_named : (i m shown : ℕ) → named R i ≡ r → ((v : ℕ) → Decides (stands shown v) (SupportAt s R i v)) → Narrowing i m → Narrowing (i + 1) (bit_and m shown)
  narrowing_named i m shown here d k =
      kept_like _ _ mask (bit_and m shown) (λ v f. below_more (λ p. named R p ≡ r → SupportAt s R p v) i f.0 (λ _. f.1)) (λ v f. ((λ p h. f p (omega arith)), f i (omega arith) here))
      (kept_and _ (λ v. SupportAt s R i v) mask m shown k d)

  pub narrowing_all : (m : ℕ) → Narrowing (arity R) m → Kept (SupportIn s R r) mask m
  narrowing_all m k = k

-- the rules below i support the choices
module _ (s : Sheet) (Rs : List Rule) (r : ℕ) where
  abbrev pub Choosing : ℕ → ℕ → Type 0
  Choosing i m = Kept (λ v. (k : ℕ) → k < i → SupportIn s (rule_at Rs k) r v) (row s r) m

  pub choosing_none : Choosing 0 (row s r)
  choosing_none = kept_all _ (row s r) (λ v k h. absurd (omega arith))

  pub choosing_more : (i m n : ℕ) → Choosing i m → Kept (SupportIn s (rule_at Rs i) r) m n → Choosing (i + 1) n
  choosing_more i m n k l =
      kept_like _ _ (row s r) n (λ v f. below_more (λ j. SupportIn s (rule_at Rs j) r v) i f.0 f.1) (λ v f. ((λ j h. f j (omega arith)), f i (omega arith)))
      (kept_more _ (SupportIn s (rule_at Rs i) r) (row s r) m n k l)

  pub choosing_all : (m : ℕ) → Choosing (length Rs) m → Kept (λ v. AllByRecursion (λ R. SupportIn s R r v) Rs) (row s r) m
  choosing_all m k =
      kept_like _ _ (row s r) m (λ v f. All-from_get_or (λ R. SupportIn s R r v) Rs _ f) (λ v a i h. All-get_or (λ R. SupportIn s R r v) Rs i _ h a) k

  -- in a row that is not there
  pub no_choices : length s ≤ r → Kept (λ v. AllByRecursion (λ R. SupportIn s R r v) Rs) (row s r) 0
  no_choices h v =
      let gone = get_or_past s r 0 h in
      ((λ t. absurd (both_ways (stands 0 v) (stands_zero v) t)), (λ q. absurd (both_ways (stands (row s r) v) (ap (λ m. stands m v) gone ∙ stands_zero v) q.0)))
