-- Tests over numbers and over the live tuples of a rule, and what holds where they pass.
use Rattle.std.proofs.Common.{◌≡◌, ℕ, zero, suc, ◌<◌, Bool, true, ◌&&◌, eqb, length, refl, subst}
use Rattle.std.proofs.lemmas.List.{nil_from_length}
use Rattle.std.proofs.lemmas.Bool.{eqb-true}
use Rattle.std.proofs.lemmas.Bool.Decides.{Decides-below_and}
use Rattle.banks.specs.Rules.{Sheet, Tuple, Rule, Live}
use Rattle.cases.proofs.Members.{In}
use Rattle.cases.proofs.Tuples.{Small, live_tuples, live_in}

-- every number below n passes a test
abbrev pub every : (ℕ → Bool) → ℕ → Bool
every p zero = true
every p (suc n) = p n && every p n

pub every_at : (p : ℕ → Bool) (n k : ℕ) → every p n ≡ true → k < n → p k ≡ true
every_at p n k e h = (Decides-below_and p (λ i. p i ≡ true) (every p) (λ i. ((λ t. t), (λ t. t))) refl (λ i. refl) n).0 e k h

-- a rule has none
abbrev pub none_live : Sheet → Rule → Bool
none_live s R = eqb (length (live_tuples s R)) 0

pub dead : (s : Sheet) (R : Rule) → Small s → none_live s R ≡ true → (t : Tuple) → Live s R t → ⊥
dead s R small e t l = subst (In t) (nil_from_length (live_tuples s R) (eqb-true (length (live_tuples s R)) 0 e)) (live_in s R t small l)
