-- Support on a sheet stays support on each sheet above it, and needs only the rows that the rule names.
use Rattle.std.proofs.Common.{◌≡◌, ℕ, ◌<◌, true, get_or, sym, refl, ◌∙◌, subst}
use Rattle.rows.specs.Choices.{stands}
use Rattle.banks.specs.Rules.{Sheet, Tuple, Rule, row, arity, named, Live, SupportAt, Under, SupportedBy}

-- sheets lie under themselves, and what lies under one that lies under another lies under that
pub under_self : (s : Sheet) → Under s s
under_self s = record { same = refl; part = λ r v h. h }

pub under_trans : (s t u : Sheet) → Under s t → Under t u → Under s u
under_trans s t u a b = record { same = a.same ∙ b.same; part = λ r v h. b.part r v (a.part r v h) }

-- a tuple whose choices stand on another sheet too is live there
pub live_moved : (s t : Sheet) (R : Rule) (tuple : Tuple)
    → ((p : ℕ) → p < arity R → stands (row s (named R p)) (get_or tuple p 0) ≡ true → stands (row t (named R p)) (get_or tuple p 0) ≡ true)
    → Live s R tuple → Live t R tuple
live_moved s t R tuple still l = record { whole = l.whole; permitted = l.permitted; standing = λ p h. still p h (l.standing p h) }

-- and then a choice that it supports has support there
pub support_moved : (s t : Sheet) (R : Rule) (p v : ℕ) → ((tuple : Tuple) → Live s R tuple → Live t R tuple) → SupportAt s R p v → SupportAt t R p v
support_moved s t R p v still a = record { placed = a.placed; tuple = a.tuple; live = still a.tuple a.live; there = a.there }

-- so both grow with the sheet
module _ (s t : Sheet) (R : Rule) (under : Under s t) where
  pub live_above : (tuple : Tuple) → Live s R tuple → Live t R tuple
  live_above tuple = live_moved s t R tuple (λ p _. under.part (named R p) (get_or tuple p 0))

  pub support_above : (p v : ℕ) → SupportAt s R p v → SupportAt t R p v
  support_above p v = support_moved s t R p v live_above

-- a choice with support at a place stands in the row of that place
pub support_stands : (s : Sheet) (R : Rule) (p v : ℕ) → SupportAt s R p v → stands (row s (named R p)) v ≡ true
support_stands s R p v a = subst (λ x. stands (row s (named R p)) x ≡ true) a.there (a.live.standing p a.placed)

-- a rule whose rows are the same on another sheet is supported there as it was
pub supported_like : (s t : Sheet) (R : Rule) → ((p : ℕ) → p < arity R → row t (named R p) ≡ row s (named R p)) → SupportedBy s R → SupportedBy t R
supported_like s t R same sup r v h p k e =
    let at : row t r ≡ row s r = subst (λ x. row t x ≡ row s x) e (same p k) in
    let there : stands (row s r) v ≡ true = subst (λ m. stands m v ≡ true) at h in
    support_moved s t R p v moved (sup r v there p k e)
  where
    moved : (tuple : Tuple) → Live s R tuple → Live t R tuple
    moved tuple = live_moved s t R tuple (λ q l. subst (λ m. stands m (get_or tuple q 0) ≡ true) (sym (same q l)))
