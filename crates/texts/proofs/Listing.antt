-- The choices of a mask, written one after another.
use Rattle.std.proofs.Common.{◌≡◌, ℕ, ◌<◌, List, ◌++◌, codes, decimal, sym, ap, ◌∙◌}
use Rattle.std.proofs.lemmas.List.{append-nil, append_assoc}
use Rattle.rows.specs.Choices.{members, choices, Lowest, Without}
use Rattle.rows.proofs.Masks.{members_lowest, members_none}
use Rattle.texts.specs.Texts.{further, listed}

-- nothing is left to write
pub nothing_further : (t : List ℕ) (rest : ℕ) → rest ≡ 0 → t ++ further (members rest) ≡ t
nothing_further t rest e = ap (λ m. t ++ further (members m)) e ∙ ap (λ l. t ++ further l) members_none ∙ append-nil t

pub none_listed : (t : List ℕ) (mask : ℕ) → mask ≡ 0 → t ++ listed (members mask) ≡ t
none_listed t mask e = ap (λ m. t ++ listed (members m)) e ∙ ap (λ l. t ++ listed l) members_none ∙ append-nil t

module _ (t : List ℕ) (m v after : ℕ) (low : v < choices) (lowest : Lowest m v) (out : Without v m after) where
  -- the first choice stands alone
  pub first_listed : (t ++ decimal v) ++ further (members after) ≡ t ++ listed (members m)
  first_listed = append_assoc t (decimal v) (further (members after)) ∙ ap (λ l. t ++ listed l) (sym (members_lowest m after v low lowest out))

  -- each later one after a comma
  pub next_listed : (t ++ (codes "," ++ decimal v)) ++ further (members after) ≡ t ++ further (members m)
  next_listed =
      append_assoc t (codes "," ++ decimal v) (further (members after)) ∙ ap (λ l. t ++ further l) (sym (members_lowest m after v low lowest out))
