-- What a chain of strikes keeps: it goes down, empties no row, and stays above every supported sheet.
use Rattle.std.proofs.Common.{◌≡◌, ℕ, ◌<◌, true, List, length, sym, ◌∙◌, subst, arith}
use Rattle.std.proofs.ByRecursion.{All-get_or}
use Rattle.rows.specs.Choices.{stands}
use Rattle.rows.proofs.Masks.{without_stood, without_stays}
use Rattle.banks.specs.Calls.{rule_at}
use Rattle.banks.specs.Rules.{Sheet, Rule, row, NoRowEmpty, SupportedBy, Supported, Under}
use Rattle.trail.specs.Strokes.{Elsewhere}
use Rattle.settling.specs.Settling.{Candidate, StrikesUnsupported, Chain}
use Rattle.settling.specs.Settling.Chain.{start, ◌then◌}
use Rattle.settling.proofs.Supporting.{under_self, under_trans, support_above}

-- sheets that differ at most in the row r
module _ (r : ℕ) (s t : Sheet) (e : Elsewhere r s t) where
  -- one lies under the other where it does so in that row
  pub elsewhere_under : ((v : ℕ) → stands (row t r) v ≡ true → stands (row s r) v ≡ true) → Under t s
  elsewhere_under part = record { same = e.same; part = λ k v on. grind (arith, part v, e.other k) }

  -- what lies under the one lies under the other where it does so in that row
  pub elsewhere_above : (c : Sheet) → Under c s → ((v : ℕ) → stands (row c r) v ≡ true → stands (row t r) v ≡ true) → Under c t
  elsewhere_above c under part = record {
    same = under.same ∙ sym e.same;
    part = λ k v on. grind (arith, part v, e.other k, under.part k v on);
  }

-- a rule of a list supports a sheet that the list supports
pub rule_supports : (Rs : List Rule) (c : Sheet) (k : ℕ) → Supported c Rs → k < length Rs → SupportedBy c (rule_at Rs k)
rule_supports Rs c k sup h = All-get_or (SupportedBy c) Rs k _ h sup.rules

module _ (Rs : List Rule) (s t : Sheet) (strike : StrikesUnsupported Rs s t) where
  pub strike_under : Under t s
  strike_under =
      elsewhere_under strike.where_row s t strike.elsewhere
      (λ v on. (without_stood (row s strike.where_row) strike.what (row t strike.where_row) v strike.taken on).0)

  strike_rows : NoRowEmpty s → NoRowEmpty t
  strike_rows full k h =
      let was = full k (omega (arith, strike.elsewhere.same)) in grind (arith, strike.not_last, strike.elsewhere.other k, was)

  -- a supported sheet does not have the choice that is struck
  strike_above : (c : Sheet) → Supported c Rs → Under c s → Under c t
  strike_above c sup under =
      elsewhere_above strike.where_row s t strike.elsewhere c under
      (λ v on. without_stays (row s strike.where_row) strike.what (row t strike.where_row) v strike.taken (under.part strike.where_row v on) (λ e. never v on e))
    where
      never : (v : ℕ) → stands (row c strike.where_row) v ≡ true → v ≡ strike.what → ⊥
      never v on e =
          strike.unsupported
          (λ p h at. support_above c s (rule_at Rs strike.rule) under p strike.what
          (rule_supports Rs c strike.rule sup strike.listed strike.where_row strike.what (subst (λ x. stands (row c strike.where_row) x ≡ true) e on) p h at))

module _ (Rs : List Rule) (s : Sheet) where
  pub chain_under : (t : Sheet) → Chain Rs s t → Under t s
  chain_under t start = under_self s
  chain_under t (◌then◌ {t = u} chain strike) = under_trans t u s (strike_under Rs u t strike) (chain_under u chain)

  pub chain_rows : (t : Sheet) → Chain Rs s t → NoRowEmpty s → NoRowEmpty t
  chain_rows t start full = full
  chain_rows t (◌then◌ {t = u} chain strike) full = strike_rows Rs u t strike (chain_rows u chain full)

  pub chain_above : (t : Sheet) → Chain Rs s t → (c : Sheet) → Candidate Rs s c → Under c t
  chain_above t start c cand = cand.under
  chain_above t (◌then◌ {t = u} chain strike) c cand = strike_above Rs u t strike c cand.supported (chain_above u chain c cand)
