-- A bank of differences keeps what every bank owes.
use Rattle.std.specs.Prelude.{◌≡◌, ℕ, true, false, not, List, [], ◌∷◌, map, is_some, None}
use Rattle.std.proofs.Common.{ap, ◌∙◌}
use Rattle.std.proofs.ByRecursion.{All-map, All-weaker}
use Rattle.std.proofs.lemmas.List.{length-map}
use Rattle.std.proofs.lemmas.Bool.{not-false}
use Rattle.rows.specs.Refusals.{fits}
use Rattle.rows.proofs.Refusing.{first_none, fits_none}
use Rattle.banks.specs.Calls.{rule_at}
use Rattle.banks.specs.Faults.{at_spot}
use Rattle.banks.specs.Lawful.{Lawful, may_hold}
use Rattle.banks.specs.Names.{may_name}
use Rattle.banks.proofs.Faulting.{sound_bank, none_from_test}
use Rattle.differences.specs.Checks.{fault, refusal, in_bounds}
use Rattle.differences.specs.Differences.{meaning}
use Rattle.differences.specs.declared.difference.Difference.{Difference}

-- a difference without a fault
pub record Fine (w : ℕ) (d : Difference) : Type 0 where
  pub names : may_name w (d.x ∷ d.y ∷ []) ≡ true
  pub bounds : in_bounds d ≡ true

pub fine_from : (w : ℕ) (d : Difference) → fault w d ≡ None → Fine w d
fine_from w d e =
    let first' = fits (not (may_name w (d.x ∷ d.y ∷ []))) (at_spot 12 0) in
    let second' = fits (not (in_bounds d)) (at_spot 13 0) in
    let p = first_none first' (second' ∷ []) e in
    let q = first_none second' [] p.1 in
    record { names = not-false _ (fits_none _ _ p.0); bounds = not-false _ (fits_none _ _ q.0) }

-- a difference that a bank of width w with the differences ds has by a number: it means the rule of that number, and has no fault
pub record Found (w : ℕ) (ds : List Difference) (k : ℕ) (d : Difference) : Type 0 where
  pub means : rule_at (map meaning ds) k ≡ meaning d
  pub fine : Fine w d

-- a bank has none with a fault, so it is lawful
module _ (w : ℕ) (ds : List Difference) (sound : is_some (refusal w ds) ≡ false) where
  pub lawful_bank : Lawful w (map meaning ds)
  lawful_bank =
      let s = sound_bank (fault w) w ds (none_from_test (refusal w ds) sound) in
      record {
        size = ap (may_hold w) (length-map ds meaning) ∙ s.0;
        names = All-map (λ R. may_name w R.names ≡ true) meaning ds (All-weaker _ _ (λ d e. (fine_from w d e).names) ds s.1);
      }
