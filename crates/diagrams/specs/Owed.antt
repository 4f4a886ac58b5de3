-- A bank of diagrams keeps what every bank owes.
use Rattle.std.specs.Prelude.{◌≡◌, ℕ, ◌<◌, ◌≤◌, true, false, not, List, ◌∷◌, map, length, is_some, None, Ok, Err, Result, slice_index}
use Rattle.std.proofs.Common.{ap, ◌∙◌}
use Rattle.std.proofs.ByRecursion.{All-map, All-weaker}
use Rattle.std.proofs.lemmas.List.{length-map}
use Rattle.std.proofs.lemmas.Bool.{not-false}
use Rattle.rows.specs.Refusals.{fits, first}
use Rattle.rows.proofs.Refusing.{first_none, fits_none}
use Rattle.banks.specs.Calls.{rule_at}
use Rattle.banks.specs.Faults.{at_spot}
use Rattle.banks.specs.Lawful.{Lawful, may_hold}
use Rattle.banks.specs.Names.{may_name, max_arity}
use Rattle.banks.specs.Rules.{arity, named}
use Rattle.banks.specs.declared.refusal.CallError.{CallError}
use Rattle.banks.specs.declared.refusal.CallError.TheVariants.{NoSuchRule}
use Rattle.banks.proofs.Faulting.{sound_bank, none_from_test}
use Rattle.diagrams.specs.Checks.{fault, refusal, counts_fit, layer_reasons}
use Rattle.diagrams.specs.Diagrams.{part, meaning}
use Rattle.diagrams.specs.declared.diagram.Arc.{Arc}
use Rattle.diagrams.specs.declared.diagram.Diagram.{Diagram}

-- a diagram without a fault
pub record Fine (w : ℕ) (places : List ℕ) (pool : List Arc) (d : Diagram) : Type 0 where
  pub names : may_name w d.rows.now ≡ true
  pub counts : counts_fit (length places) (length pool) d ≡ true
  pub layers : first (layer_reasons (length d.rows.now) d.nodes.start (part places d.nodes) d.arcs.start (part pool d.arcs)) ≡ None

pub fine_from : (w : ℕ) (places : List ℕ) (pool : List Arc) (d : Diagram) → fault w places pool d ≡ None → Fine w places pool d
fine_from w places pool d e =
    let rest = layer_reasons (length d.rows.now) d.nodes.start (part places d.nodes) d.arcs.start (part pool d.arcs) in
    let second' = fits (not (counts_fit (length places) (length pool) d)) (at_spot 16 0) in
    let p = first_none (fits (not (may_name w d.rows.now)) (at_spot 12 0)) (second' ∷ rest) e in
    let q = first_none second' rest p.1 in
    record { names = not-false _ (fits_none _ _ p.0); counts = not-false _ (fits_none _ _ q.0); layers = q.1 }

-- a bank has none with a fault, so it is lawful
module _ (w : ℕ) (places : List ℕ) (pool : List Arc) (ds : List Diagram) (sound : is_some (refusal w places pool ds) ≡ false) where
  pub lawful_bank : Lawful w (map (meaning pool) ds)
  lawful_bank =
      let s = sound_bank (fault w places pool) w ds (none_from_test (refusal w places pool ds) sound) in
      record {
        size = ap (may_hold w) (length-map ds (meaning pool)) ∙ s.0;
        names = All-map (λ R. may_name w R.names ≡ true) (meaning pool) ds (All-weaker _ _ (λ d e. (fine_from w places pool d e).names) ds s.1);
      }

-- The diagram d is the rule r of a bank.
pub record IsRule (w : ℕ) (places : List ℕ) (pool : List Arc) (ds : List Diagram) (r : ℕ) (d : Diagram) : Type 0 where
  pub there : r < length (map (meaning pool) ds)
  pub means : rule_at (map (meaning pool) ds) r ≡ meaning pool d
  pub many : arity (rule_at (map (meaning pool) ds) r) ≡ length d.rows.now
  pub row : (p : ℕ) → named (rule_at (map (meaning pool) ds) r) p ≡ slice_index d.rows.now p
  pub few : length d.rows.now ≤ max_arity
  pub fine : Fine w places pool d

-- The diagram of a rule number, or that the bank has no such rule.
abbrev pub Found : ℕ → List ℕ → List Arc → List Diagram → ℕ → Result Diagram CallError → Type 0
Found w places pool ds r (Ok d) = IsRule w places pool ds r d
Found w places pool ds r (Err e) = (e ≡ NoSuchRule) × (length (map (meaning pool) ds) ≤ r)
