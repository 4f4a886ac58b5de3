-- A bank of tables keeps what every bank owes.
use Rattle.std.specs.Prelude.{◌≡◌, ℕ, ◌<◌, ◌≤◌, true, false, not, List, ◌∷◌, length, is_some, None}
use Rattle.std.proofs.Common.{ap, ◌∙◌}
use Rattle.std.proofs.ByRecursion.{All-map, All-weaker}
use Rattle.std.proofs.lemmas.List.{length-map}
use Rattle.std.proofs.lemmas.Bool.{not-false}
use Rattle.rows.specs.Refusals.{fits, first}
use Rattle.rows.proofs.Refusing.{first_none, fits_none}
use Rattle.banks.specs.Calls.{rule_at}
use Rattle.banks.specs.Lawful.{Lawful, may_hold, max_width}
use Rattle.banks.specs.Names.{may_name, max_arity}
use Rattle.banks.proofs.Faulting.{sound_bank, none_from_test}
use Rattle.tables.specs.Checks.{fault, fault_says, refusal, in_pool, byte_faults}
use Rattle.tables.specs.Tables.{places, bytes_of, meaning, rules_of}
use Rattle.tables.specs.declared.refusal.TableFault.TheVariants.{Rows, Lines}
use Rattle.tables.specs.declared.table.Table.{Table}

-- a table without a fault
pub record Fine (w : ℕ) (pool : List ℕ) (t : Table) : Type 0 where
  pub names : may_name w t.rows.now ≡ true
  pub inside : in_pool pool t ≡ true
  pub bytes : first (byte_faults t.start (bytes_of pool t)) ≡ None

pub fine_from : (w : ℕ) (pool : List ℕ) (t : Table) → fault w pool t ≡ None → Fine w pool t
fine_from w pool t e =
    let first' = fits (not (may_name w t.rows.now)) (fault_says Rows) in
    let second' = fits (not (in_pool pool t)) (fault_says Lines) in
    let third' = byte_faults t.start (bytes_of pool t) in
    let p = first_none first' (second' ∷ third') e in
    let q = first_none second' third' p.1 in
    record { names = not-false _ (fits_none _ _ p.0); inside = not-false _ (fits_none _ _ q.0); bytes = q.1 }

-- a bank has none with a fault, so it is lawful
module _ (w : ℕ) (ts : List Table) (pool : List ℕ) (sound : is_some (refusal w ts pool) ≡ false) where
  pub lawful_bank : Lawful w (rules_of pool ts)
  lawful_bank =
      let s = sound_bank (fault w pool) w ts (none_from_test (refusal w ts pool) sound) in
      record {
        size = ap (may_hold w) (length-map ts (meaning pool)) ∙ s.0;
        names = All-map (λ R. may_name w R.names ≡ true) (meaning pool) ts (All-weaker _ _ (λ t e. (fine_from w pool t e).names) ts s.1);
      }

-- the table of a rule's number: it means that rule, and has no fault
pub record TableOf (w : ℕ) (ts : List Table) (pool : List ℕ) (k : ℕ) (t : Table) : Type 0 where
  pub there : k < length (rules_of pool ts)
  pub means : rule_at (rules_of pool ts) k ≡ meaning pool t
  pub fine : Fine w pool t
  pub few : places t ≤ max_arity
  pub wide : w ≤ max_width
