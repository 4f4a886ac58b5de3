-- The tables of a bank.
use Rattle.std.proofs.Common.{◌≡◌, ℕ, ◌<◌, ◌≤◌, false, List, [], ◌∷◌, length, get_or, is_some, Some, None, Option, Bor, sym, subst, arith}
use Rattle.std.specs.List.{HoldsAt}
use Rattle.std.specs.Option.{MatchOption, option_copied, ok_or}
use Rattle.std.proofs.ByRecursion.{All-get_or}
use Rattle.std.proofs.lemmas.List.{length-map}
use Rattle.rows.specs.Refusals.{Answer, first}
use Rattle.banks.specs.Calls.{call_says, no_such_rule}
use Rattle.banks.specs.declared.refusal.CallError.TheVariants.{NoSuchRule}
use Rattle.banks.proofs.Calling.{rule_missing, rule_there, rule_found}
use Rattle.banks.proofs.Faulting.{sound_bank, none_from_test}
use Rattle.banks.proofs.Naming.{named_from, sized_from}
use Rattle.tables.specs.Checks.{fault, refusal}
use Rattle.tables.specs.Owed.{fine_from, lawful_bank, TableOf}
use Rattle.tables.specs.Tables.{meaning, rules_of}
use Rattle.tables.specs.declared.table.Table.{Table}

-- the element that is read past the end
abbrev pub no_table : Table
no_table = record { rows = record { ref_ptr = (0, 0); now = [] }; start = 0; lines = 0 }

-- the table of a rule's number
pub table_there : (w : ℕ) (ts : List Table) (pool : List ℕ) → is_some (refusal w ts pool) ≡ false → (k : ℕ) → k < length ts
    → TableOf w ts pool k (get_or ts k no_table)
table_there w ts pool sound k h =
    let s = sound_bank (fault w pool) w ts (none_from_test (refusal w ts pool) sound) in
    let fine = fine_from w pool (get_or ts k no_table) (All-get_or (λ x. fault w pool x ≡ None) ts k no_table h s.1) in
    record {
      there = omega (arith, length-map ts (meaning pool));
      means = rule_found (meaning pool) ts k no_table h;
      fine = fine;
      few = (named_from w (get_or ts k no_table).rows.now fine.names).few;
      wide = (sized_from w (rules_of pool ts) (lawful_bank w ts pool sound)).high;
    }

-- so a look-up of it answers as it should
pub table_looked_up : (w : ℕ) (ts : List Table) (pool : List ℕ) → is_some (refusal w ts pool) ≡ false → (k : ℕ) (o : Option (Bor Table))
    → MatchOption o (length ts ≤ k) (λ t. (k < length ts) × HoldsAt (λ x. t.now ≡ x) ts k)
    → Answer call_says (first (no_such_rule (rules_of pool ts) k ∷ [])) (Unit {0}) (TableOf w ts pool k) (ok_or (option_copied o) NoSuchRule)
table_looked_up w ts pool sound k None past = (rule_missing (meaning pool) ts k [] past, tt)
table_looked_up w ts pool sound k (Some t) here =
    (rule_there (meaning pool) ts k [] here.0, subst (TableOf w ts pool k) (sym (here.1 no_table)) (table_there w ts pool sound k here.0))
