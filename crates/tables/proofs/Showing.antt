-- The support of a table without a fault, by the masks of the rows that it names.
use Rattle.std.proofs.Common.{◌≡◌, ℕ, ◌<◌, ◌≤◌, List, ◌++◌, map, length, get_or, take, drop, ap₂, ◌∙◌, subst}
use Rattle.std.proofs.lemmas.List.{length-map}
use Rattle.banks.specs.Calls.{Shows}
use Rattle.banks.specs.Names.{max_arity}
use Rattle.banks.specs.Rules.{Sheet, row}
use Rattle.banks.proofs.Masking.{picked}
use Rattle.banks.proofs.Naming.{named_from}
use Rattle.tables.specs.Lines.{Found}
use Rattle.tables.specs.Owed.{Fine}
use Rattle.tables.specs.Tables.{places, bytes_of, lines_of, meaning}
use Rattle.tables.specs.declared.table.Table.{Table}
use Rattle.tables.proofs.Checking.{lines_all}
use Rattle.tables.proofs.Cutting.{all_lines}
use Rattle.tables.proofs.Supporting.{lines_show}

pub found_shows : (w : ℕ) (pool : List ℕ) (t : Table) → Fine w pool t → (s : Sheet) (masks bytes before found : List ℕ) → length masks ≡ max_arity
    → ((p : ℕ) → p < places t → p < max_arity → get_or masks p 0 ≡ row s (get_or t.rows.now p 0)) → bytes ≡ bytes_of pool t → places t ≤ length before
    → Found (all_lines (length (take (places t) masks)) bytes) (take (places t) masks) found
    → Shows s (meaning pool t) before (found ++ drop (places t) before)
found_shows w pool t fine s masks bytes before found long each e room f =
    let named = named_from w t.rows.now fine.names in
    lines_show s t.rows.now (lines_of pool t) before found room
    (subst (λ lines. Found lines (map (row s) t.rows.now) found) (ap₂ all_lines (length-map t.rows.now (row s)) e ∙ lines_all pool t named.some fine.inside)
    (subst (λ m. Found (all_lines (length m) bytes) m found) (picked t.rows.now s masks named.few long each) f))
