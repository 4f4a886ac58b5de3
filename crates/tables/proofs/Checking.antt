-- The bytes of a table: what the loop over them comes to, and what they are in a table without a fault.
use Rattle.std.proofs.Common.{◌≡◌, ℕ, zero, suc, ◌+◌, ◌*◌, ◌/◌, ◌<◌, ◌≤◌, Bool, true, false, not, leb, List, [], ◌∷◌, length, get_or, drop, position, Some, None, sym, refl, ap, ◌∙◌, ⊎_elim, add-zero, mul-div_cancel, arith}
use Rattle.std.proofs.lemmas.List.{length-take-le, length-drop}
use Rattle.std.proofs.lemmas.List.Elements.{All-nil, All-cons, All-head, All-tail}
use Rattle.std.proofs.lemmas.List.Quantifiers.{position-Some}
use Rattle.std.proofs.lemmas.List.Sums.{fails_before_first}
use Rattle.std.specs.List.{position_or_len}
use Rattle.std.proofs.lemmas.Option.{none-some}
use Rattle.std.proofs.lemmas.Bool.{and_parts, leb-true, not-false, not-true, cases_lt, lt-ltb, cond-true, cond-false}
use Rattle.rows.specs.Refusals.{Refusal, fits, first}
use Rattle.rows.proofs.Refusing.{first_past, first_here, first_none, fits_none}
use Rattle.tables.specs.Checks.{fault_says, in_pool, table_byte, TableBytes, byte_faults, max_lines}
use Rattle.tables.specs.Tables.{places, size, bytes_of, lines_of, cut}
use Rattle.tables.specs.declared.refusal.TableFault.TheVariants.{Byte}
use Rattle.tables.specs.declared.table.Table.{Table}
use Rattle.tables.proofs.Cutting.{all_lines}

fits_not : (b : Bool) (f : Refusal) → b ≡ true → fits (not b) f ≡ None
fits_not b f e = cond-false (not b) (Some f) None (ap not e)

-- the first byte that no table may have decides
pub faulty_at : (i : ℕ) (bs : List ℕ) (k : ℕ) → k < length bs → table_byte (get_or bs k 0) ≡ false → ((j : ℕ) → j < k → table_byte (get_or bs j 0) ≡ true)
    → first (byte_faults i bs) ≡ Some (fault_says (Byte (i + k)))
faulty_at i [] k h e fine = absurd (omega arith)
faulty_at i (b ∷ bs) zero h e fine =
    first_here (fits (not (table_byte b)) (fault_says (Byte i))) (byte_faults (suc i) bs) (fault_says (Byte i)) (cond-true (not (table_byte b)) (Some (fault_says (Byte i))) None (ap not e))
    ∙ ap (λ n. Some (fault_says (Byte n))) (sym (add-zero i))
faulty_at i (b ∷ bs) (suc k) h e fine =
    first_past (fits (not (table_byte b)) (fault_says (Byte i))) (byte_faults (suc i) bs) (fits_not (table_byte b) (fault_says (Byte i)) (fine 0 (omega arith)))
    ∙ faulty_at (suc i) bs k (omega arith) e (λ j l. fine (suc j) (omega arith)) ∙ ap (λ n. Some (fault_says (Byte n))) (omega arith)

pub no_faulty : (i : ℕ) (bs : List ℕ) → TableBytes bs → first (byte_faults i bs) ≡ None
no_faulty i [] fine = refl
no_faulty i (b ∷ bs) fine =
    first_past (fits (not (table_byte b)) (fault_says (Byte i))) (byte_faults (suc i) bs) (fits_not (table_byte b) (fault_says (Byte i)) (All-head (λ x. table_byte x ≡ true) b bs fine))
    ∙ no_faulty (suc i) bs (All-tail (λ x. table_byte x ≡ true) b bs fine)

-- so the place of the first byte that no table may have says which it is
abbrev pub bad : ℕ → Bool
bad b = not (table_byte b)

pub bad_found : (i : ℕ) (bs : List ℕ) (k : ℕ) → position bad bs ≡ Some k → first (byte_faults i bs) ≡ Some (fault_says (Byte (i + k)))
bad_found i bs k e =
    let at = position-Some bad bs k 0 e in
    faulty_at i bs k at.0 (not-true (table_byte (get_or bs k 0)) at.1) (λ j h. not-false (table_byte (get_or bs j 0)) (at.2 j h))

pub none_bad : (i : ℕ) (bs : List ℕ) → position bad bs ≡ None → first (byte_faults i bs) ≡ None
none_bad i bs e = no_faulty i bs (λ k d h. not-false (table_byte (get_or bs k d)) (fails_before_first bad bs k d (omega (arith, whole))))
  where
    whole : length bs ≤ position_or_len bad bs
    whole = ⊎_elim (λ l. absurd (none-some (position_or_len bad bs) (sym e ∙ cond-true _ _ None (lt-ltb _ _ l)))) (λ l. l) (cases_lt (position_or_len bad bs) (length bs))

pub bytes_fine : (i : ℕ) (bs : List ℕ) → first (byte_faults i bs) ≡ None → TableBytes bs
bytes_fine i [] e = All-nil (λ x. table_byte x ≡ true)
bytes_fine i (b ∷ bs) e =
    let p = first_none (fits (not (table_byte b)) (fault_says (Byte i))) (byte_faults (suc i) bs) e in
    All-cons (λ x. table_byte x ≡ true) b bs (not-false (table_byte b) (fits_none (not (table_byte b)) (fault_says (Byte i)) p.0)) (bytes_fine (suc i) bs p.1)

-- the bytes of a table lie in the pool
pub inside_pool : (pool : List ℕ) (t : Table) → in_pool pool t ≡ true → t.start + size t ≤ length pool
inside_pool pool t e = leb-true (t.start + size t) (length pool) (and_parts (leb t.lines max_lines) (leb (t.start + size t) (length pool)) e).1

-- so cutting all of them into lines gives the lines of the table
pub lines_all : (pool : List ℕ) (t : Table) → 0 < places t → in_pool pool t ≡ true → all_lines (places t) (bytes_of pool t) ≡ lines_of pool t
lines_all pool t pos e =
    ap (λ n. cut (places t) (n / places t) (bytes_of pool t)) long ∙ ap (λ n. cut (places t) n (bytes_of pool t)) (mul-div_cancel t.lines pos)
  where
    long : length (bytes_of pool t) ≡ t.lines * places t
    long = length-take-le (size t) (drop t.start pool) (omega (arith, inside_pool pool t e, length-drop t.start pool))
