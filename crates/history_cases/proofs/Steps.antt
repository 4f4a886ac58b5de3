-- The calls of a sheet as functions that can be computed, and tests under which they move the sheet as they should.
use Rattle.std.proofs.Common.{◌≡◌, ℕ, suc, ◌+◌, ◌^◌, ◌<◌, Bool, true, cond, not, ◌&&◌, eqb, ltb, leb, List, [], ◌∷◌, ◌++◌, map, length, get_or, take, drop, set, Some, None, filter, Option, sym, refl, ap, ◌∙◌, subst}
use lib.Bits.{bit_xor}
use Rattle.std.specs.List.{AllByRecursion}
use Rattle.std.proofs.lemmas.List.{get_or-set_same, take-append-drop, drop_more}
use Rattle.std.proofs.lemmas.Bool.{and_parts, cond-true, cond-false, cond_both, eqb-true, leb-true, ltb-true, lt-ltb}
use Rattle.rows.specs.Choices.{choices, stands, members, Only, Without}
use Rattle.rows.specs.Refusals.{Refusal}
use Rattle.rows.proofs.Masks.{and_true, stands_bit, taken_out}
use Rattle.banks.specs.Calls.{rule_at}
use Rattle.banks.specs.Lawful.{may_hold}
use Rattle.banks.specs.Names.{may_name}
use Rattle.banks.specs.Rules.{Sheet, Rule, row}
use Rattle.trail.specs.Strokes.{stroke, standing, restored}
use Rattle.settling.specs.Propagation.{Narrowed}
use Rattle.settling.specs.Settling.{WipedOut}
use Rattle.settling.specs.Settling.Chain.{start}
use Rattle.settling.proofs.Ending.{wiped_out}
use Rattle.histories.specs.Moves.{Call, strike, hold, mark, back, keep, settle, refused, done, gave, settled, wiped, why, SameMarks, Closes, Moves, refuses, accepts, strikes, holds, gives_mark, goes_back, keeps_rows, settles, wipes_out}
use Rattle.histories.specs.States.{Opened, State}
use Rattle.history_cases.specs.Runs.{Step, step, Run}
use Rattle.history_cases.proofs.Struck.{struck_between, each_once, each_once_holds}
use Rattle.history_cases.proofs.Sweeps.{set_elsewhere, sweeps, supported, largest}
use Rattle.cases.proofs.Tuples.{Small}
use Rattle.cases.proofs.Tested.{small, small_rows, same, same_lists}
use Rattle.history_cases.proofs.Small.{none_live, dead}

-- other rows, and more on the record
abbrev changed : State → Sheet → List ℕ → State
changed s rows more = record { rows = rows; opened = s.opened; given = s.given; room = s.room; strokes = s.strokes ++ more }

same_marks : (s : State) (rows : Sheet) (more : List ℕ) → SameMarks s (changed s rows more)
same_marks s rows more = record { opened = refl; given = refl; room = refl }

-- the open marks: where the one of a serial is, and it
abbrev place : ℕ → List Opened → ℕ
place k [] = 0
place k (m ∷ ms) = cond (eqb k m.serial) 0 (suc (place k ms))

abbrev none : Opened
none = record { serial = 0; rows = []; height = 0 }

abbrev found : ℕ → State → Opened
found k s = get_or s.opened (place k s.opened) none

-- it and the later ones are closed
abbrev closed : ℕ → State → Sheet → List ℕ → State
closed k s rows strokes = record { rows = rows; opened = take (place k s.opened) s.opened; given = s.given; room = s.room; strokes = strokes }

abbrev is_found : ℕ → State → Bool
is_found k s = ltb (place k s.opened) (length s.opened) && eqb (found k s).serial k

closes : (k : ℕ) (s : State) (rows : Sheet) (strokes : List ℕ) → is_found k s ≡ true → Closes k (found k s) s (closed k s rows strokes)
closes k s rows strokes e =
    let i = place k s.opened in
    let p = and_parts (ltb i (length s.opened)) (eqb (found k s).serial k) e in
    record {
      later = drop (i + 1) s.opened;
      serial = eqb-true (found k s).serial k p.1;
      opened = sym (take-append-drop i s.opened) ∙ ap (λ ms. take i s.opened ++ ms) (drop_more s.opened i none (ltb-true i (length s.opened) p.0));
      given = refl;
      room = refl;
    }

-- the number of the first rule that has no live tuple, or how many rules there are
abbrev first_dead : Sheet → List Rule → ℕ
first_dead s [] = 0
first_dead s (R ∷ Rs) = cond (none_live s R) 0 (suc (first_dead s Rs))

abbrev some_dead : Sheet → List Rule → Bool
some_dead s Rs = ltb (first_dead s Rs) (length Rs)

-- a sheet is swept as often as there are rules; that this is enough is tested
abbrev swept : List Rule → Sheet → Sheet
swept Rs s = sweeps (length Rs) Rs s

abbrev struck : List Rule → Sheet → List ℕ
struck Rs s = struck_between s (swept Rs s)

abbrev settle_step : ℕ → List Rule → ℕ → State → Step
settle_step w Rs n s =
    cond (some_dead s.rows Rs) (step (settle w Rs n) (wiped (first_dead s.rows Rs)) s)
    (step (settle w Rs n) (settled (length (struck Rs s.rows))) (changed s (swept Rs s.rows) (struck Rs s.rows)))

-- what an accepted call answers, and the state that it leaves
abbrev accepted : Call → State → Step
accepted (strike r v) s = step (strike r v) done (changed s (set s.rows r (bit_xor (row s.rows r) (2 ^ v))) (stroke r v ∷ []))
accepted (hold r v) s = step (hold r v) done (changed s (set s.rows r (2 ^ v)) (map (stroke r) (filter (λ w. not (eqb w v)) (members (row s.rows r)))))
accepted mark s =
    step mark (gave s.given) (record {
      rows = s.rows;
      opened = s.opened ++ record { serial = s.given; rows = s.rows; height = length s.strokes } ∷ [];
      given = suc s.given;
      room = s.room;
      strokes = s.strokes;
    })
accepted (back k) s = step (back k) done (closed k s (found k s).rows (take (found k s).height s.strokes))
accepted (keep k) s = step (keep k) done (closed k s s.rows s.strokes)
accepted (settle w Rs n) s = settle_step w Rs n s

-- which is so where this test passes
abbrev all_may_name : ℕ → List Rule → Bool
all_may_name w [] = true
all_may_name w (R ∷ Rs) = may_name w R.names && all_may_name w Rs

abbrev fine_wiped : ℕ → List Rule → Sheet → Bool
fine_wiped w Rs s = may_hold w (length Rs) && all_may_name w Rs && leb w (length s) && none_live s (rule_at Rs (first_dead s Rs))

abbrev fine_settled : List Rule → Sheet → Bool
fine_settled Rs s =
    supported (swept Rs s) Rs && each_once s (swept Rs s) (struck Rs s) && same (restored (swept Rs s) (struck Rs s)) s
    && eqb (length (struck Rs s) + standing (swept Rs s)) (standing s)

abbrev fine : Call → State → Bool
fine (strike r v) s = ltb r (length s.rows) && stands (row s.rows r) v
fine (hold r v) s = ltb r (length s.rows) && ltb v choices
fine mark s = true
fine (back k) s = is_found k s
fine (keep k) s = is_found k s
fine (settle w Rs n) s = small s.rows && cond (some_dead s.rows Rs) (fine_wiped w Rs s.rows) (fine_settled Rs s.rows)

all_named : (w : ℕ) (Rs : List Rule) → all_may_name w Rs ≡ true → AllByRecursion (λ R. may_name w R.names ≡ true) Rs
all_named w [] e = tt
all_named w (R ∷ Rs) e = let p = and_parts (may_name w R.names) (all_may_name w Rs) e in (p.0, all_named w Rs p.1)

wipes : (w : ℕ) (Rs : List Rule) (s : Sheet) → Small s → some_dead s Rs ≡ true → fine_wiped w Rs s ≡ true → WipedOut Rs s (first_dead s Rs)
wipes w Rs s low some e =
    let k = first_dead s Rs in
    let p = and_parts (may_hold w (length Rs) && all_may_name w Rs && leb w (length s)) (none_live s (rule_at Rs k)) e in
    let q = and_parts (may_hold w (length Rs) && all_may_name w Rs) (leb w (length s)) p.0 in
    let l = and_parts (may_hold w (length Rs)) (all_may_name w Rs) q.0 in
    wiped_out w Rs s s k (record { size = l.0; names = all_named w Rs l.1 }) (leb-true w (length s) q.1) (ltb-true k (length Rs) some) start
    (dead s (rule_at Rs k) low p.1)

narrows : (Rs : List Rule) (s : Sheet) (strokes : List ℕ) → Small s → fine_settled Rs s ≡ true
    → Narrowed Rs (length (struck Rs s)) s (swept Rs s) strokes (strokes ++ struck Rs s)
narrows Rs s strokes low e =
    let t = swept Rs s in
    let es = struck Rs s in
    let p = and_parts (supported t Rs && each_once s t es && same (restored t es) s) (eqb (length es + standing t) (standing s)) e in
    let q = and_parts (supported t Rs && each_once s t es) (same (restored t es) s) p.0 in
    let l = and_parts (supported t Rs) (each_once s t es) q.0 in
    record {
      rows = largest (length Rs) Rs s low l.0;
      struck = es;
      recorded = refl;
      each = each_once_holds s t es l.1;
      undone = same_lists (restored t es) s q.1;
      count = eqb-true (length es + standing t) (standing s) p.1;
    }

-- a step moves the sheet
abbrev Moved : State → Step → Type 0
Moved s x = Moves x.call x.answer s x.after

only : (v : ℕ) → v < choices → Only v (2 ^ v)
only v h w = stands_bit v w ∙ and_true (eqb w v) ∙ ap (λ b. eqb w v && b) (sym (lt-ltb v choices h))

-- the row that is replaced, where the sheet has it
here : (s : Sheet) (r m : ℕ) → ltb r (length s) ≡ true → m ≡ row (set s r m) r
here s r m e = sym (get_or-set_same s r m 0 (ltb-true r (length s) e))

accepted_moves : (call : Call) (s : State) → why call s ≡ None → fine call s ≡ true → Moved s (accepted call s)
accepted_moves (strike r v) s w e =
    let m = row s.rows r in
    let p = and_parts (ltb r (length s.rows)) (stands m v) e in
    accepts w (strikes (record {
      here = subst (Without v m) (here s.rows r (bit_xor m (2 ^ v)) p.0) (taken_out m v p.1);
      elsewhere = set_elsewhere s.rows r (bit_xor m (2 ^ v));
      strokes = refl;
      marks = same_marks s _ _;
    }))
accepted_moves (hold r v) s w e =
    let p = and_parts (ltb r (length s.rows)) (ltb v choices) e in
    accepts w (holds (record {
      here = subst (Only v) (here s.rows r (2 ^ v) p.0) (only v (ltb-true v choices p.1));
      elsewhere = set_elsewhere s.rows r (2 ^ v);
      strokes = refl;
      marks = same_marks s _ _;
    }))
accepted_moves mark s w e = accepts w (gives_mark (record { serial = refl; rows = refl; opened = refl; given = refl; room = refl; strokes = refl }))
accepted_moves (back k) s w e =
    accepts w (goes_back (record { to = found k s; closes = closes k s (found k s).rows (take (found k s).height s.strokes) e; rows = refl; strokes = refl }))
accepted_moves (keep k) s w e = accepts w (keeps_rows (record { to = found k s; closes = closes k s s.rows s.strokes e; rows = refl; strokes = refl }))
accepted_moves (settle w Rs n) s fits e =
    let p = and_parts (small s.rows) (cond (some_dead s.rows Rs) (fine_wiped w Rs s.rows) (fine_settled Rs s.rows)) e in
    let low = small_rows s.rows p.0 in
    cond_both (some_dead s.rows Rs) _ _ (Moved s)
    (λ some. accepts fits (wipes_out (wipes w Rs s.rows low some (sym (cond-true (some_dead s.rows Rs) _ _ some) ∙ p.1)) refl))
    (λ no. accepts fits (settles (record {
      narrowed = narrows Rs s.rows s.strokes low (sym (cond-false (some_dead s.rows Rs) _ _ no) ∙ p.1);
      marks = same_marks s _ _;
    })))

abbrev answered : Option Refusal → Call → State → Step
answered None call s = accepted call s
answered (Some f) call s = step call (refused f) s

abbrev fine_if : Option Refusal → Call → State → Bool
fine_if None call s = fine call s
fine_if (Some f) call s = true

abbrev next : Call → State → Step
next call s = answered (why call s) call s

answered_moves : (o : Option Refusal) (call : Call) (s : State) → why call s ≡ o → fine_if o call s ≡ true → Moved s (answered o call s)
answered_moves None call s w e = accepted_moves call s w e
answered_moves (Some f) call s w e = refuses w refl

-- calls one after another
abbrev pub followed : State → List Call → List Step
followed s [] = []
followed s (call ∷ calls) = next call s ∷ followed (next call s).after calls

abbrev pub all_fine : State → List Call → Bool
all_fine s [] = true
all_fine s (call ∷ calls) = fine_if (why call s) call s && all_fine (next call s).after calls

pub followed_runs : (s : State) (calls : List Call) → all_fine s calls ≡ true → Run s (followed s calls)
followed_runs s [] e = tt
followed_runs s (call ∷ calls) e =
    let p = and_parts (fine_if (why call s) call s) (all_fine (next call s).after calls) e in
    (answered_moves (why call s) call s refl p.0, followed_runs (next call s).after calls p.1)
