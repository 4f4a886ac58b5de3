-- What settling a trail by a rule bank and a waiting list answers, and what it leaves.
use Rattle.std.specs.Prelude.{◌≡◌, ℕ, ◌+◌, List, [], ◌∷◌, ◌++◌, length, Ok, Err, Option, Result, nat_lt}
use Rattle.rows.specs.Choices.{stands}
use Rattle.rows.specs.Refusals.{Refusal, plain, fits, first, Answer}
use Rattle.banks.specs.Calls.{too_few_rows}
use Rattle.banks.specs.Rules.{Sheet, Rule, row}
use Rattle.waiting.specs.Waiting.{Numbers, Empty, Same}
use Rattle.trail.specs.Readings.{rows_of, memory_of, height_of}
use Rattle.trail.specs.Stacks.{contents}
use Rattle.trail.specs.Strokes.{standing, restored}
use Rattle.trail.specs.declared.trail.Trail.{Trail}
use Rattle.settling.specs.Settling.{Candidate, Largest, WipedOut, EachOnce}
use Rattle.settling.specs.declared.refusal.SettleError.{SettleError}
use Rattle.settling.specs.declared.refusal.SettleError.TheVariants.{TooFewRows, ShortList}
use Rattle.settling.specs.declared.outcome.Outcome.{Outcome}
use Rattle.settling.specs.declared.outcome.Outcome.TheVariants.{Settled, Wiped}

-- 24: there are fewer rows than the bank's width; 26: the list's capacity is below the number of rules.
abbrev pub settle_says : SettleError → Refusal
settle_says TooFewRows = plain 24
settle_says ShortList = plain 26

abbrev pub short_list : ℕ → List Rule → Option Refusal
short_list capacity Rs = fits (nat_lt capacity (length Rs)) (plain 26)

-- The first refusal that fits.
abbrev pub no_settle : ℕ → List Rule → ℕ → Sheet → Option Refusal
no_settle w Rs capacity s = first (too_few_rows w s ∷ short_list capacity Rs ∷ [])

-- The rows become the largest supported sheet under them, and n is the number of choices struck. The record is followed by each of them,
-- once; put back, they give the rows that were.
pub record Narrowed (Rs : List Rule) (n : ℕ) (s t : Sheet) (strokes strokes' : List ℕ) : Type 0 where
  pub rows : Largest Rs s t
  pub struck : List ℕ
  pub recorded : strokes' ≡ strokes ++ struck
  pub each : EachOnce s t struck
  pub undone : restored t struck ≡ s
  pub count : n + standing t ≡ standing s

-- What each outcome tells of the rows and the record before and after it: settled, with the number of choices struck; wiped out, with the
-- number of a rule, and rows and record as before.
abbrev pub Tells : List Rule → Outcome → Sheet → Sheet → List ℕ → List ℕ → Type 0
Tells Rs (Settled n) s t strokes strokes' = Narrowed Rs n s t strokes strokes'
Tells Rs (Wiped k) s t strokes strokes' = WipedOut Rs s k × (t ≡ s) × (strokes' ≡ strokes)

-- Settling, by the rows, the record's memory and top, and the numbers that wait, before and after it.
abbrev pub SettleAnswer : ℕ → List Rule → ℕ → Sheet → List ℕ → ℕ → Numbers → Sheet → List ℕ → ℕ → Numbers → Result Outcome SettleError → Type 0
SettleAnswer w Rs capacity s slots top waits s' slots' top' waits' =
    Answer settle_says (no_settle w Rs capacity s) ((s' ≡ s) × (slots' ≡ slots) × (top' ≡ top) × Same waits waits')
    (λ o. Empty waits' × (length slots' ≡ length slots) × Tells Rs o s s' (contents slots top) (contents slots' top'))

-- Settling a trail, before and after it.
abbrev pub TrailAnswer : ℕ → List Rule → ℕ → Trail → Numbers → Trail → Numbers → Result Outcome SettleError → Type 0
TrailAnswer w Rs capacity t waits t' waits' =
    SettleAnswer w Rs capacity (rows_of t) (memory_of t) (height_of t) waits (rows_of t') (memory_of t') (height_of t') waits'

-- Two outcomes of settling the same rows by the same rules are alike: both settled, with the same count and the same choices left, or
-- both wiped out.
abbrev pub EndAlike : Outcome → Outcome → Sheet → Sheet → Type 0
EndAlike (Settled n) (Settled m) t u = (n ≡ m) × ((r v : ℕ) → stands (row t r) v ≡ stands (row u r) v)
EndAlike (Settled n) (Wiped k) t u = ⊥
EndAlike (Wiped k) (Settled n) t u = ⊥
EndAlike (Wiped k) (Wiped j) t u = Unit

-- Whatever else can be told of settling the same rows by the same rules is alike: another end with other rows u, over any record.
abbrev pub Alike : List Rule → Sheet → Sheet → Outcome → Type 0
Alike Rs s t o = (o' : Outcome) (u : Sheet) (strokes strokes' : List ℕ) → Tells Rs o' s u strokes strokes' → EndAlike o o' t u

-- Rows under which some sheet is supported settle, and become the largest such sheet.
abbrev pub SettlesOn : List Rule → Sheet → Sheet → Outcome → Type 0
SettlesOn Rs s t o = (c : Sheet) → Candidate Rs s c → ((n : ℕ) × (o ≡ Settled n)) × Largest Rs s t

-- What holds of each outcome holds of every accepted settle.
abbrev pub Accepted : (Outcome → Type 0) → Result Outcome SettleError → Type 0
Accepted Holds (Ok o) = Holds o
Accepted Holds (Err e) = Unit
