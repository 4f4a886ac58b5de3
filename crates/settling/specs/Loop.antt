-- What the parts of settling answer: bringing a row to a mask, revising a rule, revising until no rule waits, and giving up.
use Rattle.std.specs.Prelude.{◌≡◌, ℕ, ◌^◌, ◌<◌, true, false, not, ◌&&◌, ◌||◌, ◌⊎◌, List, ◌++◌, length, Ok, Err, Result, ◌==◌, ◌≢◌, nat_lt}
use Rattle.rows.specs.Choices.{choices}
use Rattle.banks.specs.Calls.{rule_at}
use Rattle.banks.specs.Names.{among}
use Rattle.banks.specs.Rules.{Sheet, Tuple, Rule, row, arity, named, Live, SupportedBy}
use Rattle.waiting.specs.Waiting.{Numbers, Empty, Same}
use Rattle.trail.specs.Strokes.{standing, restored}
use Rattle.trail.specs.Trails.{Narrows, Undoes}
use Rattle.settling.specs.Propagation.{Tells, Alike, SettlesOn}
use Rattle.settling.specs.Settling.{Chain, EachOnce}
use Rattle.settling.specs.States.{State}
use Rattle.settling.specs.declared.outcome.Outcome.{Outcome}
use Rattle.settling.specs.declared.propagate.DeadRule.{DeadRule}

-- Exactly the numbers below n wait.
abbrev pub Filled : ℕ → Numbers → Type 0
Filled n waits = (k : ℕ) → waits k ≡ nat_lt k n

-- The rule number j is that of a rule other than k that names the row r.
abbrev pub other_names : List Rule → ℕ → ℕ → Numbers
other_names Rs k r j = among r (rule_at Rs j).names && not (j == k)

-- Those wait that did, and the rules but k that name the row r; no others.
abbrev pub Woken : List Rule → ℕ → ℕ → Numbers → Numbers → Type 0
Woken Rs k r waits waits' = (j : ℕ) → waits' j ≡ (waits j || other_names Rs k r j)

-- A row that is the wanted mask is left as it is, and so is all else.
pub record LeftAs (r wanted : ℕ) (x y : State) : Type 0 where
  pub is : row x.rows r ≡ wanted
  pub rows : y.rows ≡ x.rows
  pub recorded : y.strokes ≡ x.strokes
  pub waiting : Same x.waits y.waits

-- Another is narrowed to it, and the rules but k that name the row wait.
pub record NarrowedTo (Rs : List Rule) (k r wanted : ℕ) (x y : State) : Type 0 where
  pub differs : row x.rows r ≡ wanted → ⊥
  pub fits : row x.rows r < 2 ^ choices
  pub narrows : Narrows r wanted x.rows y.rows x.strokes y.strokes
  pub waiting : Woken Rs k r x.waits y.waits

-- A row is brought to a mask, while the rule k is revised.
abbrev pub Brought : List Rule → ℕ → ℕ → ℕ → State → State → Type 0
Brought Rs k r wanted x y = LeftAs r wanted x y ⊎ NarrowedTo Rs k r wanted x y

-- Strikes of choices without support lead from one sheet to another. The record is followed by each of them, once; put back, they give
-- the sheet that was.
pub record Strikes (Rs : List Rule) (s t : Sheet) (strokes strokes' : List ℕ) : Type 0 where
  pub chain : Chain Rs s t
  pub struck : List ℕ
  pub recorded : strokes' ≡ strokes ++ struck
  pub each : EachOnce s t struck
  pub undone : restored t struck ≡ s

-- The rows of a rule are the same on two sheets.
abbrev pub RowsStay : Rule → Sheet → Sheet → Type 0
RowsStay R s t = (p : ℕ) → p < arity R → row t (named R p) ≡ row s (named R p)

-- Strikes, after which those wait that did, and each rule but k of which a row has changed; no other number but a rule's. Where nothing
-- was struck, the same wait.
pub record Advance (Rs : List Rule) (k : ℕ) (x y : State) : Type 0 where
  pub strikes : Strikes Rs x.rows y.rows x.strokes y.strokes
  pub quiet : (j : ℕ) → (j ≢ k) → y.waits j ≡ false → (x.waits j ≡ false) × RowsStay (rule_at Rs j) x.rows y.rows
  pub listed : (j : ℕ) → y.waits j ≡ true → (x.waits j ≡ true) ⊎ (j < length Rs)
  pub fewer : (standing y.rows < standing x.rows) ⊎ Same x.waits y.waits

-- No tuple of a rule is live.
abbrev pub Dead : List Rule → ℕ → Sheet → Type 0
Dead Rs k s = (tuple : Tuple) → Live s (rule_at Rs k) tuple → ⊥

-- Revising a rule is accepted if it has a live tuple, and then the rule supports the sheet after it. Refused, it answers that rule, and
-- all is as it was.
abbrev pub ReviseAnswer : List Rule → ℕ → State → State → Result (Unit {0}) DeadRule → Type 0
ReviseAnswer Rs k x y (Ok _) = Advance Rs k x y × SupportedBy y.rows (rule_at Rs k)
ReviseAnswer Rs k x y (Err dead) = (dead.0 ≡ k) × Dead Rs k x.rows × (y ≡ x)

-- Revising until no rule waits comes to a sheet that every rule supports, or answers a rule that has no live tuple on the sheet that it
-- came to.
abbrev pub LoopAnswer : List Rule → State → State → Result (Unit {0}) DeadRule → Type 0
LoopAnswer Rs x y (Ok _) = Strikes Rs x.rows y.rows x.strokes y.strokes × Empty y.waits × ((k : ℕ) → k < length Rs → SupportedBy y.rows (rule_at Rs k))
LoopAnswer Rs x y (Err dead) = Strikes Rs x.rows y.rows x.strokes y.strokes × (dead.0 < length Rs) × Dead Rs dead.0 y.rows

-- Giving up puts back all strokes of the record from an index on, and leaves no number waiting.
pub record GivesUp (height : ℕ) (x y : State) : Type 0 where
  pub undone : Undoes height x.rows y.rows x.strokes y.strokes
  pub empty : Empty y.waits

-- Settling ends with an outcome, and leaves no number waiting.
pub record Ends (Rs : List Rule) (x y : State) (o : Outcome) : Type 0 where
  pub tells : Tells Rs o x.rows y.rows x.strokes y.strokes
  pub alike : Alike Rs x.rows y.rows o
  pub largest : SettlesOn Rs x.rows y.rows o
  pub empty : Empty y.waits
