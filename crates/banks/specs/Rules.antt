-- What rules mean: for any arity, and any number of choices.
use Rattle.std.specs.Prelude.{◌≡◌, ℕ, ◌<◌, Bool, true, List, map, length, slice_index, slice_index_or}
use Rattle.std.specs.List.{AllByRecursion}
use Rattle.rows.specs.Choices.{choices, stands}

-- A sheet: the masks of its rows, from row 0 on.
abbrev pub Sheet : Type 0
Sheet = List ℕ

-- The mask of a row. In a row that the sheet does not have no choice stands, as in the mask 0.
abbrev pub row : Sheet → ℕ → ℕ
row s r = slice_index s r

-- A tuple: one choice for each place of a rule.
abbrev pub Tuple : Type 0
Tuple = List ℕ

-- A rule: the rows that it names, in order, and the tuples that it permits. The positions of its rows, from 0, are its places.
pub record Rule : Type 0 where
  pub names : List ℕ
  pub permits : Tuple → Bool

-- How many rows a rule names.
abbrev pub arity : Rule → ℕ
arity R = length R.names

-- The row that a rule names at a place.
abbrev pub named : Rule → ℕ → ℕ
named R p = slice_index R.names p

-- A tuple is live on a sheet: the rule permits it, and each of its choices stands in the row of its place.
pub record Live (s : Sheet) (R : Rule) (t : Tuple) : Type 0 where
  pub whole : length t ≡ arity R
  pub permitted : R.permits t ≡ true
  pub standing : (p : ℕ) → p < arity R → stands (row s (named R p)) (slice_index t p) ≡ true

-- A choice has support at a place: some live tuple has it there.
pub record SupportAt (s : Sheet) (R : Rule) (p v : ℕ) : Type 0 where
  pub placed : p < arity R
  pub tuple : Tuple
  pub live : Live s R tuple
  pub there : slice_index_or tuple p 0 ≡ v

-- A choice of a row has support in a rule: it has support at each place where the rule names the row. A rule that does not name the row
-- has no such place.
abbrev pub SupportIn : Sheet → Rule → ℕ → ℕ → Type 0
SupportIn s R r v = (p : ℕ) → p < arity R → named R p ≡ r → SupportAt s R p v

-- One sheet lies under another of equally many rows: each of its rows is a subset of the same row there.
pub record Under (s t : Sheet) : Type 0 where
  pub same : length s ≡ length t
  pub part : (r v : ℕ) → stands (row s r) v ≡ true → stands (row t r) v ≡ true

-- No row of a sheet is empty.
abbrev pub NoRowEmpty : Sheet → Type 0
NoRowEmpty s = (r : ℕ) → r < length s → 0 < row s r

-- Every choice that stands in a row that the rule names has support in it.
abbrev pub SupportedBy : Sheet → Rule → Type 0
SupportedBy s R = (r v : ℕ) → stands (row s r) v ≡ true → SupportIn s R r v

-- A sheet is supported for a list of rules (arc-consistent): every choice that stands has support in every rule. Only a sheet with no
-- empty row counts.
pub record Supported (s : Sheet) (Rs : List Rule) : Type 0 where
  pub rows : NoRowEmpty s
  pub rules : AllByRecursion (SupportedBy s) Rs

-- A plan: one choice for each row.
abbrev pub Plan : Type 0
Plan = List ℕ

-- Each number of a plan is a choice.
abbrev pub OfChoices : Plan → Type 0
OfChoices plan = (r : ℕ) → r < length plan → slice_index plan r < choices

-- A plan stands on a sheet: all its choices do.
pub record PlanStands (s : Sheet) (plan : Plan) : Type 0 where
  pub whole : length plan ≡ length s
  pub each : (r : ℕ) → r < length s → stands (row s r) (slice_index plan r) ≡ true

-- A plan meets a rule: its choices at the rule's places form a permitted tuple.
abbrev pub Meets : Plan → Rule → Type 0
Meets plan R = R.permits (map (λ r. slice_index plan r) R.names) ≡ true
