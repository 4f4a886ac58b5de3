-- Worked cases of calls on a sheet, as one table. Each says what the moves that the calls' contracts use hold of.
use Rattle.std.specs.Prelude.{ℕ, List, [], ◌∷◌, ◌++◌, length, ℤ, pos}
use Rattle.std.specs.List.{AllByRecursion}
use Rattle.banks.specs.Rules.{Sheet, Rule}
use Rattle.cases.specs.Cases.{set}
use Rattle.differences.specs.Differences.{meaning}
use Rattle.differences.specs.declared.difference.Relation.{Relation}
use Rattle.differences.specs.declared.difference.Relation.TheVariants.{Unequal, AtMost}
use Rattle.histories.specs.Moves.{Call, strike, mark, back, keep, settle, Outcome, refused, done, gave, settled, wiped, Moves}
use Rattle.histories.specs.States.{Opened, State}
use Rattle.rows.specs.Refusals.{plain}

-- The difference of a relation and an offset between two rows.
abbrev pub between : Relation → ℤ → ℕ → ℕ → Rule
between relation c x y = meaning (record { x = x; y = y; offset = c; relation = relation })

-- A state with room for two marks: its rows, the open marks, how many marks were given, and the record.
abbrev pub state : Sheet → List Opened → ℕ → List ℕ → State
state rows opened given strokes = record { rows = rows; opened = opened; given = given; room = 2; strokes = strokes }

-- A call, what it answers, and the state after it.
pub record Step : Type 0 where
  pub call : Call
  pub answer : Outcome
  pub after : State

abbrev pub step : Call → Outcome → State → Step
step call answer after = record { call = call; answer = answer; after = after }

-- Steps run from a state: each moves the sheet from the state that the one before it left.
abbrev pub Run : State → List Step → Type 0
Run s [] = Unit {0}
Run s (x ∷ rest) = Moves x.call x.answer s x.after × Run x.after rest

-- A worked case: what calls answer from a state on, one after another, and the state that each leaves.
pub record Case : Type 0 where
  pub from : State
  pub steps : List Step

abbrev pub runs : State → List Step → Case
runs from steps = record { from = from; steps = steps }

-- A case holds: the calls answer so and leave these states.
abbrev pub Holds : Case → Type 0
Holds c = Run c.from c.steps

-- A sheet of the one row {1,2,3}, and the two marks that are given on it: the second after 1 is struck.
abbrev pub untouched : Sheet
untouched = set (1 ∷ 2 ∷ 3 ∷ []) ∷ []

abbrev pub first_mark : Opened
first_mark = record { serial = 0; rows = untouched; height = 0 }

abbrev pub second_mark : Opened
second_mark = record { serial = 1; rows = set (2 ∷ 3 ∷ []) ∷ []; height = 1 }

-- From this sheet on: a mark, 1 is struck, another mark, 2 is struck.
abbrev pub two_marks : List Step
two_marks =
    step mark (gave 0) (state untouched (first_mark ∷ []) 1 [])
    ∷ step (strike 0 1) done (state (set (2 ∷ 3 ∷ []) ∷ []) (first_mark ∷ []) 1 (1 ∷ []))
    ∷ step mark (gave 1) (state (set (2 ∷ 3 ∷ []) ∷ []) (first_mark ∷ second_mark ∷ []) 2 (1 ∷ []))
    ∷ step (strike 0 2) done (state (set (3 ∷ []) ∷ []) (first_mark ∷ second_mark ∷ []) 2 (1 ∷ 2 ∷ []))
    ∷ []

-- Settling a sheet on which no mark was given and nothing struck, by rules of its width and a waiting list with room for just them: what
-- it answers, the rows that it leaves, and the record, as row × 64 + choice.
abbrev pub settling : Sheet → List Rule → Outcome → Sheet → List ℕ → Case
settling s Rs answer t strokes = runs (state s [] 0 []) (step (settle (length s) Rs (length Rs)) answer (state t [] 0 strokes) ∷ [])

abbrev pub table : List Case
table =
    -- two marks on {1,2,3}, then back by the first: row and record are as they were, two marks were given and none is open, so that back
    -- by the second is refused and leaves all as it was
    runs (state untouched [] 0 [])
    (two_marks ++ step (back 0) done (state untouched [] 2 []) ∷ step (back 1) (refused (plain 9)) (state untouched [] 2 []) ∷ [])
    -- the same two marks, then keep by the second: the row stays {3} and the first is still open; back by it gives {1,2,3} again
    ∷ runs (state untouched [] 0 [])
    (two_marks ++ step (keep 1) done (state (set (3 ∷ []) ∷ []) (first_mark ∷ []) 2 (1 ∷ 2 ∷ [])) ∷ step (back 0) done (state untouched [] 2 []) ∷ [])
    -- y ≠ x on {9} and {9}: wiped out by the one rule, and the sheet is left as it was
    ∷ settling (set (9 ∷ []) ∷ set (9 ∷ []) ∷ []) (between Unequal (pos 0) 0 1 ∷ []) (wiped 0) (set (9 ∷ []) ∷ set (9 ∷ []) ∷ []) []
    -- each two of three rows {8,9} differ: no plan does that, but every choice has support in each rule, so nothing is struck
    ∷ settling (set (8 ∷ 9 ∷ []) ∷ set (8 ∷ 9 ∷ []) ∷ set (8 ∷ 9 ∷ []) ∷ [])
    (between Unequal (pos 0) 0 1 ∷ between Unequal (pos 0) 0 2 ∷ between Unequal (pos 0) 1 2 ∷ []) (settled 0)
    (set (8 ∷ 9 ∷ []) ∷ set (8 ∷ 9 ∷ []) ∷ set (8 ∷ 9 ∷ []) ∷ []) []
    -- x + 1 ≤ y and y + 1 ≤ z on three rows {0,1,2,3}: six choices are struck, and {0,1}, {1,2} and {2,3} are left
    ∷ settling (set (0 ∷ 1 ∷ 2 ∷ 3 ∷ []) ∷ set (0 ∷ 1 ∷ 2 ∷ 3 ∷ []) ∷ set (0 ∷ 1 ∷ 2 ∷ 3 ∷ []) ∷ [])
    (between AtMost (pos 1) 0 1 ∷ between AtMost (pos 1) 1 2 ∷ []) (settled 6) (set (0 ∷ 1 ∷ []) ∷ set (1 ∷ 2 ∷ []) ∷ set (2 ∷ 3 ∷ []) ∷ [])
    (2 ∷ 3 ∷ 64 ∷ 67 ∷ 128 ∷ 129 ∷ [])
    ∷ []

-- Every case of the table holds.
abbrev pub CasesHold : Type 0
CasesHold = AllByRecursion Holds table
