-- The state that a sheet in memory stands for, and what its calls answer.
use Rattle.std.specs.Prelude.{ℕ, Bool, cond, ◌&&◌, List, [], ◌∷◌, map, length, drop, Ok, Err, Result, ◌==◌, nat_le}
use Rattle.rows.specs.Refusals.{Refusal, plain}
use Rattle.banks.specs.Rules.{Sheet}
use Rattle.trail.specs.Strokes.{restored}
use Rattle.histories.specs.States.{Opened, State}
use Rattle.settling.specs.Propagation.{settle_says}
use Rattle.settling.specs.declared.outcome.Outcome.{Outcome as Ending}
use Rattle.settling.specs.declared.outcome.Outcome.TheVariants.{Settled, Wiped}
use Rattle.settling.specs.declared.refusal.SettleError.{SettleError}
use Rattle.histories.specs.Moves.{Outcome, refused, done, gave, settled, wiped}
use Rattle.sheet.specs.declared.mark.Mark.{Mark}
use Rattle.sheet.specs.declared.mark.OpenMark.{OpenMark}
use Rattle.sheet.specs.declared.refusal.SheetError.{SheetError}
use Rattle.sheet.specs.declared.refusal.SheetError.TheVariants.{NoSuchRow, NotStanding, LastChoice, MarksFull, NoMarkLeft, NotOpen}

-- The number of each refusal.
abbrev pub sheet_says : SheetError → Refusal
sheet_says NoSuchRow = plain 4
sheet_says NotStanding = plain 5
sheet_says LastChoice = plain 6
sheet_says MarksFull = plain 7
sheet_says NoMarkLeft = plain 8
sheet_says NotOpen = plain 9

-- An open mark by its entry in the mark memory: the rows at the time it was given are the present ones with every choice put back that the
-- record has from its height on.
abbrev pub opened_as : Sheet → List ℕ → OpenMark → Opened
opened_as s strokes m = record { serial = m.serial; rows = restored s (drop m.height strokes); height = m.height }

-- The state of a sheet, by its rows, its record, the entries of its open marks, how many marks were given and how many can be open.
abbrev pub state : Sheet → List ℕ → List OpenMark → ℕ → ℕ → State
state s strokes ms given room = record { rows = s; opened = map (opened_as s strokes) ms; given = given; room = room; strokes = strokes }

-- The heights of a list of open marks never fall, from one number up to another.
abbrev pub heights_rise : ℕ → List OpenMark → ℕ → Bool
heights_rise low [] high = nat_le low high
heights_rise low (m ∷ ms) high = nat_le low m.height && heights_rise m.height ms high

-- What a call that gives nothing but its refusal answers, and what a mark answers.
abbrev pub done_or : Result (Unit {0}) SheetError → Outcome
done_or (Ok u) = done
done_or (Err e) = refused (sheet_says e)

abbrev pub gave_or : Result Mark SheetError → Outcome
gave_or (Ok m) = gave m.serial
gave_or (Err e) = refused (sheet_says e)

-- What a settle answers.
abbrev pub settled_or : Result Ending SettleError → Outcome
settled_or (Ok (Settled n)) = settled n
settled_or (Ok (Wiped k)) = wiped k
settled_or (Err e) = refused (settle_says e)

-- The state of a sheet just made of these rows, with mark memory for so many open marks. A sheet of no rows has none.
abbrev pub new_state : Sheet → ℕ → State
new_state s entries = state s [] [] 0 (cond (length s == 0) 0 entries)
