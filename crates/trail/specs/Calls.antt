-- What the calls on a trail do, by the trail before and after them.
use Rattle.std.specs.Prelude.{◌≡◌, ℕ, List, [], ◌∷◌, ◌++◌, length, Result, slice_set}
use Rattle.rows.specs.Refusals.{first, Answer}
use Rattle.banks.specs.Rules.{row}
use Rattle.trail.specs.Readings.{rows_of, memory_of, height_of, record_of}
use Rattle.trail.specs.Stacks.{Grows}
use Rattle.trail.specs.Strokes.{strokes_of, put_back}
use Rattle.trail.specs.Trails.{trail_says, no_such_row, none_left, Narrows}
use Rattle.trail.specs.declared.refusal.TrailError.{TrailError}
use Rattle.trail.specs.declared.trail.Trail.{Trail}

-- A narrowing. Refused, the rows and every entry of the record's memory are as they were.
abbrev pub NarrowAnswer : ℕ → ℕ → Trail → Trail → Result (Unit {0}) TrailError → Type 0
NarrowAnswer r wanted t u =
    Answer trail_says (first (no_such_row (rows_of t) r ∷ none_left (rows_of t) r wanted ∷ []))
    ((rows_of u ≡ rows_of t) × (memory_of u ≡ memory_of t) × (height_of u ≡ height_of t))
    (λ _. (length (memory_of u) ≡ length (memory_of t)) × Narrows r wanted (rows_of t) (rows_of u) (record_of t) (record_of u))

-- The record is followed by these strokes.
abbrev pub Noted : List ℕ → Trail → Trail → Type 0
Noted new t u = Grows new t.struck u.struck

-- A row is replaced by a part of it, and what it loses is recorded.
pub record Stored (r stays : ℕ) (t u : Trail) : Type 0 where
  pub rows : rows_of u ≡ slice_set (rows_of t) r stays
  pub noted : Noted (strokes_of r (row (rows_of t) r) stays) t u

-- The latest stroke is taken off the record and put back.
pub record UndoesOne (t u : Trail) : Type 0 where
  pub long : length (memory_of u) ≡ length (memory_of t)
  pub latest : ℕ
  pub recorded : record_of t ≡ record_of u ++ latest ∷ []
  pub rows : rows_of u ≡ put_back latest (rows_of t)
