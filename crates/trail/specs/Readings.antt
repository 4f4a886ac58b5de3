-- What is read of a trail.
use Rattle.std.specs.Prelude.{ℕ, List}
use Rattle.banks.specs.Rules.{Sheet}
use Rattle.trail.specs.Stacks.{contents}
use Rattle.trail.specs.declared.trail.Trail.{Trail}

-- The rows of a trail, by their masks.
abbrev pub rows_of : Trail → Sheet
rows_of t = t.rows.now

-- The memory of its record, and how many of the entries are in use.
abbrev pub memory_of : Trail → List ℕ
memory_of t = t.struck.slots.now

abbrev pub height_of : Trail → ℕ
height_of t = t.struck.top

-- Its record: every struck choice that was not put back, oldest first.
abbrev pub record_of : Trail → List ℕ
record_of t = contents (memory_of t) (height_of t)
