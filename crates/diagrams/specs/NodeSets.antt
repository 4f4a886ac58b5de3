-- Sets of nodes, as lists of words.
use Rattle.std.specs.Prelude.{ℕ, Bool, List}
use Rattle.rows.specs.Words.{holds}

-- The node n is in a set: its bit is 1, where a word has the bits of 64 nodes.
abbrev pub member : List ℕ → ℕ → Bool
member words n = holds words n
