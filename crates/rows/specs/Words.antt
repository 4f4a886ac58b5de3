-- Sets of numbers in words of bits.
use Rattle.std.specs.Prelude.{ℕ, ◌/◌, ◌%◌, Bool, List, slice_index}
use Rattle.rows.specs.Choices.{stands, choices}

-- The number k is in a set: its bit is 1, where a word has the bits of 64 numbers.
abbrev pub holds : List ℕ → ℕ → Bool
holds words k = stands (slice_index words (k / choices)) (k % choices)
