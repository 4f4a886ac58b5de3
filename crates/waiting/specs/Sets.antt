-- Sets in words of bits that are not 0 where they are marked, and the lowest number of a set.
use Rattle.std.specs.Prelude.{◌≡◌, ℕ, ◌<◌, true, false, not, Some, None, Option, ◌==◌, slice_index}
use Rattle.rows.specs.Choices.{stands}
use Rattle.waiting.specs.Waiting.{Numbers, Empty}
use Rattle.waiting.specs.declared.numbers.NumberSet.TheInside.{Inside}

-- Exactly the words that are not 0 are marked as filled.
abbrev pub Marked : Inside → Type 0
Marked s = (w : ℕ) → stands s.filled w ≡ not (slice_index s.words w == 0)

-- v is the lowest number of a set.
pub record LowestOf (s : Numbers) (v : ℕ) : Type 0 where
  pub here : s v ≡ true
  pub below : (k : ℕ) → k < v → s k ≡ false

-- The lowest number of a set, or none where it has none.
abbrev pub LowestAnswer : Numbers → Option ℕ → Type 0
LowestAnswer s None = Empty s
LowestAnswer s (Some v) = LowestOf s v
