-- The order of the numbers in a ring.
use Rattle.std.specs.Prelude.{ℕ, ◌+◌, ◌%◌, ◌<◌, List, map, slice_index}
use Rattle.std.specs.List.{range_with_len}
use Rattle.waiting.specs.Waiting.{max_capacity}
use Rattle.waiting.specs.declared.ring.Ring.TheInside.{Inside}

-- How many slots a ring has.
abbrev pub slots_there : ℕ
slots_there = max_capacity

-- The numbers in n slots, of which the i-th follows i slots after the first.
unfoldable pub in_turn : List ℕ → ℕ → ℕ → List ℕ
in_turn slots first n = map (λ i. slice_index slots ((first + i) % slots_there)) (range_with_len 0 n)

-- The numbers of a ring, from the front to the end.
abbrev pub order : Inside → List ℕ
order r = in_turn r.slots r.first r.len

-- A ring starts at one of its slots.
abbrev pub Steady : Inside → Type 0
Steady r = r.first < slots_there
