use Rattle.std.proofs.Common.{◌≡◌, suc, ◌≤◌, ap, ◌∙◌, arith}
use Rattle.waiting.specs.Waiting.{how_many, max_capacity}
use Rattle.waiting.proofs.Measuring.{many_take, many_le, many_empty, capacity_le}
use Rattle.waiting_runs.proofs.drain.Goals as goal

pub overflow_add-count : goal.overflow_add-count
overflow_add-count g c =
    let waits = g.L.WaitingList.waits in
    let room = g.L.WaitingList.room in
    let start = c.args.list.now in
    let few : how_many (waits start) (room start) ≤ room start = many_le (waits start) (room start) in
    let high : room start ≤ max_capacity = capacity_le (room start) (g.L.WaitingList.lawful start).size in
    let inv = c.loop-number.invariant.1 in
    record { fits = omega arith }

pub loop-number-smaller : goal.loop-number-smaller
loop-number-smaller g c =
    let waits = g.L.WaitingList.waits in
    let room = g.L.WaitingList.room in
    let list = c.loop-number.list in
    let after = c.take.new.self in
    let taken = c.in-Some.ensures in
    let there = (g.L.WaitingList.lawful list).below c.in-Some._number taken.1.0 in
    let one : suc (how_many (waits after) (room list)) ≡ how_many (waits list) (room list) =
    many_take (waits list) (waits after) c.in-Some._number (room list) there taken.1.0 taken.1.1
    in
    let same : how_many (waits after) (room after) ≡ how_many (waits after) (room list) = ap (how_many (waits after)) taken.0 in
    omega arith

pub loop-number-preserved : goal.loop-number-preserved
loop-number-preserved g c =
    let waits = g.L.WaitingList.waits in
    let room = g.L.WaitingList.room in
    let list = c.loop-number.list in
    let after = c.take.new.self in
    let taken = c.in-Some.ensures in
    let there = (g.L.WaitingList.lawful list).below c.in-Some._number taken.1.0 in
    let one : suc (how_many (waits after) (room list)) ≡ how_many (waits list) (room list) =
    many_take (waits list) (waits after) c.in-Some._number (room list) there taken.1.0 taken.1.1
    in
    let same : how_many (waits after) (room after) ≡ how_many (waits after) (room list) = ap (how_many (waits after)) taken.0 in
    let inv = c.loop-number.invariant.1 in
    (taken.0 ∙ c.loop-number.invariant.0, omega arith)

pub returns : goal.returns
returns g c =
    let waits = g.L.WaitingList.waits in
    let room = g.L.WaitingList.room in
    let list = c.loop-number.list in
    let none = c.in_default.ensures in
    let left = many_empty (waits list) (room list) none.1.0 in
    let inv = c.loop-number.invariant.1 in
    (none.0 ∙ c.loop-number.invariant.0, ((λ k. none.1.1 k ∙ none.1.0 k), omega arith))
