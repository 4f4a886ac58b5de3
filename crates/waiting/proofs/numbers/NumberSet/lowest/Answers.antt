use Rattle.std.proofs.Common.{◌^◌, ◌<◌, get_or, arith, rules}
use lib.Count.{count_trailing_zeros}
use Rattle.rows.specs.Choices.{Lowest}
use Rattle.rows.proofs.Masks.{lowest_is, stands_below}
use Rattle.waiting.proofs.Marking.{none_filled, word_there, word_some, lowest_number}
use Rattle.waiting.proofs.numbers.NumberSet.lowest.Goals as goal

pub returns-then-self-eq0 : goal.returns-then-self-eq0
returns-then-self-eq0 c = let s = c.self.inside in rw (← c.self.view_is) (none_filled s.words s.filled c.self.invariant c.if-self-eq0.true)

pub bounds-self-inside-word : goal.bounds-self-inside-word
bounds-self-inside-word c =
    let s = c.self.inside in
    let first : Lowest s.filled (count_trailing_zeros 64 s.filled) = lowest_is 64 s.filled (omega arith) (search rules) in
    omega (arith, c.self.told, word_there s.words s.filled c.self.invariant (count_trailing_zeros 64 s.filled) first.here)

pub returns : goal.returns
returns c =
    let s = c.self.inside in
    let w = count_trailing_zeros 64 s.filled in
    let m = get_or s.words w 0 in
    let first : Lowest s.filled w = lowest_is 64 s.filled (omega arith) (search rules) in
    let small : m < 2 ^ 64 = search rules in
    let low : Lowest m (count_trailing_zeros 64 m) = lowest_is 64 m (word_some s.words s.filled c.self.invariant w first.here) small in
    rw (← c.self.view_is) (lowest_number s.words s.filled c.self.invariant w (count_trailing_zeros 64 m) first low (stands_below 64 m (count_trailing_zeros 64 m) small low.here))
