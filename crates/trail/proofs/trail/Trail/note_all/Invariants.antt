use Rattle.std.proofs.Common.{◌≡◌}
use Rattle.trail.specs.Readings.{rows_of}
use Rattle.trail.proofs.Noting.{NotingAll}
use Rattle.trail.proofs.trail.Trail.note_all.Given as goal

abbrev pub invariant-loop-choice : goal.invariant-loop-choice
invariant-loop-choice l = record {
  rows : rows_of l.self ≡ rows_of l.initial.self;
  noting : NotingAll l.row l.lost l.choice-iterator.rest l.initial.self.struck l.self.struck;
}
