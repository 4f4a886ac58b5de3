use Rattle.std.proofs.Common.{◌≡◌, length}
use Rattle.trail.specs.Readings.{rows_of, memory_of, height_of, record_of}
use Rattle.trail.proofs.Widening.{Undoing}
use Rattle.trail.proofs.trail.Trail.undo_to.Given as goal

abbrev pub invariant-loop-self : goal.invariant-loop-self
invariant-loop-self l = record {
  memory : length (memory_of l.self) ≡ length (memory_of l.initial.self);
  undoing : Undoing l.height (rows_of l.initial.self) (record_of l.initial.self) (rows_of l.self) (record_of l.self);
}

abbrev pub decreases-loop-self : goal.decreases-loop-self
decreases-loop-self l = height_of l.self
