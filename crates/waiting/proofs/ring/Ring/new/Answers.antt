use Rattle.waiting.proofs.Ringing.{none_in_turn}
use Rattle.waiting.proofs.ring.Ring.new.Goals as goal

pub returns : goal.returns
returns c = none_in_turn _ 0
