use Rattle.trail.specs.Readings.{height_of}
use Rattle.trail.specs.Stacks.{held}
use Rattle.histories.proofs.Every.{lawfully}
use Rattle.sheet.proofs.Heights.{heights_grow, heights_recorded}
use Rattle.sheet.proofs.Settled.{settle_grows, settle_moves}
use Rattle.sheet.proofs.sheet.Sheet.settle.Goals as goal

pub invariant_of-self : goal.invariant_of-self
invariant_of-self g c =
    let x = c.args.self.now in
    let u = c.propagate.new.trail in
    let grown = settle_grows (g.B.Bank.wide c.args.bank.now) (g.B.Bank.rules c.args.bank.now) (g.L.WaitingList.room c.args.list.now) x.trail u
    (g.L.WaitingList.waits c.args.list.now) (g.L.WaitingList.waits c.propagate.new.list) c.propagate.result c.propagate.ensures.answer in
    record { within = x.within; heights = heights_grow 0 (height_of x.trail) (height_of u) (held x.marks) grown x.heights }

pub returns-clause-lawful : goal.returns-clause-lawful
returns-clause-lawful g c =
    let x = c.args.self.now in
    lawfully (settle_moves (g.B.Bank.wide c.args.bank.now) (g.B.Bank.rules c.args.bank.now) (g.L.WaitingList.room c.args.list.now) x.trail c.propagate.new.trail
    (g.L.WaitingList.waits c.args.list.now) (g.L.WaitingList.waits c.propagate.new.list) (held x.marks) x.given x.room c.propagate.result (heights_recorded x) c.propagate.ensures.answer)
