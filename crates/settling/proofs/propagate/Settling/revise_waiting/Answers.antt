use Rattle.std.proofs.Common.{◌<◌, ◌≤◌, Ok, ap, rules, arith, subst}
use Rattle.waiting.specs.Waiting.{max_capacity}
use Rattle.waiting.proofs.Measuring.{capacity_le}
use Rattle.settling.specs.Loop.{ReviseAnswer}
use Rattle.settling.specs.States.{state_of, rules_of}
use Rattle.settling.proofs.Looping.{looping_none, looping_more, work_less}
use Rattle.settling.proofs.propagate.Settling.revise_waiting.Goals as goal

pub loop-rule-init : goal.loop-rule-init
loop-rule-init g c = (search rules, looping_none (rules_of g.B.Bank.rules c.args.self.now) (state_of g.L.WaitingList.waits c.args.self.now) c.requires.filled)

pub loop-rule-smaller : goal.loop-rule-smaller
loop-rule-smaller g c =
    let x = c.args.self.now in
    let y = c.loop-rule.self in
    let room = g.L.WaitingList.room in
    let inv = c.loop-rule.invariant in
    let k = c.in-Some.rule in
    let taken = c.in-Some.ensures in
    let small : room x.list.now ≤ max_capacity = capacity_le _ (g.L.WaitingList.lawful x.list.now).size in
    let below : k < room x.list.now = omega (arith, inv.0.room, (g.L.WaitingList.lawful y.list.now).below k taken.1.0) in
    work_less (rules_of g.B.Bank.rules y) (state_of g.L.WaitingList.waits y) (state_of g.L.WaitingList.waits c.revise.new.self) _ k taken.1.0 taken.1.1 c.in_ok-revise.ensures.answer.0 (room x.list.now) small below

pub loop-rule-preserved : goal.loop-rule-preserved
loop-rule-preserved g c =
    let x = c.args.self.now in
    let y = state_of g.L.WaitingList.waits c.loop-rule.self in
    let z = state_of g.L.WaitingList.waits c.revise.new.self in
    let inv = c.loop-rule.invariant in
    let k = c.in-Some.rule in
    let taken = c.in-Some.ensures in
    let waits = g.L.WaitingList.waits c.take.new.self in
    let revised = subst (λ Rs. ReviseAnswer Rs k (record y { waits = waits }) z (Ok tt)) (ap g.B.Bank.rules inv.0.bank) c.in_ok-revise.ensures.answer in
    (search rules, looping_more (rules_of g.B.Bank.rules x) y z waits k taken.1.0 taken.1.1 revised.0 (state_of g.L.WaitingList.waits x) revised.1 inv.1)
