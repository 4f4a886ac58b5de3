use Rattle.std.proofs.Common.{◌≡◌, ℕ, ◌+◌, ◌-◌, List, Ok, Err, Result, ap, subst, arith}
use Rattle.banks.specs.Rules.{Rule}
use Rattle.trail.specs.Readings.{rows_of, record_of}
use Rattle.trail.specs.Strokes.{standing}
use Rattle.trail.specs.Trails.{Undoes}
use Rattle.trail.specs.declared.trail.Trail.{Trail}
use Rattle.waiting.specs.Waiting.{Numbers}
use Rattle.settling.specs.Loop.{LoopAnswer}
use Rattle.settling.specs.States.{State, state_of, rules_of}
use Rattle.settling.specs.declared.propagate.DeadRule.{DeadRule}
use Rattle.settling.specs.declared.outcome.Outcome.TheVariants.{Settled, Wiped}
use Rattle.settling.proofs.Advancing.{strikes_falls}
use Rattle.settling.proofs.Telling.{tells_settled, tells_wiped, ends_from}
use Rattle.settling.proofs.propagate.Settling.settle.Goals as goal

-- a trail, with the numbers that wait
abbrev with_waits : Trail → Numbers → State
with_waits t waits = record { rows = rows_of t; strokes = record_of t; waits = waits }

-- the same loop, said of the rules and the trail that settling began with
from_start : (Rs' Rs : List Rule) (t' t : Trail) (waits : Numbers) (y : State) (r : Result (Unit {0}) DeadRule) → Rs' ≡ Rs → t' ≡ t → LoopAnswer Rs' (with_waits t' waits) y r
    → LoopAnswer Rs (with_waits t waits) y r
from_start Rs' Rs t' t waits y r same stayed end = subst (λ Rs. LoopAnswer Rs (with_waits t waits) y r) same (subst (λ t. LoopAnswer Rs' (with_waits t waits) y r) stayed end)

pub overflow_sub-result : goal.overflow_sub-result
overflow_sub-result g c =
    let x = c.args.self.now in
    let f = c.fill.new.self in
    let y = state_of g.L.WaitingList.waits c.revise_waiting.new.self in
    let end = from_start (rules_of g.B.Bank.rules f) (rules_of g.B.Bank.rules x) f.trail.now x.trail.now (state_of g.L.WaitingList.waits f).waits y (Ok tt) (ap g.B.Bank.rules c.fill.ensures.keeps.bank) c.fill.ensures.trail c.in-Ok.ensures.answer in
    omega (arith, c.standing.ensures, c.standing-before.ensures, strikes_falls (rules_of g.B.Bank.rules x) (rows_of x.trail.now) y.rows _ _ end.0)

pub returns-in-Ok-clause-ends : goal.returns-in-Ok-clause-ends
returns-in-Ok-clause-ends g c =
    let x = c.args.self.now in
    let Rs = rules_of g.B.Bank.rules x in
    let f = c.fill.new.self in
    let y = state_of g.L.WaitingList.waits c.revise_waiting.new.self in
    let end = from_start (rules_of g.B.Bank.rules f) Rs f.trail.now x.trail.now (state_of g.L.WaitingList.waits f).waits y (Ok tt) (ap g.B.Bank.rules c.fill.ensures.keeps.bank) c.fill.ensures.trail c.in-Ok.ensures.answer in
    let n = c.standing-before.result - c.standing.result in
    let count : n + standing y.rows ≡ standing (rows_of x.trail.now) = omega (arith, c.standing.ensures, c.standing-before.ensures, strikes_falls Rs (rows_of x.trail.now) y.rows _ _ end.0) in
    let tells = tells_settled Rs (state_of g.L.WaitingList.waits x) y n x.trail.now.some end count in
    ends_from Rs (Settled n) (state_of g.L.WaitingList.waits x) y tells end.1

pub returns-in-Err-clause-ends : goal.returns-in-Err-clause-ends
returns-in-Err-clause-ends g c =
    let x = c.args.self.now in
    let Rs = rules_of g.B.Bank.rules x in
    let f = c.fill.new.self in
    let y = state_of g.L.WaitingList.waits c.revise_waiting.new.self in
    let z = state_of g.L.WaitingList.waits c.give_up.new.self in
    let dead = c.in-Err.field-0 in
    let end = from_start (rules_of g.B.Bank.rules f) Rs f.trail.now x.trail.now (state_of g.L.WaitingList.waits f).waits y (Err dead) (ap g.B.Bank.rules c.fill.ensures.keeps.bank) c.fill.ensures.trail c.in-Err.ensures.answer in
    let undoes = subst (λ (h : ℕ). Undoes h y.rows z.rows y.strokes z.strokes) c.height-height.ensures c.give_up.ensures.undone.undone in
    let tells = tells_wiped Rs (state_of g.L.WaitingList.waits x) y _ dead z (g.B.Bank.lawful x.bank.now) c.requires.fits.width end undoes in
    ends_from Rs (Wiped dead.0) (state_of g.L.WaitingList.waits x) z tells c.give_up.ensures.undone.empty
