use Rattle.std.proofs.Common.{◌≡◌, ℕ, ◌<◌, List, Ok, Result, get_or, replicate, take, refl, sym, ap, ◌∙◌, subst, rules, arith}
use Rattle.std.specs.Result.{result_unwrap_or}
use Rattle.banks.specs.Calls.{rule_at, RowAnswer}
use Rattle.banks.specs.Names.{max_arity}
use Rattle.banks.specs.Rules.{Rule, arity, named}
use Rattle.banks.specs.declared.refusal.CallError.{CallError}
use Rattle.banks.proofs.Calling.{arity_few}
use Rattle.banks.proofs.Naming.{rule_named}
use Rattle.settling.specs.Loop.{Brought}
use Rattle.settling.specs.States.{state_of, rules_of}
use Rattle.settling.proofs.Advancing.{bringing_none, bringing_placed, bringing_ready, bringing_more, bringing_all}
use Rattle.settling.proofs.Asking.{support_shown, places, found, missed}
use Rattle.settling.proofs.Ending.{none_live}
use Rattle.settling.proofs.Fitting.{fits_kept}
use Rattle.settling.proofs.propagate.Settling.revise.Goals as goal

-- the row that the same rules answer at a place
here : (Rs' Rs : List Rule) (k i row : ℕ) (r : Result ℕ CallError) → Rs' ≡ Rs → RowAnswer Rs' k i r → r ≡ Ok row → (i < arity (rule_at Rs k)) × (row ≡ named (rule_at Rs k) i)
here Rs' Rs k i row r same answer e = let at = found Rs k i row r (subst (λ Rs. RowAnswer Rs k i r) same answer) e in (at.0, sym at.1)

pub returns-then-masks-eq0-clause-answer : goal.returns-then-masks-eq0-clause-answer
returns-then-masks-eq0-clause-answer g c =
    let x = c.args.self.now in
    let Rs = rules_of g.B.Bank.rules x in
    let k = c.args.rule in
    let s = (state_of g.L.WaitingList.waits x).rows in
    let lawful = g.B.Bank.lawful x.bank.now in
    let none = replicate max_arity 0 in
    let masks = c.support.new.masks in
    let shows = support_shown _ Rs k s none masks c.support.result lawful refl c.requires.inside c.requires.fits.width c.support.ensures in
    (refl, none_live s (rule_at Rs k) 0 none masks shows (rule_named _ Rs k lawful c.requires.inside).some c.if-masks-eq0.true, refl)

pub loop-place-init : goal.loop-place-init
loop-place-init g c =
    let x = c.args.self.now in
    let Rs = rules_of g.B.Bank.rules x in
    let k = c.args.rule in
    let lawful = g.B.Bank.lawful x.bank.now in
    let none = replicate max_arity 0 in
    let masks = c.support.new.masks in
    let n = c.unwrap-arity.result in
    let shows = support_shown _ Rs k (state_of g.L.WaitingList.waits x).rows none masks c.support.result lawful refl c.requires.inside c.requires.fits.width c.support.ensures in
    let whole : n ≡ arity (rule_at Rs k) = sym (ap (λ r. result_unwrap_or r 0) c.unwrap-arity.ensures) ∙ places Rs k c.arity.result c.arity.ensures in (
      search rules,
      bringing_none Rs k none masks n (state_of g.L.WaitingList.waits x) shows whole (omega (arith, (rule_named _ Rs k lawful c.requires.inside).some))
          (omega (arith, shows.long, arity_few _ Rs lawful k)) (omega (arith, c.if-masks-eq0.false)),
    )

pub unwrap-row-requires : goal.unwrap-row-requires
unwrap-row-requires g c =
    let Rs = rules_of g.B.Bank.rules c.args.self.now in
    let k = c.args.rule in
    let i = c.loop-place.place in
    let inv = c.loop-place.invariant in
    let answer = subst (λ Rs. RowAnswer Rs k i c.row_at.result) (ap g.B.Bank.rules inv.0.bank) c.row_at.ensures in
    let placed : i < arity (rule_at Rs k) = omega (arith, c.loop-place-test.true, bringing_placed Rs k _ i _ _ inv.1) in
    search (rules, missed Rs k i (named (rule_at Rs k) i) c.row_at.result answer placed refl)

pub bring-requires : goal.bring-requires
bring-requires g c =
    let x = c.args.self.now in
    let k = c.args.rule in
    let i = c.loop-place.place in
    let inv = c.loop-place.invariant in
    let row = c.unwrap-row.result in
    let at = here (rules_of g.B.Bank.rules c.loop-place.self) (rules_of g.B.Bank.rules x) k i row c.row_at.result (ap g.B.Bank.rules inv.0.bank) c.row_at.ensures c.unwrap-row.ensures in
    let ready = bringing_ready _ (rules_of g.B.Bank.rules x) (g.B.Bank.lawful x.bank.now) k c.requires.inside _ i row at.0 at.1 (state_of g.L.WaitingList.waits x) (state_of g.L.WaitingList.waits c.loop-place.self) c.requires.fits.width inv.1 in
    record { fits = fits_kept _ _ _ x c.loop-place.self c.requires.fits inv.0; inside = ready.0; some = ready.1 }

pub loop-place-preserved : goal.loop-place-preserved
loop-place-preserved g c =
    let x = c.args.self.now in
    let k = c.args.rule in
    let i = c.loop-place.place in
    let inv = c.loop-place.invariant in
    let row = c.unwrap-row.result in
    let masks = take c.unwrap-arity.result c.support.new.masks in
    let y = state_of g.L.WaitingList.waits c.loop-place.self in
    let z = state_of g.L.WaitingList.waits c.bring.new.self in
    let same = ap g.B.Bank.rules inv.0.bank in
    let at = here (rules_of g.B.Bank.rules c.loop-place.self) (rules_of g.B.Bank.rules x) k i row c.row_at.result same c.row_at.ensures c.unwrap-row.ensures in
    let brought = subst (λ Rs. Brought Rs k row (get_or masks i 0) y z) same c.bring.ensures.brought in
    (search rules, bringing_more _ (rules_of g.B.Bank.rules x) (g.B.Bank.lawful x.bank.now) k c.requires.inside masks i row at.0 at.1 (state_of g.L.WaitingList.waits x) y c.requires.fits.width inv.1 z brought)

pub returns-clause-answer : goal.returns-clause-answer
returns-clause-answer g c =
    let x = c.args.self.now in
    bringing_all (rules_of g.B.Bank.rules x) c.args.rule _ c.loop-place.place (state_of g.L.WaitingList.waits x) (state_of g.L.WaitingList.waits c.loop-place.self)
    (omega (arith, c.loop-place-test.false, c.loop-place.auto.place-end)) c.loop-place.invariant.1
