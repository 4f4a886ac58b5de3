use Rattle.std.proofs.Common.{rules}
use Rattle.banks.specs.Calls.{rule_at}
use Rattle.banks.proofs.Calling.{admitted}
use Rattle.banks.proofs.Naming.{rule_named}
use Rattle.banks.proofs.Showing.{live_shown}
use Rattle.banks.proofs.questions.has_live_tuple.Goals as goal

pub returns : goal.returns
returns g c =
    let bank = c.args.bank.now in
    let w = g.B.Bank.wide bank in
    let Rs = g.B.Bank.rules bank in
    let k = c.args.rule in
    let s = c.args.rows.now in
    let adm = admitted w Rs k s _ c.in_ok-masks.ensures.0 in
    (c.in_ok-masks.ensures.0, live_shown s (rule_at Rs k) _ c.in_ok-masks.masks c.in_ok-masks.ensures.1 (rule_named w Rs k (g.B.Bank.lawful bank) adm.0).some (search rules))
