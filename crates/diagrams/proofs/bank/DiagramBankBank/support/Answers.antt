use Rattle.std.proofs.Common.{◌≡◌, length, rules}
use Rattle.diagrams.proofs.Banking.{layered, support_shows}
use Rattle.diagrams.proofs.bank.DiagramBankBank.support.Goals as goal

pub supported-shown-requires : goal.supported-shown-requires
supported-shown-requires c =
    let b = c.args.self.now in
    let d = c.in_ok-diagram.diagram in
    layered b.width b.places.now b.arcs.now d c.in_ok-diagram.ensures.fine c.of-nodes.result.now c.of-arcs.result.now c.of-nodes.ensures c.of-arcs.ensures

pub returns : goal.returns
returns c =
    let b = c.args.self.now in
    let long : length c.supported-shown.result ≡ 16 = search rules in
    support_shows b.width b.places.now b.arcs.now b.diagrams.now c.args.rule c.in_ok-diagram.diagram c.in_ok-diagram.ensures
    c.args.rows.now c.args.masks.now c.in_ok-admit.ensures.0 c.of-nodes.result.now c.of-arcs.result.now c.of-nodes.ensures c.of-arcs.ensures
    c.supported-shown.result long c.supported-shown.ensures c.copy_from_slice.new.self c.copy_from_slice.ensures.after
