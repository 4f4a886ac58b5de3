use Rattle.tables.proofs.Banking.{table_looked_up}
use Rattle.tables.proofs.bank.TableBank.table.Goals as goal

pub returns : goal.returns
returns c =
    let b = c.args.self.now in
    rw (c.ok_or.ensures.value, c.copied.ensures) (table_looked_up b.width b.tables.now b.pool.now b.sound c.args.rule c.get.result c.get.ensures.lookup.3)
