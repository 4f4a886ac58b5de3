use Rattle.std.proofs.Common.{◌≡◌, length, sym, subst, rules}
use Rattle.tables.specs.Checks.{TableBytes}
use Rattle.tables.specs.Tables.{bytes_of}
use Rattle.tables.proofs.Checking.{bytes_fine}
use Rattle.tables.proofs.Showing.{found_shows}
use Rattle.tables.proofs.bank.TableBank.show.Goals as goal

pub find-requires-clause-fine : goal.find-requires-clause-fine
find-requires-clause-fine c =
    let t = c.args.table in
    subst TableBytes (sym (rw c.unwrap-bytes.ensures at c.bytes.ensures).1) (bytes_fine t.start (bytes_of c.args.self.now.pool.now t) c.requires.fine.bytes)

pub returns : goal.returns
returns c =
    let b = c.args.self.now in
    let standing = c.masks_of-standing in
    let long : length standing.result ≡ 16 = search rules in
    found_shows b.width b.pool.now c.args.table c.requires.fine c.args.rows.now standing.result c.unwrap-bytes.result.now c.args.masks.now c.find.new.found long
    standing.ensures.named (rw c.unwrap-bytes.ensures at c.bytes.ensures).1 c.requires.room c.find.ensures
