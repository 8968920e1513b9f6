-- `Layout::len` meets its contract: table, program, and the entries.
use Rattle.std.proofs.Common.{arith}
use Rattle.opened.proofs.OwnedRegions.{length-owned}
use Rattle.opened.proofs.conflicts.Layout.len.Goals as goal

pub returns-clause-len : goal.returns-clause-len
returns-clause-len c = omega (arith, length-owned c.args.self.now.table c.args.self.now.table_end c.args.self.now.own)
