-- `OpenDisc::table` meets its contract: the table is that of an image that opens.
use Rattle.opened.proofs.Discs.{opens_backed, table_fits}
use Rattle.opened.proofs.open_disc.OpenDisc.table.Goals as goal

pub returns-clause-opens : goal.returns-clause-opens
returns-clause-opens c = opens_backed _ _ _ _ _ c.self.invariant

pub returns-clause-fits : goal.returns-clause-fits
returns-clause-fits c = table_fits _ _ _ _ _ c.self.invariant _ c.self.view_is
