-- `Layout::region` meets its contract: table, program, and then the entries, each by its kind.
use Rattle.opened.proofs.OwnedRegions.{owned-table, owned-program, owned-directory, owned-file}
use Rattle.opened.proofs.conflicts.Layout.region.Goals as goal

pub returns-then-i-eq0 : goal.returns-then-i-eq0
returns-then-i-eq0 c = owned-table _ _ c.args.self.now.own _ c.if-i-eq0.true

pub returns-then-i-eq1 : goal.returns-then-i-eq1
returns-then-i-eq1 c = owned-program c.args.self.now.table c.args.self.now.table_end _ _ c.if-i-eq1.true

pub returns-then-is_directory : goal.returns-then-is_directory
returns-then-is_directory c = owned-directory _ _ _ _ c.if-i-eq0.false c.if-i-eq1.false _ c.is_directory.ensures c.if-is_directory.true

pub returns : goal.returns
returns c = owned-file _ _ _ _ c.if-i-eq0.false c.if-i-eq1.false _ c.is_directory.ensures c.if-is_directory.false _ _ c.offset.ensures c.last.ensures.last
