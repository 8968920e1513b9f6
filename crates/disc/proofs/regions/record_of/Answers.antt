-- `disc::regions::record_of` meets its contract: the used total is told, and the regions in the words tell the largest free one.
use Rattle.std.proofs.Common.{arith}
use Rattle.space.proofs.Behind.{behind-first}
use Rattle.opened.proofs.Discs.{sorted_backed, means_backed, open_backed}
use Rattle.disc.proofs.Records.{table_end_fits, recorded}
use Rattle.disc.proofs.regions.record_of.Goals as goal

pub overflow_add-table_end : goal.overflow_add-table_end
overflow_add-table_end c =
    let m = means_backed _ _ _ _ _ c.disc.invariant _ c.disc.view_is in
    omega (arith, table_end_fits _ _ m, c.start.ensures, c.table_size.ensures)

pub new-used-requires : goal.new-used-requires
new-used-requires c = sorted_backed _ _ _ _ _ c.disc.invariant _ c.disc.view_is _ c.end-disc_end.ensures

pub returns : goal.returns
returns c =
    λ image m. recorded image _ m _ _ (open_backed _ _ _ _ _ c.disc.invariant _ c.disc.view_is image m) _ _ _ _ c.end-disc_end.ensures (omega (arith, c.start.ensures, c.table_size.ensures)) c.used_size.ensures (rw (c.new-used.ensures, behind-first c.disc.inside.words.now c.disc.inside.used) at c.largest_after.ensures) _ _ c.new_teams.ensures
