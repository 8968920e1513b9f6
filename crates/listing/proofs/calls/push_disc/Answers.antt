-- `listing::calls::push_disc` meets its contract: the lines of its table and of its used regions.
use Rattle.std.proofs.Common.{sym, ◌∙◌}
use Rattle.listing.proofs.Joining.{appends-as}
use Rattle.listing.proofs.Answers.{text-is}
use Rattle.listing.proofs.LineParts.{listing-written}
use Rattle.listing.proofs.calls.push_disc.Goals as goal

pub returns : goal.returns
returns c =
    let u = c.used_regions-used.ensures in
    let n = rw (← c.new-table.ensures) at c.table.ensures.nodes in
    let written = listing-written _ _ _ _ _ _ _ _ _ _ (c.end.ensures ∙ sym u.end) c.used_size.ensures c.put_totals.ensures c.put_entries.ensures c.put_regions.ensures in
    appends-as written (text-is c.args.disc.now.disc _ _ u.end n u.same u.free)
