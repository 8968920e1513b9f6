-- `listing::entries::put_entries` meets its contract. The invariant of its loop: the lines of the entries below k are written, and the directories around the last of them are kept.
use Rattle.std.proofs.Common.{arith}
use Rattle.listing.proofs.Tables.{Read, read-held}
use Rattle.listing.proofs.Chains.{chain-start, climbs-start, named-start}
use Rattle.listing.proofs.LineParts.{walk_start, walk_turn, walk_end}
use Rattle.listing.proofs.entries.put_entries.Goals as goal

pub loop-k-init : goal.loop-k-init
loop-k-init c = let r : Read c.args.table.now = read-held _ c.len-count.ensures.held in (rw (c.root-around.ensures.numbers, c.root-around.ensures.depth) ((chain-start _ r, climbs-start _), named-start _ _ c.root-around.ensures.names), walk_start _ _)

pub loop-k-preserved : goal.loop-k-preserved
loop-k-preserved c = (c.enter.ensures, search walk_turn)

pub returns : goal.returns
returns c = walk_end c.loop-k.invariant.1 _ _ c.len-count.ensures.len (omega (arith, c.len-count.ensures.some)) c.loop-k-test.false c.put_root.ensures
