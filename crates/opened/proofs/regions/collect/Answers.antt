-- `regions::collect` meets its contract: the table, the entries before the program's turn, the program, the other entries.
use Rattle.std.proofs.Common.{arith}
use Rattle.opened.proofs.UsedRegions.{used-collected}
use Rattle.opened.proofs.regions.collect.Goals as goal

pub returns : goal.returns
returns c =
    let e =
    used-collected _ _ _ _ _ _ _ _ _ _ _ _ _ _ c.turn_of-turn.ensures.from c.turn_of-turn.ensures.to c.add.ensures.added c.add_entries.ensures.added c.add-2.ensures.added
    (rw c.len.ensures.len at c.add_entries-2.ensures.added) in
    grind (arith, e)
