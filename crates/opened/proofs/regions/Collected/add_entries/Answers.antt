-- `Collected::add_entries` meets its contract: an entry more each turn.
use Rattle.std.proofs.Common.{refl, ◌∙◌, arith}
use Rattle.opened.proofs.UsedRegions.{collected-start, collected-turn}
use Rattle.opened.proofs.regions.Collected.add_entries.Goals as goal

pub loop-k-init : goal.loop-k-init
loop-k-init c = (omega arith, refl, refl, collected-start _ _ _ _)

pub loop-k-preserved : goal.loop-k-preserved
loop-k-preserved c =
    let i = c.loop-k.invariant in
    let a = c.add_entry.ensures in
    (omega (arith, a.added.bound), a.long ∙ i.1, a.same_reference ∙ i.2, collected-turn _ _ _ _ _ _ _ _ _ i.3 a.added)
