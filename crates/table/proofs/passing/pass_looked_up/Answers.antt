-- `pass_looked_up` meets its contract: the charts tell which byte is clean and which two are a pair, and each is passed.
use Prim.Native.Nat.{◌+◌, ◌<◌}
use mathlib.Core.Path.{refl, ◌∙◌}
use native.Mathlib.Omega.{arith}
use lib.ListN.{get_or}
use Rattle.table.proofs.Chart.{kinds_are}
use Rattle.table.proofs.BlockLaws.{clean-byte, clean-goes-on, clean-lead-byte}
use Rattle.table.proofs.passing.pass_looked_up.Goals as goal

pub loop-at-init : goal.loop-at-init
loop-at-init c = (kinds_are _ _ refl refl refl refl refl refl, refl)

pub loop-at-preserved-then-kind-eq99 : goal.loop-at-preserved-then-kind-eq99
loop-at-preserved-then-kind-eq99 c =
    let l = c.loop-at in
    let i = l.invariant in
    let below : get_or c.args.table.now l.at 0 < 256 = omega (arith, c.type_inv.table l.at) in
    (i.0, i.1 ∙ clean-goes-on c.args.table.now l.at _ _ i.0 below (omega (arith, c.loop-at-test.true)) (clean-byte c.args.table.now l.at _ _ i.0 below c.if-kind-eq99.true))

pub loop-at-preserved-then-kind-eq122 : goal.loop-at-preserved-then-kind-eq122
loop-at-preserved-then-kind-eq122 c =
    let l = c.loop-at in
    let i = l.invariant in
    let below : get_or c.args.table.now l.at 0 < 256 = omega (arith, c.type_inv.table l.at) in
    (i.0, i.1 ∙ clean-goes-on c.args.table.now l.at _ _ i.0 below (omega (arith, c.loop-at-test.true)) (i.0.end _ below c.if-kind-eq122.true))

pub loop-at-preserved : goal.loop-at-preserved
loop-at-preserved c =
    let l = c.loop-at in
    let i = l.invariant in
    let below : get_or c.args.table.now l.at 0 < 256 = omega (arith, c.type_inv.table l.at) in
    let behind : get_or c.args.table.now (l.at + 1) 0 < 256 = omega (arith, c.type_inv.table (l.at + 1)) in
    (i.0, i.1 ∙ clean-lead-byte c.args.table.now l.at _ _ i.0 below c.if-kind-ne108.false behind c.if-trails-table-ne116.false)
