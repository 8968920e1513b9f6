-- `pass_units` meets its contract: the charts tell which byte goes on and which two are a pair, and each is passed.
use Prim.Native.Nat.{◌+◌, ◌<◌}
use mathlib.Core.Path.{refl}
use native.Mathlib.Omega.{arith}
use lib.ListN.{get_or}
use Rattle.table.proofs.Chart.{kinds_are}
use Rattle.table.proofs.BlockLaws.{fit-clean-byte, fit-lead-byte}
use Rattle.table.proofs.passing.pass_units.Goals as goal

pub loop-at-init : goal.loop-at-init
loop-at-init c = (kinds_are _ _ refl refl refl refl refl refl, λ f. f, omega (arith, c.requires))

pub loop-at-preserved-then-kind-eq99 : goal.loop-at-preserved-then-kind-eq99
loop-at-preserved-then-kind-eq99 c =
    let l = c.loop-at in
    let i = l.invariant in
    let below : get_or c.args.table.now l.at 0 < 256 = omega (arith, c.type_inv.table l.at) in
    (i.0, λ f. i.1 (fit-clean-byte c.args.table.now l.at _ _ i.0 below c.if-kind-eq99.true f), omega (arith, c.loop-at-test.true, c.min-stop.ensures))

pub loop-at-preserved : goal.loop-at-preserved
loop-at-preserved c =
    let l = c.loop-at in
    let i = l.invariant in
    let below : get_or c.args.table.now l.at 0 < 256 = omega (arith, c.type_inv.table l.at) in
    let behind : get_or c.args.table.now (l.at + 1) 0 < 256 = omega (arith, c.type_inv.table (l.at + 1)) in
    (i.0, λ f. i.1 (fit-lead-byte c.args.table.now l.at _ _ i.0 below c.if-kind-ne108.false behind c.if-trails-table-ne116.false f), omega (arith, c.loop-at-test.true, c.min-stop.ensures))
