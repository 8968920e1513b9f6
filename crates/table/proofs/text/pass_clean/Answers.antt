-- `table::text::pass_clean` meets its contract: the chart tells which byte is clean, and each clean one is passed.
use Prim.Native.Nat.{◌+◌}
use mathlib.Core.Path.{refl}
use native.Mathlib.Omega.{arith}
use lib.ListN.{get_or}
use Rattle.table.proofs.Chart.{charts}
use Rattle.table.proofs.Texts.{no-lead-yet, clean-next}
use Rattle.table.proofs.text.pass_clean.Goals as goal

pub loop-end-init : goal.loop-end-init
loop-end-init c = (charts _ refl refl, no-lead-yet _ _, refl)

pub loop-end-preserved : goal.loop-end-preserved
loop-end-preserved c =
    let l = c.loop-end in
    let i = l.invariant in
    let first = i.0.clean (get_or c.args.table.now l.end 0) (omega (arith, c.type_inv.table l.end)) c.if-chart-table-ne99.false in
    let second = i.0.clean (get_or c.args.table.now (l.end + 1) 0) (omega (arith, c.type_inv.table (l.end + 1))) c.if-chart-table-ne99-2.false in
    let passed = clean-next _ _ (l.end + 1) (l.end + 2) (omega arith) second (omega arith) (clean-next _ _ l.end _ (omega arith) first refl (i.1, i.2)) in
    (i.0, passed.0, passed.1)
