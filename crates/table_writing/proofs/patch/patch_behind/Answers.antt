-- `table_writing::patch::patch_behind` meets its contract: once all records are moved, those from k on are the new ones, and those before it the moved ones.
use mathlib.Core.Path.{◌≡◌}
use Prim.Native.Nat.{◌+◌, ◌-◌}
use native.Mathlib.Omega.{arith}
use Rattle.table_writing.proofs.Behind.{raise-start, raise-turn, raise-again, raise-end}
use Rattle.table_writing.proofs.patch.patch_behind.Goals as goal

pub loop-k-init : goal.loop-k-init
loop-k-init c =
    let a = c.args in
    let e : a.count + 1 - 1 ≡ a.count = omega arith in
    (omega (arith, c.requires.number), rw e (raise-start a.table.now a.count a.shift.number a.shift.text c.requires.within c.requires.number _ c.copy_within.ensures))

pub raise-requires : goal.raise-requires
raise-requires c =
    let a = c.args in
    let l = c.loop-k in
    let r = raise-turn a.table.now a.count a.shift.number a.shift.text c.requires.within c.requires.number _ c.copy_within.ensures l.table (l.k - 1) l.invariant.1 (omega (arith, c.loop-k-test.true)) c.requires.raisable c.requires.names in
    record { within = r.0; raisable = r.1; names = r.2 }

pub loop-k-preserved : goal.loop-k-preserved
loop-k-preserved c =
    let a = c.args in
    let l = c.loop-k in
    let w = c.raise in
    (omega (arith, c.loop-k-test.true), raise-again a.table.now a.count a.shift.number a.shift.text c.requires.within c.requires.number _ c.copy_within.ensures l.table (l.k - 1) l.invariant.1 (omega (arith, c.loop-k-test.true)) _ w.ensures w.auto.table)

pub returns : goal.returns
returns c =
    let a = c.args in
    let l = c.loop-k in
    let e : l.k - 1 ≡ a.shift.number = omega (arith, l.invariant.0, c.loop-k-test.false) in
    raise-end a.table.now a.count a.shift.number a.shift.text c.requires.within c.requires.number _ c.copy_within.ensures l.table (rw e at l.invariant.1)
