-- `table_writing::patch::patch_up_to` meets its contract: the records from k on are the new ones, and those below are untouched.
use Prim.Native.Nat.{◌+◌}
use Rattle.tree.specs.Inner.Patch.{record_before}
use Rattle.table_writing.proofs.Patches.{before-twelve}
use Rattle.table_writing.proofs.Passes.{fill_start, before-turn, before-again}
use Rattle.table_writing.proofs.patch.patch_up_to.Goals as goal

pub loop-k-init : goal.loop-k-init
loop-k-init c =
    let s = c in
    fill_start s.args.table.now (record_before s.args.table.now s.args.p) (before-twelve s.args.table.now s.args.p) (s.args.p + 1) s.requires.within

pub patch_before-requires : goal.patch_before-requires
patch_before-requires c =
    let s = c in
    let l = c.loop-k in
    let r = before-turn s.args.table.now s.args.p s.requires.within l.table l.k l.invariant c.loop-k-test.true s.requires.raisable in
    record { before = r.0; within = r.1; raisable = r.2 }

pub loop-k-preserved : goal.loop-k-preserved
loop-k-preserved c =
    let s = c in
    let l = c.loop-k in
    let w = c.patch_before in
    before-again s.args.table.now s.args.p s.requires.within l.table l.k l.invariant c.loop-k-test.true _ w.ensures w.auto.table
