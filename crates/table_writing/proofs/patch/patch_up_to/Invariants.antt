-- `table_writing::patch::patch_up_to` meets its contract: the records from k on are the new ones, and those below are untouched.
use Prim.Native.Nat.{◌+◌}
use Rattle.tree.specs.Inner.Patch.{record_before}
use Rattle.table_writing.proofs.Passes.{Filled}
use Rattle.table_writing.proofs.patch.patch_up_to.Given as goal

abbrev pub invariant-loop-k : goal.invariant-loop-k
invariant-loop-k l = Filled l.initial.table (record_before l.initial.table l.p) (l.p + 1) l.table l.k
