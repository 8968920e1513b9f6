-- `new_table::path::shared_bytes`: the first i bytes are the same in both.
use Rattle.new_table.proofs.Sharing.{Sharing}
use Rattle.new_table.proofs.path.shared_bytes.Given as goal

abbrev pub invariant-loop-i : goal.invariant-loop-i
invariant-loop-i l = Sharing l.before l.path l.i l.shared
