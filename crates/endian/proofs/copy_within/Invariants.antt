-- `endian::copy_within` meets its contract. The invariant of its first loop: the parts before part k are put; of its second: those from
-- part k on.
use Rattle.endian.proofs.Parts.{Down, Up}
use Rattle.endian.proofs.copy_within.Given as goal

abbrev pub invariant-loop-k : goal.invariant-loop-k
invariant-loop-k l = Down l.initial.s l.s l.from l.to l.n l.k

abbrev pub invariant-loop-k-else-n-to : goal.invariant-loop-k-else-n-to
invariant-loop-k-else-n-to l = Up l.initial.s l.s l.from l.to l.n l.k
