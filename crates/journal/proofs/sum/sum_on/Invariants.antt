use Rattle.std.proofs.Common.{◌≡◌, drop}
use Rattle.journal.specs.Journal.{sum_from}
use Rattle.journal.proofs.sum.sum_on.Given as goal

-- what is left of the bytes makes the sum whole
abbrev pub invariant-loop-byte : goal.invariant-loop-byte
invariant-loop-byte l = sum_from l.next (drop l.byte-index l.bytes) ≡ sum_from l.sum l.bytes
