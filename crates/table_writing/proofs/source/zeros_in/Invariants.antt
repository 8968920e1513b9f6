-- `source::zeros_in` meets its contract. The invariant: the bytes so far are counted.
use Rattle.std.proofs.Common.{◌≡◌, ◌==◌, take}
use Rattle.std.specs.List.{count_by}
use Rattle.table_writing.proofs.source.zeros_in.Given as goal

abbrev pub invariant-loop-byte : goal.invariant-loop-byte
invariant-loop-byte l = l.zeros ≡ count_by (λ byte. (byte == 0)) (take l.byte-index l.part)
