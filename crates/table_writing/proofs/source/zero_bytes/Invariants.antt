-- `source::zero_bytes` meets its contract. The invariant: all but what is left is counted.
use Rattle.std.proofs.Common.{◌≡◌, ◌==◌, ◌+◌}
use Rattle.std.specs.List.{count_by}
use Rattle.table_writing.proofs.source.zero_bytes.Given as goal

abbrev pub invariant-loop-part : goal.invariant-loop-part
invariant-loop-part l =
    (goal.iterator-loop-part).can_next l.part-iterator ×
    (goal.iterator-loop-part).is_finite l.part-iterator ×
    (l.part-iterator.size ≡ 255) ×
    (l.zeros + count_by (λ byte. (byte == 0)) l.part-iterator.rest.now ≡ count_by (λ byte. (byte == 0)) l.bytes)
