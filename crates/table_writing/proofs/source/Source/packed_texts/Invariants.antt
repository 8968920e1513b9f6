-- `Source::packed_texts` meets its contract. The invariant: the names before entry k - 1 are passed.
use Rattle.table_writing.proofs.Packed.{PackedTo}
use Rattle.table_writing.proofs.source.Source.packed_texts.Given as goal

abbrev pub invariant-loop-k : goal.invariant-loop-k
invariant-loop-k l = PackedTo l.bytes l.count l.first l.last l.k
