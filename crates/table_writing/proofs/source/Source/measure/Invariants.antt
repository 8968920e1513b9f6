-- `Source::measure` meets its contract. The invariant: the entries before k are measured.
use Rattle.table_writing.proofs.Measuring.{Upto}
use Rattle.table_writing.proofs.source.Source.measure.Given as goal

abbrev pub invariant-loop-k : goal.invariant-loop-k
invariant-loop-k l = Upto l.self l.count l.size l.k
