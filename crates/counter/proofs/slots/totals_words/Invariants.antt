-- `counter::slots::totals_words` meets its contract: the teams so far are written.
use Rattle.counter.proofs.Records.{IsWritten}
use Rattle.counter.proofs.slots.totals_words.Given as goal

abbrev pub invariant-loop-k : goal.invariant-loop-k
invariant-loop-k l = IsWritten l.totals l.k l.slots
