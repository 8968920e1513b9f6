-- `counter::slots::totals_in` meets its contract: the teams so far are read.
use Rattle.counter.proofs.Records.{IsRead}
use Rattle.counter.proofs.slots.totals_in.Given as goal

abbrev pub invariant-loop-k : goal.invariant-loop-k
invariant-loop-k l = IsRead l.slots l.initial.team-items l.k l.team-items
