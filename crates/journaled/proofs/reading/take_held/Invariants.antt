-- The bytes so far are those of the parts, and the others as they were.
use Rattle.std.proofs.Common.{◌≡◌, ℕ, ◌+◌, ◌<◌, ◌≤◌, get_or}
use Rattle.journaled.specs.Inner.Behind.{byte_in}
use Rattle.journaled.proofs.reading.take_held.Given as goal

abbrev pub invariant-loop-i : goal.invariant-loop-i
invariant-loop-i l = record {
  done : (k : ℕ) → k < l.i → get_or l.program k 0 ≡ byte_in l.header l.table (l.at + k) (get_or l.initial.program k 0);
  rest : (k : ℕ) → l.i ≤ k → get_or l.program k 0 ≡ get_or l.initial.program k 0;
}
