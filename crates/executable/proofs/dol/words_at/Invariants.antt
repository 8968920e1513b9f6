-- `dol::words_at` meets its contract. The invariant of its loop: the first i places hold the first i words, and the others what they held.
use Rattle.std.proofs.Common.{◌≡◌, ◌≤◌, ◌++◌, length, drop}
use Rattle.executable.specs.Dol.{words_at}
use Rattle.executable.proofs.dol.words_at.Given as goal

abbrev pub invariant-loop-i : goal.invariant-loop-i
invariant-loop-i g l = record {
  in_range : l.i ≤ length l.initial.word-items;
  filled : l.word-items ≡ words_at l.s l.at l.i ++ drop l.i l.initial.word-items;
}
