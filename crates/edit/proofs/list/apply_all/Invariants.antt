-- `list::apply_all` meets its contract. The invariant of its loop: the first i turns are applied, and the working memory is as long as it was.
use Rattle.std.proofs.Common.{map, ◌≡◌, ◌≤◌, length}
use Rattle.edit.specs.Asked.{turn_of}
use Rattle.edit.proofs.Lists.{IsUnderway}
use Rattle.edit.proofs.list.apply_all.Given as goal

abbrev pub invariant-loop-i : goal.invariant-loop-i
invariant-loop-i l = record {
  in_range : l.i ≤ length l.turns;
  underway : IsUnderway (map turn_of l.turns) (length l.fn.words) (length l.fn.bytes) l.fn.image l.fn.totals l.fn.answers l.i l.image l.totals l.answers;
  words : length l.words.memory.now ≡ length l.fn.words;
  bytes : length l.bytes.memory.now ≡ length l.fn.bytes;
}
