-- `run::run_lines` meets its contract. The invariant of its loop: the lines that are left come from here to the rest of what all come to, and the
-- working memory is as long as it was.
use Rattle.std.proofs.Common.{◌≡◌, ◌+◌, ◌≤◌, suc, length}
use Rattle.sheet_run.specs.Run.{run_lines}
use Rattle.sheet_run.proofs.Underway.{IsUnderway}
use Rattle.sheet_run.proofs.run.run_lines.Given as goal

abbrev pub invariant-loop-line : goal.invariant-loop-line
invariant-loop-line l = record {
  next : (goal.iterator-loop-line).can_next l.line-iterator;
  ends : (goal.iterator-loop-line).is_finite l.line-iterator;
  underway : IsUnderway (run_lines 1 l.fn.lines l.team l.fn.totals l.fn.image (length l.fn.words) (length l.fn.bytes)) l.team (length l.fn.words) (length l.fn.bytes) l.fn.image l.fn.totals (suc l.number) l.line-iterator l.image l.totals;
  few : l.number + length l.line-iterator ≤ 1024;
  words : length l.words ≡ length l.fn.words;
  bytes : length l.bytes ≡ length l.fn.bytes;
}
