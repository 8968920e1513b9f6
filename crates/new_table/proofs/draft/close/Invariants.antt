-- `new_table::draft::close`: those before n are closed.
use Rattle.std.proofs.Common.{◌≡◌, ℕ, ◌≤◌, ◌<◌, get_or}
use Rattle.new_table.proofs.draft.close.Given as goal

abbrev pub invariant-loop-n : goal.invariant-loop-n
invariant-loop-n l =
    ((j : ℕ) → l.from ≤ j → j < l.n → get_or l.ends j 0 ≡ l.next) × ((j : ℕ) → j < l.from → get_or l.ends j 0 ≡ get_or l.fn.ends j 0)
