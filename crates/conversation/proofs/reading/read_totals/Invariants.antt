use Rattle.std.proofs.Common.{◌≡◌, ◌++◌, length, take}
use Rattle.conversation.specs.Lines.{texts}
use Rattle.conversation.proofs.Teams.{team_words}
use Rattle.conversation.proofs.reading.read_totals.Given as goal

abbrev pub invariant-loop-k : goal.invariant-loop-k
invariant-loop-k l =
    (team_words (take l.k l.teams) ++ texts l.left ≡ texts l.initial.left) × (length l.teams ≡ 16)
