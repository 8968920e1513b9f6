-- The image that is shown.
use Rattle.journaled.proofs.deciding.open_shown.Given as goal

abbrev pub ghost-open : goal.ghost-open
ghost-open g a = g.shown
