-- The same image.
use Rattle.opened.proofs.open_disc.open_shown.Given as goal

abbrev pub ghost-open : goal.ghost-open
ghost-open g a = g.shown
