-- Each part is that of the same image.
use Rattle.opened.proofs.open_disc.OpenDisc.open.Given as goal

abbrev pub ghost-check_table : goal.ghost-check_table
ghost-check_table g a = g.image

abbrev pub ghost-check_program : goal.ghost-check_program
ghost-check_program g a = g.image

abbrev pub ghost-check_used : goal.ghost-check_used
ghost-check_used g a = g.image
