-- The program is that of the same image.
use Rattle.opened.proofs.whole.check_program.Given as goal

abbrev pub ghost-read_program : goal.ghost-read_program
ghost-read_program g a = g.image
