-- The same image.
use Rattle.opened.proofs.open_disc.OpenDisc.of_image.Given as goal

abbrev pub ghost-open_shown : goal.ghost-open_shown
ghost-open_shown a = a._image.now
