-- The image behind the parts.
use Rattle.journaled.specs.Inner.Behind.{image_behind}
use Rattle.journaled.proofs.deciding.open_behind.Given as goal

abbrev pub ghost-open_shown : goal.ghost-open_shown
ghost-open_shown g a = image_behind g.F.Files.known (g.F.Files.state a._files.now).seen.image a.parts
