-- `maximum::check_opening` meets its contract: an image that opens has a whole header.
use Rattle.std.proofs.Common.{arith}
use Rattle.journaled.proofs.Accounts.{long_opened}
use Rattle.journaled.proofs.maximum.check_opening.Goals as goal

pub returns-clause-long : goal.returns-clause-long
returns-clause-long g c = omega (arith, long_opened _ _ c.in_ok-open_behind.ensures.0.known, c.requires.head.long_is)
