-- `journaled::any_events` meets its contract: the theorem is proved in proofs/Laws/AnyEvents.
use Rattle.journaled.proofs.Laws.AnyEvents.{any-events}
use Rattle.journaled.proofs.theorems.any_events.Goals as goal

pub returns : goal.returns
returns c = any-events
