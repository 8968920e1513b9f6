-- `ledger::teams_served` meets its contract: the theorem is proved in proofs/Laws/TeamsServed.
use Rattle.ledger.proofs.Laws.TeamsServed.{teams-served}
use Rattle.ledger.proofs.teams_served.Goals as goal

pub returns : goal.returns
returns c = teams-served
