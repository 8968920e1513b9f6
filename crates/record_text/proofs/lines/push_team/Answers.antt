-- `record_text::lines::push_team` meets its contract: eight texts, one behind the other.
use Rattle.listing.proofs.Joining.{appends-join}
use Rattle.record_text.proofs.lines.push_team.Goals as goal

pub returns : goal.returns
returns c =
    let numbers = appends-join (appends-join (appends-join c.push_named.ensures c.push_bytes.ensures) c.push_limit.ensures) c.push_named-2.ensures in
    appends-join (appends-join (appends-join (appends-join numbers c.push_named-3.ensures) c.push_named-4.ensures) c.push_name.ensures) c.push.ensures
