-- `record_text::put` meets its contract: what was written stands in front, if it is no longer than the text that is lent.
use Rattle.std.proofs.Common.{rules, arith, ◌≡◌, take}
use Rattle.listing.proofs.Joining.{appends-first}
use Rattle.record_text.specs.Text.{record_text}
use Rattle.record_text.proofs.put.Goals as goal

pub returns-clause-put : goal.returns-clause-put
returns-clause-put c =
    let n = c.new-written.ensures in
    let written : take c.push_record.new.text.len c.push_record.new.text.bytes.now ≡ record_text c.args.teams.now c.args.totals.now =
    appends-first _ _ _ c.push_record.ensures n.len (rw n.bytes (omega arith)) (rw n.bytes c.if-room-len.false) in
    search rules
