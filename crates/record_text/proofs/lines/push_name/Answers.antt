-- `record_text::lines::push_name` meets its contract, by whether there is a name.
use Rattle.std.proofs.Common.{sym, ◌∙◌}
use Rattle.std.proofs.lemmas.Bool.{eqb-true, eqb-false}
use Rattle.listing.proofs.Joining.{appends-none, appends-join, appends-as}
use Rattle.record_text.proofs.TextLaws.{unnamed, named-part}
use Rattle.record_text.proofs.lines.push_name.Goals as goal

pub returns-then-is_empty : goal.returns-then-is_empty
returns-then-is_empty c = appends-as (appends-none c.args.text.now) (sym (unnamed c.args.name.now (eqb-true _ _ (sym c.is_empty.ensures ∙ c.if-is_empty.true))))

pub returns : goal.returns
returns c = appends-as (appends-join c.push_bytes.ensures c.push_bytes-2.ensures) (named-part c.args.name.now (eqb-false _ _ (sym c.is_empty.ensures ∙ c.if-is_empty.false)))
