-- `listing::calls::write_refused` meets its contract: no length where there is no room.
use Rattle.std.proofs.Common.{rules, ◌∙◌}
use Rattle.listing.specs.Listing.{refused_text}
use Rattle.listing.proofs.Answers.{size-told}
use Rattle.listing.proofs.calls.write_refused.Goals as goal

pub returns-clause-answer : goal.returns-clause-answer
returns-clause-answer c = c.unwrap_or.ensures ∙ size-told _ (refused_text c.args.cause) _ (c.put_whole.ensures (refused_text c.args.cause) (λ t t' p. search rules)).size_is
