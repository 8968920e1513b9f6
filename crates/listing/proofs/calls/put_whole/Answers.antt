-- `listing::calls::put_whole` meets its contract: the text is measured before it is written.
use Rattle.std.proofs.Common.{rules, arith}
use Rattle.listing.proofs.Answers.{fits-short, fits-whole}
use Rattle.listing.proofs.calls.put_whole.Goals as goal

pub returns-then-text-size : goal.returns-then-text-size
returns-then-text-size g c =
    λ bs h.
    let a = h _ _ c.put.ensures in
    fits-short c.args.text.now (rw c.new-measured.ensures.len at a.wrote) (omega arith) c.if-text-size.true

pub returns : goal.returns
returns g c =
    λ bs h.
    let a = h _ _ c.put.ensures in
    let b = h _ _ c.put-2.ensures in
    let f = fits-whole c.args.text.now (rw c.new-measured.ensures.len at a.wrote) (omega arith) c.if-text-size.false (rw (c.new-whole.ensures.bytes, c.new-whole.ensures.len) at b.wrote) in
    record { size_is = f.size_is; text_after = search rules }
