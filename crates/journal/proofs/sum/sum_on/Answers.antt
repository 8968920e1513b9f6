-- `sum::sum_on` meets its contract: one byte more at each turn.
use Rattle.std.proofs.Common.{◌+◌, ◌*◌, ◌%◌, ◌^◌, ◌≡◌, ℕ, get_or, drop, sym, ◌∙◌, ap, arith}
use Rattle.std.proofs.lemmas.List.{at_drop_more, at_drop_all}
use Rattle.journal.specs.Journal.{sum_from}
use Rattle.journal.proofs.sum.sum_on.Goals as goal

-- the two steps of the program are one
both-wrap : (n b : ℕ) → (n % 2 ^ 64 + (b + 1)) % 2 ^ 64 ≡ (n + b + 1) % 2 ^ 64
both-wrap n b = omega arith

pub loop-byte-preserved : goal.loop-byte-preserved
unfolding sum_from
loop-byte-preserved c =
    let byte : ℕ = get_or c.args.bytes.now c.loop-byte.byte-index 0 in
    ap (λ (n : ℕ). sum_from n (drop (c.loop-byte.byte-index + 1) c.args.bytes.now)) (both-wrap (c.loop-byte.next * 0x9E3779B97F4A7C15) byte)
    ∙ sym (at_drop_more (sum_from c.loop-byte.next) c.args.bytes.now c.loop-byte.byte-index 0 c.loop-byte-test.true)
    ∙ c.loop-byte.invariant

pub returns : goal.returns
unfolding sum_from
returns c = sym (at_drop_all (sum_from c.loop-byte.next) c.args.bytes.now c.loop-byte.byte-index c.loop-byte-test.false) ∙ c.loop-byte.invariant
