-- `noting::set_numbers` meets its contract: one number more at each turn.
use Rattle.std.proofs.Common.{◌+◌, ◌*◌, sym, ◌∙◌, ap, List, ℕ, get_or, arith}
use Rattle.endian.specs.Bytes.{put}
use Rattle.endian.specs.Laws.Stored.{put-none}
use Rattle.journal.specs.Inner.Noted.{number_bytes, bytes_of}
use Rattle.journal.proofs.Numbers.{put-bytes_of_more}
use Rattle.journal.proofs.noting.set_numbers.Goals as goal

pub loop-k-init : goal.loop-k-init
unfolding bytes_of
loop-k-init c = sym (put-none c.args.head.now c.args.at)

pub loop-k-preserved : goal.loop-k-preserved
loop-k-preserved c =
    let a = c.args in
    c.set_number.ensures
    ∙ ap (λ (h : List ℕ). put h (a.at + 8 * c.loop-k.k) (number_bytes (get_or a.numbers.now c.loop-k.k 0))) c.loop-k.invariant
    ∙ put-bytes_of_more a.head.now a.at a.numbers.now c.loop-k.k (omega arith) c.loop-k-test.true
