-- `Ends::text_length` meets its contract: an end that is kept is that of the text at its block's start, and a text longer than a block tells the
-- next block's.
use native.Mathlib.Omega.{arith}
use Prim.Native.Nat.{ℕ, ◌+◌, ◌/◌}
use mathlib.Core.Path.{ap}
use Rattle.table.proofs.Lengths.{ends-turn}
use Rattle.table.proofs.rows.Ends.text_length.Goals as goal

pub invariant_of-self : goal.invariant_of-self
invariant_of-self c =
    let e = rw c.bytes-bytes.ensures.bytes at c.text_length-size.ensures in
    let s = c.args.self.now in
    record {
      small = s.small;
      ends_in = ends-turn _ _ c.args.at (c.args.at / 4096 + 1) _ s.ends_in (omega arith) (omega arith) (omega arith) (ap (λ (n : ℕ). c.args.at + n) e);
    }
