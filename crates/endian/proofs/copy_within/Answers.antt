-- `endian::copy_within` meets its contract: the bytes go down, or the spans are apart, or the bytes go up.
use Rattle.std.proofs.Common.{◌≤◌, ◌+◌, ◌-◌, ◌⊎◌, inl, inr, arith}
use Rattle.endian.proofs.Parts.{down-start, down-turn, up-start, up-turn}
use Rattle.endian.proofs.copy_within.Goals as goal
use Rattle.endian.proofs.copy_within.Goals.{then-to-from, else-to-from}

pub loop-k-init : goal.loop-k-init
loop-k-init c = down-start c.args.s.now c.args.from c.args.to c.args.n c.requires.target

pub loop-k-preserved : goal.loop-k-preserved
loop-k-preserved c =
    let a = c.args in
    let l = c.loop-k in
    let way : (a.to ≤ a.from) ⊎ (a.from + a.n ≤ a.to) = elim c.if-to-from.branch [ then-to-from w ↦ inl (omega arith) | else-to-from w ↦ inr (grind arith) ] in
    down-turn a.s.now a.from a.to a.n c.requires.target l.s _ l.k c.copy_part.ensures (omega arith) l.invariant c.requires.source way

pub loop-k-else-n-to-init : goal.loop-k-else-n-to-init
loop-k-else-n-to-init c = up-start c.args.s.now c.args.from c.args.to c.args.n c.requires.target c.div_ceil-parts.result (omega arith)

pub loop-k-else-n-to-preserved : goal.loop-k-else-n-to-preserved
loop-k-else-n-to-preserved c =
    let a = c.args in
    let l = c.loop-k-else-n-to in
    let up : a.from ≤ a.to = elim c.if-to-from.branch [ then-to-from w ↦ grind arith | else-to-from w ↦ omega arith ] in
    up-turn a.s.now a.from a.to a.n c.requires.target l.s _ (l.k - 1) c.copy_part-in-loop-k-else-n-to.ensures (omega arith) l.k (omega arith) l.invariant up
