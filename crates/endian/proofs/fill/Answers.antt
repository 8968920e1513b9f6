-- `endian::fill` meets its contract: what the part of the slice holds afterwards is the byte, n times.
use Rattle.std.proofs.Common.{◌∙◌, ap, length, replicate, ℕ}
use Rattle.std.proofs.Math.ListN.{length-replicate}
use Rattle.endian.specs.Laws.Stored.{length-span}
use Rattle.endian.proofs.Parts.{part-put, part-span}
use Rattle.endian.proofs.fill.Goals as goal

pub returns : goal.returns
returns c =
    let a = c.args in
    let n = ap length (part-span a.s.now a.at a.n) ∙ length-span a.s.now a.at a.n c.requires in
    part-put a.s.now _ _ a.at a.n (c.fill.ensures.after (λ y e. e) ∙ ap (λ (k : ℕ). replicate k a.b) n) (length-replicate a.n a.b)
