-- `endian::same` meets its contract: the parts that are compared are the spans.
use Rattle.std.proofs.Common.{◌≡◌, ◌+◌, ◌-◌, take, drop, ◌∙◌}
use Rattle.endian.specs.Bytes.{are_same_bytes}
use Rattle.endian.proofs.Parts.{part-span}
use Rattle.endian.proofs.Compared.{pointwise-same}
use Rattle.endian.proofs.same.Goals as goal

pub returns : goal.returns
returns c =
    let a = c.args in
    let e : c.eq.result ≡ are_same_bytes (take (a.at + a.n - a.at) (drop a.at a.a.now)) (take (a.start + a.n - a.start) (drop a.start a.b.now)) = c.eq.ensures ∙ pointwise-same _ _ in
    rw (part-span a.a.now a.at a.n, part-span a.b.now a.start a.n) at e
