-- `TextBuffer::push_bytes` meets its contract: all bytes where there is room, or as many as there is room for.
use Rattle.std.proofs.Common.{refl, arith, length, min, ◌+◌, ◌-◌, ◌^◌, ◌≡◌}
use Rattle.endian.specs.Laws.Stored.{length-put, length-span}
use Rattle.listing.proofs.Joining.{wrote-whole, wrote-cut, wrote-past}
use Rattle.listing.proofs.buffer.TextBuffer.push_bytes.Goals as goal
use Rattle.listing.proofs.buffer.TextBuffer.push_bytes.Goals.{then-start-self+then-bytes-room, then-start-self+else-bytes-room, else-start-self}

pub returns : goal.returns
returns c =
    let t = c.args.self.now in
    let text = t.bytes.now in
    let bs = c.args.bytes.now in
    let stop : min c.saturating_add-self.result (2 ^ 63) ≡ min (t.len + length bs) (2 ^ 63) = omega (arith, c.saturating_add-self.ensures) in
    elim c.if-start-self.branch [
      | then-start-self+then-bytes-room w ↦ rw w.self-is (record {
        wrote = wrote-whole text t.len bs _ stop _ w.copy.ensures;
        long = rw w.copy.ensures (length-put text t.len _ (omega (arith, length-span bs 0 (length bs) (omega arith), w.if-start-self.true, w.if-bytes-room.true)));
        same_reference = refl;
      })
      | then-start-self+else-bytes-room w ↦ rw w.self-is (record {
        wrote = wrote-cut text t.len bs _ stop _ (omega (arith, w.if-bytes-room.false));
        long = rw w.copy-else-bytes-room.ensures (length-put text t.len _ (omega (arith, length-span bs 0 (length text - t.len) (omega (arith, w.if-bytes-room.false)), w.if-start-self.true)));
        same_reference = refl;
      })
      | else-start-self w ↦ rw w.self-is (record { wrote = wrote-past text t.len bs _ stop w.if-start-self.false; long = refl; same_reference = refl })
    ]
