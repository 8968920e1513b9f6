-- `window::Window::read` meets its contract: where the least of the three is 0, no byte is put into the buffer.
use Rattle.std.proofs.Common.{◌≡◌, ℕ, ◌+◌, length, sym, ap, ◌∙◌, arith}
use Rattle.endian.specs.Bytes.{put, span}
use Rattle.endian.specs.Laws.Stored.{put-none}
use Rattle.window.specs.Window.{count_of}
use Rattle.window.proofs.Window.read.Goals as goal

pub returns-then-count-eq0-clause-buffer : goal.returns-then-count-eq0-clause-buffer
returns-then-count-eq0-clause-buffer c =
    let w = c.args.self in
    let image = c.args.image.now in
    let buf = c.args.buf.now in
    let e : 0 ≡ count_of w (length image) (length buf) = omega arith in
    sym (put-none buf 0) ∙ ap (λ (k : ℕ). put buf 0 (span image (w.start + w.position) k)) e
