-- Texts written one behind the other into a buffer that may be too short. Assumes nothing: these are definitions.
use Rattle.std.specs.Prelude.{ℕ, ◌+◌, ◌<◌, ◌≤◌, ◌^◌, min, ◌≡◌, List, length}
use Rattle.endian.specs.Bytes.{put}
use Rattle.listing.specs.declared.buffer.TextBuffer.{TextBuffer}

-- bs behind `at`: where they end, and the buffer with them if they fit. No buffer has 2 ^ 63 bytes, so ends from there on are all the same
pub record Wrote (text text' : List ℕ) (at : ℕ) (bs : List ℕ) (end : ℕ) : Type 0 where
  pub stop : min end (2 ^ 63) ≡ min (at + length bs) (2 ^ 63)
  pub laid : at + length bs ≤ length text → at + length bs < 2 ^ 63 → text' ≡ put text at bs

-- bs behind the text that a buffer held, over the same bytes
pub record Appends (old new : TextBuffer) (bs : List ℕ) : Type 0 where
  pub wrote : Wrote old.bytes.now new.bytes.now old.len bs new.len
  pub long : length new.bytes.now ≡ length old.bytes.now
  pub same_reference : new.bytes.ghost_name ≡ old.bytes.ghost_name
