-- What the definitions of `Window` say, in plain numbers: a distance added, what a seek is judged by, and how far a read goes.
-- Assumes nothing.
use Rattle.std.specs.Prelude.{◌≡◌, ℕ, suc, ◌+◌, ◌-◌, ◌^◌, ◌<◌, ◌≤◌, List, length, pos, negsuc, slice_index, Ok, Err}
use Rattle.std.proofs.Common.{◌∙◌, arith, zero-add, length-take, length-drop, lt-ltb, le-ltb}
use Rattle.endian.specs.Bytes.{span}
use Rattle.endian.specs.Laws.Stored.{length-put, put_in, put-after, get_d-span}
use Rattle.refusal.specs.declared.Refusal.TheVariants.{InvalidSeek}
use Rattle.window.specs.declared.Window.{Window}
use Rattle.window.specs.Window.{moved_window, count_of, buffer_of, window_at, position_after}

-- a distance added modulo 2^64: forward and back, without and with a wrap; `negsuc n` is -(n + 1)
module _ (p : ℕ) (small : p < 2 ^ 64) where
  pub on : (n : ℕ) → p + n < 2 ^ 64 → position_after p (pos n) ≡ p + n
  on n h = omega arith

  pub on-around : (n : ℕ) → n < 2 ^ 63 → 2 ^ 64 ≤ p + n → position_after p (pos n) ≡ p + n - 2 ^ 64
  on-around n h k = omega arith

  pub back : (n : ℕ) → n < 2 ^ 63 → n < p → position_after p (negsuc n) ≡ p - suc n
  back n h k = omega arith

  pub back-around : (n : ℕ) → n < 2 ^ 63 → p ≤ n → position_after p (negsuc n) ≡ p + 2 ^ 64 - suc n
  back-around n h k = omega arith

-- a seek is judged by the sum of start and the new position
module _ (w : Window) (p : ℕ) where
  pub window_at-in : w.start + p < 2 ^ 64 → window_at w p ≡ Ok (moved_window w p)
  window_at-in h = let k : w.start + p ≤ 2 ^ 64 - 1 = omega arith in rw (le-ltb (2 ^ 64 - 1) (w.start + p))

  pub window_at-out : 2 ^ 64 ≤ w.start + p → window_at w p ≡ Err InvalidSeek
  window_at-out h = let k : 2 ^ 64 - 1 < w.start + p = omega arith in rw (lt-ltb (2 ^ 64 - 1) (w.start + p))

  -- a window that starts at 0 refuses no position
  pub from-0 : w.start ≡ 0 → p < 2 ^ 64 → window_at w p ≡ Ok (moved_window w p)
  from-0 e h = window_at-in (omega arith)

-- a read gives no more than was asked for, none past the window and none past the image, and stops only at one of the three
module _ (w : Window) (there asked : ℕ) where
  pub no_more : count_of w there asked ≤ asked
  no_more = omega arith

  pub in-the-window : w.position ≤ w.len → w.position + count_of w there asked ≤ w.len
  in-the-window h = omega arith

  pub in-the-image : w.start + w.position ≤ there → w.start + w.position + count_of w there asked ≤ there
  in-the-image h = omega arith

  -- past the window, or past the image
  pub past-the-window : w.len ≤ w.position → count_of w there asked ≡ 0
  past-the-window h = omega arith

  pub past-the-image : there ≤ w.start + w.position → count_of w there asked ≡ 0
  past-the-image h = omega arith

  -- so a window handed in with start + position above 2^64 - 1 reads nothing
  pub broken-reads-0 : there < 2 ^ 64 → 2 ^ 64 ≤ w.start + w.position → count_of w there asked ≡ 0
  broken-reads-0 h k = omega arith

-- the buffer after a read, byte by byte
module _ (w : Window) (image buf : List ℕ) where
  abbrev n : ℕ
  n = count_of w (length image) (length buf)

  abbrev part : List ℕ
  part = span image (w.start + w.position) n

  -- the image has as many bytes there as the read gives
  pub length_part : length part ≡ n
  length_part = rw length-take (rw length-drop (omega arith))

  fits : 0 + length part ≤ length buf
  fits = omega (arith, length_part)

  pub length-buffer : length (buffer_of w image buf) ≡ length buf
  length-buffer = length-put buf 0 part fits

  pub byte-read : (i : ℕ) → i < n → slice_index (buffer_of w image buf) i ≡ slice_index image (w.start + w.position + i)
  byte-read i h = rw (zero-add i) at (put_in buf 0 part fits i (rw length_part h)) ∙ get_d-span image (w.start + w.position) n i h

  pub byte-stays : (i : ℕ) → n ≤ i → slice_index (buffer_of w image buf) i ≡ slice_index buf i
  byte-stays i h = put-after buf 0 part fits i (omega (arith, length_part))
