-- A window on an image: its start, its length, and a position in it.
use Rattle.refusal.specs.declared.Refusal.{Refusal}
use Rattle.std.specs.Prelude.{ℕ, zero, suc, ◌+◌, ◌-◌, ◌%◌, ◌^◌, min, List, length, ℤ, pos, negsuc, if◌then◌else◌, nat_lt, Result, Ok, Err}
use Rattle.std.specs.Result.{result_unwrap_or}
use Rattle.endian.specs.Bytes.{put, span}
use Rattle.refusal.specs.declared.Refusal.TheVariants.{InvalidSeek}
use Rattle.window.specs.declared.Window.{Window}
use Rattle.std.specs.declared.io.SeekFrom.{SeekFrom}
use Rattle.std.specs.declared.io.SeekFrom.TheVariants.{Start, Current, End}
use Rattle.window.specs.declared.BytesRead.{BytesRead}
use Rattle.window.specs.declared.SoughtAndRead.{SoughtAndRead}

-- a window on `len` bytes from `start` on, at its first byte
abbrev pub new_window : ℕ → ℕ → Window
new_window start len = record { start = start; len = len; position = 0 }

-- the same part, at the position p
abbrev pub moved_window : Window → ℕ → Window
moved_window w p = record { start = w.start; len = w.len; position = p }

-- a distance as the number below 2^64 that stands for it modulo 2^64; `negsuc n` is -(n + 1)
abbrev pub distance : ℤ → ℕ
distance (pos n) = n
distance (negsuc n) = 2 ^ 64 - suc n

abbrev pub position_after : ℕ → ℤ → ℕ
position_after p d = (p + distance d) % 2 ^ 64

-- a seek to the position p, refused where start + position passes 2^64 - 1
abbrev pub window_at : Window → ℕ → Result Window Refusal
window_at w p = if nat_lt (2 ^ 64 - 1) (w.start + p) then Err InvalidSeek else Ok (moved_window w p)

-- the answer of a seek: from the current position by 0 it always succeeds
abbrev pub seek_of : Window → SeekFrom → Result Window Refusal
seek_of w (Start n) = window_at w n
seek_of w (Current (pos zero)) = Ok w
seek_of w (Current (pos (suc n))) = window_at w (position_after w.position (pos (suc n)))
seek_of w (Current (negsuc n)) = window_at w (position_after w.position (negsuc n))
seek_of w (End d) = window_at w (position_after w.len d)

-- how many bytes a read gives, of an image of `there` bytes, where `asked` are asked for: as many as the window and the image have left
abbrev pub count_of : Window → ℕ → ℕ → ℕ
count_of w there asked = min asked (min (w.len - w.position) (there - (w.start + w.position)))

-- the same part, n bytes further on
abbrev pub window_after_read : Window → ℕ → Window
window_after_read w n = moved_window w (w.position + n)

-- the answer of a read: the count, and the window moved by it
abbrev pub read_of : Window → ℕ → ℕ → BytesRead
read_of w there asked = record { count = count_of w there asked; window = window_after_read w (count_of w there asked) }

-- the buffer after a read: at its front the bytes of the image from start + position on
abbrev pub buffer_of : Window → List ℕ → List ℕ → List ℕ
buffer_of w image buf = put buf 0 (span image (w.start + w.position) (count_of w (length image) (length buf)))

-- ---- the same on a lent window, which is moved where it stands

-- the window after a seek: the one found, or with a refusal the one it was
abbrev pub window_after_seek : Window → Result Window Refusal → Window
window_after_seek w r = result_unwrap_or r w

-- a seek and then a read on one window
abbrev pub seek_read_of : Window → SeekFrom → ℕ → ℕ → SoughtAndRead
seek_read_of w to there asked = record { sought = seek_of w to; read = read_of (window_after_seek w (seek_of w to)) there asked }
