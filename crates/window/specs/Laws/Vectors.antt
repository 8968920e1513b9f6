-- P12 and the boundaries 0, 2^63 and 2^64 - 1, by computing. The window is that of the file `a` of the small master,
-- 0x100 bytes at 0x500, or one that starts at 0. `negsuc n` is the distance -(n + 1). Assumes nothing.
use Rattle.std.specs.Prelude.{◌≡◌, ℕ, ◌+◌, ◌-◌, ◌^◌, [], ◌∷◌, pos, negsuc, refl, Ok, Err}
use Rattle.endian.specs.Bytes.{put}
use Rattle.refusal.specs.declared.Refusal.TheVariants.{InvalidSeek}
use Rattle.refusal.specs.Refusal.{number_of}
use Rattle.window.specs.declared.Window.{Window}
use Rattle.std.specs.declared.io.SeekFrom.TheVariants.{Start, Current, End}
use Rattle.window.specs.Window.{seek_of, read_of, buffer_of}

abbrev pub window_of_a : ℕ → Window
window_of_a p = record { start = 0x500; len = 0x100; position = p }

-- P12
pub p12 : (seek_of (window_of_a 0) (Current (negsuc 0)) ≡ Err InvalidSeek) × (number_of InvalidSeek ≡ 23)
p12 = (refl, refl)

-- one byte further on it succeeds
pub back-to-the-start : seek_of (window_of_a 1) (Current (negsuc 0)) ≡ Ok (window_of_a 0)
back-to-the-start = refl

pub last_byte : seek_of (window_of_a 7) (End (negsuc 0)) ≡ Ok (window_of_a 0xFF)
last_byte = refl

-- past the end is a position too
pub past_the_end : seek_of (window_of_a 7) (End (pos 5)) ≡ Ok (window_of_a 0x105)
past_the_end = refl

-- from start: 0, 2^63, the last position, and the first that is refused
pub start-0 : seek_of (window_of_a 7) (Start 0) ≡ Ok (window_of_a 0)
start-0 = refl

pub start-2^63 : seek_of (window_of_a 7) (Start (2 ^ 63)) ≡ Ok (window_of_a (2 ^ 63))
start-2^63 = refl

pub farthest : seek_of (window_of_a 0) (Start (2 ^ 64 - 0x501)) ≡ Ok (window_of_a (2 ^ 64 - 0x501))
farthest = refl

pub too_far : seek_of (window_of_a 0) (Start (2 ^ 64 - 0x500)) ≡ Err InvalidSeek
too_far = refl

-- a window that starts at 0 goes up to 2^64 - 1
pub last-position : seek_of (record { start = 0; len = 8; position = 0 }) (Start (2 ^ 64 - 1)) ≡ Ok (record { start = 0; len = 8; position = 2 ^ 64 - 1 })
last-position = refl

pub around : seek_of (record { start = 0; len = 8; position = 2 ^ 64 - 1 }) (Current (pos 1)) ≡ Ok (record { start = 0; len = 8; position = 0 })
around = refl

-- the least distance of 64 bits, -2^63, and the largest
pub least-distance : seek_of (window_of_a 0) (End (negsuc (2 ^ 63 - 1))) ≡ Ok (window_of_a (2 ^ 63 + 0x100))
least-distance = refl

pub largest-distance : seek_of (window_of_a 1) (Current (pos (2 ^ 63 - 1))) ≡ Ok (window_of_a (2 ^ 63))
largest-distance = refl

-- current with distance 0 succeeds even where start + position passes 2^64 - 1, and such a window reads nothing
pub stays : seek_of (window_of_a (2 ^ 64 - 1)) (Current (pos 0)) ≡ Ok (window_of_a (2 ^ 64 - 1))
stays = refl

pub reads_nothing : read_of (record { start = 0x500; len = 2 ^ 64 - 1; position = 2 ^ 64 - 2 }) 0x2000 8 ≡ record { count = 0; window = record { start = 0x500; len = 2 ^ 64 - 1; position = 2 ^ 64 - 2 } }
reads_nothing = refl

-- two bytes are left in the window, and the rest of the buffer stays
pub two-left : buffer_of (record { start = 1; len = 4; position = 2 }) (10 ∷ 11 ∷ 12 ∷ 13 ∷ 14 ∷ 15 ∷ []) (7 ∷ 7 ∷ 7 ∷ []) ≡ 13 ∷ 14 ∷ 7 ∷ []
unfolding put
two-left = refl
