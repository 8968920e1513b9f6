-- Headers by computing: sums at 2^32 - 1 and at 2^32, and a header that ends at the image's end and one byte past it. Assumes nothing.
use Rattle.std.specs.Prelude.{◌≡◌, refl, List, [], ◌∷◌, ◌++◌, ℕ, replicate, Ok, Err}
use Rattle.endian.specs.Bytes.{be32}
use Rattle.refusal.specs.declared.Refusal.TheVariants.{InvalidDol}
use Rattle.refusal.specs.Refusal.{number_of}
use Rattle.executable.specs.Dol.{words_at, dol_header_of, largest_of, new_header, dol_answer_of}

-- the first text section's offset and size, all else 0
abbrev file : List ℕ → List ℕ → List ℕ
file offset size = offset ++ (replicate 0x8C 0 ++ (size ++ replicate 0x50 0))

abbrev small_file : List ℕ
small_file = file (0 ∷ 0 ∷ 1 ∷ 0 ∷ []) (0 ∷ 0 ∷ 0 ∷ 0x23 ∷ [])

pub small : dol_answer_of small_file 0 ≡ Ok (record { header = dol_header_of small_file 0; size = 0x123 })
unfolding be32 words_at largest_of
small = refl

abbrev largest_file : List ℕ
largest_file = file (0xFF ∷ 0xFF ∷ 0xFF ∷ 0xFE ∷ []) (0 ∷ 0 ∷ 0 ∷ 1 ∷ [])

pub largest_size : dol_answer_of largest_file 0 ≡ Ok (record { header = dol_header_of largest_file 0; size = 0xFFFFFFFF })
unfolding be32 words_at largest_of
largest_size = refl

pub too_large : (dol_answer_of (file (0xFF ∷ 0xFF ∷ 0xFF ∷ 0xFF ∷ []) (0 ∷ 0 ∷ 0 ∷ 1 ∷ [])) 0 ≡ Err InvalidDol) × (number_of InvalidDol ≡ 24)
unfolding be32 words_at largest_of
too_large = (refl, refl)

-- the header is whole in 0xE4 bytes, and not in 0xE3
pub whole : dol_answer_of (replicate 0xE4 0) 0 ≡ Ok (record { header = new_header; size = 0 })
unfolding be32 words_at largest_of
whole = refl

pub short : dol_answer_of (replicate 0xE3 0) 0 ≡ Err InvalidDol
unfolding be32 words_at largest_of
short = refl

pub shifted : dol_answer_of (replicate 0xE4 0) 1 ≡ Err InvalidDol
unfolding be32 words_at largest_of
shifted = refl
