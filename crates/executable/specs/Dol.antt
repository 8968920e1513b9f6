-- The DOL header (FORMAT, The program), and the file size that it tells.
use Rattle.refusal.specs.Refusal.{Verdict, refuse}
use Rattle.refusal.specs.declared.Refusal.{Refusal}
use Rattle.std.specs.Prelude.{ℕ, zero, suc, ◌+◌, ◌-◌, ◌^◌, max, List, [], ◌∷◌, length, replicate, Result, Ok, nat_lt}
use Rattle.std.specs.Result.{result_and}
use Rattle.endian.specs.Bytes.{be32}
use Rattle.refusal.specs.declared.Refusal.TheVariants.{InvalidDol}
use Rattle.executable.specs.declared.dol.DolHeader.{DolHeader}
use Rattle.executable.specs.declared.dol.DolAnswer.{DolAnswer}

-- the n fields of 4 bytes from `at` on
unfoldable pub words_at : List ℕ → ℕ → ℕ → List ℕ
words_at s at zero = []
words_at s at (suc n) = be32 s at ∷ words_at s (at + 4) n

-- the header at `at`
abbrev pub dol_header_of : List ℕ → ℕ → DolHeader
dol_header_of s at = record {
  text_offsets = words_at s at 7;
  data_offsets = words_at s (at + 0x1C) 11;
  text_addresses = words_at s (at + 0x48) 7;
  data_addresses = words_at s (at + 0x64) 11;
  text_sizes = words_at s (at + 0x90) 7;
  data_sizes = words_at s (at + 0xAC) 11;
  bss_address = be32 s (at + 0xD8);
  bss_size = be32 s (at + 0xDC);
  entry_point = be32 s (at + 0xE0);
}

-- the largest offset + size, pair by pair
unfoldable pub largest_of : List ℕ → List ℕ → ℕ
largest_of [] ss = 0
largest_of (o ∷ os) [] = 0
largest_of (o ∷ os) (s ∷ ss) = max (o + s) (largest_of os ss)

-- where the last section ends; empty ones count too
abbrev pub file_size_of : DolHeader → ℕ
file_size_of h = max (largest_of h.text_offsets h.text_sizes) (largest_of h.data_offsets h.data_sizes)

-- a header past the image's end, or a sum above 2^32 - 1: there is one just where the largest is
abbrev pub dol_verdict_of : List ℕ → ℕ → Verdict
dol_verdict_of s at = refuse (nat_lt (length s) (at + 0xE4)) InvalidDol (refuse (nat_lt (2 ^ 32 - 1) (file_size_of (dol_header_of s at))) InvalidDol (Ok tt))

-- a header of zeros
abbrev pub new_header : DolHeader
new_header = record {
  text_offsets = replicate 7 0;
  data_offsets = replicate 11 0;
  text_addresses = replicate 7 0;
  data_addresses = replicate 11 0;
  text_sizes = replicate 7 0;
  data_sizes = replicate 11 0;
  bss_address = 0;
  bss_size = 0;
  entry_point = 0;
}

-- the header and its file size
abbrev pub dol_answer_of : List ℕ → ℕ → Result DolAnswer Refusal
dol_answer_of s at =
    let h = dol_header_of s at in
    result_and (dol_verdict_of s at) (Ok (record { header = h; size = file_size_of h }))

-- the file size alone, by the same verdict
abbrev pub dol_size_of : List ℕ → ℕ → Result ℕ Refusal
dol_size_of s at = result_and (dol_verdict_of s at) (Ok (file_size_of (dol_header_of s at)))
