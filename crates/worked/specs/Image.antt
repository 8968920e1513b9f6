-- The small master, byte by byte (FORMAT, The small master): 0x2000 bytes, 0 where nothing is put. Assumes
-- nothing: these are definitions.
use Rattle.std.specs.Prelude.{ℕ, List, [], ◌∷◌, replicate}
use Rattle.endian.specs.Bytes.{be32_bytes, put}
use Rattle.header.specs.Fields.{gcn_magic_field, fst_offset_field, fst_size_field, user_size_field}
use Rattle.header.specs.Verdicts.{gcn_magic}

-- the root, the file `a` at 0x500 of 0x100 bytes, and the texts
abbrev pub master_table : List ℕ
master_table = 1 ∷ 0 ∷ 0 ∷ 0 ∷ 0 ∷ 0 ∷ 0 ∷ 0 ∷ 0 ∷ 0 ∷ 0 ∷ 2 ∷ 0 ∷ 0 ∷ 0 ∷ 0 ∷ 0 ∷ 0 ∷ 5 ∷ 0 ∷ 0 ∷ 0 ∷ 1 ∷ 0 ∷ 0x61 ∷ 0 ∷ []

unfoldable pub master : List ℕ
master =
    put (put (put (put (put (replicate 0x2000 0) gcn_magic_field.at (be32_bytes gcn_magic)) fst_offset_field.at (be32_bytes 0x440)) fst_size_field.at (be32_bytes 0x1A)) user_size_field.at (be32_bytes 0x2000)) 0x440 master_table

-- the working words that the listing program lends, and as many working bytes as the table has
abbrev pub master_words : ℕ
master_words = 16384

abbrev pub master_bytes : ℕ
master_bytes = 0x1A
