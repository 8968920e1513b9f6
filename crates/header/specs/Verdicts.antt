-- The header's refusals: as its fields are read in order, and for the places that it gives.
use Rattle.std.specs.Prelude.{Ok, ◌==◌, nat_lt}
use Rattle.refusal.specs.Refusal.{Verdict}
use Rattle.std.specs.Prelude.{ℕ, ◌+◌, ◌-◌, ◌^◌, ◌&&◌, not, List, [], ◌∷◌, length}
use Rattle.endian.specs.Bytes.{be32}
use Rattle.refusal.specs.declared.Refusal.TheVariants.{HeaderPastImage, WiiNotSupported, InvalidMagic, InvalidBounds}
use Rattle.refusal.specs.Refusal.{refuse, first}
use Rattle.header.specs.declared.fields.Field.{Field}
use Rattle.header.specs.Fields.{fields, wii_magic_field, gcn_magic_field, dol_offset_field, fst_offset_field, fst_size_field, fst_max_size_field, user_size_field, disc_size_field}

abbrev pub gcn_magic : ℕ
gcn_magic = 0xC2339F3D

abbrev pub wii_magic : ℕ
wii_magic = 0x5D1C9EA3

-- the number in a field of 4 bytes
abbrev pub word_of : Field → List ℕ → ℕ
word_of f image = be32 image f.at

-- a field past the image, the Wii's magic, another magic than the GameCube's: the tests made as a field is read
unfoldable pub field_verdict : List ℕ → Field → Verdict
field_verdict image f =
    refuse (nat_lt (length image) (f.at + f.len)) HeaderPastImage
    (refuse (f.at == wii_magic_field.at && word_of f image == wii_magic) WiiNotSupported
    (refuse (f.at == gcn_magic_field.at && not (word_of f image == gcn_magic)) InvalidMagic
    (Ok tt)))

-- the fields in order, so that the Wii's magic is tested before the GameCube's
unfoldable pub all_fields_verdict : List ℕ → List Field → Verdict
all_fields_verdict image [] = Ok tt
all_fields_verdict image (f ∷ fs) = first (field_verdict image f) (all_fields_verdict image fs)

unfoldable pub header_verdict : List ℕ → Verdict
header_verdict image = all_fields_verdict image fields

-- ---- what the header says of the disc

abbrev pub dol_offset : List ℕ → ℕ
dol_offset image = word_of dol_offset_field image

abbrev pub fst_offset : List ℕ → ℕ
fst_offset image = word_of fst_offset_field image

abbrev pub fst_size : List ℕ → ℕ
fst_size image = word_of fst_size_field image

-- the most bytes that the table may have
abbrev pub fst_max_size : List ℕ → ℕ
fst_max_size image = word_of fst_max_size_field image

abbrev pub user_size : List ℕ → ℕ
user_size image = word_of user_size_field image

abbrev pub disc_size : List ℕ → ℕ
disc_size image = word_of disc_size_field image

abbrev pub disc_end : List ℕ → ℕ
disc_end image = user_size image + disc_size image

abbrev pub table_end : List ℕ → ℕ
table_end image = fst_offset image + fst_size image

-- the table begins inside the header, or the disc ends past 2^32 - 1, before its table does, or past the image's end
unfoldable pub bounds_verdict : List ℕ → Verdict
bounds_verdict image =
    refuse (nat_lt (fst_offset image) 0x440) InvalidBounds
    (refuse (nat_lt (2 ^ 32 - 1) (disc_end image)) InvalidBounds
    (refuse (nat_lt (disc_end image) (table_end image)) InvalidBounds
    (refuse (nat_lt (length image) (disc_end image)) InvalidBounds
    (Ok tt))))
