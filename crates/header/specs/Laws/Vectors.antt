-- The edges of the header's refusals, by computing. Assumes nothing.
use Rattle.std.specs.Prelude.{Ok, Err}
use Rattle.std.specs.Prelude.{ℕ, ◌≡◌, refl, List, [], ◌∷◌, ◌++◌, replicate, take}
use Rattle.endian.specs.Bytes.{be32, be32_bytes}
use Rattle.refusal.specs.declared.Refusal.TheVariants.{HeaderPastImage, WiiNotSupported, InvalidMagic, InvalidBounds}
use Rattle.header.specs.Fields.{fields}
use Rattle.header.specs.Verdicts.{field_verdict, all_fields_verdict, header_verdict, bounds_verdict, user_size, disc_size}

abbrev zeros : ℕ → List ℕ
zeros n = replicate n 0

-- the two magics, byte for byte
abbrev gamecube : List ℕ
gamecube = 0xC2 ∷ 0x33 ∷ 0x9F ∷ 0x3D ∷ []

abbrev wii : List ℕ
wii = 0x5D ∷ 0x1C ∷ 0x9E ∷ 0xA3 ∷ []

-- 0x440 bytes that pass: the GameCube magic, and zeros
abbrev good : List ℕ
good = zeros 0x1C ++ (gamecube ++ zeros 0x420)

-- ---- 1, 2 and 3, field by field

bytes-1B : header_verdict (zeros 0x1B) ≡ Err HeaderPastImage
unfolding fields field_verdict all_fields_verdict header_verdict be32
bytes-1B = refl

bytes-1C-wii : header_verdict (zeros 0x18 ++ wii) ≡ Err WiiNotSupported
unfolding fields field_verdict all_fields_verdict header_verdict be32
bytes-1C-wii = refl

bytes-1F : header_verdict (take 0x1F good) ≡ Err HeaderPastImage
unfolding fields field_verdict all_fields_verdict header_verdict be32
bytes-1F = refl

bytes-20-zero : header_verdict (zeros 0x20) ≡ Err InvalidMagic
unfolding fields field_verdict all_fields_verdict header_verdict be32
bytes-20-zero = refl

bytes-43F : header_verdict (take 0x43F good) ≡ Err HeaderPastImage
unfolding fields field_verdict all_fields_verdict header_verdict be32
bytes-43F = refl

bytes-440 : header_verdict good ≡ Ok tt
unfolding fields field_verdict all_fields_verdict header_verdict be32
bytes-440 = refl

-- ---- 4: FST offset, FST size, user size and disc size of an image of 0x441 bytes

disc : ℕ → ℕ → ℕ → ℕ → List ℕ
disc offset size user rest = zeros 0x424 ++ (be32_bytes offset ++ (be32_bytes size ++ (zeros 8 ++ (be32_bytes user ++ (be32_bytes rest ++ zeros 5)))))

-- which of the two sizes is which
sizes : (user_size (disc 0x440 0 0x400 0x40) ≡ 0x400) × (disc_size (disc 0x440 0 0x400 0x40) ≡ 0x40)
unfolding be32 disc
sizes = (refl, refl)

-- an image longer than the disc end is fine
shorter-disc : bounds_verdict (disc 0x440 0 0x400 0x40) ≡ Ok tt
unfolding bounds_verdict be32 disc
shorter-disc = refl

table-in-header : bounds_verdict (disc 0x43F 0 0x440 0) ≡ Err InvalidBounds
unfolding bounds_verdict be32 disc
table-in-header = refl

-- the sum of both sizes is 2^32 + 0x440, which 32 bits would give back as 0x440
disc-end-wraps : bounds_verdict (disc 0x440 0 0xFFFFFFFF 0x441) ≡ Err InvalidBounds
unfolding bounds_verdict be32 disc
disc-end-wraps = refl

-- inside the image, and past the disc end
table-past-disc : bounds_verdict (disc 0x440 1 0x440 0) ≡ Err InvalidBounds
unfolding bounds_verdict be32 disc
table-past-disc = refl

short-image : bounds_verdict (disc 0x440 0 0x442 0) ≡ Err InvalidBounds
unfolding bounds_verdict be32 disc
short-image = refl
