-- The header as it is read, made and written.
use Rattle.refusal.specs.Refusal.{Verdict, refuse}
use Rattle.std.specs.Prelude.{ℕ, List, [], ◌∷◌, length, replicate, Result, Ok, if◌then◌else◌, nat_lt, slice_index}
use Rattle.std.specs.Result.{result_and}
use Rattle.endian.specs.Bytes.{be32_bytes, put, span}
use Rattle.refusal.specs.declared.Refusal.{Refusal}
use Rattle.refusal.specs.declared.Refusal.TheVariants.{HeaderPastImage}
use Rattle.header.specs.declared.fields.Field.{Field}
use Rattle.header.specs.declared.value.DiscHeader.{DiscHeader}
use Rattle.header.specs.Fields.{fields, game_code_field, maker_code_field, disc_id_field, version_field, audio_streaming_field, stream_buffer_size_field, unused00a_field, wii_magic_field, gcn_magic_field, game_name_field, debug_monitor_offset_field, debug_monitor_addr_field, unused408_field, dol_offset_field, fst_offset_field, fst_size_field, fst_max_size_field, user_position_field, user_size_field, disc_size_field, unused43c_field}
use Rattle.header.specs.Verdicts.{gcn_magic, word_of, header_verdict}

-- the bytes of a field, and the number in a field of 1 byte
abbrev pub bytes_of : Field → List ℕ → List ℕ
bytes_of f image = span image f.at f.len

abbrev pub byte_in : Field → List ℕ → ℕ
byte_in f image = slice_index image f.at

-- every field as the image has it
unfoldable pub header_of : List ℕ → DiscHeader
header_of image = record {
  game_code = bytes_of game_code_field image;
  maker_code = bytes_of maker_code_field image;
  disc_id = byte_in disc_id_field image;
  version = byte_in version_field image;
  audio_streaming = byte_in audio_streaming_field image;
  stream_buffer_size = byte_in stream_buffer_size_field image;
  unused_00a = bytes_of unused00a_field image;
  wii_magic = word_of wii_magic_field image;
  gcn_magic = word_of gcn_magic_field image;
  game_name = bytes_of game_name_field image;
  debug_monitor_offset = word_of debug_monitor_offset_field image;
  debug_monitor_addr = word_of debug_monitor_addr_field image;
  unused_408 = bytes_of unused408_field image;
  dol_offset = word_of dol_offset_field image;
  fst_offset = word_of fst_offset_field image;
  fst_size = word_of fst_size_field image;
  fst_max_size = word_of fst_max_size_field image;
  user_position = word_of user_position_field image;
  user_size = word_of user_size_field image;
  disc_size = word_of disc_size_field image;
  unused_43c = word_of unused43c_field image;
}

-- a header with the GameCube magic, and 0 in every other field
unfoldable pub blank_header : DiscHeader
blank_header = record {
  game_code = replicate 4 0;
  maker_code = replicate 2 0;
  disc_id = 0;
  version = 0;
  audio_streaming = 0;
  stream_buffer_size = 0;
  unused_00a = replicate 14 0;
  wii_magic = 0;
  gcn_magic = gcn_magic;
  game_name = replicate 0x3E0 0;
  debug_monitor_offset = 0;
  debug_monitor_addr = 0;
  unused_408 = replicate 0x18 0;
  dol_offset = 0;
  fst_offset = 0;
  fst_size = 0;
  fst_max_size = 0;
  user_position = 0;
  user_size = 0;
  disc_size = 0;
  unused_43c = 0;
}

abbrev pub header_answer : List ℕ → Result DiscHeader Refusal
header_answer image = result_and (header_verdict image) (Ok (header_of image))

-- ---- written

-- what a header puts in each field, in the order of the fields
unfoldable pub field_bytes : DiscHeader → List (List ℕ)
field_bytes h =
    h.game_code
    ∷ h.maker_code
    ∷ (h.disc_id ∷ [])
    ∷ (h.version ∷ [])
    ∷ (h.audio_streaming ∷ [])
    ∷ (h.stream_buffer_size ∷ [])
    ∷ h.unused_00a
    ∷ be32_bytes h.wii_magic
    ∷ be32_bytes h.gcn_magic
    ∷ h.game_name
    ∷ be32_bytes h.debug_monitor_offset
    ∷ be32_bytes h.debug_monitor_addr
    ∷ h.unused_408
    ∷ be32_bytes h.dol_offset
    ∷ be32_bytes h.fst_offset
    ∷ be32_bytes h.fst_size
    ∷ be32_bytes h.fst_max_size
    ∷ be32_bytes h.user_position
    ∷ be32_bytes h.user_size
    ∷ be32_bytes h.disc_size
    ∷ be32_bytes h.unused_43c
    ∷ []

-- each field's bytes at its offset
unfoldable pub put_fields : List Field → List (List ℕ) → List ℕ → List ℕ
put_fields [] bss image = image
put_fields (f ∷ fs) [] image = image
put_fields (f ∷ fs) (bs ∷ bss) image = put_fields fs bss (put image f.at bs)

-- the image with the header in it
abbrev pub put_header : DiscHeader → List ℕ → List ℕ
put_header h image = put_fields fields (field_bytes h) image

-- an image that is too short is refused, and left as it was
abbrev pub write_verdict : List ℕ → Verdict
write_verdict image = refuse (nat_lt (length image) 0x440) HeaderPastImage (Ok tt)

abbrev pub image_with_header : DiscHeader → List ℕ → List ℕ
image_with_header h image = if nat_lt (length image) 0x440 then image else put_header h image
