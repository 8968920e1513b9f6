-- The 21 fields of the header, 0x440 bytes in all: the offset of each, and how many bytes it has.
use Rattle.std.specs.Prelude.{ℕ, List, [], ◌∷◌}
use Rattle.header.specs.declared.fields.Field.{Field}

abbrev pub place : ℕ → ℕ → Field
place o w = record { at = o; len = w }

abbrev pub game_code_field : Field
game_code_field = place 0 4

abbrev pub maker_code_field : Field
maker_code_field = place 4 2

abbrev pub disc_id_field : Field
disc_id_field = place 6 1

abbrev pub version_field : Field
version_field = place 7 1

abbrev pub audio_streaming_field : Field
audio_streaming_field = place 8 1

abbrev pub stream_buffer_size_field : Field
stream_buffer_size_field = place 9 1

abbrev pub unused00a_field : Field
unused00a_field = place 0x0A 14

abbrev pub wii_magic_field : Field
wii_magic_field = place 0x18 4

abbrev pub gcn_magic_field : Field
gcn_magic_field = place 0x1C 4

abbrev pub game_name_field : Field
game_name_field = place 0x20 0x3E0

abbrev pub debug_monitor_offset_field : Field
debug_monitor_offset_field = place 0x400 4

abbrev pub debug_monitor_addr_field : Field
debug_monitor_addr_field = place 0x404 4

abbrev pub unused408_field : Field
unused408_field = place 0x408 0x18

abbrev pub dol_offset_field : Field
dol_offset_field = place 0x420 4

abbrev pub fst_offset_field : Field
fst_offset_field = place 0x424 4

abbrev pub fst_size_field : Field
fst_size_field = place 0x428 4

abbrev pub fst_max_size_field : Field
fst_max_size_field = place 0x42C 4

abbrev pub user_position_field : Field
user_position_field = place 0x430 4

abbrev pub user_size_field : Field
user_size_field = place 0x434 4

abbrev pub disc_size_field : Field
disc_size_field = place 0x438 4

abbrev pub unused43c_field : Field
unused43c_field = place 0x43C 4

-- the table: the fields in order
unfoldable pub fields : List Field
fields = game_code_field ∷ maker_code_field ∷ disc_id_field ∷ version_field ∷ audio_streaming_field ∷ stream_buffer_size_field ∷ unused00a_field ∷ wii_magic_field ∷ gcn_magic_field ∷ game_name_field ∷ debug_monitor_offset_field ∷ debug_monitor_addr_field ∷ unused408_field ∷ dol_offset_field ∷ fst_offset_field ∷ fst_size_field ∷ fst_max_size_field ∷ user_position_field ∷ user_size_field ∷ disc_size_field ∷ unused43c_field ∷ []
