-- Reading and writing undo each other: a header that was read and is written back changes no byte, and a header that was written is read. Assumes nothing.
use Prim.Native.Nat.{ℕ, zero, suc, ◌+◌, ◌^◌, ◌<◌, ◌≤◌}
use Rattle.std.specs.Prelude.{◌≡◌, refl, true, length, get_or, Ok, Err}
use Rattle.std.proofs.Math.Path.{sym, ap}
use Rattle.std.proofs.Common.{◌∙◌, arith, add-zero, le-ltb}
use mathlib.Core.List.{List, [], ◌∷◌, map}
use Rattle.endian.specs.Bytes.{be32, be32_bytes, put, span, AllBytes}
use Rattle.endian.specs.Laws.Stored.{be32-value, length-put, put-before, put-after, span-put, get_d-span, span_ext}
use Rattle.refusal.specs.Refusal.{Verdict}
use Rattle.header.specs.declared.fields.Field.{Field}
use Rattle.header.specs.declared.value.DiscHeader.{DiscHeader}
use Rattle.header.specs.Fields.{fields, game_code_field, maker_code_field, disc_id_field, version_field, audio_streaming_field, stream_buffer_size_field, unused00a_field, wii_magic_field, gcn_magic_field, game_name_field, debug_monitor_offset_field, debug_monitor_addr_field, unused408_field, dol_offset_field, fst_offset_field, fst_size_field, fst_max_size_field, user_position_field, user_size_field, disc_size_field, unused43c_field}
use Rattle.header.specs.Inner.Judged.{nth}
use Rattle.header.specs.Verdicts.{gcn_magic, wii_magic, word_of, header_verdict}
use Rattle.header.specs.Header.{bytes_of, byte_in, header_of, header_answer, field_bytes, put_fields, put_header, image_with_header}
use Rattle.header.specs.Laws.FieldTests.{GoodHeader, header-passed, header-passes}
use Rattle.header.specs.Laws.Tiling.{fields-tile, tile-start, tile-rest, tile-le, tile}
use Rattle.endian.specs.Laws.Stays.{put-span, byte-span, be32-span}
use Rattle.std.specs.Result.{result_and}

-- ---- fields that tile, and bytes that fill them

-- one run of bytes for each field, as long as the field
abbrev pub Fills : List Field → List (List ℕ) → Type 0
Fills [] [] = Unit
Fills [] (bs ∷ bss) = ⊥
Fills (f ∷ fs) [] = ⊥
Fills (f ∷ fs) (bs ∷ bss) = (length bs ≡ f.len) × Fills fs bss

-- the first of the fields lies inside
module _ (a b : ℕ) (f : Field) (fs : List Field) (t : tile a b (f ∷ fs) ≡ true) (bs : List ℕ) (e : length bs ≡ f.len) (image : List ℕ) (fits : b ≤ length image) where
  inside : f.at + length bs ≤ length image
  inside = omega (arith, tile-start a b f fs t, tile-le (a + f.len) b fs (tile-rest a b f fs t))

  still : b ≤ length (put image f.at bs)
  still = rw (length-put image f.at bs inside) fits

pub length-put_fields : (a b : ℕ) (fs : List Field) (bss : List (List ℕ)) (image : List ℕ) → tile a b fs ≡ true → Fills fs bss → b ≤ length image → length (put_fields fs bss image) ≡ length image
unfolding put_fields
length-put_fields a b [] bss image t s fits = refl
length-put_fields a b (f ∷ fs) [] image t s fits = refl
length-put_fields a b (f ∷ fs) (bs ∷ bss) image t s fits =
    length-put_fields (a + f.len) b fs bss (put image f.at bs) (tile-rest a b f fs t) s.1 (still a b f fs t bs s.0 image fits)
    ∙ length-put image f.at bs (inside a b f fs t bs s.0 image fits)

-- what lies before the fields, and what lies behind them, stays
pub put_fields-before : (a b : ℕ) (fs : List Field) (bss : List (List ℕ)) (image : List ℕ) → tile a b fs ≡ true → Fills fs bss → b ≤ length image → (i : ℕ) → i < a → get_or (put_fields fs bss image) i 0 ≡ get_or image i 0
unfolding put_fields
put_fields-before a b [] bss image t s fits i h = refl
put_fields-before a b (f ∷ fs) [] image t s fits i h = refl
put_fields-before a b (f ∷ fs) (bs ∷ bss) image t s fits i h =
    put_fields-before (a + f.len) b fs bss (put image f.at bs) (tile-rest a b f fs t) s.1 (still a b f fs t bs s.0 image fits) i (omega arith)
    ∙ put-before image f.at bs (inside a b f fs t bs s.0 image fits) i (omega (arith, tile-start a b f fs t))

pub put_fields-after : (a b : ℕ) (fs : List Field) (bss : List (List ℕ)) (image : List ℕ) → tile a b fs ≡ true → Fills fs bss → b ≤ length image → (i : ℕ) → b ≤ i → get_or (put_fields fs bss image) i 0 ≡ get_or image i 0
unfolding put_fields
put_fields-after a b [] bss image t s fits i h = refl
put_fields-after a b (f ∷ fs) [] image t s fits i h = refl
put_fields-after a b (f ∷ fs) (bs ∷ bss) image t s fits i h =
    put_fields-after (a + f.len) b fs bss (put image f.at bs) (tile-rest a b f fs t) s.1 (still a b f fs t bs s.0 image fits) i h
    ∙ put-after image f.at bs (inside a b f fs t bs s.0 image fits) i (omega (arith, tile-start a b f fs t, s.0, tile-le (a + f.len) b fs (tile-rest a b f fs t)))

-- each field holds its bytes
pub put_fields-in : (a b : ℕ) (fs : List Field) (bss : List (List ℕ)) (image : List ℕ) → tile a b fs ≡ true → Fills fs bss → b ≤ length image → (k : ℕ) → k < length fs → bytes_of (nth fs k) (put_fields fs bss image) ≡ get_or bss k []
unfolding put_fields
put_fields-in a b [] bss image t s fits k h = absurd (omega arith)
put_fields-in a b (f ∷ fs) [] image t s fits k h = absurd s
put_fields-in a b (f ∷ fs) (bs ∷ bss) image t s fits zero h =
    let j : List ℕ = put image f.at bs in
    let r = tile-rest a b f fs t in
    let w = still a b f fs t bs s.0 image fits in
    let o : f.at ≡ a = tile-start a b f fs t in
    let l = length-put_fields (a + f.len) b fs bss j r s.1 w in
    let n : f.at + f.len ≤ length j = omega (arith, tile-le (a + f.len) b fs r) in
    span_ext (put_fields fs bss j) j f.at f.len (rw l n) n (λ i g. put_fields-before (a + f.len) b fs bss j r s.1 w (f.at + i) (omega arith))
    ∙ rw s.0 at (span-put image f.at bs (inside a b f fs t bs s.0 image fits))
put_fields-in a b (f ∷ fs) (bs ∷ bss) image t s fits (suc k) h =
    put_fields-in (a + f.len) b fs bss (put image f.at bs) (tile-rest a b f fs t) s.1 (still a b f fs t bs s.0 image fits) k (omega arith)

put-spans : (a b : ℕ) (fs : List Field) (image : List ℕ) → tile a b fs ≡ true → b ≤ length image → put_fields fs (map (λ (f : Field). bytes_of f image) fs) image ≡ image
unfolding put_fields
put-spans a b [] image t fits = refl
put-spans a b (f ∷ fs) image t fits =
    let h : f.at + f.len ≤ length image = omega (arith, tile-start a b f fs t, tile-le (a + f.len) b fs (tile-rest a b f fs t)) in
    rw (put-span image f.at f.len h) (put-spans (a + f.len) b fs image (tile-rest a b f fs t) fits)

-- ---- bytes and words of a span

read_byte : (s : List ℕ) (at v : ℕ) → span s at 1 ≡ v ∷ [] → get_or s at 0 ≡ v
read_byte s at v e = rw (add-zero at) at (sym (get_d-span s at 1 0 (omega arith))) ∙ ap (λ (l : List ℕ). get_or l 0 0) e

read_word : (s : List ℕ) (at v : ℕ) → span s at 4 ≡ be32_bytes v → v < 2 ^ 32 → be32 s at ≡ v
unfolding be32
read_word s at v e small =
    let g : (i : ℕ) → i < 4 → get_or s (at + i) 0 ≡ get_or (be32_bytes v) i 0 = λ i h. sym (get_d-span s at 4 i h) ∙ ap (λ (l : List ℕ). get_or l i 0) e in
    rw (rw (add-zero at) at (g 0 (omega arith)), g 1 (omega arith), g 2 (omega arith), g 3 (omega arith)) (be32-value v small)

-- ---- read and written back

module _ (image : List ℕ) (whole : 0x440 ≤ length image) (bytes : AllBytes image) where
  -- what a header that was read puts in each field is what the field holds
  spans : field_bytes (header_of image) ≡ map (λ (f : Field). bytes_of f image) fields
  unfolding fields field_bytes header_of
  spans =
      let b : (f : Field) → f.at + 1 ≤ 0x440 → byte_in f image ∷ [] ≡ span image f.at 1 = λ f h. sym (byte-span image f.at (omega arith)) in
      let w : (f : Field) → f.at + 4 ≤ 0x440 → be32_bytes (word_of f image) ≡ span image f.at 4 = λ f h. be32-span image f.at bytes (omega arith) in
      λ i. bytes_of game_code_field image ∷ bytes_of maker_code_field image ∷ b disc_id_field (omega arith) i ∷ b version_field (omega arith) i ∷ b audio_streaming_field (omega arith) i ∷ b stream_buffer_size_field (omega arith) i ∷ bytes_of unused00a_field image ∷ w wii_magic_field (omega arith) i ∷ w gcn_magic_field (omega arith) i ∷ bytes_of game_name_field image ∷ w debug_monitor_offset_field (omega arith) i ∷ w debug_monitor_addr_field (omega arith) i ∷ bytes_of unused408_field image ∷ w dol_offset_field (omega arith) i ∷ w fst_offset_field (omega arith) i ∷ w fst_size_field (omega arith) i ∷ w fst_max_size_field (omega arith) i ∷ w user_position_field (omega arith) i ∷ w user_size_field (omega arith) i ∷ w disc_size_field (omega arith) i ∷ w unused43c_field (omega arith) i ∷ []

  pub write_read : put_header (header_of image) image ≡ image
  write_read = rw spans (put-spans 0 0x440 fields image fields-tile whole)

-- a header that was read as good is written back as it was: the game name, the word at 0x18 and the unused runs too
pub write-after-read : (image : List ℕ) (h : DiscHeader) → header_answer image ≡ Ok h → AllBytes image → image_with_header h image ≡ image
write-after-read image h e bytes = go (header_verdict image) refl e
  where
    go : (v : Verdict) → header_verdict image ≡ v → result_and v (Ok (header_of image)) ≡ Ok h → image_with_header h image ≡ image
    go (Ok _) q r =
        let w : 0x440 ≤ length image = (header-passed image q).whole in
        let f : header_of image ≡ h = cc in
        rw (← f, le-ltb (length image) 0x440 w) (write_read image w bytes)
    go (Err c) q r = let z : ◌≡◌ {A = ℕ} 0 1 = cc in absurd (omega arith)

-- ---- written and read

-- what every value of the struct is: its arrays have their lengths, its words 32 bits
pub record Sized (h : DiscHeader) : Type 0 where
  pub game-code : length h.game_code ≡ 4
  pub maker-code : length h.maker_code ≡ 2
  pub unused-00a : length h.unused_00a ≡ 14
  pub game-name : length h.game_name ≡ 0x3E0
  pub unused-408 : length h.unused_408 ≡ 0x18
  pub wii-magic : h.wii_magic < 2 ^ 32
  pub gcn-magic : h.gcn_magic < 2 ^ 32
  pub debug-monitor-offset : h.debug_monitor_offset < 2 ^ 32
  pub debug-monitor-addr : h.debug_monitor_addr < 2 ^ 32
  pub dol-offset : h.dol_offset < 2 ^ 32
  pub fst-offset : h.fst_offset < 2 ^ 32
  pub fst-size : h.fst_size < 2 ^ 32
  pub fst-max-size : h.fst_max_size < 2 ^ 32
  pub user-position : h.user_position < 2 ^ 32
  pub user-size : h.user_size < 2 ^ 32
  pub disc-size : h.disc_size < 2 ^ 32
  pub unused-43c : h.unused_43c < 2 ^ 32

module _ (h : DiscHeader) (s : Sized h) (image : List ℕ) (whole : 0x440 ≤ length image) where
  pub fills : Fills fields (field_bytes h)
  unfolding fields field_bytes
  fills = (s.game-code, (s.maker-code, (refl, (refl, (refl, (refl, (s.unused-00a, (refl, (refl, (s.game-name, (refl, (refl, (s.unused-408, (refl, (refl, (refl, (refl, (refl, (refl, (refl, (refl, tt)))))))))))))))))))))

  pub length-written : length (put_header h image) ≡ length image
  length-written = length-put_fields 0 0x440 fields (field_bytes h) image fields-tile fills whole

  -- the bytes behind the header stay
  pub written_behind : (i : ℕ) → 0x440 ≤ i → get_or (put_header h image) i 0 ≡ get_or image i 0
  written_behind i l = put_fields-after 0 0x440 fields (field_bytes h) image fields-tile fills whole i l

  field : (k : ℕ) → k < length fields → bytes_of (nth fields k) (put_header h image) ≡ get_or (field_bytes h) k []
  field k l = put_fields-in 0 0x440 fields (field_bytes h) image fields-tile fills whole k l

  pub read-write : header_of (put_header h image) ≡ h
  unfolding fields field_bytes header_of
  read-write =
      let m : List ℕ = put_header h image in
      λ i. record {
        game_code = field 0 (omega arith) i;
        maker_code = field 1 (omega arith) i;
        disc_id = read_byte m disc_id_field.at h.disc_id (field 2 (omega arith)) i;
        version = read_byte m version_field.at h.version (field 3 (omega arith)) i;
        audio_streaming = read_byte m audio_streaming_field.at h.audio_streaming (field 4 (omega arith)) i;
        stream_buffer_size = read_byte m stream_buffer_size_field.at h.stream_buffer_size (field 5 (omega arith)) i;
        unused_00a = field 6 (omega arith) i;
        wii_magic = read_word m wii_magic_field.at h.wii_magic (field 7 (omega arith)) s.wii-magic i;
        gcn_magic = read_word m gcn_magic_field.at h.gcn_magic (field 8 (omega arith)) s.gcn-magic i;
        game_name = field 9 (omega arith) i;
        debug_monitor_offset = read_word m debug_monitor_offset_field.at h.debug_monitor_offset (field 10 (omega arith)) s.debug-monitor-offset i;
        debug_monitor_addr = read_word m debug_monitor_addr_field.at h.debug_monitor_addr (field 11 (omega arith)) s.debug-monitor-addr i;
        unused_408 = field 12 (omega arith) i;
        dol_offset = read_word m dol_offset_field.at h.dol_offset (field 13 (omega arith)) s.dol-offset i;
        fst_offset = read_word m fst_offset_field.at h.fst_offset (field 14 (omega arith)) s.fst-offset i;
        fst_size = read_word m fst_size_field.at h.fst_size (field 15 (omega arith)) s.fst-size i;
        fst_max_size = read_word m fst_max_size_field.at h.fst_max_size (field 16 (omega arith)) s.fst-max-size i;
        user_position = read_word m user_position_field.at h.user_position (field 17 (omega arith)) s.user-position i;
        user_size = read_word m user_size_field.at h.user_size (field 18 (omega arith)) s.user-size i;
        disc_size = read_word m disc_size_field.at h.disc_size (field 19 (omega arith)) s.disc-size i;
        unused_43c = read_word m unused43c_field.at h.unused_43c (field 20 (omega arith)) s.unused-43c i;
      }

  module _ (gcn : h.gcn_magic ≡ gcn_magic) (not-wii : h.wii_magic ≡ wii_magic → ⊥) where
    good : GoodHeader (put_header h image)
    unfolding header_of
    good = record {
      whole = rw length-written whole;
      not-wii = λ e. not-wii (sym (ap (λ (x : DiscHeader). x.wii_magic) read-write) ∙ e);
      is-gcn = ap (λ (x : DiscHeader). x.gcn_magic) read-write ∙ gcn;
    }

    -- a header whose magics are good is read as it was written
    pub read-after-write : header_answer (image_with_header h image) ≡ Ok h
    read-after-write = rw (le-ltb (length image) 0x440 whole, header-passes (put_header h image) good, read-write)
