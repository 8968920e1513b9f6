-- A new master's bytes: its header reads as it was made, its table stands behind it, and all else below the disc end is 0. Assumes nothing.
use Rattle.std.specs.Prelude.{ℕ, ◌+◌, ◌^◌, ◌<◌, ◌≤◌, ◌≡◌, refl, List, length, get_or, replicate, Ok, None, Bool, true, false, cond, zero, suc}
use Rattle.std.proofs.Common.{ap, ◌∙◌, arith, zero-add}
use Rattle.std.proofs.lemmas.List.{length-replicate}
use Rattle.endian.specs.Bytes.{be32, put, span}
use Rattle.endian.specs.Laws.Stored.{length-put, put-before, put-after, put_in, be32-same, span-put, span_ext}
use Rattle.header.specs.declared.value.DiscHeader.{DiscHeader}
use Rattle.header.specs.Verdicts.{gcn_magic, dol_offset, fst_offset, fst_size, user_size, disc_size, disc_end, table_end}
use Rattle.header.specs.Header.{blank_header, header_of, put_header}
use Rattle.header.specs.Laws.FieldTests.{GoodHeader}
use Rattle.header.specs.Laws.RoundTrip.{Sized, length-written, written_behind, read-write}
use Rattle.tree.specs.Table.{encode}
use Rattle.opened.specs.Opening.{table_of}
use Rattle.space.specs.Used.{no_region}
use Rattle.executable.specs.Program.{is_before_table, program_of, program_in, own_region, program_behind}
use Rattle.master.specs.Master.{Master, nodes_of_master, table_size, first_free, header_with, header_of_master}

-- what an accepted list gives of the numbers
pub record Fits (m : Master) (image : List ℕ) : Type 0 where
  pub code : length m.game_code ≡ 4
  pub small : m.disc_end < 2 ^ 32
  pub table : first_free m ≤ m.disc_end
  pub size : length (encode (nodes_of_master m)) ≡ table_size m
  pub room : m.disc_end ≤ length image

pub get_or-replicate_lem : (n i : ℕ) → get_or (replicate {A = ℕ} n 0) i 0 ≡ 0
get_or-replicate_lem zero i = refl
get_or-replicate_lem (suc n) zero = refl
get_or-replicate_lem (suc n) (suc i) = get_or-replicate_lem n i

own-none : (fst : ℕ) → own_region fst no_region ≡ no_region
unfolding own_region
own-none fst = go (is_before_table fst no_region)
  where
    go : (t : Bool) → cond t no_region no_region ≡ no_region
    go true = refl
    go false = refl

module _ (m : Master) (image : List ℕ) (f : Fits m image) where
  abbrev h : DiscHeader
  h = header_of_master m

  abbrev tab : List ℕ
  tab = encode (nodes_of_master m)

  abbrev blank : List ℕ
  blank = put image 0 (replicate m.disc_end 0)

  abbrev head : List ℕ
  head = put_header h blank

  abbrev new : List ℕ
  new = put head 0x440 tab

  pub sized : Sized h
  unfolding header_with blank_header
  sized = record {
    game-code = f.code;
    maker-code = refl;
    unused-00a = refl;
    game-name = length-replicate {A = ℕ} 0x3E0 0;
    unused-408 = refl;
    wii-magic = omega arith;
    gcn-magic = omega arith;
    debug-monitor-offset = omega arith;
    debug-monitor-addr = omega arith;
    dol-offset = omega arith;
    fst-offset = omega arith;
    fst-size = omega (arith, f.table, f.small);
    fst-max-size = omega arith;
    user-position = omega arith;
    user-size = f.small;
    disc-size = omega arith;
    unused-43c = omega arith;
  }

  zeros-fit : 0 + length (replicate {A = ℕ} m.disc_end 0) ≤ length image
  zeros-fit = omega (arith, length-replicate {A = ℕ} m.disc_end 0, f.room)

  pub length-blank : length blank ≡ length image
  length-blank = length-put image 0 (replicate m.disc_end 0) zeros-fit

  pub whole : 0x440 ≤ length blank
  whole = omega (arith, length-blank, f.table, f.room)

  length-head : length head ≡ length image
  length-head = length-written h sized blank whole ∙ length-blank

  pub table-fits : 0x440 + length tab ≤ length head
  table-fits = omega (arith, length-head, f.table, f.size, f.room)

  pub length-new : length new ≡ length image
  length-new = length-put head 0x440 tab table-fits ∙ length-head

  -- ---- the header

  word-stays : (at : ℕ) → at + 4 ≤ 0x440 → be32 new at ≡ be32 head at
  word-stays at l = be32-same new head at (λ i b. put-before head 0x440 tab table-fits (at + i) (omega arith))

  read : header_of head ≡ h
  read = read-write h sized blank whole

  byte-stays : (at : ℕ) → at < 0x440 → get_or new at 0 ≡ get_or head at 0
  byte-stays at l = put-before head 0x440 tab table-fits at l

  span-stays : (at n : ℕ) → at + n ≤ 0x440 → span new at n ≡ span head at n
  span-stays at n l = span_ext new head at n (omega (arith, length-new, f.table, f.room)) (omega (arith, length-head, f.table, f.room)) (λ i b. byte-stays (at + i) (omega arith))

  pub header-new : header_of new ≡ h
  unfolding header_of
  header-new =
      (λ i. record {
        game_code = span-stays 0 4 (omega arith) i;
        maker_code = span-stays 4 2 (omega arith) i;
        disc_id = byte-stays 6 (omega arith) i;
        version = byte-stays 7 (omega arith) i;
        audio_streaming = byte-stays 8 (omega arith) i;
        stream_buffer_size = byte-stays 9 (omega arith) i;
        unused_00a = span-stays 0x0A 14 (omega arith) i;
        wii_magic = word-stays 0x18 (omega arith) i;
        gcn_magic = word-stays 0x1C (omega arith) i;
        game_name = span-stays 0x20 0x3E0 (omega arith) i;
        debug_monitor_offset = word-stays 0x400 (omega arith) i;
        debug_monitor_addr = word-stays 0x404 (omega arith) i;
        unused_408 = span-stays 0x408 0x18 (omega arith) i;
        dol_offset = word-stays 0x420 (omega arith) i;
        fst_offset = word-stays 0x424 (omega arith) i;
        fst_size = word-stays 0x428 (omega arith) i;
        fst_max_size = word-stays 0x42C (omega arith) i;
        user_position = word-stays 0x430 (omega arith) i;
        user_size = word-stays 0x434 (omega arith) i;
        disc_size = word-stays 0x438 (omega arith) i;
        unused_43c = word-stays 0x43C (omega arith) i;
      }) ∙ read

  pub good : GoodHeader new
  unfolding header_of header_with blank_header
  good =
      let w : be32 new 0x18 ≡ 0 = word-stays 0x18 (omega arith) ∙ ap (λ (x : DiscHeader). x.wii_magic) read in
      let g : be32 new 0x1C ≡ gcn_magic = word-stays 0x1C (omega arith) ∙ ap (λ (x : DiscHeader). x.gcn_magic) read in
      record {
        whole = omega (arith, length-new, f.table, f.room);
        not-wii = λ e. omega (arith, w, e);
        is-gcn = g;
      }

  dol-offset-new : dol_offset new ≡ 0
  unfolding header_of header_with blank_header
  dol-offset-new = word-stays 0x420 (omega arith) ∙ ap (λ (x : DiscHeader). x.dol_offset) read

  pub fst-offset-new : fst_offset new ≡ 0x440
  unfolding header_of header_with blank_header
  fst-offset-new = word-stays 0x424 (omega arith) ∙ ap (λ (x : DiscHeader). x.fst_offset) read

  fst-size-new : fst_size new ≡ table_size m
  unfolding header_of header_with blank_header
  fst-size-new = word-stays 0x428 (omega arith) ∙ ap (λ (x : DiscHeader). x.fst_size) read

  pub disc-end-new : disc_end new ≡ m.disc_end
  unfolding header_of header_with blank_header
  disc-end-new =
      let u : user_size new ≡ m.disc_end = word-stays 0x434 (omega arith) ∙ ap (λ (x : DiscHeader). x.user_size) read in
      let d : disc_size new ≡ 0 = word-stays 0x438 (omega arith) ∙ ap (λ (x : DiscHeader). x.disc_size) read in
      omega arith

  pub table-end-new : table_end new ≡ first_free m
  table-end-new = omega (arith, fst-offset-new, fst-size-new)

  -- ---- the table

  pub table-new : table_of new ≡ tab
  unfolding table_of
  table-new = rw (fst-offset-new, fst-size-new) (rw f.size at (span-put head 0x440 tab table-fits))

  -- ---- no program

  pub program-new : program_of new ≡ Ok None
  unfolding program_of
  program-new = rw dol-offset-new

  pub program_behind-new : program_behind new ≡ no_region
  unfolding program_in own_region
  program_behind-new = rw program-new (own-none (fst_offset new))

  -- ---- all else

  behind-head : (i : ℕ) → first_free m ≤ i → get_or new i 0 ≡ get_or blank i 0
  behind-head i l = put-after head 0x440 tab table-fits i (omega (arith, f.size)) ∙ written_behind h sized blank whole i (omega arith)

  pub zero-new : (i : ℕ) → first_free m ≤ i → i < m.disc_end → get_or new i 0 ≡ 0
  zero-new i l b =
      behind-head i l ∙ rw (zero-add i) at (put_in image 0 (replicate m.disc_end 0) zeros-fit i (omega (arith, length-replicate {A = ℕ} m.disc_end 0))) ∙ get_or-replicate_lem m.disc_end i

  pub behind-new : (i : ℕ) → m.disc_end ≤ i → get_or new i 0 ≡ get_or image i 0
  behind-new i l =
      behind-head i (omega (arith, f.table)) ∙ put-after image 0 (replicate m.disc_end 0) zeros-fit i (omega (arith, length-replicate {A = ℕ} m.disc_end 0))
