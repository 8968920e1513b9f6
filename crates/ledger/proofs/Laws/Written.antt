-- The image that a change leaves, byte by byte: the header but for the table's size, the table, the bytes copied, and all others.
-- Assumes nothing.
use Prim.Native.Nat.{ℕ, ◌+◌, ◌-◌, ◌^◌, ◌<◌, ◌≤◌}
use Rattle.std.specs.Prelude.{◌≡◌, refl, List, get_or, replicate}
use Rattle.std.proofs.Common.{sym, ap, ◌∙◌, inl, arith, length-append, ext_get_or}
use Rattle.std.proofs.Math.ListN.{length, get_or-append}
use Rattle.std.proofs.lemmas.List.{length-replicate}
use Rattle.endian.specs.Bytes.{put, span, be32, be32_bytes, AllBytes}
use Rattle.endian.specs.Laws.Stored.{put_in, put-bytes, put-before, put-after, length-put, be32-put, be32-same, Outside, length-span, get_d-span}
use Rattle.header.specs.Verdicts.{fst_offset, fst_size, fst_max_size, disc_end, table_end}
use Rattle.header.specs.Laws.FieldTests.{GoodHeader, Bounded}
use Rattle.tree.specs.Table.{encode}
use Rattle.tree.specs.Inner.WellFormed.{IsWellFormed}
use Rattle.tree.proofs.Laws.WrittenBytes.{encode-all, be32-all, all_append}
use Rattle.opened.specs.Opening.{table_of}
use Rattle.opened.proofs.Laws.OpeningLaws.{span-bytes}
use Rattle.edit_rules.specs.Change.{Change, padded_table, image_with_table, written_image}
use Rattle.edit_rules.proofs.Laws.Puts.{Fits, put-length, put_all, put-else, span-length, zeros-all}

-- the new table's end
abbrev pub new_end : Change → List ℕ → ℕ
new_end c image = fst_offset image + length (encode c.nodes)

-- a change that writes only behind both tables, and on the disc
pub record Safe (c : Change) (image : List ℕ) : Type 0 where
  pub bytes : AllBytes image
  pub header : GoodHeader image
  pub bounds : Bounded image
  pub well : IsWellFormed c.nodes
  pub table : new_end c image ≤ disc_end image
  pub copied : 0 < c.kept → (table_end image ≤ c.place.offset) × (new_end c image ≤ c.place.offset) × (c.place.offset + c.kept ≤ disc_end image) × (c.old.offset + c.kept ≤ disc_end image)
  pub zeroed : 0 < c.lost.size → (table_end image ≤ c.lost.offset) × (new_end c image ≤ c.lost.offset) × (c.lost.offset + c.lost.size ≤ disc_end image)

length-padded_table : (tab : List ℕ) (n : ℕ) → length (padded_table tab n) ≡ length tab + (n - length tab)
length-padded_table tab n = length-append tab (replicate (n - length tab) 0) ∙ ap (λ (k : ℕ). length tab + k) (length-replicate {A = ℕ} (n - length tab) 0)

-- ---- the image after each of the four writes

abbrev image₁ : Change → List ℕ → List ℕ
image₁ c image = put image c.place.offset (span image c.old.offset c.kept)

abbrev image₂ : Change → List ℕ → List ℕ
image₂ c image = put (image₁ c image) (fst_offset image) (padded_table (encode c.nodes) (fst_size image))

abbrev image₃ : Change → List ℕ → List ℕ
image₃ c image = put (image₂ c image) 0x428 (be32_bytes (length (encode c.nodes)))

is-written_image : (c : Change) (image : List ℕ) → written_image c image ≡ put (image₃ c image) c.lost.offset (replicate c.lost.size 0)
unfolding written_image image_with_table
is-written_image c image = refl

module _ (c : Change) (image : List ℕ) (s : Safe c image) where
  source_fits : Fits image c.old.offset c.kept
  source_fits h = omega (arith, (s.copied h).3, s.bounds.image_holds)

  copy-length : length (span image c.old.offset c.kept) ≡ c.kept
  copy-length = span-length image c.old.offset c.kept source_fits

  fits₁ : Fits image c.place.offset (length (span image c.old.offset c.kept))
  fits₁ h = let z : 0 < c.kept = rw copy-length at h in omega (arith, copy-length, (s.copied z).2, s.bounds.image_holds)

  length₁ : length (image₁ c image) ≡ length image
  length₁ = put-length image c.place.offset (span image c.old.offset c.kept) fits₁

  all₁ : AllBytes (image₁ c image)
  all₁ = put_all image c.place.offset (span image c.old.offset c.kept) fits₁ s.bytes (span-bytes image c.old.offset c.kept s.bytes)

  fits₂ : fst_offset image + length (padded_table (encode c.nodes) (fst_size image)) ≤ length (image₁ c image)
  fits₂ = rw length₁ (omega (arith, length-padded_table (encode c.nodes) (fst_size image), s.table, s.bounds.table, s.bounds.image_holds))

  length₂ : length (image₂ c image) ≡ length image
  length₂ = length-put (image₁ c image) (fst_offset image) (padded_table (encode c.nodes) (fst_size image)) fits₂ ∙ length₁

  all₂ : AllBytes (image₂ c image)
  all₂ = put-bytes (image₁ c image) (fst_offset image) (padded_table (encode c.nodes) (fst_size image)) fits₂ all₁
      (all_append (encode c.nodes) (replicate (fst_size image - length (encode c.nodes)) 0) (encode-all c.nodes s.well) (zeros-all (fst_size image - length (encode c.nodes))))

  fits₃ : 0x428 + 4 ≤ length (image₂ c image)
  fits₃ = rw length₂ (omega (arith, s.header.whole))

  length₃ : length (image₃ c image) ≡ length image
  length₃ = length-put (image₂ c image) 0x428 (be32_bytes (length (encode c.nodes))) fits₃ ∙ length₂

  all₃ : AllBytes (image₃ c image)
  all₃ = put-bytes (image₂ c image) 0x428 (be32_bytes (length (encode c.nodes))) fits₃ all₂ (be32-all (length (encode c.nodes)))

  zeros-length : length (replicate {A = ℕ} c.lost.size 0) ≡ c.lost.size
  zeros-length = length-replicate {A = ℕ} c.lost.size 0

  fits₄ : Fits (image₃ c image) c.lost.offset (length (replicate {A = ℕ} c.lost.size 0))
  fits₄ h = let z : 0 < c.lost.size = rw zeros-length at h in rw length₃ (omega (arith, zeros-length, (s.zeroed z).2, s.bounds.image_holds))

  -- ---- the whole

  pub length-written_image : length (written_image c image) ≡ length image
  length-written_image = rw (is-written_image c image) (put-length (image₃ c image) c.lost.offset (replicate c.lost.size 0) fits₄ ∙ length₃)

  pub bytes-written_image : AllBytes (written_image c image)
  bytes-written_image = rw (is-written_image c image) (put_all (image₃ c image) c.lost.offset (replicate c.lost.size 0) fits₄ all₃ (zeros-all c.lost.size))

  -- a byte of the image after each write
  at₁ : (i : ℕ) → (0 < c.kept → Outside c.place.offset c.kept i) → get_or (image₁ c image) i 0 ≡ get_or image i 0
  at₁ i o = put-else image c.place.offset (span image c.old.offset c.kept) fits₁ i (λ h. rw copy-length (o (rw copy-length at h)))

  below₂ : (i : ℕ) → i < fst_offset image → get_or (image₂ c image) i 0 ≡ get_or (image₁ c image) i 0
  below₂ i h = put-before (image₁ c image) (fst_offset image) (padded_table (encode c.nodes) (fst_size image)) fits₂ i h

  behind₂ : (i : ℕ) → table_end image ≤ i → new_end c image ≤ i → get_or (image₂ c image) i 0 ≡ get_or (image₁ c image) i 0
  behind₂ i h k = put-after (image₁ c image) (fst_offset image) (padded_table (encode c.nodes) (fst_size image)) fits₂ i (omega (arith, length-padded_table (encode c.nodes) (fst_size image)))

  in₂ : (i : ℕ) → i < length (encode c.nodes) → get_or (image₂ c image) (fst_offset image + i) 0 ≡ get_or (encode c.nodes) i 0
  in₂ i h =
      put_in (image₁ c image) (fst_offset image) (padded_table (encode c.nodes) (fst_size image)) fits₂ i (omega (arith, length-padded_table (encode c.nodes) (fst_size image)))
      ∙ get_or-append (encode c.nodes) (replicate (fst_size image - length (encode c.nodes)) 0) 0 i h

  below₃ : (i : ℕ) → i < 0x428 → get_or (image₃ c image) i 0 ≡ get_or (image₂ c image) i 0
  below₃ i h = put-before (image₂ c image) 0x428 (be32_bytes (length (encode c.nodes))) fits₃ i h

  behind₃ : (i : ℕ) → 0x42C ≤ i → get_or (image₃ c image) i 0 ≡ get_or (image₂ c image) i 0
  behind₃ i h = put-after (image₂ c image) 0x428 (be32_bytes (length (encode c.nodes))) fits₃ i h

  at₄ : (i : ℕ) → (0 < c.lost.size → Outside c.lost.offset c.lost.size i) → get_or (written_image c image) i 0 ≡ get_or (image₃ c image) i 0
  at₄ i o = rw (is-written_image c image) (put-else (image₃ c image) c.lost.offset (replicate c.lost.size 0) fits₄ i (λ h. rw zeros-length (o (rw zeros-length at h))))

  -- below the table nothing is copied or zeroed
  not-copied : (i : ℕ) → i < fst_offset image → 0 < c.kept → Outside c.place.offset c.kept i
  not-copied i h z = inl (omega (arith, (s.copied z).1))

  not-zeroed : (i : ℕ) → i < new_end c image → 0 < c.lost.size → Outside c.lost.offset c.lost.size i
  not-zeroed i h z = inl (omega (arith, (s.zeroed z).1))

  -- ---- the header

  pub header-low : (i : ℕ) → i < 0x428 → get_or (written_image c image) i 0 ≡ get_or image i 0
  header-low i h =
      let l : i < fst_offset image = omega (arith, s.bounds.after-header) in
      at₄ i (not-zeroed i (omega arith)) ∙ below₃ i h ∙ below₂ i l ∙ at₁ i (not-copied i l)

  -- and what lies between it and the table
  pub system-written_image : (i : ℕ) → 0x42C ≤ i → i < fst_offset image → get_or (written_image c image) i 0 ≡ get_or image i 0
  system-written_image i h l = at₄ i (not-zeroed i (omega arith)) ∙ behind₃ i h ∙ below₂ i l ∙ at₁ i (not-copied i l)

  pub field-low : (at : ℕ) → at + 4 ≤ 0x428 → be32 (written_image c image) at ≡ be32 image at
  field-low at h = be32-same (written_image c image) image at (λ i l. header-low (at + i) (omega arith))

  pub field-high : (at : ℕ) → 0x42C ≤ at → at + 4 ≤ 0x440 → be32 (written_image c image) at ≡ be32 image at
  field-high at h k = be32-same (written_image c image) image at (λ i l. system-written_image (at + i) (omega arith) (omega (arith, s.bounds.after-header)))

  pub fst-offset-written_image : fst_offset (written_image c image) ≡ fst_offset image
  fst-offset-written_image = field-low 0x424 (omega arith)

  pub disc-end-written_image : disc_end (written_image c image) ≡ disc_end image
  disc-end-written_image = rw (field-high 0x434 (omega arith) (omega arith), field-high 0x438 (omega arith) (omega arith))

  -- the FST maximum is never written
  pub fst-max-size-written_image : fst_max_size (written_image c image) ≡ fst_max_size image
  fst-max-size-written_image = field-high 0x42C (omega arith) (omega arith)

  small : length (encode c.nodes) < 2 ^ 32
  small = omega (arith, s.table, s.bounds.small)

  pub fst-size-written_image : fst_size (written_image c image) ≡ length (encode c.nodes)
  fst-size-written_image =
      be32-same (written_image c image) (image₃ c image) 0x428 (λ i l. at₄ (0x428 + i) (not-zeroed (0x428 + i) (omega (arith, s.bounds.after-header))))
      ∙ be32-put (image₂ c image) 0x428 (length (encode c.nodes)) fits₃ small

  pub header-written_image : GoodHeader (written_image c image)
  header-written_image = record {
    whole = rw length-written_image s.header.whole;
    not-wii = λ e. s.header.not-wii (sym (field-low 0x18 (omega arith)) ∙ e);
    is-gcn = field-low 0x1C (omega arith) ∙ s.header.is-gcn;
  }

  pub bounds-written_image : Bounded (written_image c image)
  bounds-written_image = record {
    after-header = rw fst-offset-written_image s.bounds.after-header;
    small = rw disc-end-written_image s.bounds.small;
    table = rw (fst-offset-written_image, fst-size-written_image, disc-end-written_image) s.table;
    image_holds = rw (disc-end-written_image, length-written_image) s.bounds.image_holds;
  }

  -- ---- the table

  table_at : (i : ℕ) → i < length (encode c.nodes) → get_or (written_image c image) (fst_offset image + i) 0 ≡ get_or (encode c.nodes) i 0
  table_at i h =
      at₄ (fst_offset image + i) (not-zeroed (fst_offset image + i) (omega arith)) ∙ behind₃ (fst_offset image + i) (omega (arith, s.bounds.after-header)) ∙ in₂ i h

  pub table-written_image : table_of (written_image c image) ≡ encode c.nodes
  unfolding table_of
  table-written_image =
      let n : ℕ = length (encode c.nodes) in
      let e : length (span (written_image c image) (fst_offset image) n) ≡ n = length-span (written_image c image) (fst_offset image) n (rw length-written_image (omega (arith, s.table, s.bounds.image_holds))) in
      rw (fst-offset-written_image, fst-size-written_image)
      (ext_get_or 0 (span (written_image c image) (fst_offset image) n) (encode c.nodes) e
      (λ i h. let h' : i < n = rw e at h in get_d-span (written_image c image) (fst_offset image) n i h' ∙ table_at i h'))

  -- ---- behind the tables

  pub rest-written_image : (i : ℕ) → table_end image ≤ i → new_end c image ≤ i → (0 < c.kept → Outside c.place.offset c.kept i) → (0 < c.lost.size → Outside c.lost.offset c.lost.size i) →
      get_or (written_image c image) i 0 ≡ get_or image i 0
  rest-written_image i h k p l = at₄ i l ∙ behind₃ i (omega (arith, s.bounds.after-header)) ∙ behind₂ i h k ∙ at₁ i p

  pub copy_written : (i : ℕ) → i < c.kept → (0 < c.lost.size → Outside c.lost.offset c.lost.size (c.place.offset + i)) →
      get_or (written_image c image) (c.place.offset + i) 0 ≡ get_or image (c.old.offset + i) 0
  copy_written i h l =
      let z : 0 < c.kept = omega arith in
      let t : table_end image ≤ c.place.offset = (s.copied z).0 in
      let t' : new_end c image ≤ c.place.offset = (s.copied z).1 in
      at₄ (c.place.offset + i) l ∙ behind₃ (c.place.offset + i) (omega (arith, s.bounds.after-header)) ∙ behind₂ (c.place.offset + i) (omega arith) (omega arith)
      ∙ put_in image c.place.offset (span image c.old.offset c.kept) (fits₁ (rw copy-length z)) i (rw copy-length h) ∙ get_d-span image c.old.offset c.kept i h
