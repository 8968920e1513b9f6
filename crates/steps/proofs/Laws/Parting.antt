-- A change in three parts: what holds after the copy, after the table, and after the zeros. Assumes nothing.
use Prim.Native.Nat.{ℕ, ◌+◌, ◌-◌, ◌<◌, ◌≤◌}
use Rattle.std.specs.Prelude.{◌≡◌, Bool, cond, get_or, replicate, Ok}
use Rattle.std.proofs.Math.Path.{refl}
use Rattle.std.proofs.Common.{sym, ap, ◌∙◌, ⊎_elim, inl, inr, arith, ltb-true, ltb-false, length-append}
use Rattle.std.proofs.Math.Bool.{true, false}
use mathlib.Core.List.{List}
use Rattle.std.proofs.Math.Dec.{ltb}
use Rattle.std.proofs.Math.ListN.{length}
use Rattle.std.proofs.lemmas.List.{length-replicate}
use Rattle.endian.specs.Bytes.{put, span, be32_bytes, AllBytes}
use Rattle.endian.specs.Laws.Stored.{Outside, length-put, put-none, put-bytes, put-outside}
use Rattle.header.specs.Verdicts.{fst_offset, fst_size}
use Rattle.tree.specs.Table.{encode}
use Rattle.tree.proofs.Laws.WrittenBytes.{encode-all, be32-all, all_append}
use Rattle.space.specs.declared.region.DiscRegion.{DiscRegion}
use Rattle.space.specs.Used.{no_region}
use Rattle.space.specs.MaxRegionSize.{max_region_size}
use Rattle.opened.specs.Opening.{free_space_of}
use Rattle.opened.proofs.Laws.OpeningLaws.{span-bytes}
use Rattle.edit_rules.specs.Change.{Change, padded_table, image_with_table, copied_image, zeroed_image, written_image}
use Rattle.edit_rules.proofs.Laws.Puts.{Fits, put-length, put_all, put-else, span-length, zeros-all}
use Rattle.ledger.proofs.Laws.Written.{length-written_image, bytes-written_image, disc-end-written_image}
use Rattle.ledger.proofs.Laws.Opened.{Opened, opened}
use Rattle.ledger.proofs.Laws.Room.{outside}
use Rattle.steps.specs.Parts.{zero_verdict}
use Rattle.steps.proofs.Laws.Parts.{OnlyIn, copy_place, Parts}
use Rattle.steps.proofs.Laws.FreePlace.{put-again, span_same, field-same, free-free, opens-free}
use Rattle.steps.proofs.Laws.WhollyFree.{free-reaches, wholly-free, span-passes}

-- ---- the zeros, wherever there is room for them

pub zeroed-only : (r : DiscRegion) (image : List ℕ) → Fits image r.offset r.size → OnlyIn image (zeroed_image r image) r
zeroed-only r image f =
    let n : length (replicate {A = ℕ} r.size 0) ≡ r.size = length-replicate {A = ℕ} r.size 0 in
    record {
      len = put-length image r.offset (replicate r.size 0) (rw n f);
      same = λ i h. put-else image r.offset (replicate r.size 0) (rw n f) i (λ z. rw n (outside r r.size i (omega arith) h));
    }

pub zeroed-empty : (r : DiscRegion) (image : List ℕ) → r.size ≡ 0 → zeroed_image r image ≡ image
zeroed-empty r image e = rw e (put-none image r.offset)

pub zeroed-span : (c : Change) (image : List ℕ) → zeroed_image (cond (ltb 0 c.lost.size) c.lost no_region) image ≡ zeroed_image c.lost image
zeroed-span c image = go (ltb 0 c.lost.size) refl
  where
    go : (b : Bool) → ltb 0 c.lost.size ≡ b → zeroed_image (cond b c.lost no_region) image ≡ zeroed_image c.lost image
    go true e = refl
    go false e = let z : c.lost.size ≤ 0 = ltb-false 0 c.lost.size e in zeroed-empty no_region image refl ∙ sym (zeroed-empty c.lost image (omega arith))

-- ---- the table, over one of that size at f, wherever there is room for both

module _ (f size : ℕ) (table image : List ℕ) (new : f + length table ≤ length image) (old : f + size ≤ length image) (header : 0x440 ≤ length image) where
  abbrev placed : List ℕ
  placed = put image f (padded_table table size)

  padded-length : length (padded_table table size) ≡ length table + (size - length table)
  padded-length = length-append table (replicate (size - length table) 0) ∙ ap (λ (k : ℕ). length table + k) (length-replicate {A = ℕ} (size - length table) 0)

  table_fits : f + length (padded_table table size) ≤ length image
  table_fits = omega (arith, padded-length)

  placed-length : length placed ≡ length image
  placed-length = length-put image f (padded_table table size) table_fits

  field_fits : 0x428 + 4 ≤ length placed
  field_fits = rw placed-length (omega arith)

  pub table-length : length (image_with_table f size table image) ≡ length image
  unfolding image_with_table
  table-length = length-put placed 0x428 (be32_bytes (length table)) field_fits ∙ placed-length

  pub table-bytes : AllBytes table → AllBytes image → AllBytes (image_with_table f size table image)
  unfolding image_with_table
  table-bytes t b =
      put-bytes placed 0x428 (be32_bytes (length table)) field_fits
      (put-bytes image f (padded_table table size) table_fits b (all_append table (replicate (size - length table) 0) t (zeros-all (size - length table)))) (be32-all (length table))

  -- LAW: nothing else is written
  pub table-else : (i : ℕ) → Outside 0x428 4 i → Outside f size i → Outside f (length table) i → get_or (image_with_table f size table image) i 0 ≡ get_or image i 0
  unfolding image_with_table
  table-else i a b c =
      let d : Outside f (length (padded_table table size)) i = ⊎_elim (λ x. inl x) (λ x. ⊎_elim (λ y. inl y) (λ y. inr (omega (arith, padded-length))) c) b in
      put-outside placed 0x428 (be32_bytes (length table)) field_fits i a ∙ put-outside image f (padded_table table size) table_fits i d

-- LAW: the single edit is copy, table, zeros
written_is : (c : Change) (image : List ℕ) → written_image c image ≡ zeroed_image c.lost (image_with_table (fst_offset image) (fst_size image) (encode c.nodes) (copied_image c image))
unfolding written_image
written_is c image = refl

module _ (w : ℕ) (c : Change) (image : List ℕ) (o : Opened image) (p : Parts w c image) where
  abbrev image₁ : List ℕ
  image₁ = copied_image c image

  abbrev image₂ : List ℕ
  image₂ = image_with_table (fst_offset image₁) (fst_size image₁) (encode c.nodes) image₁

  -- ---- the copy

  source_fits : Fits image c.old.offset c.kept
  source_fits h = omega (arith, (p.safe.copied h).3, o.bounds.image_holds)

  copy-length : length (span image c.old.offset c.kept) ≡ c.kept
  copy-length = span-length image c.old.offset c.kept source_fits

  copy-fits : Fits image c.place.offset (length (span image c.old.offset c.kept))
  copy-fits h = let z : 0 < c.kept = rw copy-length at h in omega (arith, copy-length, (p.safe.copied z).2, o.bounds.image_holds)

  -- LAW: nothing else is written
  pub copied-only : OnlyIn image image₁ (copy_place c)
  copied-only = record {
    len = put-length image c.place.offset (span image c.old.offset c.kept) copy-fits;
    same = λ i h. put-else image c.place.offset (span image c.old.offset c.kept) copy-fits i (λ z. rw copy-length (outside (copy_place c) c.kept i (omega arith) h));
  }

  start₁ : fst_offset image₁ ≡ fst_offset image
  start₁ = field-same image image₁ o (copy_place c) p.copy copied-only 0x424 (omega arith)

  size₁ : fst_size image₁ ≡ fst_size image
  size₁ = field-same image image₁ o (copy_place c) p.copy copied-only 0x428 (omega arith)

  source-same : span image₁ c.old.offset c.kept ≡ span image c.old.offset c.kept
  source-same = span_same image image₁ c.old.offset c.kept copied-only.len source_fits (λ i h. copied-only.same i (p.source i h))

  copied-again : copied_image c image₁ ≡ image₁
  copied-again = rw source-same (put-again image c.place.offset (span image c.old.offset c.kept) copy-fits)

  -- LAW: the whole edit on the copied image is the whole edit
  pub written-again : written_image c image₁ ≡ written_image c image
  written-again = rw (written_is c image₁, written_is c image, start₁, size₁, copied-again)

  -- ---- the table

  -- LAW: the three in this order
  pub whole : zeroed_image c.lost image₂ ≡ written_image c image
  whole = rw (start₁, size₁, written_is c image)

  new-fits : fst_offset image₁ + length (encode c.nodes) ≤ length image₁
  new-fits = rw (start₁, copied-only.len) (omega (arith, p.safe.table, o.bounds.image_holds))

  old-fits : fst_offset image₁ + fst_size image₁ ≤ length image₁
  old-fits = rw (start₁, size₁, copied-only.len) (omega (arith, o.bounds.table, o.bounds.image_holds))

  header-fits : 0x440 ≤ length image₁
  header-fits = rw copied-only.len o.header.whole

  length₂ : length image₂ ≡ length image
  length₂ = table-length (fst_offset image₁) (fst_size image₁) (encode c.nodes) image₁ new-fits old-fits header-fits ∙ copied-only.len

  -- both are images of bytes
  pub copied-bytes : AllBytes image₁
  copied-bytes = put_all image c.place.offset (span image c.old.offset c.kept) copy-fits p.safe.bytes (span-bytes image c.old.offset c.kept p.safe.bytes)

  pub tabled-bytes : AllBytes image₂
  tabled-bytes = table-bytes (fst_offset image₁) (fst_size image₁) (encode c.nodes) image₁ new-fits old-fits header-fits (encode-all c.nodes p.safe.well) copied-bytes

  zeros-fit : Fits image₂ c.lost.offset c.lost.size
  zeros-fit z = rw length₂ (omega (arith, (p.safe.zeroed z).2, o.bounds.image_holds))

  -- LAW: after the table the image is that of the whole edit but for what is to be zeroed
  pub tabled-only : OnlyIn (written_image c image) image₂ c.lost
  tabled-only = record {
    len = length₂ ∙ sym (length-written_image c image p.safe);
    same = λ i h. sym (ap (λ (s : List ℕ). get_or s i 0) (sym whole) ∙ (zeroed-only c.lost image₂ zeros-fit).same i h);
  }

  pub opened_after : Opened (written_image c image)
  opened_after = opened (written_image c image) w p.opens (bytes-written_image c image p.safe)

  -- ---- the zeros

  lost-reaches : 0 < c.lost.size → c.lost.size ≤ max_region_size c.lost.offset 0 (free_space_of image₂)
  lost-reaches z =
      rw (free-free (written_image c image) image₂ opened_after c.lost p.lost tabled-only)
      (free-reaches (written_image c image) c.lost (wholly-free (written_image c image) c.lost p.lost (rw (disc-end-written_image c image p.safe) (p.safe.zeroed z).2)))

  -- LAW: the third call accepts the span
  pub third-passes : zero_verdict image₂ w (cond (ltb 0 c.lost.size) c.lost no_region) ≡ Ok tt
  third-passes = span-passes image₂ w _ (opens-free (written_image c image) image₂ opened_after c.lost p.lost tabled-only w p.opens) (go (ltb 0 c.lost.size) refl)
    where
      go : (b : Bool) → ltb 0 c.lost.size ≡ b → (cond b c.lost no_region).size ≤ max_region_size (cond b c.lost no_region).offset 0 (free_space_of image₂)
      go true e = lost-reaches (ltb-true 0 c.lost.size e)
      go false e = omega arith
