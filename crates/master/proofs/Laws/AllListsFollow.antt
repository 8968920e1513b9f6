-- A new master is a list of bytes, as the buffer is, so any list of edits may follow; and 21 is due exactly where no place is left. Assumes nothing.
use Rattle.std.specs.Prelude.{Ok, Err, ℕ, ◌+◌, ◌≤◌, ◌≡◌, refl, Bool, true, false, not, List, [], ◌∷◌, length, replicate}
use Rattle.std.proofs.Common.{arith}
use Rattle.std.proofs.lemmas.List.{length-replicate}
use Rattle.endian.specs.Bytes.{put, AllBytes}
use Rattle.endian.specs.Laws.Stored.{length-put, put-bytes}
use Rattle.refusal.specs.declared.Refusal.TheVariants.{NotEnoughSpace}
use Rattle.refusal.specs.Refusal.{refuse}
use Rattle.header.specs.declared.fields.Field.{Field}
use Rattle.header.specs.Fields.{fields}
use Rattle.header.specs.Header.{blank_header, field_bytes, put_fields, put_header}
use Rattle.header.specs.Laws.Tiling.{tile, fields-tile, tile-start, tile-rest, tile-le}
use Rattle.header.specs.Laws.RoundTrip.{Fills, fills}
use Rattle.refusal.specs.Laws.Tests.{never_both}
use Rattle.header.specs.Verdicts.{gcn_magic}
use Rattle.tree.specs.Table.{encode}
use Rattle.tree.proofs.Laws.WrittenBytes.{be32-all, encode-all}
use Rattle.ledger.proofs.Laws.AfterAnyList.{ledger-holds}
use Rattle.placement.specs.Placement.{is_placeable}
use Rattle.placement.specs.Places.{IsPlaced}
use Rattle.placement.proofs.Laws.Exactly.{no-placement, none-fits}
use Rattle.master.specs.Master.{Master, nodes_of_master, table_size, first_free, header_with, header_of_master, master_verdict, written_master}
use Rattle.master.specs.Theorem.{IsGranted, RefusedExactly, AnyListFollows}
use Rattle.master.proofs.Laws.Written.{get_or-replicate_lem, Fits, sized, length-blank, whole, table-fits}
use Rattle.master.proofs.Laws.Opens.{fits, well, opens-new}

-- ---- bytes put field by field

abbrev AllRuns : List (List ℕ) → Type 0
AllRuns [] = Unit {0}
AllRuns (bs ∷ bss) = AllBytes bs × AllRuns bss

put_fields-bytes : (a b : ℕ) (fs : List Field) (bss : List (List ℕ)) (image : List ℕ) → tile a b fs ≡ true → Fills fs bss → b ≤ length image → AllRuns bss → AllBytes image → AllBytes (put_fields fs bss image)
unfolding put_fields
put_fields-bytes a b [] bss image t s l r h = h
put_fields-bytes a b (f ∷ fs) [] image t s l r h = h
put_fields-bytes a b (f ∷ fs) (bs ∷ bss) image t s l r h =
    let i : f.at + length bs ≤ length image = omega (arith, s.0, tile-start a b f fs t, tile-le (a + f.len) b fs (tile-rest a b f fs t)) in
    put_fields-bytes (a + f.len) b fs bss (put image f.at bs) (tile-rest a b f fs t) s.1 (rw (length-put image f.at bs i) l) r.1 (put-bytes image f.at bs i h r.0)

zeros-all : (n : ℕ) → AllBytes (replicate n 0)
zeros-all n i = rw (get_or-replicate_lem n i) (omega arith)

zero-byte : AllBytes (0 ∷ [])
zero-byte = zeros-all 1

module _ (m : Master) (image : List ℕ) (words bytes : ℕ) (all : AllBytes image) (g : IsGranted m (length image) words bytes) where
  f : Fits m image
  f = fits m image words bytes g

  runs : AllRuns (field_bytes (header_of_master m))
  unfolding field_bytes header_with blank_header
  runs = (g.passable.code_bytes, (zeros-all 2, (zero-byte, (zero-byte, (zero-byte, (zero-byte, (zeros-all 14, (be32-all 0, (be32-all gcn_magic, (zeros-all 0x3E0, (be32-all 0, (be32-all 0, (zeros-all 0x18, (be32-all 0, (be32-all 0x440, (be32-all (table_size m), (be32-all 0, (be32-all 0, (be32-all m.disc_end, (be32-all 0, (be32-all 0, tt)))))))))))))))))))))

  all-new : AllBytes (written_master m image)
  unfolding written_master
  all-new =
      let l : length (put image 0 (replicate m.disc_end 0)) ≡ length image = length-blank m image f in
      let w : 0x440 ≤ length (put image 0 (replicate m.disc_end 0)) = whole m image f in
      let blank : AllBytes (put image 0 (replicate m.disc_end 0)) = put-bytes image 0 (replicate m.disc_end 0) (omega (arith, length-replicate {A = ℕ} m.disc_end 0, f.room)) all (zeros-all m.disc_end) in
      let head : AllBytes (put_header (header_of_master m) (put image 0 (replicate m.disc_end 0))) =
      put_fields-bytes 0 0x440 fields (field_bytes (header_of_master m)) (put image 0 (replicate m.disc_end 0)) fields-tile (fills (header_of_master m) (sized m image f) (put image 0 (replicate m.disc_end 0)) w) w runs blank in
      put-bytes (put_header (header_of_master m) (put image 0 (replicate m.disc_end 0))) 0x440 (encode (nodes_of_master m)) (table-fits m image f) head (encode-all (nodes_of_master m) (well m image words bytes g))

-- THEOREM
pub any-list-follows : AnyListFollows
any-list-follows m image words bytes w calls all g h each =
    ledger-holds (written_master m image) words w calls (all-new m image words bytes all g) (opens-new m image words bytes g) h each

-- THEOREM
pub refused-exactly : RefusedExactly
unfolding master_verdict
refused-exactly m room words bytes e = rw e (go (is_placeable (first_free m) m.disc_end m.sizes) refl)
  where
    go : (t : Bool) → is_placeable (first_free m) m.disc_end m.sizes ≡ t →
        (refuse (not t) NotEnoughSpace (Ok tt) ≡ Err NotEnoughSpace → (offsets : List ℕ) → IsPlaced (first_free m) m.disc_end m.sizes offsets → ⊥) ×
        (((offsets : List ℕ) → IsPlaced (first_free m) m.disc_end m.sizes offsets → ⊥) → refuse (not t) NotEnoughSpace (Ok tt) ≡ Err NotEnoughSpace)
    go true q = (λ z. let n : ◌≡◌ {A = ℕ} 0 1 = cc in absurd (omega arith), λ h. absurd (never_both _ q (none-fits (first_free m) m.disc_end m.sizes h)))
    go false q = (λ z. no-placement (first_free m) m.disc_end m.sizes q, λ h. refl)
