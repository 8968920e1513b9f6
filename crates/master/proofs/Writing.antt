-- What a list that is granted has for the writing: room for table, offsets and image; and the image in its parts. Assumes nothing.
use Rattle.std.specs.Prelude.{Ok, Err, ℕ, ◌+◌, ◌-◌, ◌≤◌, ◌≡◌, refl, List, [], ◌++◌, length, take, drop, replicate}
use Rattle.std.proofs.Common.{arith, ap, ◌∙◌, length-drop}
use Rattle.std.proofs.lemmas.List.{take_all, drop-drop, append-nil}
use Rattle.std.proofs.Math.ListN.{drop_of_length-le}
use Rattle.std.proofs.Math.Seq.{take-append_seam}
use borrow.Rule.Slice.PartMut.{put_mid}
use Rattle.endian.specs.Bytes.{put}
use Rattle.refusal.specs.declared.Refusal.{Refusal}
use Rattle.header.specs.declared.value.DiscHeader.{DiscHeader}
use Rattle.header.specs.Header.{put_header}
use Rattle.tree.specs.Table.{encode}
use Rattle.placement.specs.Placement.{least_end, offsets_of}
use Rattle.placement.proofs.Laws.Exactly.{is_placeable-least_end}
use Rattle.placement.proofs.Laws.Offsets.{length-offsets_of}
use Rattle.master.specs.Master.{Master, nodes_at, nodes_of_master, table_size, first_free, header_of_master, master_verdict, written_master, image_with_master}
use Rattle.master.proofs.Laws.Opens.{passed, placeable, placed}
use Rattle.master.proofs.Judging.{Few, few}

pub record Ready (m : Master) (room words bytes : ℕ) : Type 0 where
  pub few : Few m words
  pub bytes_fit : table_size m ≤ bytes
  pub room_fits : m.disc_end ≤ room
  pub least : least_end (first_free m) m.sizes ≤ m.disc_end
  pub table : first_free m ≤ m.disc_end

pub ready : (m : Master) (room words bytes : ℕ) → master_verdict m room words bytes ≡ Ok tt → Ready m room words bytes
ready m room words bytes e =
    let p = passed m room words bytes e in
    record {
      few = few m words p.listed p.limited;
      bytes_fit = p.bytes_fit;
      room_fits = p.room_fits;
      least = is_placeable-least_end (first_free m) m.disc_end m.sizes (placeable m room words bytes e);
      table = (placed m room words bytes e).table;
    }

-- what is put at the front of the part from `at` to the end is put at `at`
pub tail-put : (s : List ℕ) (at : ℕ) (bs : List ℕ) → at + length bs ≤ length s → put_mid at (length s - at) s (put (take (length s - at) (drop at s)) 0 bs) ≡ put s at bs
unfolding put
tail-put s at bs h =
    let n : ℕ = length s - at in
    let t : take n (drop at s) ≡ drop at s = take_all n (drop at s) (omega (arith, length-drop at s)) in
    let e : drop (0 + length bs) (drop at s) ≡ drop (at + length bs) s = ap (λ (i : ℕ). drop i (drop at s)) (omega arith) ∙ drop-drop (length bs) at s in
    let z : drop n (drop at s) ≡ [] = drop-drop n at s ∙ drop_of_length-le s (omega arith) in
    rw (t, e, z, append-nil (bs ++ drop (at + length bs) s))

-- the offsets stand in front of the words
pub offsets-front : (m : Master) (rest : List ℕ) → take (length m.sizes) (offsets_of (first_free m) m.sizes ++ rest) ≡ offsets_of (first_free m) m.sizes
offsets-front m rest = rw (← length-offsets_of (first_free m) m.sizes) (take-append_seam (offsets_of (first_free m) m.sizes) rest)

-- the image in its parts
pub in-parts : (m : Master) (image : List ℕ) → put (put_header (header_of_master m) (put image 0 (replicate m.disc_end 0))) 0x440 (encode (nodes_at m (offsets_of (first_free m) m.sizes))) ≡ written_master m image
unfolding written_master nodes_of_master
in-parts m image = refl

-- zeros up to the disc end
pub filled-to : (h : DiscHeader) (image : List ℕ) (n end : ℕ) → n ≡ end → put_header h (put image 0 (replicate n 0)) ≡ put_header h (put image 0 (replicate end 0))
filled-to h image n end e = rw e

-- ---- the image afterwards

pub refused-image : (m : Master) (image : List ℕ) (words bytes : ℕ) (c : Refusal) → master_verdict m (length image) words bytes ≡ Err c → image ≡ image_with_master m image words bytes
unfolding image_with_master
refused-image m image words bytes c e = rw e

pub granted-image : (m : Master) (image : List ℕ) (words bytes : ℕ) → master_verdict m (length image) words bytes ≡ Ok tt → written_master m image ≡ image_with_master m image words bytes
unfolding image_with_master
granted-image m image words bytes e = rw e
