-- `master::write_granted` meets its contract. Assumes nothing.
use Rattle.std.specs.Prelude.{ℕ, ◌≡◌, ◌+◌, ◌≤◌, length, take, replicate}
use Rattle.std.proofs.Common.{arith, ◌∙◌, length-take, length-drop}
use Rattle.endian.specs.Bytes.{put}
use Rattle.header.specs.Header.{put_header}
use Rattle.tree.specs.Table.{encode}
use Rattle.placement.specs.Placement.{offsets_of}
use Rattle.master.specs.Master.{Master, nodes_at, table_size, first_free, header_of_master}
use Rattle.master.specs.Asked.{wished}
use Rattle.master.proofs.Laws.Opens.{table-sized}
use Rattle.master.proofs.Writing.{Ready, ready, tail-put, offsets-front, in-parts}
use Rattle.master.proofs.write_granted.Goals as goal

pub overflow_add-size : goal.overflow_add-size
overflow_add-size c = let r = ready _ _ _ _ c.requires in omega (arith, r.few)

pub overflow_cast-size : goal.overflow_cast-size
overflow_cast-size c = let r = ready _ _ _ _ c.requires in omega (arith, r.few)

pub place-requires-clause-disc_end : goal.place-requires-clause-disc_end
place-requires-clause-disc_end c = let r = ready _ _ _ _ c.requires in rw c.size-size.ensures (omega (arith, r.least))

pub place-requires-clause-files : goal.place-requires-clause-files
place-requires-clause-files c = let r = ready _ _ _ _ c.requires in r.few.files

pub place-requires-clause-room : goal.place-requires-clause-room
place-requires-clause-room c = let r = ready _ _ _ _ c.requires in r.few.offsets

pub overflow_cast-size-2 : goal.overflow_cast-size-2
overflow_cast-size-2 c = let r = ready _ _ _ _ c.requires in omega (arith, r.few)

pub write_blank-requires-clause-header : goal.write_blank-requires-clause-header
write_blank-requires-clause-header c = let r = ready _ _ _ _ c.requires in omega (arith, r.table)

pub write_blank-requires-clause-room : goal.write_blank-requires-clause-room
write_blank-requires-clause-room c = let r = ready _ _ _ _ c.requires in r.room_fits

pub slice_bounds-write-end : goal.slice_bounds-write-end
slice_bounds-write-end c = let r = ready _ _ _ _ c.requires in omega (arith, r.few)

pub slice_bounds-write-end-2 : goal.slice_bounds-write-end-2
slice_bounds-write-end-2 c = let r = ready _ _ _ _ c.requires in omega (arith, r.few, length-take {A = ℕ} (length c.args.table.now.sizes.now) c.place.new.offsets)

pub slice_bounds-write-count : goal.slice_bounds-write-count
slice_bounds-write-count c = let r = ready _ _ _ _ c.requires in omega (arith, r.table, r.room_fits)

pub slice_bounds-write-start : goal.slice_bounds-write-start
slice_bounds-write-start c = let r = ready _ _ _ _ c.requires in omega (arith, r.table, r.room_fits)

pub write-requires-clause-offsets : goal.write-requires-clause-offsets
write-requires-clause-offsets c = let r = ready _ _ _ _ c.requires in omega (arith, r.few, length-take {A = ℕ} (length c.args.table.now.sizes.now) c.place.new.offsets)

pub write-requires-clause-bytes : goal.write-requires-clause-bytes
write-requires-clause-bytes c = let r = ready _ _ _ _ c.requires in r.bytes_fit

pub write-requires-clause-out : goal.write-requires-clause-out
write-requires-clause-out c = let r = ready _ _ _ _ c.requires in simp (length-take, length-drop) (omega (arith, r.table, r.room_fits))

pub returns-clause-image_after : goal.returns-clause-image_after
returns-clause-image_after c =
    let m : Master = wished c.args.game_code c.args.disc_end c.args.table.now.sizes.now c.args.table.now.paths.now in
    let r : Ready m (length c.args.image.now) (length c.args.words.now) (length c.args.bytes.now) = ready m _ _ _ c.requires in
    let size : c.size-size.result ≡ table_size m = c.size-size.ensures in
    let offsets : take (length m.sizes) c.place.new.offsets ≡ offsets_of (first_free m) m.sizes = rw (c.place.ensures, size) (offsets-front m _) in
    let blank : c.write_blank.new.image ≡ put_header (header_of_master m) (put c.args.image.now 0 (replicate m.disc_end 0)) = rw size at c.write_blank.ensures.image_after in
    let fits : 0x440 + length (encode (nodes_at m (offsets_of (first_free m) m.sizes))) ≤ length c.write_blank.new.image = omega (arith, table-sized m, r.table, r.room_fits) in
    rw (c.write.ensures, offsets) (tail-put c.write_blank.new.image 0x440 (encode (nodes_at m (offsets_of (first_free m) m.sizes))) fits ∙ rw blank (in-parts m c.args.image.now))
