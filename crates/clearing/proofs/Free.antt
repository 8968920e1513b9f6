-- The free bytes of an open disc are what is not used of it. Assumes nothing.
use Rattle.std.specs.Prelude.{ℕ, ◌+◌, ◌≡◌, List}
use Rattle.std.proofs.Common.{sym, ap, ◌∙◌, arith}
use Rattle.space.specs.Used.{total_size}
use Rattle.space.specs.Laws.TotalLaws.{total-free}
use Rattle.opened.specs.Inner.Disc.{Opened, Means}
use Rattle.opened.proofs.Laws.Meant.{end_meant, used_meant}
use Rattle.clearing.specs.Clearing.{occupancy_of, free_by, used_by}
use Rattle.clearing.proofs.Laws.Opened.{open-sound, used-told}

pub free-beside : (image : List ℕ) (d : Opened) → Means image d → total_size d.disc.used + total_size (free_by (occupancy_of image)) ≡ d.disc.end
free-beside image d i =
    let e : used_by (occupancy_of image) ≡ d.disc.used = sym (used-told image) ∙ used_meant image d i in
    let s = total-free (occupancy_of image).disc_end (used_by (occupancy_of image)) (open-sound image d.words i.known).apart in
    omega (arith, ap total_size e, end_meant image d i, s)
