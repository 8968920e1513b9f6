-- A fill from three other sides: its tests before the record's are the resize's, an empty clip is a resize to 0, and a clip of the file's
-- own size writes the clip only and wants no working bytes. With the record: FillRecord of ledger. Assumes nothing.
use Rattle.std.specs.Prelude.{Ok, Err}
use Rattle.refusal.specs.Refusal.{Verdict}
use Rattle.std.specs.Prelude.{ℕ, ◌≤◌, ◌≡◌, refl, List, [], ltb, length, get_or}
use borrow.Author.Tests.{le-ltb, eq-eqb}
use Rattle.std.proofs.Common.{arith}
use Rattle.endian.specs.Bytes.{put}
use Rattle.endian.specs.Laws.Stored.{put-none}
use Rattle.refusal.specs.declared.Refusal.TheVariants.{NotEnoughSpace}
use Rattle.refusal.specs.Refusal.{refuse, first}
use Rattle.tree.specs.Table.{empty_root}
use Rattle.opened.specs.Opening.{nodes_in, free_space_of, region_of, disc_of}
use Rattle.edit_rules.specs.Change.{Plan, nothing, filled}
use Rattle.edit_rules.specs.Edits.{Account, resize_file, fill_file, plan_behind, file_verdict, plan_sized, plan_resize, plan_fill, plan_of, plan_verdict, plan_image, counted_verdict, verdict_of, image_after}

module _ (image : List ℕ) (words bytes k : ℕ) (clip : List ℕ) (short : length clip ≤ 0xFFFFFFFF) where
  -- the plan of the fill is that of the resize, and then the clip
  same-plan : (p : Plan) (v : Verdict) → plan_verdict (plan_behind (first v (refuse (ltb 0xFFFFFFFF (length clip)) NotEnoughSpace (Ok tt))) (filled k clip (plan_behind v p))) (disc_of image) words bytes ≡ plan_verdict (plan_behind v p) (disc_of image) words bytes
  same-plan p (Ok _) = rw (le-ltb 0xFFFFFFFF (length clip) short)
  same-plan p (Err c) = refl

  -- THEOREM: its tests are those of a resize to the clip's length
  pub fill-verdict : plan_verdict (plan_of (fill_file k clip) (disc_of image)) (disc_of image) words bytes ≡ plan_verdict (plan_of (resize_file k (length clip)) (disc_of image)) (disc_of image) words bytes
  unfolding plan_fill plan_resize
  fill-verdict = same-plan (plan_sized (free_space_of image) (nodes_in image) k (region_of (get_or (nodes_in image) k empty_root)) (length clip)) (file_verdict (nodes_in image) k)

-- THEOREM: an empty clip is a resize to 0
pub empty-clip : (a : Account) (image : List ℕ) (words bytes k : ℕ) → image_after (fill_file k []) a image words bytes ≡ image_after (resize_file k 0) a image words bytes
unfolding image_after verdict_of counted_verdict
empty-clip a image words bytes k = rw (fill-verdict image words bytes k [] (omega arith), same-image)
  where
    same : (p : Plan) (v : Verdict) → plan_image (plan_behind (first v (refuse (ltb 0xFFFFFFFF 0) NotEnoughSpace (Ok tt))) (filled k [] (plan_behind v p))) image ≡ plan_image (plan_behind v p) image
    same p (Ok _) = put-none (plan_image p image) _
    same p (Err c) = refl

    same-image : plan_image (plan_of (fill_file k []) (disc_of image)) image ≡ plan_image (plan_of (resize_file k 0) (disc_of image)) image
    same-image = unfold plan_fill plan_resize in same (plan_sized (free_space_of image) (nodes_in image) k (region_of (get_or (nodes_in image) k empty_root)) 0) (file_verdict (nodes_in image) k)

-- THEOREM: a clip of the file's own size, with any number of working bytes
pub own-size : (image : List ℕ) (words bytes k : ℕ) (clip : List ℕ) → file_verdict (nodes_in image) k ≡ Ok tt → length clip ≡ (region_of (get_or (nodes_in image) k empty_root)).size → length clip ≤ 0xFFFFFFFF →
    (plan_verdict (plan_of (fill_file k clip) (disc_of image)) (disc_of image) words bytes ≡ Ok tt) × (plan_image (plan_of (fill_file k clip) (disc_of image)) image ≡ put image (region_of (get_or (nodes_in image) k empty_root)).offset clip)
own-size image words bytes k clip f e h = (rw plan-is, rw plan-is)
  where
    plan-is : plan_fill (free_space_of image) (nodes_in image) k clip ≡ filled k clip nothing
    plan-is = unfold plan_fill plan_resize in rw (f, le-ltb 0xFFFFFFFF (length clip) h, eq-eqb (length clip) (region_of (get_or (nodes_in image) k empty_root)).size e)
