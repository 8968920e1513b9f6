-- An accepted edit that writes a table leaves the written table of its tree, and its size in the header, whatever table there was. Assumes nothing.
use Rattle.std.specs.Prelude.{ℕ, ◌+◌, ◌≤◌, ◌≡◌, true, List, length}
use Rattle.std.proofs.Common.{◌∙◌, arith}
use Rattle.std.proofs.lemmas.Bool.{false≢true}
use Rattle.endian.specs.Bytes.{put, be32}
use Rattle.endian.specs.Laws.Stored.{span_ext}
use Rattle.header.specs.Verdicts.{fst_offset, fst_size, table_end}
use Rattle.opened.specs.Opening.{table_of, nodes_in, disc_of}
use Rattle.edit_rules.specs.Change.{Plan, refused, nothing, change, filled}
use Rattle.edit_rules.specs.Edits.{plan_of, plan_tree, plan_image, image_after}
use Rattle.edit_rules.proofs.Laws.Puts.{put-length, put-below, field_below}
use Rattle.ledger.proofs.Laws.Written.{table-written_image, fst-size-written_image}
use Rattle.edit_rules.proofs.Laws.Accepted.{accepted}
use Rattle.same_table.specs.Trees.{HasTableOf}
use Rattle.same_table.specs.Theorem.{WrittenTable}
use Rattle.same_table.proofs.Laws.Tabled.{is_tabled, plan-tabled}
use Rattle.same_table.proofs.Laws.SafeChange.{FitsBehind, clip_offset, IsSafePlan, safe-accepted}

-- what goes behind the table leaves table and size
module _ (image : List ℕ) (at : ℕ) (bs : List ℕ) (f : FitsBehind image at bs) where
  len : length (put image at bs) ≡ length image
  len = put-length image at bs f.fits

  field-same : (i : ℕ) → i + 4 ≤ 0x440 → be32 (put image at bs) i ≡ be32 image i
  field-same i h = field_below image at bs (table_end image) f.fits f.behind i (omega (arith, f.bounds.after-header))

  pub start-behind : fst_offset (put image at bs) ≡ fst_offset image
  start-behind = field-same 0x424 (omega arith)

  pub size-behind : fst_size (put image at bs) ≡ fst_size image
  size-behind = field-same 0x428 (omega arith)

  pub table-behind : table_of (put image at bs) ≡ table_of image
  unfolding table_of
  table-behind =
      let e : fst_offset image + fst_size image ≤ length image = omega (arith, f.bounds.table, f.bounds.image_holds) in
      rw (start-behind, size-behind) (span_ext (put image at bs) image (fst_offset image) (fst_size image) (rw len e) e (λ i h. put-below image at bs (table_end image) f.fits f.behind (fst_offset image + i) (omega arith)))

-- LAW: of a plan that is safe
pub tabled-plan : (image : List ℕ) (p : Plan) → IsSafePlan image p → is_tabled p ≡ true → HasTableOf (plan_image p image) (plan_tree p (nodes_in image))
tabled-plan image (refused v) s t = absurd (false≢true t)
tabled-plan image nothing s t = absurd (false≢true t)
tabled-plan image (change k c) s t = record { table = table-written_image c image s.safe; size = fst-size-written_image c image s.safe }
tabled-plan image (filled k clip p) s t =
    let h = tabled-plan image p s.0 t in
    record {
      table = table-behind (plan_image p image) (clip_offset p image k) clip s.1 ∙ h.table;
      size = size-behind (plan_image p image) (clip_offset p image k) clip s.1 ∙ h.size;
    }

-- THEOREM
pub written-table : WrittenTable
unfolding image_after
written-table ed a image words bytes h b v w =
    rw v (tabled-plan image (plan_of ed (disc_of image)) (safe-accepted ed a image words bytes h b v) (plan-tabled (disc_of image) words bytes ed w (accepted ed a image words bytes v).own))
