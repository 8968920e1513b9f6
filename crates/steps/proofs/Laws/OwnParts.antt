-- Each of the three calls writes its own part and no other: on any image, in any order, accepted or refused. Assumes nothing.
use Rattle.std.specs.Prelude.{Ok, Err, ℕ, ◌+◌, ◌≤◌, ◌≡◌, refl, cond, is_err, List, length}
use Rattle.std.proofs.Common.{arith}
use Rattle.endian.specs.Bytes.{AllBytes}
use Rattle.refusal.specs.Refusal.{Verdict}
use Rattle.header.specs.Verdicts.{fst_offset, fst_size}
use Rattle.tree.specs.Table.{encode}
use Rattle.space.specs.declared.region.DiscRegion.{DiscRegion}
use Rattle.space.specs.Used.{no_region}
use Rattle.opened.specs.Opening.{disc_of}
use Rattle.edit_rules.specs.Change.{Plan, refused, nothing, change, filled, zeroed_image}
use Rattle.edit_rules.specs.Edits.{Edit, Account, plan_of, verdict_of}
use Rattle.edit_rules.proofs.Laws.Accepted.{accepted}
use Rattle.edit_rules.proofs.Laws.Puts.{Fits}
use Rattle.ledger.proofs.Laws.Opened.{Opened, opened}
use Rattle.edit.specs.Asked.{IsPlaceEdit}
use Rattle.steps.specs.Parts.{plan_copy, plan_copied, plan_table_size, plan_tabled, image_after_copy, image_after_table, zero_verdict, image_after_zeros}
use Rattle.steps.specs.Places.{DifferOnlyIn, DifferOnlyInTable}
use Rattle.steps.proofs.Laws.Parts.{differ-only, outside_region}
use Rattle.steps.proofs.Laws.WhollyFree.{reaches-end, span-accepted}
use Rattle.steps.proofs.Laws.Parting.{copied-only, zeroed-only, table-length, table-else}
use Rattle.steps.proofs.Laws.Splitting.{Parted, parted}

nothing-written : (image : List ℕ) (r : DiscRegion) → DifferOnlyIn image image r
nothing-written image r = record { len = refl; same = λ i e. refl }

no-table-written : (image : List ℕ) (n : ℕ) → DifferOnlyInTable image image n
no-table-written image n = record { len = refl; same = λ i a b c. refl }

-- ---- of a plan that can be made in parts

module _ (w : ℕ) (image : List ℕ) (o : Opened image) where
  copy-own : (p : Plan) → Parted w image p → DifferOnlyIn image (plan_copied p image) (plan_copy p)
  copy-own (refused u) q = nothing-written image no_region
  copy-own nothing q = nothing-written image no_region
  copy-own (change k c) q = differ-only image _ _ (copied-only w c image o q)
  copy-own (filled k clip p) q = absurd q

  table-own : (p : Plan) → Parted w image p → DifferOnlyInTable image (plan_tabled p image) (plan_table_size p)
  table-own (refused u) q = no-table-written image _
  table-own nothing q = no-table-written image _
  table-own (change k c) q =
      let new : fst_offset image + length (encode c.nodes) ≤ length image = omega (arith, q.safe.table, o.bounds.image_holds) in
      let old : fst_offset image + fst_size image ≤ length image = omega (arith, o.bounds.table, o.bounds.image_holds) in
      record {
        len = table-length (fst_offset image) (fst_size image) (encode c.nodes) image new old o.header.whole;
        same = λ i a b d. table-else (fst_offset image) (fst_size image) (encode c.nodes) image new old o.header.whole i (outside_region 0x428 4 i a) (outside_region (fst_offset image) (fst_size image) i b) (outside_region (fst_offset image) (length (encode c.nodes)) i d);
      }
  table-own (filled k clip p) q = absurd q

-- ---- of the calls

module _ (ed : Edit) (a : Account) (image : List ℕ) (words bytes : ℕ) (h : IsPlaceEdit ed) (b : AllBytes image) where
  abbrev plan : Plan
  plan = plan_of ed (disc_of image)

  o : verdict_of ed a image words bytes ≡ Ok tt → Opened image
  o v = opened image words (accepted ed a image words bytes v).opens b

  -- LAW: the first call writes the copy alone
  pub own-copy : DifferOnlyIn image (image_after_copy ed a image words bytes) (plan_copy (plan_of ed (disc_of image)))
  unfolding image_after_copy
  own-copy = go (verdict_of ed a image words bytes) refl
    where
      go : (v : Verdict) → verdict_of ed a image words bytes ≡ v → DifferOnlyIn image (cond (is_err v) image (plan_copied plan image)) (plan_copy plan)
      go (Ok _) e = copy-own words image (o e) plan (parted ed a image words bytes h b e)
      go (Err x) e = nothing-written image (plan_copy plan)

  -- LAW: the second call writes the table and its size alone
  pub own-table : DifferOnlyInTable image (image_after_table ed a image words bytes) (plan_table_size (plan_of ed (disc_of image)))
  unfolding image_after_table
  own-table = go (verdict_of ed a image words bytes) refl
    where
      go : (v : Verdict) → verdict_of ed a image words bytes ≡ v → DifferOnlyInTable image (cond (is_err v) image (plan_tabled plan image)) (plan_table_size plan)
      go (Ok _) e = table-own words image (o e) plan (parted ed a image words bytes h b e)
      go (Err x) e = no-table-written image _

module _ (image : List ℕ) (words : ℕ) (span : DiscRegion) (b : AllBytes image) where
  -- LAW: an accepted span lies in the image
  pub span-fits : zero_verdict image words span ≡ Ok tt → Fits image span.offset span.size
  span-fits v z =
      let s = span-accepted image words span v in
      omega (arith, reaches-end image span z s.1, (opened image words s.0 b).bounds.image_holds)

  -- LAW: the third call writes the span alone
  pub own-zeros : DifferOnlyIn image (image_after_zeros image words span) span
  unfolding image_after_zeros
  own-zeros = go (zero_verdict image words span) refl
    where
      go : (v : Verdict) → zero_verdict image words span ≡ v → DifferOnlyIn image (cond (is_err v) image (zeroed_image span image)) span
      go (Ok _) e = differ-only image _ span (zeroed-only span image (span-fits e))
      go (Err x) e = nothing-written image span
