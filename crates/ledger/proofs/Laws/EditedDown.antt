-- An image whose table is above the maximum may be edited down to it: a rewrite that drops texts which no entry uses,
-- or writes fewer of them, does it wherever the tree written anew is within the maximum. Assumes nothing.
use Rattle.std.specs.Prelude.{Ok}
use Prim.Native.Nat.{ℕ, ◌<◌, ◌≤◌}
use Rattle.std.specs.Prelude.{◌≡◌, refl, List}
use Rattle.std.proofs.Common.{◌∙◌, inr, arith}
use borrow.Author.Tests.{le-ltb}
use Rattle.std.proofs.Math.ListN.{length}
use Rattle.endian.specs.Bytes.{AllBytes}
use Rattle.header.specs.Verdicts.{fst_offset, fst_size, fst_max_size, disc_end, table_end}
use Rattle.tree.specs.Table.{encode, limits}
use Rattle.tree.proofs.Laws.Accepted.{length-nodes_of}
use Rattle.tree.proofs.Laws.RoundTrip.{limits-within}
use Rattle.tree.proofs.Laws.WrittenEntries.{length-encode}
use Rattle.space.specs.MaxRegionSize.{max_region_size}
use Rattle.space.specs.Used.{no_region}
use Rattle.space.specs.Laws.GrowthLaws.{table-largest}
use Rattle.opened.specs.Opening.{table_of, nodes_in, free_space_of, opening, disc_of}
use Rattle.opened.specs.Inner.Prepared.{IsOpenImage}
use Rattle.opened.proofs.Laws.OpeningLaws.{opens}
use Rattle.edit_rules.specs.Change.{table_verdict}
use Rattle.edit_rules.specs.Edits.{Account, rewrite, plan_of, plan_verdict, verdict_of, image_after}
use Rattle.edit_rules.proofs.Laws.PlaceTests.{stated-apart}
use Rattle.ledger.proofs.Laws.Files.{places_in}
use Rattle.ledger.proofs.Laws.Room.{free-places}
use Rattle.ledger.proofs.Laws.TreeAfter.{arrives}
use Rattle.ledger.proofs.Laws.Unbounded.{IsUnbounded, own-record}

-- the table is above the maximum, the tree written anew is not, and the working bytes hold it
module _ (image : List ℕ) (words bytes : ℕ) (b : AllBytes image) (e : opening image words ≡ Ok tt) (above : fst_max_size image < fst_size image) (down : length (encode (nodes_in image)) ≤ fst_max_size image) (held : length (encode (nodes_in image)) ≤ bytes) where
  o : IsOpenImage image words
  o = opens image words b e

  within : limits (nodes_in image) words ≡ Ok tt
  unfolding nodes_in
  within =
      let n = length-nodes_of (table_of image) in
      let t = o.reads.table in
      limits-within (nodes_in image) words (record {
        few = omega (arith, n, t.few);
        texts = omega (arith, n, t.texts, t.fits, o.reads.size, length-encode (nodes_in image));
        room = omega (arith, n, t.room);
        depth = t.depth;
      })

  -- the table's own place holds as many bytes as it has, and so fewer
  grows : length (encode (nodes_in image)) ≤ max_region_size (fst_offset image) (fst_size image) (free_space_of image)
  grows = rw (free-places image) (omega (arith, (table-largest (disc_end image) (table_end image) (places_in image) (fst_offset image) (fst_size image) refl).least))

  passes : plan_verdict (plan_of rewrite (disc_of image)) (disc_of image) words bytes ≡ Ok tt
  unfolding table_verdict
  passes =
      let size : ℕ = length (encode (nodes_in image)) in
      rw (within, stated-apart image bytes size no_region (inr down), le-ltb bytes size held, le-ltb (max_region_size (fst_offset image) (fst_size image) (free_space_of image)) size grows)

  -- THEOREM: with an account that stops no edit a rewrite is accepted, leaves the tree as it is and its table within the maximum
  pub edited-down : (a : Account) → IsUnbounded image a →
      (verdict_of rewrite a image words bytes ≡ Ok tt)
      × (nodes_in (image_after rewrite a image words bytes) ≡ nodes_in image)
      × (fst_size (image_after rewrite a image words bytes) ≤ fst_max_size image)
  unfolding image_after
  edited-down a u =
      let v : verdict_of rewrite a image words bytes ≡ Ok tt = own-record image words bytes b e rewrite tt a u ∙ passes in
      let z = arrives image words bytes b e rewrite tt passes in
      (v, rw v z.0, rw v (omega (arith, z.2.table)))
