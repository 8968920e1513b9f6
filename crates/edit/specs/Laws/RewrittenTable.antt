-- The table that `table_anew` gives is the one that an accepted rewrite leaves. Assumes nothing.
use Rattle.std.specs.Prelude.{Ok, ℕ, ◌≡◌, List}
use Rattle.std.proofs.Common.{arith}
use Rattle.endian.specs.Bytes.{AllBytes}
use Rattle.header.specs.Verdicts.{fst_offset}
use Rattle.opened.specs.Opening.{table_of, nodes_in, disc_of}
use Rattle.edit_rules.specs.Change.{written_image}
use Rattle.edit_rules.specs.Edits.{Account, rewrite, table_change, plan_of, verdict_of, image_after}
use Rattle.edit_rules.proofs.Laws.Accepted.{Accepted, accepted}
use Rattle.ledger.proofs.Laws.Written.{Safe, table-written_image, fst-offset-written_image}
use Rattle.ledger.proofs.Laws.Opened.{Opened, opened}
use Rattle.ledger.proofs.Laws.Room.{TableRoom, room}
use Rattle.edit.specs.TableAnew.{table_anew}

module _ (a : Account) (image : List ℕ) (words bytes : ℕ) (b : AllBytes image) (v : verdict_of rewrite a image words bytes ≡ Ok tt) where
  after-is : image_after rewrite a image words bytes ≡ written_image (table_change (nodes_in image)) image
  unfolding image_after
  after-is = rw v

  passed : Accepted (plan_of rewrite (disc_of image)) a image words bytes
  passed = accepted rewrite a image words bytes v

  was : Opened image
  was = opened image words passed.opens b

  fits : TableRoom (table_change (nodes_in image)) image words
  fits = room (table_change (nodes_in image)) image words bytes was passed.own

  safe : Safe (table_change (nodes_in image)) image
  safe = record {
    bytes = b;
    header = was.header;
    bounds = was.bounds;
    well = was.well;
    table = fits.end;
    copied = λ z. absurd (omega arith);
    zeroed = λ z. absurd (omega arith);
  }

  -- LAW: the new image's table, of the size that its header says, is it
  pub rewritten-table : table_of (image_after rewrite a image words bytes) ≡ table_anew image
  unfolding table_anew
  rewritten-table = rw after-is (table-written_image (table_change (nodes_in image)) image safe)

  -- LAW: where the old one began
  pub rewritten-at : fst_offset (image_after rewrite a image words bytes) ≡ fst_offset image
  rewritten-at = rw after-is (fst-offset-written_image (table_change (nodes_in image)) image safe)
