-- Four bytes put over the stored parent of a directory, the root's too, and three over the root's name offset: unread bytes alone are replaced.
-- Assumes nothing.
use Rattle.std.specs.Prelude.{Ok}
use Rattle.std.specs.Prelude.{ℕ, ◌+◌, ◌-◌, ◌*◌, ◌/◌, ◌<◌, ◌≤◌, ◌≡◌, false, List, length, leb}
use Rattle.std.proofs.Common.{⊎_elim, inl, inr, arith, le-leb}
use Rattle.endian.specs.Bytes.{put, AllBytes}
use Rattle.endian.specs.Laws.Stored.{length-put, put-outside}
use Rattle.refusal.specs.Laws.Tests.{lt-or-le, and_both, never_both}
use Rattle.header.specs.Verdicts.{fst_offset, fst_size}
use Rattle.tree.specs.Table.{kind, count}
use Rattle.opened.specs.Opening.{table_of, opening}
use Rattle.same_table.specs.Unread.{is_unread, is_unread_in, DifferInUnread}
use Rattle.same_table.proofs.Laws.UnreadTable.{IsUnread, is-unread, some}
use Rattle.same_table.proofs.Laws.UnreadImage.{table-fits, entries_fit}

module _ (image : List ℕ) (w : ℕ) (b : AllBytes image) (e : opening image w ≡ Ok tt) where
  -- unread bytes of the table
  put-differs : (at : ℕ) (bs : List ℕ) → at + length bs ≤ fst_size image → ((i : ℕ) → at ≤ i → i < at + length bs → IsUnread (table_of image) i) → DifferInUnread image (put image (fst_offset image + at) bs)
  put-differs at bs h unread =
      let f : fst_offset image + at + length bs ≤ length image = omega (arith, table-fits image w b e) in
      record {
        len = length-put image (fst_offset image + at) bs f;
        same = λ i r. put-outside image (fst_offset image + at) bs f i
            (⊎_elim (λ l. inl l) (λ l. ⊎_elim (λ m. absurd (clash i l m r)) (λ m. inr m) (lt-or-le i (fst_offset image + at + length bs))) (lt-or-le i (fst_offset image + at)));
      }
    where
      clash : (i : ℕ) → fst_offset image + at ≤ i → i < fst_offset image + at + length bs → is_unread_in image i ≡ false → ⊥
      clash i l m r =
          never_both (is_unread_in image i)
          (and_both (leb (fst_offset image) i) (is_unread (table_of image) (i - fst_offset image)) (le-leb (fst_offset image) i (omega arith))
          (is-unread (table_of image) (i - fst_offset image) (unread (i - fst_offset image) (omega arith) (omega arith)))) r

  -- LAW: over a directory's stored parent
  pub parent-unread : (k : ℕ) (bs : List ℕ) → k < count (table_of image) → kind (table_of image) k ≡ 1 → length bs ≡ 4 → DifferInUnread image (put image (fst_offset image + (12 * k + 4)) bs)
  parent-unread k bs h d l =
      put-differs (12 * k + 4) bs (omega (arith, entries_fit image w b e)) (λ i u v.
      let q : i / 12 ≡ k = omega arith in
      inr (omega arith, (λ z. let y : kind (table_of image) k ≡ 0 = rw q at z in omega (arith, d, y)), omega arith, omega arith))

  -- LAW: over the root's name offset
  pub name-unread : (bs : List ℕ) → length bs ≡ 3 → DifferInUnread image (put image (fst_offset image + 1) bs)
  name-unread bs l = put-differs 1 bs (omega (arith, entries_fit image w b e, some (table_of image))) (λ i u v. inl (omega arith, omega arith))
