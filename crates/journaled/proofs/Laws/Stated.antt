-- Another FST maximum keeps what holds after any list of edits: the image opens to the same tree, and no byte of a file or of the program is another.
-- Assumes nothing.
use Rattle.std.specs.Prelude.{ℕ, suc, ◌+◌, ◌≤◌, ◌≡◌, List, length, map, get_or}
use Rattle.std.proofs.Common.{sym, ap, subst, ◌∙◌, inl, inr, arith}
use Rattle.endian.specs.Bytes.{put, be32_bytes}
use Rattle.endian.specs.Laws.Stored.{Outside, length-put, put-outside, put-bytes}
use Rattle.header.specs.Fields.{fst_max_size_field}
use Rattle.tree.specs.Table.{Node}
use Rattle.tree.proofs.Laws.WrittenBytes.{be32-all}
use Rattle.ledger.specs.Ledger.{Ledger, node_without_place}
use Rattle.ledger.specs.Inner.Files.{files_of}
use Rattle.ledger.proofs.Laws.AnyMaximum.{any-maximum}
use Rattle.ledger.proofs.Laws.Files.{files_in}
use Rattle.ledger.proofs.Laws.Histories.{Trues, trues-same}
use Rattle.ledger.proofs.Laws.Opened.{Opened, opened}
use Rattle.ledger.proofs.Laws.Kept.{Kept}
use Rattle.ledger.proofs.Laws.ProgramKept.{ProgramKept, program-spared}

module _ (w : ℕ) (image : List ℕ) (l : Ledger) (K : Kept w image l) (n : ℕ) where
  abbrev stated : List ℕ
  stated = put image fst_max_size_field.at (be32_bytes n)

  o : Opened image
  o = opened image w K.opens K.bytes

  fits : fst_max_size_field.at + length (be32_bytes n) ≤ length image
  fits = omega (arith, o.header.whole)

  same_length : length stated ≡ length image
  same_length = length-put image fst_max_size_field.at (be32_bytes n) fits

  besides : (i : ℕ) → Outside 0x42C 4 i → get_or stated i 0 ≡ get_or image i 0
  besides = put-outside image fst_max_size_field.at (be32_bytes n) fits

  -- LAW: the program is where it was, every byte
  pub stated-program : ProgramKept image stated
  stated-program =
      program-spared image stated o same_length (λ i h. besides i (inl (omega arith))) (λ i h g. besides i (inr (omega arith)))
      (λ i h. besides i (inr (omega (arith, o.bounds.after-header, (o.places.lie 0 i h).0))))

  -- LAW: and what is kept is kept
  pub stated-kept : Kept w stated l
  stated-kept =
      let opens = any-maximum image stated w K.bytes K.opens same_length besides in
      record {
        bytes = put-bytes image fst_max_size_field.at (be32_bytes n) fits K.bytes (be32-all n);
        opens = opens.0;
        shape = ap (map node_without_place) opens.1 ∙ K.shape;
        trues = subst (λ (nodes : List Node). Trues stated (files_of nodes) l.histories) (sym opens.1)
            (trues-same image stated (files_in image) l.histories (λ k i h. besides i (inr (omega (arith, o.bounds.after-header, (o.places.lie (suc k) i h).0)))) K.trues);
      }
