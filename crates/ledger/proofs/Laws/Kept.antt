-- What holds of the image and the ledger after any list of edits, and that a change which keeps clear of the other files keeps it.
-- Assumes nothing.
use Rattle.std.specs.Prelude.{Ok}
use Rattle.std.specs.Prelude.{ℕ, suc, ◌≤◌, ◌≡◌, true, List, ◌∷◌, map}
use Rattle.std.proofs.Common.{arith}
use Rattle.endian.specs.Bytes.{AllBytes}
use Rattle.header.specs.Verdicts.{disc_end, table_end}
use Rattle.tree.specs.Table.{Node}
use Rattle.tree.specs.Inner.WellFormed.{IsWellFormed}
use Rattle.space.specs.Used.{used_regions}
use Rattle.space.specs.Layout.{are_disjoint_below}
use Rattle.executable.specs.Program.{program_behind}
use Rattle.opened.specs.Opening.{nodes_in, opening}
use Rattle.edit_rules.specs.Change.{written_image}
use Rattle.edit_rules.specs.Edits.{table_change}
use Rattle.ledger.specs.Ledger.{History, Ledger, node_without_place}
use Rattle.ledger.proofs.Laws.Written.{new_end, Safe, bytes-written_image, rest-written_image}
use Rattle.ledger.specs.Inner.Files.{files_of}
use Rattle.ledger.proofs.Laws.Files.{files_in, places_in}
use Rattle.ledger.proofs.Laws.Apart.{region, apart-test, apart-table}
use Rattle.ledger.proofs.Laws.Histories.{Trues, SameIn, trues-same}
use Rattle.ledger.proofs.Laws.Opened.{Opened, opened, nodes-written_image, opens-written_image}
use Rattle.ledger.proofs.Laws.Room.{TableRoom}
use Rattle.ledger.proofs.Laws.ProgramKept.{ProgramKept, program-kept}

pub record Kept (w : ℕ) (image : List ℕ) (l : Ledger) : Type 0 where
  pub bytes : AllBytes image
  pub opens : opening image w ≡ Ok tt
  pub shape : map node_without_place (nodes_in image) ≡ l.nodes
  pub trues : Trues image (files_in image) l.histories

-- ---- only the table is written

pub record Tabled (w : ℕ) (image : List ℕ) (nodes : List Node) (hs : List History) (image' : List ℕ) : Type 0 where
  pub bytes : AllBytes image'
  pub opens : opening image' w ≡ Ok tt
  pub tree : nodes_in image' ≡ nodes
  pub program : ProgramKept image image'
  -- the old files are still true
  pub trues : Trues image' (files_in image) hs

module _ (w : ℕ) (image : List ℕ) (l : Ledger) (K : Kept w image l) where
  pub opened-kept : Opened image
  opened-kept = opened image w K.opens K.bytes

  module _ (words : ℕ) (lent : words ≤ w) (nodes : List Node) (well : IsWellFormed nodes) (r : TableRoom (table_change nodes) image words) where
    pub table-safe : Safe (table_change nodes) image
    table-safe = record {
      bytes = K.bytes;
      header = opened-kept.header;
      bounds = opened-kept.bounds;
      well = well;
      table = r.end;
      copied = λ z. absurd (omega arith);
      zeroed = λ z. absurd (omega arith);
    }

    -- what lies behind the table stays
    pub table-spares : (k : ℕ) → SameIn image (written_image (table_change nodes) image) (region (places_in image) k)
    table-spares k i h = rest-written_image (table_change nodes) image table-safe i (opened-kept.places.lie k i h).0 (r.clear k i h) (λ z. absurd (omega arith)) (λ z. absurd (omega arith))

    pub tabled : used_regions (new_end (table_change nodes) image) (program_behind image ∷ files_of nodes) ≡ used_regions (new_end (table_change nodes) image) (places_in image) → Tabled w image nodes l.histories (written_image (table_change nodes) image)
    tabled same =
        let a = apart-table (table_end image) (new_end (table_change nodes) image) (disc_end image) (places_in image) opened-kept.places r.end r.clear in
        let d : are_disjoint_below (disc_end image) (used_regions (new_end (table_change nodes) image) (places_in image)) ≡ true = apart-test (new_end (table_change nodes) image) (disc_end image) (places_in image) (omega (arith, opened-kept.bounds.after-header)) a in
        let p = program-kept (table_change nodes) image opened-kept table-safe (table-spares 0) in
        record {
          bytes = bytes-written_image (table_change nodes) image table-safe;
          opens = opens-written_image (table_change nodes) image table-safe words w lent r.within opened-kept.program p.program (rw same d);
          tree = nodes-written_image (table_change nodes) image table-safe words w lent r.within;
          program = p;
          trues = trues-same image (written_image (table_change nodes) image) (files_in image) l.histories (λ k. table-spares (suc k)) K.trues;
        }
