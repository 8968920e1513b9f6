-- The parts of an image whose header passed. Assumes nothing.
use Rattle.std.specs.Prelude.{Ok, Err}
use Rattle.std.specs.Prelude.{ℕ, ◌≡◌, List}
use Rattle.std.proofs.Common.{refl, sym, ap, ◌∙◌}
use Rattle.refusal.specs.declared.Refusal.{Refusal}
use Rattle.refusal.specs.Refusal.{Verdict, first}
use Rattle.refusal.specs.Laws.Chains.{first-passed}
use Rattle.table.specs.Inner.Reading.{Opens}
use Rattle.header.specs.Verdicts.{header_verdict, bounds_verdict}
use Rattle.header.specs.Laws.FieldTests.{header-passes, bounds-pass}
use Rattle.tree.specs.Table.{check}
use Rattle.opened.specs.Opening.{table_of}
use Rattle.opened.specs.Inner.Prepared.{verdict_before24, IsReadable}
use Rattle.opened.proofs.Laws.OpeningLaws.{stopped, went_on}
use Rattle.opened.specs.Inner.Parts.{HasTable}

pub head_opens : (image : List ℕ) (words : ℕ) → IsReadable image words → first (header_verdict image) (bounds_verdict image) ≡ Ok tt
head_opens image words k = rw (header-passes image k.header, bounds-pass image k.bounds)

-- the header is refused before the table is read
pub refused_head : (image : List ℕ) (words : ℕ) (c : Refusal) → Err c ≡ first (header_verdict image) (bounds_verdict image) → Err c ≡ verdict_before24 image words
refused_head image words c e = stopped (Err c) (header_verdict image) (bounds_verdict image) (check (table_of image) words) e refl

-- a table that passed is accepted
pub accepted_table : (image : List ℕ) (words : ℕ) → verdict_before24 image words ≡ Ok tt → check (table_of image) words ≡ Ok tt
accepted_table image words e = (first-passed (bounds_verdict image) (check (table_of image) words) (first-passed (header_verdict image) (first (bounds_verdict image) (check (table_of image) words)) e).1).1

module _ (image table : List ℕ) (t : HasTable image table) where
  -- the table is there once the header passed
  pub tested : (words : ℕ) (r : Verdict) → Ok tt ≡ first (header_verdict image) (bounds_verdict image) → r ≡ check table words → r ≡ verdict_before24 image words
  tested words r passed e =
      (e ∙ ap (λ (l : List ℕ). check l words) (t (sym passed))) ∙ went_on (Ok tt) (header_verdict image) (bounds_verdict image) (check (table_of image) words) passed refl

  module _ (words : ℕ) (k : IsReadable image words) where
    pub table_is : table ≡ table_of image
    table_is = t (head_opens image words k)

    pub opens_there : verdict_before24 image words ≡ Ok tt → Opens table
    opens_there e = record { words = words; passed = rw table_is (accepted_table image words e) }
