-- The theorems about lists of edits, of a sheet: of the image and the record that its calls leave. Assumes nothing.
use Rattle.std.specs.Prelude.{ℕ, ◌≡◌, List, length}
use Rattle.std.proofs.Common.{arith}
use Rattle.endian.specs.Bytes.{AllBytes}
use Rattle.edit_rules.specs.Promise.{Loan}
use Rattle.ledger.specs.Runs.{Call, image_after_all, totals_after_all}
use Rattle.ledger.specs.Lists.{LedgerHoldsAfter, TellsAfter, SharesHoldAfter}
use Rattle.ledger.proofs.Laws.AfterAnyList.{ledger-holds}
use Rattle.ledger.proofs.Laws.RecordTells.{record-tells}
use Rattle.ledger.proofs.Laws.TeamsServed.{teams-served}
use Rattle.sheet_run.specs.Run.{sheet_run}
use Rattle.sheet_run.proofs.Laws.CallsOfLines.{sheet-within, sheet-handed-on}

-- what the call is lent and leaves
module _ (sheet : List ℕ) (team : ℕ) (before after : Loan) (s : AllBytes sheet) (b : AllBytes before.image)
    (i : after.image ≡ image_after_all (sheet_run sheet team before).calls before.image) where
  abbrev words : ℕ
  words = length before.words

  abbrev calls : List Call
  calls = (sheet_run sheet team before).calls

  pub ledger-after-sheet : LedgerHoldsAfter calls before after
  ledger-after-sheet o = rw i (ledger-holds before.image words words calls b o (omega arith) (sheet-within sheet s team before))

  module _ (t : after.totals ≡ totals_after_all before.totals calls before.image) where
    pub record-after-sheet : TellsAfter calls before after
    record-after-sheet limits shares nl ns m =
        rw (i, t)
        (record-tells before.image words words limits shares before.totals calls b nl ns m (omega arith) (sheet-within sheet s team before) (sheet-handed-on sheet s team before))

    pub shares-after-sheet : SharesHoldAfter calls before after
    shares-after-sheet o fair =
        rw (i, t)
        (teams-served before.image words words before.totals calls b o (omega arith) (sheet-within sheet s team before) (sheet-handed-on sheet s team before) fair)
