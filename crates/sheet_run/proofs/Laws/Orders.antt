-- What comes before the first line, in its order: the sheet, opening, the team. Each refuses with line 0, and nothing is run, also of a sheet
-- without lines. Assumes nothing.
use Rattle.std.specs.Prelude.{Ok, Err, ℕ, ◌≤◌, ◌≡◌, refl, List, length}
use borrow.Author.Tests.{le-leb}
use Rattle.refusal.specs.declared.Refusal.{Refusal}
use Rattle.refusal.specs.declared.Refusal.TheVariants.{NoSuchEntry}
use Rattle.totals.specs.declared.Totals.{Totals}
use Rattle.totals.specs.Totals.{team_verdict}
use Rattle.opened.specs.Opening.{opening}
use Rattle.edit_rules.specs.Promise.{Loan}
use Rattle.ledger.specs.Runs.{image_after_all, totals_after_all}
use Rattle.sheet.specs.Layout.{Line, sheet_lines}
use Rattle.sheet_run.specs.Run.{stopped_at, run_lines, sheet_run}

-- the sheet, before the image is looked at
pub refused-sheet : (sheet : List ℕ) (team : ℕ) (l : Loan) (c : Refusal) → sheet_lines sheet ≡ Err c → sheet_run sheet team l ≡ stopped_at 0 c
unfolding sheet_run
refused-sheet sheet team l c e = rw e

module _ (sheet : List ℕ) (team : ℕ) (l : Loan) (lines : List Line) (e : sheet_lines sheet ≡ Ok lines) where
  -- opening, before the team
  pub refused-opening : (c : Refusal) → opening l.image (length l.words) ≡ Err c → sheet_run sheet team l ≡ stopped_at 0 c
  unfolding sheet_run
  refused-opening c o = rw (e, o)

  pub refused-team : opening l.image (length l.words) ≡ Ok tt → 16 ≤ team → sheet_run sheet team l ≡ stopped_at 0 NoSuchEntry
  unfolding sheet_run team_verdict
  refused-team o h = rw (e, o, le-leb 16 team h)

  -- all three pass
  pub started : opening l.image (length l.words) ≡ Ok tt → team_verdict team ≡ Ok tt →
      sheet_run sheet team l ≡ run_lines 1 lines team l.totals l.image (length l.words) (length l.bytes)
  unfolding sheet_run
  started o h = rw (e, o, h)

-- of what is stopped before its first call image and record are as they were
pub nothing-run : (n : ℕ) (c : Refusal) (t : Totals) (image : List ℕ) →
    (image_after_all (stopped_at n c).calls image ≡ image) × (totals_after_all t (stopped_at n c).calls image ≡ t)
unfolding image_after_all totals_after_all
nothing-run n c t image = (refl, refl)
