-- A sheet's call as a whole: it does not start, or its lines run. Assumes nothing.
use Rattle.std.specs.Prelude.{Result, Ok, Err, ℕ, ◌≤◌, ◌≡◌, refl, Bool, true, false, ◌&&◌, nat_le, List, length}
use Rattle.std.proofs.Common.{sym, arith}
use Rattle.std.proofs.lemmas.Bool.{leb-true}
use Rattle.endian.specs.Bytes.{AllBytes}
use Rattle.refusal.specs.declared.Refusal.{Refusal}
use Rattle.refusal.specs.Refusal.{Verdict, first}
use Rattle.totals.specs.declared.Totals.{Totals}
use Rattle.totals.specs.Totals.{team_verdict}
use Rattle.opened.specs.Opening.{opening, zeros}
use Rattle.edit_rules.specs.Promise.{Loan, loan}
use Rattle.ledger.specs.Lists.{LedgerHoldsAfter, TellsAfter, SharesHoldAfter}
use Rattle.sheet.specs.Layout.{Line, line_count, sheet_lines}
use Rattle.sheet.proofs.Laws.CheckedWhole.{checked-whole}
use Rattle.sheet_run.specs.declared.run.Refused.{Refused}
use Rattle.sheet_run.specs.Run.{stopped_at, run_lines, run_read, run_started, sheet_run, own_answer, RunsSheet}
use Rattle.sheet_run.specs.Inner.Running.{lines_behind, IsRun}
use Rattle.sheet_run.proofs.Laws.AfterSheet.{ledger-after-sheet, record-after-sheet, shares-after-sheet}
use Rattle.sheet_run.proofs.Laws.Orders.{nothing-run}

-- the lines of a sheet are few
pub few : (sheet : List ℕ) (lines : List Line) → sheet_lines sheet ≡ Ok lines → length lines ≤ 1024
few sheet lines e =
    let g = (checked-whole sheet).good lines e in
    let n : line_count sheet ≤ 1024 = leb-true (line_count sheet) 1024 (second (nat_le 16 (length sheet)) (nat_le (line_count sheet) 1024) _ _ g.header) in
    omega (arith, n, g.count)
  where
    second : (a b c d : Bool) → (a && b && c && d) ≡ true → b ≡ true
    second true true c d e = refl
    second true false c d e = e
    second false b c d e = let z : ◌≡◌ {A = ℕ} 0 1 = cc in absurd (omega arith)

module _ (sheet : List ℕ) (team : ℕ) (l : Loan) where
  abbrev tests : Verdict
  tests = first (opening l.image (length l.words)) (team_verdict team)

  -- ---- it starts

  module _ (lines : List Line) (s : Ok lines ≡ lines_behind tests (sheet_lines sheet)) where
    both : (x : Result (List Line) Refusal) (v : Verdict) → Ok lines ≡ lines_behind v x → (x ≡ Ok lines) × (v ≡ Ok tt)
    both (Ok xs) (Ok _) e = (sym e, refl)
    both (Ok xs) (Err c) e = let z : ◌≡◌ {A = ℕ} 0 1 = cc in absurd (omega arith)
    both (Err c) v e = let z : ◌≡◌ {A = ℕ} 0 1 = cc in absurd (omega arith)

    pub read : sheet_lines sheet ≡ Ok lines
    read = (both (sheet_lines sheet) tests s).0

    passed : tests ≡ Ok tt
    passed = (both (sheet_lines sheet) tests s).1

    pub opened : opening l.image (length l.words) ≡ Ok tt
    opened = go (opening l.image (length l.words)) passed
      where
        go : (v : Verdict) → first v (team_verdict team) ≡ Ok tt → v ≡ Ok tt
        go (Ok _) e = refl
        go (Err c) e = let z : ◌≡◌ {A = ℕ} 0 1 = cc in absurd (omega arith)

    pub starts : sheet_run sheet team l ≡ run_lines 1 lines team l.totals l.image (length l.words) (length l.bytes)
    unfolding sheet_run
    starts = rw (read, passed) refl

    pub runs : (last : List ℕ) (t : Totals) (r : Result (Unit {0}) Refused) →
        IsRun (run_lines 1 lines team l.totals l.image (length l.words) (length l.bytes)) l.image last l.totals t r →
        (ws' bs' : List ℕ) → ws' ≡ zeros l.words → bs' ≡ zeros l.bytes → RunsSheet own_answer sheet team l (loan last ws' bs' t) r
    runs last t r h ws' bs' zw zb = record { answered = rw starts h.answered; image = rw starts h.image; totals = rw starts h.totals; words = zw; bytes = zb }

  -- ---- it does not

  module _ (c : Refusal) (s : Err c ≡ lines_behind tests (sheet_lines sheet)) where
    starts-not : sheet_run sheet team l ≡ stopped_at 0 c
    unfolding sheet_run
    starts-not = go (sheet_lines sheet) tests s
      where
        go : (x : Result (List Line) Refusal) (v : Verdict) → Err c ≡ lines_behind v x →
            run_read x (λ lines. run_started v (run_lines 1 lines team l.totals l.image (length l.words) (length l.bytes))) ≡ stopped_at 0 c
        go (Ok lines) (Ok _) e = let z : ◌≡◌ {A = ℕ} 0 1 = cc in absurd (omega arith)
        go (Ok lines) (Err d) e = let q : d ≡ c = cc in rw q refl
        go (Err d) v e = let q : d ≡ c = cc in rw q refl

    pub runs-not : (ws' bs' : List ℕ) → ws' ≡ zeros l.words → bs' ≡ zeros l.bytes →
        RunsSheet own_answer sheet team l (loan l.image ws' bs' l.totals) (Err (record { line = 0; cause = c }))
    runs-not ws' bs' zw zb =
        let n = nothing-run 0 c l.totals l.image in
        record { answered = rw starts-not refl; image = rw starts-not (sym n.0); totals = rw starts-not (sym n.1); words = zw; bytes = zb }

-- ---- what the theorems about lists of edits say of its calls

module _ {sheet : List ℕ} {team : ℕ} {before after : Loan} {r : Result (Unit {0}) Refused} (h : RunsSheet own_answer sheet team before after r) (s : AllBytes sheet) (b : AllBytes before.image) where
  pub ledger : LedgerHoldsAfter (sheet_run sheet team before).calls before after
  ledger = ledger-after-sheet sheet team before after s b h.image

  pub record_tells : TellsAfter (sheet_run sheet team before).calls before after
  record_tells = record-after-sheet sheet team before after s b h.image h.totals

  pub shares : SharesHoldAfter (sheet_run sheet team before).calls before after
  shares = shares-after-sheet sheet team before after s b h.image h.totals
