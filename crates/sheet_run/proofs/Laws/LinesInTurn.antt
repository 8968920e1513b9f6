-- Each line that ran is its edit on what the lines before left, accepted; the first that did not is told. Assumes nothing.
use Rattle.std.specs.Prelude.{Result, Ok, Err, Some, ℕ, zero, suc, ◌≡◌, refl, List, [], ◌∷◌, length, slice_get}
use Rattle.std.proofs.Common.{ap, ◌∙◌, subst, arith, add-zero}
use borrow.Author.Tests.{lt-leb}
use Rattle.refusal.specs.declared.Refusal.{Refusal}
use Rattle.refusal.specs.Refusal.{Verdict}
use Rattle.totals.specs.declared.Totals.{Totals}
use Rattle.totals.specs.Totals.{team_verdict}
use Rattle.opened.specs.Opening.{nodes_in}
use Rattle.edit_rules.specs.Edits.{Edit, account, verdict_of, image_after, totals_after}
use Rattle.ledger.specs.Runs.{Call, image_after_all, totals_after_all}
use Rattle.sheet.specs.Layout.{Line}
use Rattle.sheet_run.specs.Lines.{line_edit}
use Rattle.sheet_run.specs.Run.{Run, stopped_at, run_found, run_judged, run_lines}
use Rattle.sheet_run.specs.Theorem.{line_verdict, LineRan, RunsInTurn, LinesInTurn}
use Rattle.sheet_run.proofs.Laws.Orders.{started}

pub same-some : {A : Type 0} {x y : A} → Some x ≡ Some y → x ≡ y
same-some e = cc

-- a line in front of others
module _ (n : ℕ) (line : Line) (lines : List Line) (team : ℕ) (t : Totals) (image : List ℕ) (words bytes : ℕ) where
  abbrev call_of : Edit → Call
  call_of ed = record { edit = ed; account = account t team; words = words; bytes = bytes }

  abbrev behind : Edit → Run → Type 0
  behind ed later =
      RunsInTurn (suc n) lines team (totals_after ed (account t team) image words bytes) (image_after ed (account t team) image words bytes) words bytes later

  -- it is refused
  stopped : (c : Refusal) → line_verdict (line_edit (nodes_in image) line) (account t team) image words bytes ≡ Err c →
      RunsInTurn n (line ∷ lines) team t image words bytes (stopped_at n c)
  unfolding image_after_all totals_after_all
  stopped c e = record {
    at-most = omega arith;
    each = λ i x call p q. absurd (cc);
    handed-on = tt;
    whole = λ h. absurd (omega arith);
    stops = λ h. record { line = line; cause = c; at = refl; refused = e; told = rw add-zero };
  }

  -- it is accepted
  ran : (ed : Edit) → line_edit (nodes_in image) line ≡ Ok ed → verdict_of ed (account t team) image words bytes ≡ Ok tt → (later : Run) → behind ed later →
      RunsInTurn n (line ∷ lines) team t image words bytes (record { calls = call_of ed ∷ later.calls; answer = later.answer })
  unfolding image_after_all totals_after_all
  ran ed e v later d = record {
    at-most = omega (arith, d.at-most);
    each = each;
    handed-on = (refl, d.handed-on);
    whole = λ h. d.whole (omega arith);
    stops = λ h.
        let s = d.stops (omega arith) in
        record { line = s.line; cause = s.cause; at = s.at; refused = s.refused; told = s.told ∙ ap (λ (k : ℕ). Err (record { line = k; cause = s.cause })) (omega arith) };
  }
    where
      each : (i : ℕ) (x : Line) (call : Call) → slice_get (line ∷ lines) i ≡ Some x → slice_get (call_of ed ∷ later.calls) i ≡ Some call →
          LineRan team t image words bytes (record { calls = call_of ed ∷ later.calls; answer = later.answer }) i x call
      each zero x call p q =
          subst (λ y. LineRan team t image words bytes (record { calls = call_of ed ∷ later.calls; answer = later.answer }) 0 y call) (same-some p)
          (subst (λ y. LineRan team t image words bytes (record { calls = call_of ed ∷ later.calls; answer = later.answer }) 0 line y) (same-some q)
          (record { edit = e; lent = refl; accepted = v }))
      each (suc i) x call p q = let r = d.each i x call p q in record { edit = r.edit; lent = r.lent; accepted = r.accepted }

  judged : (ed : Edit) (v : Verdict) → line_edit (nodes_in image) line ≡ Ok ed → verdict_of ed (account t team) image words bytes ≡ v → (later : Run) → behind ed later →
      RunsInTurn n (line ∷ lines) team t image words bytes (run_judged n v (call_of ed) later)
  judged ed (Ok _) e q later d = ran ed e q later d
  judged ed (Err c) e q later d = stopped c (rw e q)

  found : (r : Result Edit Refusal) → line_edit (nodes_in image) line ≡ r → (later : Edit → Run) → ((ed : Edit) → behind ed (later ed)) →
      RunsInTurn n (line ∷ lines) team t image words bytes
      (run_found n r (λ ed. run_judged n (verdict_of ed (account t team) image words bytes) (call_of ed) (later ed)))
  found (Ok ed) e later d = judged ed (verdict_of ed (account t team) image words bytes) e refl (later ed) (d ed)
  found (Err c) e later d = stopped c (rw e)

-- LAW: any lines, numbered from any n, any image, record, team and memory
pub run-lines-in-turn : (n : ℕ) (lines : List Line) (team : ℕ) (t : Totals) (image : List ℕ) (words bytes : ℕ) →
    RunsInTurn n lines team t image words bytes (run_lines n lines team t image words bytes)
unfolding run_lines image_after_all totals_after_all
run-lines-in-turn n [] team t image words bytes = record {
  at-most = omega arith;
  each = λ i x call p q. absurd (cc);
  handed-on = tt;
  whole = λ h. refl;
  stops = λ h. absurd (omega arith);
}
run-lines-in-turn n (line ∷ lines) team t image words bytes =
    found n line lines team t image words bytes (line_edit (nodes_in image) line) refl
    (λ ed. run_lines (suc n) lines team (totals_after ed (account t team) image words bytes) (image_after ed (account t team) image words bytes) words bytes)
    (λ ed. run-lines-in-turn (suc n) lines team (totals_after ed (account t team) image words bytes) (image_after ed (account t team) image words bytes) words bytes)

-- THEOREM: of a sheet, once it starts
pub lines-in-turn : LinesInTurn
unfolding team_verdict
lines-in-turn sheet lines team before e o h =
    rw (started sheet team before lines e o (rw (lt-leb 16 team h) refl))
    (run-lines-in-turn 1 lines team before.totals before.image (length before.words) (length before.bytes))
