-- Lines may be run in parts, and so may sheets. Assumes nothing.
use Rattle.std.specs.Prelude.{Result, Ok, Err, ℕ, suc, ◌+◌, ◌≡◌, refl, List, [], ◌∷◌, ◌++◌, length}
use Rattle.std.proofs.Common.{sym, ap, ◌∙◌, arith, add-zero}
use Rattle.std.proofs.lemmas.List.{length-replicate}
use Rattle.endian.specs.Bytes.{AllBytes}
use Rattle.refusal.specs.declared.Refusal.{Refusal}
use Rattle.refusal.specs.Refusal.{Verdict}
use Rattle.totals.specs.declared.Totals.{Totals}
use Rattle.totals.specs.Totals.{team_verdict}
use Rattle.opened.specs.Opening.{opening, nodes_in}
use Rattle.edit_rules.specs.Edits.{Edit, account, verdict_of, image_after, totals_after}
use Rattle.edit_rules.specs.Promise.{Loan}
use Rattle.ledger.specs.Runs.{Call, image_after_all, totals_after_all}
use Rattle.ledger.proofs.Laws.AfterAnyList.{ledger-holds}
use Rattle.sheet.specs.Layout.{Line, sheet_lines}
use Rattle.sheet_run.specs.declared.run.Refused.{Refused}
use Rattle.sheet_run.specs.Lines.{line_edit}
use Rattle.sheet_run.specs.Run.{Run, run_found, run_judged, run_lines, sheet_run}
use Rattle.sheet_run.specs.Theorem.{run_behind, counted_on, loan_after, InParts}
use Rattle.sheet_run.proofs.Laws.CallsOfLines.{sheet-passable, all-within}
use Rattle.sheet_run.proofs.Laws.Orders.{started}

-- y, behind the run x
abbrev joined : Run → (List Call → Run) → Run
joined x y = run_behind x.answer x (y x.calls)

abbrev with_call : Call → Run → Run
with_call call x = record { calls = call ∷ x.calls; answer = x.answer }

-- one call more in front of the first part
in_front : (call : Call) (r : Result (Unit {0}) Refused) (x y : Run) → with_call call (run_behind r x y) ≡ run_behind r (with_call call x) y
in_front call (Ok _) x y = refl
in_front call (Err e) x y = refl

-- the first line refused, or accepted
judged : (n : ℕ) (v : Verdict) (call : Call) (x whole : Run) (y : List Call → Run) → whole ≡ joined x (λ calls. y (call ∷ calls)) →
    run_judged n v call whole ≡ joined (run_judged n v call x) y
judged n (Ok _) call x whole y e = ap (with_call call) e ∙ in_front call x.answer x (y (call ∷ x.calls))
judged n (Err c) call x whole y e = refl

found : (n : ℕ) (r : Result Edit Refusal) (f g : Edit → Run) (y : List Call → Run) → ((ed : Edit) → f ed ≡ joined (g ed) y) → run_found n r f ≡ joined (run_found n r g) y
found n (Ok ed) f g y h = h ed
found n (Err c) f g y h = refl

-- LAW: lines, each on the image and with the record that the part before left
pub lines-in-parts : (n : ℕ) (xs ys : List Line) (team : ℕ) (t : Totals) (image : List ℕ) (words bytes : ℕ) →
    let x : Run = run_lines n xs team t image words bytes in
    run_lines n (xs ++ ys) team t image words bytes
    ≡ run_behind x.answer x (run_lines (n + length xs) ys team (totals_after_all t x.calls image) (image_after_all x.calls image) words bytes)
unfolding run_lines image_after_all totals_after_all
lines-in-parts n [] ys team t image words bytes = rw add-zero
lines-in-parts n (x ∷ xs) ys team t image words bytes =
    let after : Edit → List ℕ = λ ed. image_after ed (account t team) image words bytes in
    let moved : Edit → Totals = λ ed. totals_after ed (account t team) image words bytes in
    let call : Edit → Call = λ ed. record { edit = ed; account = account t team; words = words; bytes = bytes } in
    let second : List Call → Run = λ calls. run_lines (n + suc (length xs)) ys team (totals_after_all t calls image) (image_after_all calls image) words bytes in
    found n (line_edit (nodes_in image) x)
    (λ ed. run_judged n (verdict_of ed (account t team) image words bytes) (call ed) (run_lines (suc n) (xs ++ ys) team (moved ed) (after ed) words bytes))
    (λ ed. run_judged n (verdict_of ed (account t team) image words bytes) (call ed) (run_lines (suc n) xs team (moved ed) (after ed) words bytes))
    second
    (λ ed. judged n (verdict_of ed (account t team) image words bytes) (call ed) (run_lines (suc n) xs team (moved ed) (after ed) words bytes)
    (run_lines (suc n) (xs ++ ys) team (moved ed) (after ed) words bytes) second
    (let k : suc n + length xs ≡ n + suc (length xs) = omega arith in rw k at (lines-in-parts (suc n) xs ys team (moved ed) (after ed) words bytes)))

-- ---- the number of the first line

-- where a line is refused, and what is behind an accepted one
counted-judged : (k n : ℕ) (v : Verdict) (call : Call) (x y : Run) → counted_on k x ≡ y → counted_on k (run_judged n v call x) ≡ run_judged (k + n) v call y
counted-judged k n (Ok _) call x y e = ap (with_call call) e
counted-judged k n (Err c) call x y e = refl

counted-found : (k n : ℕ) (r : Result Edit Refusal) (f g : Edit → Run) → ((ed : Edit) → counted_on k (f ed) ≡ g ed) → counted_on k (run_found n r f) ≡ run_found (k + n) r g
counted-found k n (Ok ed) f g h = h ed
counted-found k n (Err c) f g h = refl

-- LAW: the first line's number decides nothing but what is told
pub lines-counted-on : (k n : ℕ) (lines : List Line) (team : ℕ) (t : Totals) (image : List ℕ) (words bytes : ℕ) →
    counted_on k (run_lines n lines team t image words bytes) ≡ run_lines (k + n) lines team t image words bytes
unfolding run_lines
lines-counted-on k n [] team t image words bytes = refl
lines-counted-on k n (line ∷ lines) team t image words bytes =
    counted-found k n (line_edit (nodes_in image) line) _ _ (λ ed.
    counted-judged k n (verdict_of ed (account t team) image words bytes) _ _ _
    (let s : k + suc n ≡ suc (k + n) = omega arith in
    rw s at
    (lines-counted-on k (suc n) lines team (totals_after ed (account t team) image words bytes) (image_after ed (account t team) image words bytes) words bytes)))

-- ---- sheets

module _ (one : List ℕ) (xs ys : List Line) (team : ℕ) (l : Loan) (e : sheet_lines one ≡ Ok xs) (a : AllBytes one) (b : AllBytes l.image) where
  abbrev first_run : Run
  first_run = run_lines 1 xs team l.totals l.image (length l.words) (length l.bytes)

  -- what the first part leaves opens, so that the second starts
  opens-behind : opening l.image (length l.words) ≡ Ok tt → opening (image_after_all first_run.calls l.image) (length l.words) ≡ Ok tt
  opens-behind o =
      (ledger-holds l.image (length l.words) (length l.words) first_run.calls b o (omega arith)
      (all-within 1 xs team l.totals l.image (length l.words) (length l.bytes) (sheet-passable one a xs e))).opens

  module _ (o : opening l.image (length l.words) ≡ Ok tt) (v : team_verdict team ≡ Ok tt) where
    abbrev k : ℕ
    k = length xs

    abbrev after : Loan
    after = loan_after first_run l

    -- the lines of the second part, numbered from the first one's end
    second : (two : List ℕ) → sheet_lines two ≡ Ok ys →
        run_lines (1 + k) ys team (totals_after_all l.totals first_run.calls l.image) (image_after_all first_run.calls l.image) (length l.words) (length l.bytes)
        ≡ counted_on k (sheet_run two team after)
    second two f =
        let w : length after.words ≡ length l.words = length-replicate (length l.words) 0 in
        let bs : length after.bytes ≡ length l.bytes = length-replicate (length l.bytes) 0 in
        let c : 1 + k ≡ k + 1 = omega arith in
        rw (started two team after ys f (rw w (opens-behind o)) v, w, bs, c) (sym (lines-counted-on k 1 ys team after.totals after.image (length l.words) (length l.bytes)))

    -- both started
    ran : (sheet two : List ℕ) → sheet_lines sheet ≡ Ok (xs ++ ys) → sheet_lines two ≡ Ok ys →
        let x : Run = sheet_run one team l in
        sheet_run sheet team l ≡ run_behind x.answer x (counted_on k (sheet_run two team (loan_after x l)))
    ran sheet two s f =
        rw (started sheet team l (xs ++ ys) s o v, started one team l xs e o v)
        (lines-in-parts 1 xs ys team l.totals l.image (length l.words) (length l.bytes)
        ∙ ap (λ (y : Run). run_behind first_run.answer first_run y) (second two f))

-- THEOREM
pub in-parts : InParts
unfolding sheet_run
in-parts sheet one two xs ys team before s e f a b = go (opening before.image (length before.words)) (team_verdict team) refl refl
  where
    go : (o v : Verdict) → opening before.image (length before.words) ≡ o → team_verdict team ≡ v →
        let x : Run = sheet_run one team before in
        sheet_run sheet team before ≡ run_behind x.answer x (counted_on (length xs) (sheet_run two team (loan_after x before)))
    go (Ok _) (Ok _) p q = ran one xs ys team before e a b p q sheet two s f
    -- the first part is refused as the whole is
    go (Ok _) (Err c) p q = rw (s, e, p, q) refl
    go (Err c) v p q = rw (s, e, p) refl
