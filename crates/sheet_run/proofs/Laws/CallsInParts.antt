-- Two calls one behind the other, of sheets that a sheet was cut into, do what the call of that sheet does. Assumes nothing.
use Rattle.std.specs.Prelude.{Result, Ok, Err, ℕ, ◌≡◌, refl, List, [], ◌∷◌, ◌++◌, length}
use Rattle.std.proofs.Common.{sym, ap, ◌∙◌, subst}
use Rattle.std.proofs.lemmas.List.{length-replicate}
use Rattle.endian.specs.Bytes.{AllBytes}
use Rattle.totals.specs.declared.Totals.{Totals}
use Rattle.opened.specs.Opening.{zeros}
use Rattle.edit_rules.specs.Edits.{image_after, totals_after}
use Rattle.edit_rules.specs.Promise.{Loan, loan}
use Rattle.ledger.specs.Runs.{Call, image_after_all, totals_after_all}
use Rattle.sheet.specs.Layout.{Line, sheet_lines}
use Rattle.sheet_run.specs.declared.run.Refused.{Refused}
use Rattle.sheet_run.specs.Run.{Run, sheet_run, own_answer, RunsSheet}
use Rattle.sheet_run.specs.Theorem.{run_behind, answer_on, counted_on, loan_after}
use Rattle.sheet_run.proofs.Laws.InParts.{in-parts}

-- ---- calls behind calls

pub image-behind : (xs ys : List Call) (image : List ℕ) → image_after_all (xs ++ ys) image ≡ image_after_all ys (image_after_all xs image)
unfolding image_after_all
image-behind [] ys image = refl
image-behind (c ∷ xs) ys image = image-behind xs ys (image_after c.edit c.account image c.words c.bytes)

pub totals-behind : (xs ys : List Call) (t : Totals) (image : List ℕ) →
    totals_after_all t (xs ++ ys) image ≡ totals_after_all (totals_after_all t xs image) ys (image_after_all xs image)
unfolding image_after_all totals_after_all
totals-behind [] ys t image = refl
totals-behind (c ∷ xs) ys t image =
    totals-behind xs ys (totals_after c.edit c.account image c.words c.bytes) (image_after c.edit c.account image c.words c.bytes)

-- ---- what is lent

-- all of it, as the call leaves it
pub left : (sheet : List ℕ) (team : ℕ) (before after : Loan) (r : Result (Unit {0}) Refused) → RunsSheet own_answer sheet team before after r →
    after ≡ loan_after (sheet_run sheet team before) before
left sheet team before after r h =
    let e : loan after.image after.words after.bytes after.totals ≡ loan_after (sheet_run sheet team before) before = rw (h.image, h.words, h.bytes, h.totals) refl in
    e

zeros-again : (memory : List ℕ) → zeros (zeros memory) ≡ zeros memory
zeros-again memory = let n : length (zeros memory) ≡ length memory = length-replicate (length memory) 0 in rw n refl

-- ---- two calls

module _ (sheet one two : List ℕ) (xs ys : List Line) (team : ℕ) (before : Loan)
    (s : sheet_lines sheet ≡ Ok (xs ++ ys)) (e : sheet_lines one ≡ Ok xs) (f : sheet_lines two ≡ Ok ys) (a : AllBytes one) (b : AllBytes before.image) where
  abbrev x : Run
  x = sheet_run one team before

  abbrev y : Run
  y = sheet_run two team (loan_after x before)

  whole : (r : Result (Unit {0}) Refused) → x.answer ≡ r → sheet_run sheet team before ≡ run_behind r x (counted_on (length xs) y)
  whole r q = in-parts sheet one two xs ys team before s e f a b ∙ ap (λ (v : Result (Unit {0}) Refused). run_behind v x (counted_on (length xs) y)) q

  -- LAW: the first part stops, and the whole does there
  pub stops-there : (middle : Loan) (c : Refused) → RunsSheet own_answer one team before middle (Err c) → RunsSheet own_answer sheet team before middle (Err c)
  stops-there middle c h =
      let w : sheet_run sheet team before ≡ x = whole (Err c) (sym h.answered) in
      record { answered = rw w h.answered; image = rw w h.image; totals = rw w h.totals; words = h.words; bytes = h.bytes }

  -- LAW: it does not, and the second goes on
  pub goes-on : (middle after : Loan) (r : Result (Unit {0}) Refused) → RunsSheet own_answer one team before middle (Ok tt) → RunsSheet own_answer two team middle after r →
      RunsSheet own_answer sheet team before after (answer_on (length xs) r)
  goes-on middle after r h i =
      let w : sheet_run sheet team before ≡ run_behind (Ok tt) x (counted_on (length xs) y) = whole (Ok tt) (sym h.answered) in
      let j : RunsSheet own_answer two team (loan_after x before) after r = subst (λ l. RunsSheet own_answer two team l after r) (left one team before middle (Ok tt) h) i in
      record {
        answered = rw w (ap (answer_on (length xs)) j.answered);
        image = rw w (j.image ∙ sym (image-behind x.calls y.calls before.image));
        totals = rw w (j.totals ∙ sym (totals-behind x.calls y.calls before.totals before.image));
        words = j.words ∙ zeros-again before.words;
        bytes = j.bytes ∙ zeros-again before.bytes;
      }
