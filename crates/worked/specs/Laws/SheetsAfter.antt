-- What the theorems about lists of edits say of a sheet, applied to the worked sheet of three lines: it is read off in numbers. Assumes nothing.
use Rattle.std.specs.Prelude.{Ok}
use Rattle.std.specs.Prelude.{ℕ, ◌≤◌, ◌≡◌, refl, true, false, List, [], ◌∷◌, map, length, take, replicate}
use Rattle.std.proofs.Common.{sym, ap, ◌∙◌, arith}
use Rattle.std.proofs.lemmas.List.{length-replicate}
use Rattle.endian.specs.Bytes.{span, AllBytes}
use Rattle.tree.specs.Table.{file, directory}
use Rattle.tree.specs.Insert.{raised_next, splice, insert_at, set_place}
use Rattle.space.specs.Used.{total_size}
use Rattle.space.specs.Free.{largest_size}
use Rattle.totals.specs.declared.team.Team.{Team}
use Rattle.totals.specs.declared.Totals.{Totals}
use Rattle.totals.specs.Totals.{new_teams}
use Rattle.totals.proofs.Laws.NewTeams.{new-taken}
use Rattle.opened.specs.Opening.{nodes_in, opening, free_space_of, used_of}
use Rattle.disc.specs.Calls.{record_answer}
use Rattle.edit_rules.specs.Promise.{Loan, loan}
use Rattle.ledger.specs.Ledger.{node_without_place, files_before, first_histories, put_in, first_ledger, Ledger, ledger_after}
use Rattle.ledger.specs.Runs.{Call, image_after_all, reports_of, totals_after_all, accepted_count, taken_after_all, team_after_all}
use Rattle.ledger.specs.Spared.{number_after, IsSpared}
use Rattle.ledger.specs.Theorem.{LedgerHolds, StillThere, Tells, IsFairStart, SharesHold, SharesSuffice}
use Rattle.ledger.proofs.Laws.AfterAnyList.{unnamed-stays}
use Rattle.sheet_run.specs.Run.{Run, sheet_run}
use Rattle.sheet_run.proofs.Laws.CallsOfLines.{sheet-within}
use Rattle.sheet_run.proofs.Laws.AfterSheet.{ledger-after-sheet, record-after-sheet, shares-after-sheet}
use Rattle.worked.specs.Image.{master, master_words}
use Rattle.worked.specs.Laws.Applied.{bytes_only, bytes-only}
use Rattle.worked.specs.Laws.Handed.{most, team}
use Rattle.worked.specs.Laws.Records.{records}
use Rattle.worked.specs.Laws.SheetImages.{with_x, with_f, at-master, at-last}
use Rattle.worked.specs.Laws.SheetSteps.{a, totals, room, made-x, made-f, resized-a}
use Rattle.worked.specs.Laws.SheetLayouts.{two_lines, three_lines, read}
use Rattle.worked.specs.Laws.SheetsApplied.{master-bytes}
use Rattle.worked.specs.Laws.Sheets.{lent, runs, first_call, three_calls, three-run, two-run}

sheet-bytes : AllBytes three_lines
unfolding bytes_only
sheet-bytes = bytes-only three_lines refl

-- ---- what the sheet is lent, and what it leaves

abbrev before : Loan
before = lent (replicate master_words 0) (replicate room 0)

abbrev after : Loan
after = loan (with_f 0x200) (replicate master_words 0) (replicate room 0) (totals 1654 6400 3)

words : length before.words ≡ master_words
words = length-replicate {A = ℕ} master_words 0

-- the three calls, on the image and with the record that are lent
abbrev calls_run : List Call
calls_run = (sheet_run three_lines 0 before).calls

calls : calls_run ≡ three_calls
calls = ap (λ (r : Run). r.calls) (runs (replicate master_words 0) (replicate room 0) three_lines room _ words (length-replicate {A = ℕ} room 0) read.three ∙ three-run)

image : with_f 0x200 ≡ image_after_all calls_run master
unfolding image_after_all
image = rw (calls, made-x.written, made-f.written, resized-a.written)

counted : totals 1654 6400 3 ≡ totals_after_all (totals 1370 6656 0) calls_run master
unfolding totals_after_all
counted = rw (calls, made-x.written, made-f.written, resized-a.counted)

opens : opening master (length before.words) ≡ Ok tt
opens = rw words at-master.opens

-- ---- the image, by the ledger

-- of `a` nothing new but that it was named; `f` is new
abbrev ledger : Ledger
ledger = record {
  nodes = directory [] 4 ∷ file (0x61 ∷ []) 0 0x200 ∷ directory (0x78 ∷ []) 4 ∷ file (0x66 ∷ []) 0 0 ∷ [];
  histories = record { place = 0x500; bytes = span master 0x500 0x100; m = 0x100; named = true } ∷ record { place = 0; bytes = []; m = 0; named = false } ∷ [];
}

entered : ledger_after (reports_of three_calls master) (first_ledger master) ≡ ledger
unfolding reports_of ledger_after first_histories files_before put_in insert_at splice raised_next set_place
entered = rw (made-x.answered, made-x.written, made-f.answered, made-f.written, resized-a.answered, at-master.tree)

holds : LedgerHolds master_words master (with_f 0x200) ledger
holds = rw (words, calls, entered) at (ledger-after-sheet three_lines 0 before after sheet-bytes master-bytes image opens)

-- ---- the record: team 0 may take whatever there is, and nothing is kept for any

abbrev limits : List ℕ
limits = most ∷ replicate 15 0

abbrev shares : List ℕ
shares = replicate 16 0

tells : Tells (with_f 0x200) master_words (team_after_all limits shares three_calls master) (totals 1654 6400 3)
tells =
    let made : record_answer master (length before.words) limits shares ≡ Ok (totals 1370 6656 0) = rw words records.made in
    rw (words, calls) at (record-after-sheet three_lines 0 before after sheet-bytes master-bytes image counted limits shares refl refl made)

fair : IsFairStart master (totals 1370 6656 0)
unfolding new_teams total_size
fair = record { nothing-taken = new-taken limits shares; shares-free = omega arith }

serves : SharesHold (totals 1370 6656 0) (with_f 0x200) (totals 1654 6400 3) × SharesSuffice three_calls master
serves = rw calls at (shares-after-sheet three_lines 0 before after sheet-bytes master-bytes image counted opens fair)

-- ---- read off

pub record After : Type 0 where
  pub opens : opening (with_f 0x200) master_words ≡ Ok tt
  pub tree : map node_without_place (nodes_in (with_f 0x200)) ≡ ledger.nodes
  pub used : used_of (with_f 0x200) ≡ 1654
  pub largest : largest_size (free_space_of (with_f 0x200)) ≡ 6400
  -- the bytes that `a` had
  pub of-a : span (with_f 0x200) 0x500 0x100 ≡ take 0x100 (span master 0x500 0x100)
  -- a record that is made of it, for teams of other limits and shares
  pub afresh : record_answer (with_f 0x200) master_words (replicate 16 5) (replicate 16 7) ≡ Ok (record { used = 1654; largest = 6400; teams = replicate 16 (team 5 7 0 0) })
  -- what team 0 has taken, in three edits
  pub taken : (taken_after_all 0 0 three_calls master ≡ 284) × (accepted_count 0 three_calls master ≡ 3)
  pub within-limit : 284 ≤ most
  pub kept : 0 ≤ total_size (free_space_of (with_f 0x200))

pub after-three : After
unfolding new_teams files_before
after-three =
    let u : used_of (with_f 0x200) ≡ 1654 = sym (ap (λ (t : Totals). t.used) tells.totals) in
    let l : largest_size (free_space_of (with_f 0x200)) ≡ 6400 = sym (ap (λ (t : Totals). t.largest) tells.totals) in
    record {
      opens = holds.opens;
      tree = holds.tree;
      used = u;
      largest = l;
      of-a = (holds.files 1 (0x61 ∷ []) 0x500 0x200 (rw at-last.tree refl)).first-bytes;
      afresh = tells.afresh (replicate 16 5) (replicate 16 7) ∙ rw (u, l);
      taken = (sym (ap (λ (m : Team). m.taken) (tells.teams 0 (omega arith))), sym (ap (λ (m : Team). m.edits) (tells.teams 0 (omega arith))));
      within-limit = serves.0.within-limits 0;
      kept = serves.0.shares-free;
    }

-- ---- of the sheet that stops at its second line the first alone is accepted, which names no file: `a` lies where it lay

two-bytes : AllBytes two_lines
unfolding bytes_only
two-bytes = bytes-only two_lines refl

abbrev calls_of_two : List Call
calls_of_two = (sheet_run two_lines 0 before).calls

two-calls : calls_of_two ≡ first_call
two-calls = ap (λ (r : Run). r.calls) (runs (replicate master_words 0) (replicate room 0) two_lines room _ words (length-replicate {A = ℕ} room 0) read.two ∙ two-run)

spared : IsSpared (reports_of first_call master) (first_ledger master) (files_before 1 (nodes_in master))
unfolding reports_of
spared = (λ e. refl, tt)

unnamed : StillThere master (image_after_all calls_of_two master) (number_after (reports_of calls_of_two master) (first_ledger master) (files_before 1 (nodes_in master))) a 0x500 0x100
unnamed =
    unnamed-stays master (length before.words) (length before.words) calls_of_two master-bytes opens (omega arith) (sheet-within two_lines two-bytes 0 before) 1 a 0x500 0x100 (rw at-master.tree) (rw two-calls spared)

-- as the image with the directory `x` has it
pub stays : StillThere master with_x 0 a 0x500 0x100
unfolding reports_of image_after_all number_after files_before
stays = rw (two-calls, made-x.answered, made-x.written, at-master.tree) at unnamed

pub bytes-stay : span with_x 0x500 0x100 ≡ span master 0x500 0x100
bytes-stay = stays.bytes
