-- What the theorems about lists of calls ask of the calls that lines come to: one record goes through all of them, none is lent more words than the
-- run, and offsets and sizes have 32 bits, since they stand in a sheet of bytes. Assumes nothing.
use Rattle.std.specs.Prelude.{Result, Ok, Err, ℕ, zero, suc, ◌+◌, ◌^◌, ◌<◌, ◌≡◌, refl, Bool, true, false, cond, List, [], ◌∷◌, length}
use Rattle.std.proofs.Common.{arith}
use Rattle.endian.specs.Bytes.{AllBytes}
use Rattle.endian.specs.Laws.Stored.{be32-small}
use Rattle.refusal.specs.declared.Refusal.{Refusal}
use Rattle.refusal.specs.Refusal.{Verdict, first}
use Rattle.totals.specs.declared.Totals.{Totals}
use Rattle.totals.specs.Totals.{team_verdict}
use Rattle.tree.specs.Table.{Node}
use Rattle.opened.specs.Opening.{opening, nodes_in}
use Rattle.edit_rules.specs.Edits.{Edit, account, verdict_of, image_after, totals_after}
use Rattle.edit_rules.specs.Promise.{Loan}
use Rattle.ledger.specs.Runs.{Call, IsPassable, AllWithin, IsHandedOn}
use Rattle.sheet.specs.Layout.{Line, make_directory, make_file, move, resize, line_with, line_at, in_front, lines_from, sheet_lines}
use Rattle.sheet_run.specs.Lines.{edit_on, edit_by_path, line_edit}
use Rattle.sheet_run.specs.Run.{Run, run_found, run_judged, run_lines, run_read, run_started, sheet_run}
use Rattle.sheet_run.proofs.Laws.LinesInTurn.{run-lines-in-turn}

-- ---- the numbers of a line

abbrev pub IsPassableLine : Line → Type 0
IsPassableLine (make_directory path) = Unit {0}
IsPassableLine (make_file path) = Unit {0}
IsPassableLine (move path offset) = offset < 2 ^ 32
IsPassableLine (resize path size) = size < 2 ^ 32

abbrev pub ArePassableLines : List Line → Type 0
ArePassableLines [] = Unit {0}
ArePassableLines (line ∷ lines) = IsPassableLine line × ArePassableLines lines

-- of an answer, where there is one
abbrev HasPassable : Result Line Refusal → Type 0
HasPassable (Ok line) = IsPassableLine line
HasPassable (Err c) = Unit {0}

abbrev HaveAllPassable : Result (List Line) Refusal → Type 0
HaveAllPassable (Ok lines) = ArePassableLines lines
HaveAllPassable (Err c) = Unit {0}

either : (b : Bool) (x y : Result Line Refusal) → HasPassable x → HasPassable y → HasPassable (cond b x y)
either true x y p q = p
either false x y p q = q

one-line : (kind offset size : ℕ) (path : List ℕ) → offset < 2 ^ 32 → size < 2 ^ 32 → HasPassable (line_with kind offset size path)
one-line kind offset size path o s = search either

in-front : (x : Result Line Refusal) (xs : Result (List Line) Refusal) → HasPassable x → HaveAllPassable xs → HaveAllPassable (in_front x xs)
in-front (Ok line) (Ok lines) p q = (p, q)
in-front (Ok line) (Err c) p q = tt
in-front (Err c) xs p q = tt

-- those of a sheet of bytes
module _ (sheet : List ℕ) (b : AllBytes sheet) where
  at-place : (texts : List ℕ) (at : ℕ) → HasPassable (line_at texts sheet at)
  unfolding line_at
  at-place texts at = search (either, one-line, be32-small sheet (at + 8) b, be32-small sheet (at + 12) b)

  from-place : (texts : List ℕ) (at n : ℕ) → HaveAllPassable (lines_from texts sheet at n)
  unfolding lines_from
  from-place texts at zero = tt
  from-place texts at (suc n) = in-front (line_at texts sheet at) (lines_from texts sheet (at + 16) n) (at-place texts at) (from-place texts (at + 16) n)

  whole : (c : Bool) (x : Result (List Line) Refusal) (e : Refusal) → HaveAllPassable x → HaveAllPassable (cond c x (Err e))
  whole true x e p = p
  whole false x e p = tt

  pub sheet-passable : (lines : List Line) → sheet_lines sheet ≡ Ok lines → ArePassableLines lines
  unfolding sheet_lines
  sheet-passable lines e =
      let p : HaveAllPassable (sheet_lines sheet) = whole _ _ _ (from-place _ _ _) in
      rw e at p

-- ---- the edit that it comes to

abbrev HasPassableEdit : Result Edit Refusal → Type 0
HasPassableEdit (Ok ed) = IsPassable ed
HasPassableEdit (Err c) = Unit {0}

on-entry : (r : Result ℕ Refusal) (f : ℕ → Edit) → ((k : ℕ) → IsPassable (f k)) → HasPassableEdit (edit_on r f)
on-entry (Ok k) f h = h k
on-entry (Err c) f h = tt

by-path : (nodes : List Node) (line : Line) → IsPassableLine line → HasPassableEdit (edit_by_path nodes line)
by-path nodes (make_directory path) p = search on-entry
by-path nodes (make_file path) p = search on-entry
by-path nodes (move path offset) p = search on-entry
by-path nodes (resize path size) p = search on-entry

behind-limit : (b : Bool) (c : Refusal) (r : Result Edit Refusal) → HasPassableEdit r → HasPassableEdit (cond b (Err c) r)
behind-limit true c r p = tt
behind-limit false c r p = p

line-passable : (nodes : List Node) (line : Line) → IsPassableLine line → HasPassableEdit (line_edit nodes line)
unfolding line_edit
line-passable nodes line p = behind-limit _ _ _ (by-path nodes line p)

-- ---- the calls

module _ (words : ℕ) where
  judged : (n : ℕ) (v : Verdict) (call : Call) (later : Run) → call.words ≡ words → IsPassable call.edit → AllWithin words later.calls → AllWithin words (run_judged n v call later).calls
  judged n (Ok _) call later w p q = (omega arith, p, q)
  judged n (Err c) call later w p q = tt

  found : (n : ℕ) (r : Result Edit Refusal) (f : Edit → Run) → HasPassableEdit r → ((ed : Edit) → IsPassable ed → AllWithin words (f ed).calls) → AllWithin words (run_found n r f).calls
  found n (Ok ed) f p h = h ed p
  found n (Err c) f p h = tt

pub all-within : (n : ℕ) (lines : List Line) (team : ℕ) (t : Totals) (image : List ℕ) (words bytes : ℕ) → ArePassableLines lines →
    AllWithin words (run_lines n lines team t image words bytes).calls
unfolding run_lines
all-within n [] team t image words bytes p = tt
all-within n (line ∷ lines) team t image words bytes p =
    found words n (line_edit (nodes_in image) line) _ (line-passable (nodes_in image) line p.0) (λ ed q.
    judged words n (verdict_of ed (account t team) image words bytes) _ _ refl q
    (all-within (suc n) lines team (totals_after ed (account t team) image words bytes) (image_after ed (account t team) image words bytes) words bytes p.1))

pub handed-on : (n : ℕ) (lines : List Line) (team : ℕ) (t : Totals) (image : List ℕ) (words bytes : ℕ) → IsHandedOn t (run_lines n lines team t image words bytes).calls image
handed-on n lines team t image words bytes = (run-lines-in-turn n lines team t image words bytes).handed-on

-- ---- those of a sheet

module _ (words : ℕ) (t : Totals) (image : List ℕ) where
  -- nothing where it was not read or did not start
  abbrev Fit : Run → Type 0
  Fit r = AllWithin words r.calls × IsHandedOn t r.calls image

  once-started : (v : Verdict) (r : Run) → Fit r → Fit (run_started v r)
  once-started (Ok _) r p = p
  once-started (Err c) r p = (tt, tt)

  once-read : (x : Result (List Line) Refusal) (f : List Line → Run) → HaveAllPassable x → ((lines : List Line) → ArePassableLines lines → Fit (f lines)) → Fit (run_read x f)
  once-read (Ok lines) f p h = h lines p
  once-read (Err c) f p h = (tt, tt)

module _ (sheet : List ℕ) (b : AllBytes sheet) (team : ℕ) (l : Loan) where
  fit : Fit (length l.words) l.totals l.image (sheet_run sheet team l)
  unfolding sheet_run
  fit =
      once-read (length l.words) l.totals l.image (sheet_lines sheet) _ (read (sheet_lines sheet) refl) (λ lines p.
      once-started (length l.words) l.totals l.image (first (opening l.image (length l.words)) (team_verdict team)) _
      (all-within 1 lines team l.totals l.image (length l.words) (length l.bytes) p, handed-on 1 lines team l.totals l.image (length l.words) (length l.bytes)))
    where
      read : (x : Result (List Line) Refusal) → sheet_lines sheet ≡ x → HaveAllPassable x
      read (Ok lines) e = sheet-passable sheet b lines e
      read (Err c) e = tt

  pub sheet-within : AllWithin (length l.words) (sheet_run sheet team l).calls
  sheet-within = fit.0

  pub sheet-handed-on : IsHandedOn l.totals (sheet_run sheet team l).calls l.image
  sheet-handed-on = fit.1
