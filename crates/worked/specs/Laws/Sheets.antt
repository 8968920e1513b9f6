-- Worked edit sheets, run on the small master, by team 0 unless another is said, by computing: what each answers, and the image and the record that it leaves; with any
-- working memory of the length that is said. Assumes nothing.
use Rattle.std.specs.Prelude.{Result, Ok, Err}
use Rattle.std.specs.Prelude.{ℕ, ◌≡◌, refl, List, [], ◌∷◌, length}
use Rattle.std.proofs.Common.{◌∙◌, arith}
use Rattle.endian.specs.Bytes.{be32, are_same_bytes}
use Rattle.refusal.specs.declared.Refusal.{Refusal}
use Rattle.refusal.specs.declared.Refusal.TheVariants.{HeaderPastImage, UnsafeName, NoSuchEntry, ExpectedFile, ExpectedDirectory, NotFound, AlreadyExists, OverlappingMove, NotEnoughSpace, TakenAboveLimit, InvalidSheet}
use Rattle.refusal.specs.Refusal.{number_of}
use Rattle.header.specs.Fields.{fields}
use Rattle.header.specs.Verdicts.{field_verdict, all_fields_verdict, header_verdict}
use Rattle.tree.specs.Units.{units}
use Rattle.tree.specs.Table.{is_plain, is_safe, parent_below, parent_of}
use Rattle.tree.specs.Lookup.{components_of, components, first_child, child_of, follow, lookup}
use Rattle.space.specs.MaxRegionSize.{size_beside_free, max_size_from}
use Rattle.totals.specs.declared.Totals.{Totals}
use Rattle.totals.specs.Totals.{remainders, team_verdict, totals_verdict, moved_totals}
use Rattle.opened.specs.Opening.{opening, disc_of}
use Rattle.edit_rules.specs.Change.{refused}
use Rattle.edit_rules.specs.Edits.{Edit, Account, insert_directory, insert_file, move_file, resize_file, insert_verdict, plan_of, plan_move, plan_resize, counted_verdict, verdict_of}
use Rattle.edit_rules.specs.Promise.{Loan, loan}
use Rattle.ledger.specs.Runs.{Call, image_after_all, totals_after_all}
use Rattle.sheet.specs.Layout.{Line, make_directory, make_file, move, resize, texts_of, line_at, lines_from, sheet_lines}
use Rattle.sheet_run.specs.declared.run.Refused.{Refused}
use Rattle.sheet_run.specs.Lines.{name_in, line_edit}
use Rattle.sheet_run.specs.Run.{Run, stopped_at, run_lines, sheet_run}
use Rattle.sheet_run.proofs.Laws.Orders.{refused-sheet, refused-opening, refused-team, started}
use Rattle.worked.specs.Image.{master, master_words, master_bytes}
use Rattle.worked.specs.Laws.Marked.{moved_a}
use Rattle.worked.specs.Laws.Planned.{Step, accepted-by}
use Rattle.worked.specs.Laws.OnMaster.{sized, costless, resizes}
use Rattle.worked.specs.Laws.SheetImages.{with_x, with_f, with_pair, tree_a, tree_x, at-master, at-x, at-f}
use Rattle.worked.specs.Laws.SheetSteps.{a, x, x/f, a_pair, totals, held, room, line-x, line-f, line-a, line-pair, made-x, made-again, made-f, resized-a, made-pair, over-limit}
use Rattle.worked.specs.Laws.SheetLayouts.{one, of_kind, two_lines, three_lines, twice, resize_from_12, read, no_lines, bounds, behind_q, bad-lines}

-- the small master with the record made of it
abbrev pub lent : List ℕ → List ℕ → Loan
lent ws bs = loan master ws bs (totals 1370 6656 0)

abbrev pub run : List ℕ → List ℕ → List ℕ → Run
run ws bs sheet = sheet_run sheet 0 (lent ws bs)

-- these lines, with such memory
abbrev pub run_of : ℕ → List Line → Run
run_of n lines = run_lines 1 lines 0 (totals 1370 6656 0) master master_words n

-- a sheet that is read runs its lines
pub runs : (ws bs sheet : List ℕ) (n : ℕ) (lines : List Line) → length ws ≡ master_words → length bs ≡ n → sheet_lines sheet ≡ Ok lines → run ws bs sheet ≡ run_of n lines
unfolding team_verdict
runs ws bs sheet n lines w b e = started sheet 0 (lent ws bs) lines e (rw w at-master.opens) refl ∙ rw (w, b)

-- ---- refused at its first line

-- by its path, or by what the edit asks of the tree
pub by-path : (line : Line) (lines : List Line) (c : Refusal) → line_edit tree_a line ≡ Err c → run_of room (line ∷ lines) ≡ stopped_at 1 c
unfolding run_lines
by-path line lines c e = rw (at-master.tree, e)

plan-refused : (ed : Edit) (c : Refusal) → plan_of ed (disc_of master) ≡ refused (Err c) → verdict_of ed (held 1370 6656 0) master master_words room ≡ Err c
unfolding verdict_of counted_verdict team_verdict
plan-refused ed c p = rw (at-master.opens, p)

pub by-edit : (line : Line) (lines : List Line) (ed : Edit) (c : Refusal) → line_edit tree_a line ≡ Ok ed → plan_of ed (disc_of master) ≡ refused (Err c) → run_of room (line ∷ lines) ≡ stopped_at 1 c
unfolding run_lines
by-edit line lines ed c e p = rw (at-master.tree, e, plan-refused ed c p)

-- a sheet of one line is refused there
abbrev IsRefused : List ℕ → List ℕ → List ℕ → Refusal → Type 0
IsRefused ws bs sheet c = run ws bs sheet ≡ stopped_at 1 c

-- the directory `x`, by a team that may take nothing
above-limit : (ws bs : List ℕ) → length ws ≡ master_words → length bs ≡ room → sheet_run (of_kind 1 x) 5 (lent ws bs) ≡ stopped_at 1 TakenAboveLimit
unfolding sheet_lines lines_from line_at texts_of be32 run_lines team_verdict
above-limit ws bs w b = started (of_kind 1 x) 5 (lent ws bs) (make_directory x ∷ []) refl (rw w at-master.opens) refl ∙ rw (w, b, at-master.tree, line-x, over-limit.answered)

-- `a` to be moved there
abbrev move_a : ℕ → List ℕ
move_a offset = one 3 0 offset 0 (0x61 ∷ 0 ∷ [])

-- paths: `a/:`, `q/:`, `a/x`, `a//x`, `a\b`, the byte 0x83 and `/q`, `a/`
abbrev a/: : List ℕ
a/: = 0x61 ∷ 0x2F ∷ 0x3A ∷ []

abbrev q/: : List ℕ
q/: = 0x71 ∷ 0x2F ∷ 0x3A ∷ []

abbrev a/x : List ℕ
a/x = 0x61 ∷ 0x2F ∷ 0x78 ∷ []

abbrev a//x : List ℕ
a//x = 0x61 ∷ 0x2F ∷ 0x2F ∷ 0x78 ∷ []

abbrev a\b : List ℕ
a\b = 0x61 ∷ 0x5C ∷ 0x62 ∷ []

abbrev half/q : List ℕ
half/q = 0x83 ∷ 0x2F ∷ 0x71 ∷ []

abbrev a/ : List ℕ
a/ = 0x61 ∷ 0x2F ∷ []

pub record FirstLines (ws bs : List ℕ) : Type 0 where
  -- a directory: the name is 13 before the parent, a file, is 17
  pub unsafe : IsRefused ws bs (of_kind 1 a/:) UnsafeName
  pub no-parent : IsRefused ws bs (of_kind 1 q/:) NotFound
  pub in-file : IsRefused ws bs (of_kind 1 a/x) ExpectedDirectory
  -- cut at the last `/`: the parent is `a/`
  pub empty-part : IsRefused ws bs (of_kind 1 a//x) ExpectedDirectory
  pub empty : IsRefused ws bs (of_kind 1 []) UnsafeName
  -- not cut at `\`
  pub backslash : IsRefused ws bs (of_kind 1 a\b) UnsafeName
  -- cut at the byte, whatever stands before it
  pub half : IsRefused ws bs (of_kind 1 half/q) NotFound
  -- a name behind a `/` that is not there; a file as a directory is
  pub no-name : IsRefused ws bs (of_kind 1 a/) UnsafeName
  pub file : (IsRefused ws bs (of_kind 2 a/:) UnsafeName) × (IsRefused ws bs (of_kind 2 a/x) ExpectedDirectory) × (IsRefused ws bs (of_kind 2 a) AlreadyExists)
  -- the empty path leads to the root; `a/` past a file; a name that is not there
  pub root : (IsRefused ws bs (of_kind 4 []) ExpectedFile) × (IsRefused ws bs (of_kind 3 []) ExpectedFile)
  pub past : (IsRefused ws bs (of_kind 4 a/) ExpectedDirectory) × (IsRefused ws bs (of_kind 3 a/) ExpectedDirectory)
  pub missing : (IsRefused ws bs (of_kind 4 x) NotFound) × (IsRefused ws bs (of_kind 3 x) NotFound)
  -- `a` over itself, and to where the header is
  pub onto : IsRefused ws bs (move_a 0x580) OverlappingMove × IsRefused ws bs (move_a 0x400) NotEnoughSpace
  -- by the record alone, which is asked about the team that is said
  pub limit : sheet_run (of_kind 1 x) 5 (lent ws bs) ≡ stopped_at 1 TakenAboveLimit
  pub numbers : (number_of UnsafeName ≡ 13) × (number_of ExpectedFile ≡ 16) × (number_of ExpectedDirectory ≡ 17) × (number_of NotFound ≡ 18) × (number_of AlreadyExists ≡ 19)
  pub of-space : (number_of OverlappingMove ≡ 20) × (number_of NotEnoughSpace ≡ 21) × (number_of TakenAboveLimit ≡ 27)

pub first-lines : (ws bs : List ℕ) → length ws ≡ master_words → length bs ≡ room → FirstLines ws bs
unfolding sheet_lines lines_from line_at texts_of be32 line_edit name_in lookup follow components components_of units child_of first_child are_same_bytes parent_of parent_below insert_verdict is_plain is_safe plan_move plan_resize max_size_from size_beside_free
first-lines ws bs w b =
    let path : (line : Line) (c : Refusal) (sheet : List ℕ) → sheet_lines sheet ≡ Ok (line ∷ []) → line_edit tree_a line ≡ Err c → IsRefused ws bs sheet c =
    λ line c sheet r e. runs ws bs sheet room (line ∷ []) w b r ∙ by-path line [] c e in
    let edit : (line : Line) (ed : Edit) (c : Refusal) (sheet : List ℕ) → sheet_lines sheet ≡ Ok (line ∷ []) → line_edit tree_a line ≡ Ok ed → plan_of ed (disc_of master) ≡ refused (Err c) → IsRefused ws bs sheet c =
    λ line ed c sheet r e p. runs ws bs sheet room (line ∷ []) w b r ∙ by-edit line [] ed c e p in
    record {
      unsafe = edit (make_directory a/:) (insert_directory 1 (0x3A ∷ [])) UnsafeName (of_kind 1 a/:) refl refl (rw at-master.tree);
      no-parent = path (make_directory q/:) NotFound (of_kind 1 q/:) refl refl;
      in-file = edit (make_directory a/x) (insert_directory 1 x) ExpectedDirectory (of_kind 1 a/x) refl refl (rw at-master.tree);
      empty-part = path (make_directory a//x) ExpectedDirectory (of_kind 1 a//x) refl refl;
      empty = edit (make_directory []) (insert_directory 0 []) UnsafeName (of_kind 1 []) refl refl (rw at-master.tree);
      backslash = edit (make_directory a\b) (insert_directory 0 a\b) UnsafeName (of_kind 1 a\b) refl refl (rw at-master.tree);
      half = path (make_directory half/q) NotFound (of_kind 1 half/q) refl refl;
      no-name = edit (make_directory a/) (insert_directory 1 []) UnsafeName (of_kind 1 a/) refl refl (rw at-master.tree);
      file = (
        edit (make_file a/:) (insert_file 1 (0x3A ∷ [])) UnsafeName (of_kind 2 a/:) refl refl (rw at-master.tree),
        edit (make_file a/x) (insert_file 1 x) ExpectedDirectory (of_kind 2 a/x) refl refl (rw at-master.tree),
        edit (make_file a) (insert_file 0 a) AlreadyExists (of_kind 2 a) refl refl (rw at-master.tree),
      );
      root = (
        edit (resize [] 0) (resize_file 0 0) ExpectedFile (of_kind 4 []) refl refl (rw at-master.tree),
        edit (move [] 0) (move_file 0 0) ExpectedFile (of_kind 3 []) refl refl (rw at-master.tree),
      );
      past = (path (resize a/ 0) ExpectedDirectory (of_kind 4 a/) refl refl, path (move a/ 0) ExpectedDirectory (of_kind 3 a/) refl refl);
      missing = (path (resize x 0) NotFound (of_kind 4 x) refl refl, path (move x 0) NotFound (of_kind 3 x) refl refl);
      onto = (
        edit (move a 0x580) (move_file 1 0x580) OverlappingMove (move_a 0x580) refl refl (rw at-master.tree),
        edit (move a 0x400) (move_file 1 0x400) NotEnoughSpace (move_a 0x400) refl refl (rw (at-master.tree, at-master.free)),
      );
      limit = above-limit ws bs w b;
      numbers = (refl, refl, refl, refl, refl);
      of-space = (refl, refl, refl);
    }

-- ---- sheets of which lines run

abbrev pub call : ℕ → Edit → Account → Call
call n ed account = record { edit = ed; account = account; words = master_words; bytes = n }

abbrev pub stopped : ℕ → Refusal → Result (Unit {0}) Refused
stopped n c = Err (record { line = n; cause = c })

-- the calls of the three lines
abbrev pub three_calls : List Call
three_calls =
    call room (insert_directory 0 x) (held 1370 6656 0) ∷
    call room (insert_file 2 (0x66 ∷ [])) (held 1384 6656 1) ∷
    call room (resize_file 1 0x200) (held 1398 6656 2) ∷ []

-- the one of a sheet that stops at its second line
abbrev pub first_call : List Call
first_call = call room (insert_directory 0 x) (held 1370 6656 0) ∷ []

pub three-run : run_of room (make_directory x ∷ make_file x/f ∷ resize a 0x200 ∷ []) ≡ record { calls = three_calls; answer = Ok tt }
unfolding run_lines
three-run = rw (at-master.tree, line-x, made-x.answered, made-x.written, made-x.counted, at-x.tree, line-f, made-f.answered, made-f.written, made-f.counted, at-f.tree, line-a, resized-a.answered)

pub two-run : run_of room (make_directory x ∷ resize (0x62 ∷ []) 0 ∷ []) ≡ record { calls = first_call; answer = stopped 2 NotFound }
unfolding run_lines line_edit lookup follow components components_of units child_of first_child are_same_bytes parent_of parent_below
two-run = rw (at-master.tree, line-x, made-x.answered, made-x.written, made-x.counted, at-x.tree)

pub line-again : line_edit tree_x (make_directory x) ≡ Ok (insert_directory 0 x)
unfolding line_edit name_in lookup follow components components_of units child_of first_child are_same_bytes parent_of parent_below
line-again = refl

pub twice-run : run_of room (make_directory x ∷ make_directory x ∷ resize a 0x200 ∷ []) ≡ record { calls = first_call; answer = stopped 2 AlreadyExists }
unfolding run_lines
twice-run = rw (at-master.tree, line-x, made-x.answered, made-x.written, made-x.counted, at-x.tree, line-again, made-again.answered)

pair-run : run_of room (make_file a_pair ∷ []) ≡ record { calls = call room (insert_file 0 a_pair) (held 1370 6656 0) ∷ []; answer = Ok tt }
unfolding run_lines
pair-run = rw (at-master.tree, line-pair, made-pair.answered)

-- `a`, with as few working bytes as the table takes
abbrev resized : List Call
resized = call master_bytes (resize_file 1 756) (held 1370 6656 0) ∷ []

grown : Step master_bytes (Ok tt) (resize_file 1 756) (held 1370 6656 0) master (sized 756) (totals 1870 6156 1)
unfolding team_verdict totals_verdict remainders moved_totals
grown = accepted-by resizes.to_756 (held 1370 6656 0) refl

line-756 : line_edit tree_a (resize a 756) ≡ Ok (resize_file 1 756)
unfolding line_edit lookup follow components components_of units child_of first_child are_same_bytes parent_of parent_below
line-756 = refl

from-12-run : run_of master_bytes (resize a 756 ∷ []) ≡ record { calls = resized; answer = Ok tt }
unfolding run_lines
from-12-run = rw (at-master.tree, line-756, grown.answered)

-- and moved
abbrev moved_call : List Call
moved_call = call master_bytes (move_file 1 0x600) (held 1370 6656 0) ∷ []

moved : Step master_bytes (Ok tt) (move_file 1 0x600) (held 1370 6656 0) master (moved_a 0x600) (totals 1370 6400 1)
unfolding team_verdict totals_verdict remainders moved_totals
moved = accepted-by costless.moved (held 1370 6656 0) refl

line-moved : line_edit tree_a (move a 0x600) ≡ Ok (move_file 1 0x600)
unfolding line_edit lookup follow components components_of units child_of first_child are_same_bytes parent_of parent_below
line-moved = refl

moved-run : run_of master_bytes (move a 0x600 ∷ []) ≡ record { calls = moved_call; answer = Ok tt }
unfolding run_lines
moved-run = rw (at-master.tree, line-moved, moved.answered)

-- the answer, and the image and the record after the lines that ran
pub record Ends (r : Run) (answer : Result (Unit {0}) Refused) (image : List ℕ) (t : Totals) : Type 0 where
  pub answered : r.answer ≡ answer
  pub left : image_after_all r.calls master ≡ image
  pub counted : totals_after_all (totals 1370 6656 0) r.calls master ≡ t

-- `few` are as many working bytes as the master's table has
pub record Runs (ws bs few : List ℕ) : Type 0 where
  -- a name that is one pair, of which the second byte is that of `\`
  pub pair : Ends (run ws bs (of_kind 2 a_pair)) (Ok tt) with_pair (totals 1385 6656 1)
  -- a line that begins at byte 12
  pub from-12 : Ends (run ws few resize_from_12) (Ok tt) (sized 756) (totals 1870 6156 1)
  -- `a` to 0x600
  pub moved : Ends (run ws few (move_a 0x600)) (Ok tt) (moved_a 0x600) (totals 1370 6400 1)
  -- all of three
  pub three : Ends (run ws bs three_lines) (Ok tt) (with_f 0x200) (totals 1654 6400 3)
  -- the second of two is refused by its path, the second of three by its edit: image and record are those after the first
  pub two : Ends (run ws bs two_lines) (stopped 2 NotFound) with_x (totals 1384 6656 1)
  pub twice : Ends (run ws bs twice) (stopped 2 AlreadyExists) with_x (totals 1384 6656 1)

pub sheets-run : (ws bs few : List ℕ) → length ws ≡ master_words → length bs ≡ room → length few ≡ master_bytes → Runs ws bs few
unfolding sheet_lines lines_from line_at texts_of be32 image_after_all totals_after_all
sheets-run ws bs few w b f =
    let pair = runs ws bs (of_kind 2 a_pair) room (make_file a_pair ∷ []) w b refl ∙ pair-run in
    let from-12 = runs ws few resize_from_12 master_bytes (resize a 756 ∷ []) w f read.from-12.2 ∙ from-12-run in
    let to_0x600 = runs ws few (move_a 0x600) master_bytes (move a 0x600 ∷ []) w f refl ∙ moved-run in
    let three = runs ws bs three_lines room (make_directory x ∷ make_file x/f ∷ resize a 0x200 ∷ []) w b read.three ∙ three-run in
    let two = runs ws bs two_lines room (make_directory x ∷ resize (0x62 ∷ []) 0 ∷ []) w b read.two ∙ two-run in
    let again = runs ws bs twice room (make_directory x ∷ make_directory x ∷ resize a 0x200 ∷ []) w b read.twice ∙ twice-run in
    record {
      pair = record { answered = rw pair; left = rw (pair, made-pair.written); counted = rw (pair, made-pair.counted) };
      from-12 = record { answered = rw from-12; left = rw (from-12, grown.written); counted = rw (from-12, grown.counted) };
      moved = record { answered = rw to_0x600; left = rw (to_0x600, moved.written); counted = rw (to_0x600, moved.counted) };
      three = record {
        answered = rw three;
        left = rw (three, made-x.written, made-f.written, resized-a.written);
        counted = rw (three, made-x.written, made-f.written, resized-a.counted);
      };
      two = record { answered = rw two; left = rw (two, made-x.written); counted = rw (two, made-x.counted) };
      twice = record { answered = rw again; left = rw (again, made-x.written); counted = rw (again, made-x.counted) };
    }

-- ---- before the first line

-- lent an image that does not open
abbrev no_image : List ℕ → List ℕ → Loan
no_image ws bs = loan [] ws bs (totals 1370 6656 0)

pub record Starts (ws bs : List ℕ) : Type 0 where
  -- no lines: done, and nothing is run
  pub none : run ws bs (no_lines 16 16) ≡ record { calls = []; answer = Ok tt }
  -- a team above 15, with lines and without
  pub team : (sheet_run (no_lines 16 16) 16 (lent ws bs) ≡ stopped_at 0 NoSuchEntry) × (sheet_run three_lines 16 (lent ws bs) ≡ stopped_at 0 NoSuchEntry)
  -- opening comes before the team, with lines and without
  pub opening :
      (sheet_run (no_lines 16 16) 16 (no_image ws bs) ≡ stopped_at 0 HeaderPastImage)
      × (sheet_run three_lines 0 (no_image ws bs) ≡ stopped_at 0 HeaderPastImage)
  -- 30 comes before both
  pub sheet : (sheet_run (no_lines 16 17) 16 (no_image ws bs) ≡ stopped_at 0 InvalidSheet) × (sheet_run (behind_q 5) 0 (lent ws bs) ≡ stopped_at 0 InvalidSheet)
  -- though the line before is refused in its turn
  pub before : run ws bs (behind_q 4) ≡ stopped_at 1 NotFound
  pub numbers : (number_of HeaderPastImage ≡ 1) × (number_of NoSuchEntry ≡ 15) × (number_of InvalidSheet ≡ 30)

pub starts : (ws bs : List ℕ) → length ws ≡ master_words → length bs ≡ room → Starts ws bs
unfolding sheet_lines lines_from line_at texts_of be32 opening header_verdict all_fields_verdict field_verdict fields line_edit lookup follow components components_of units child_of first_child are_same_bytes parent_of parent_below run_lines
starts ws bs w b =
    let opens : opening master (length ws) ≡ Ok tt = rw w at-master.opens in
    let three : List Line = make_directory x ∷ make_file x/f ∷ resize a 0x200 ∷ [] in
    record {
      none = runs ws bs (no_lines 16 16) room [] w b bounds.at-end;
      team = (
        refused-team (no_lines 16 16) 16 (lent ws bs) [] bounds.at-end opens (omega arith),
        refused-team three_lines 16 (lent ws bs) three read.three opens (omega arith),
      );
      opening = (
        refused-opening (no_lines 16 16) 16 (no_image ws bs) [] bounds.at-end HeaderPastImage refl,
        refused-opening three_lines 0 (no_image ws bs) three read.three HeaderPastImage refl,
      );
      sheet = (
        refused-sheet (no_lines 16 17) 16 (no_image ws bs) InvalidSheet bounds.texts-behind.0,
        refused-sheet (behind_q 5) 0 (lent ws bs) InvalidSheet bad-lines.second.0,
      );
      before = runs ws bs (behind_q 4) room (resize (0x71 ∷ []) 0 ∷ resize (0x71 ∷ []) 0 ∷ []) w b bad-lines.second.1 ∙ by-path (resize (0x71 ∷ []) 0) (resize (0x71 ∷ []) 0 ∷ []) NotFound refl;
      numbers = (refl, refl, refl);
    }
