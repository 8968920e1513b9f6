-- Worked edit sheets of many lines, and with long paths: 1,024 of either are accepted. Assumes nothing.
use Rattle.std.specs.Prelude.{Ok, Err}
use Rattle.std.specs.Prelude.{ℕ, zero, suc, ◌+◌, ◌^◌, ◌<◌, ◌≤◌, ◌≡◌, refl, List, [], ◌∷◌, ◌++◌, length, replicate}
use Rattle.std.specs.List.{All}
use Rattle.std.proofs.Common.{◌∙◌, ap, arith, add-zero}
use Rattle.std.proofs.lemmas.List.{get_or-replicate, length-replicate}
use borrow.Author.Tests.{lt-ltb, le-ltb, lt-leb}
use Rattle.endian.specs.Bytes.{be32, be32_bytes, are_same_bytes}
use Rattle.endian.specs.Laws.Stored.{be32-value}
use Rattle.refusal.specs.declared.Refusal.TheVariants.{LimitOrMemory, UnsafeName, InvalidSheet}
use Rattle.refusal.specs.Refusal.{number_of}
use Rattle.refusal.specs.Laws.Tests.{and-false}
use Rattle.tree.specs.Units.{units}
use Rattle.tree.specs.Table.{Node, is_plain, is_safe, parent_below, parent_of}
use Rattle.tree.specs.Lookup.{components_of, components, first_child, child_of, follow, lookup}
use Rattle.totals.specs.Totals.{remainders, team_verdict, totals_verdict, moved_totals}
use Rattle.edit_rules.specs.Edits.{insert_directory, move_file, resize_file, insert_verdict}
use Rattle.ledger.specs.Runs.{image_after_all, totals_after_all}
use Rattle.sheet.specs.Layout.{Line, make_directory, move, resize, path_of, texts_of, line_at, lines_from, sheet_lines}
use Rattle.sheet.specs.Written.{texts_bytes, sheet_with, IsWritable}
use Rattle.sheet.proofs.Laws.CheckedWhole.{checked-whole}
use Rattle.sheet.proofs.Laws.ReadsBack.{reads-back}
use Rattle.sheet_run.specs.Lines.{name_in, line_edit}
use Rattle.sheet_run.specs.Run.{Run, stopped_at, run_lines}
use Rattle.worked.specs.Image.{master, master_words, master_bytes}
use Rattle.worked.specs.Laws.Handed.{most}
use Rattle.worked.specs.Laws.Planned.{Step, accepted-by}
use Rattle.worked.specs.Laws.OnMaster.{costless}
use Rattle.worked.specs.Laws.SheetImages.{tree_a, at-master}
use Rattle.worked.specs.Laws.SheetSteps.{a, x, totals, held, room}
use Rattle.worked.specs.Laws.SheetLayouts.{of_kind}
use Rattle.worked.specs.Laws.Sheets.{run, runs, by-path, by-edit}

-- ---- how many lines: one and the same line, so many times

-- `a` to be resized to the size that it has
abbrev same : Line
same = resize a 0x100

abbrev pub sheet_of : ℕ → List ℕ
sheet_of n = sheet_with (replicate n same)

writable : (n : ℕ) → All IsWritable (replicate n same)
writable n k d h =
    let l : k < n = rw length-replicate at h in
    rw (get_or-replicate n k same d l) (record { bytes = bytes; offset = omega arith; size = omega arith })
  where
    bytes : All (λ b. 0 < b) a
    bytes zero d h = omega arith
    bytes (suc k) d h = absurd (omega arith)

texts-length : (n : ℕ) → length (texts_bytes (replicate n same)) ≡ n + n
unfolding texts_bytes
texts-length zero = refl
texts-length (suc n) = omega (arith, texts-length n)

reads : (n : ℕ) → n ≤ 1024 → sheet_lines (sheet_of n) ≡ Ok (replicate n same)
reads n h = reads-back (replicate n same) (writable n) (omega (arith, length-replicate n same)) (omega (arith, texts-length n))

too-many : (n : ℕ) (rest : List ℕ) → 1024 < n → n < 2 ^ 32 → sheet_lines (be32_bytes n ++ rest) ≡ Err InvalidSheet
unfolding be32
too-many n rest h s = (checked-whole (be32_bytes n ++ rest)).header (rw (be32-value n s, lt-leb n 1024 h, and-false))

-- each line is accepted, and counts
accepted : (edits : ℕ) → edits < most → Step master_bytes (Ok tt) (resize_file 1 0x100) (held 1370 6656 edits) master master (totals 1370 6656 (edits + 1))
unfolding team_verdict totals_verdict remainders moved_totals
accepted edits h = accepted-by costless.same_size (held 1370 6656 edits) (rw (le-ltb most (edits + 1) (omega arith)))

line-same : line_edit tree_a same ≡ Ok (resize_file 1 0x100)
unfolding line_edit lookup follow components components_of units child_of first_child are_same_bytes parent_of parent_below
line-same = refl

-- so many calls, all accepted, of the small master; they leave its image, and so many edits are counted
pub record AllRan (r : Run) (n edits : ℕ) : Type 0 where
  pub answered : r.answer ≡ Ok tt
  pub calls : length r.calls ≡ n
  pub left : image_after_all r.calls master ≡ master
  pub counted : totals_after_all (totals 1370 6656 edits) r.calls master ≡ totals 1370 6656 (edits + n)

all-ran : (n number edits : ℕ) → edits + n ≤ most → AllRan (run_lines number (replicate n same) 0 (totals 1370 6656 edits) master master_words master_bytes) n edits
unfolding run_lines image_after_all totals_after_all
all-ran zero number edits h = record { answered = refl; calls = refl; left = refl; counted = rw add-zero }
all-ran (suc n) number edits h =
    let step = accepted edits (omega arith) in
    let later = all-ran n (suc number) (edits + 1) (omega arith) in
    let more : edits + suc n ≡ edits + 1 + n = omega arith in
    rw (at-master.tree, line-same, step.answered, step.written, step.counted)
    (record {
      answered = later.answered;
      calls = ap suc later.calls;
      left = rw step.written later.left;
      counted = rw (step.written, step.counted, more) later.counted;
    })

pub record Counts (ws few : List ℕ) : Type 0 where
  -- 1,024 lines are read, and all of them run
  pub most : sheet_lines (sheet_of 1024) ≡ Ok (replicate 1024 same)
  pub all : AllRan (run ws few (sheet_of 1024)) 1024 0
  -- 1,025 and every higher number: whatever follows
  pub more : (n : ℕ) (rest : List ℕ) → 1024 < n → n < 2 ^ 32 → sheet_lines (be32_bytes n ++ rest) ≡ Err InvalidSheet

pub counts : (ws few : List ℕ) → length ws ≡ master_words → length few ≡ master_bytes → Counts ws few
counts ws few w f =
    let all = all-ran 1024 1 0 (omega arith) in
    let e = runs ws few (sheet_of 1024) master_bytes (replicate 1024 same) w f (reads 1024 (omega arith)) in
    record {
      most = reads 1024 (omega arith);
      all = rw e all;
      more = too-many;
    }

-- ---- how long a path may be: the whole of it counts, with the `/` and the name

longer : (nodes : List Node) (line : Line) → 1024 < length (path_of line) → line_edit nodes line ≡ Err LimitOrMemory
unfolding line_edit
longer nodes line h = rw (lt-ltb 1024 (length (path_of line)) h)

-- `:`, so many times
abbrev colons : ℕ → List ℕ
colons n = replicate n 0x3A

-- `./`, so many times
pub staying : ℕ → List ℕ
staying zero = []
staying (suc n) = 0x2E ∷ 0x2F ∷ staying n

abbrev to_a : List ℕ
to_a = staying 511 ++ (0x2F ∷ a)

pub record Lengths (ws bs : List ℕ) : Type 0 where
  -- 1,024 bytes: 13 for the name; one more: 9 of its line, before 13
  pub most : run ws bs (of_kind 1 (colons 1024)) ≡ stopped_at 1 UnsafeName
  pub more : run ws bs (of_kind 1 (colons 1025)) ≡ stopped_at 1 LimitOrMemory
  -- `xx` behind 1,022 bytes that lead to the root, and `x` behind 1,024
  pub parent : line_edit tree_a (make_directory (staying 511 ++ (0x78 ∷ 0x78 ∷ []))) ≡ Ok (insert_directory 0 (0x78 ∷ 0x78 ∷ []))
  pub long-parent : line_edit tree_a (make_directory (staying 512 ++ x)) ≡ Err LimitOrMemory
  -- of kinds 3 and 4 too: 1,024 bytes that lead to `a`, and one more
  pub exact : (length to_a ≡ 1024) × (line_edit tree_a (move to_a 4) ≡ Ok (move_file 1 4)) × (line_edit tree_a (resize to_a 4) ≡ Ok (resize_file 1 4))
  pub others : (run ws bs (of_kind 3 (colons 1025)) ≡ stopped_at 1 LimitOrMemory) × (run ws bs (of_kind 4 (colons 1025)) ≡ stopped_at 1 LimitOrMemory)
  -- whatever the line asks for, on any tree
  pub any : (nodes : List Node) (line : Line) → 1024 < length (path_of line) → line_edit nodes line ≡ Err LimitOrMemory
  pub number : number_of LimitOrMemory ≡ 9

pub lengths : (ws bs : List ℕ) → length ws ≡ master_words → length bs ≡ room → Lengths ws bs
unfolding sheet_lines lines_from line_at texts_of be32 staying line_edit name_in lookup follow components components_of units child_of first_child are_same_bytes parent_of parent_below insert_verdict is_plain is_safe
lengths ws bs w b = record {
  most = runs ws bs (of_kind 1 (colons 1024)) room (make_directory (colons 1024) ∷ []) w b refl ∙ by-edit (make_directory (colons 1024)) [] (insert_directory 0 (colons 1024)) UnsafeName refl (rw at-master.tree);
  more = runs ws bs (of_kind 1 (colons 1025)) room (make_directory (colons 1025) ∷ []) w b refl ∙ by-path (make_directory (colons 1025)) [] LimitOrMemory refl;
  parent = refl;
  long-parent = refl;
  exact = (refl, refl, refl);
  others = (
    runs ws bs (of_kind 3 (colons 1025)) room (move (colons 1025) 0 ∷ []) w b refl ∙ by-path (move (colons 1025) 0) [] LimitOrMemory refl,
    runs ws bs (of_kind 4 (colons 1025)) room (resize (colons 1025) 0 ∷ []) w b refl ∙ by-path (resize (colons 1025) 0) [] LimitOrMemory refl,
  );
  any = longer;
  number = refl;
}
