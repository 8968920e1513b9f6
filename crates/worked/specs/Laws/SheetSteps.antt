-- The calls that the lines of the worked sheets come to: the edit of each line on the image as it is then, its plan, the tests that it passes, what it
-- writes; so its answer, and the image and the record that it leaves. Assumes nothing.
use Rattle.std.specs.Prelude.{Ok, Err}
use Rattle.std.specs.Prelude.{ℕ, ◌-◌, ◌≡◌, refl, List, [], ◌∷◌}
use Rattle.endian.specs.Bytes.{be32, put, are_same_bytes}
use Rattle.refusal.specs.declared.Refusal.TheVariants.{NotFound, AlreadyExists, TakenAboveLimit}
use Rattle.tree.specs.Units.{units}
use Rattle.tree.specs.Table.{Node, is_plain, is_safe, dirs_open_at, parent_below, parent_of, entries_bytes, texts_of, encode, is_shallow_from, is_shallow, limits}
use Rattle.tree.specs.Lookup.{components_of, components, first_child, child_of, follow, lookup}
use Rattle.tree.specs.Insert.{raised_next, splice, insert_at, set_place}
use Rattle.space.specs.declared.region.DiscRegion.{DiscRegion}
use Rattle.space.specs.Used.{total_size}
use Rattle.space.specs.Free.{largest_size}
use Rattle.space.specs.MaxRegionSize.{size_beside_free, max_size_from}
use Rattle.totals.specs.declared.Totals.{Totals}
use Rattle.totals.specs.Totals.{remainders, team_verdict, totals_verdict, moved_totals}
use Rattle.opened.specs.Opening.{disc_of}
use Rattle.edit_rules.specs.Change.{Plan, change, image_with_table, written_image, table_verdict, place_verdict}
use Rattle.edit_rules.specs.Edits.{Edit, Account, account, insert_file, insert_directory, move_file, resize_file, table_change, resize_change, insert_verdict, plan_resize, plan_of, plan_verdict, plan_image, counted_verdict, verdict_of}
use Rattle.sheet.specs.Layout.{make_directory, make_file, move, resize}
use Rattle.sheet_run.specs.Lines.{name_in, line_edit}
use Rattle.worked.specs.Image.{master, master_words}
use Rattle.worked.specs.Laws.Handed.{teams_after}
use Rattle.worked.specs.Laws.Marked.{at}
use Rattle.worked.specs.Laws.Planned.{to, Step, Planned, accepted-by, refused-by, refused}
use Rattle.worked.specs.Laws.SheetImages.{with_x, with_f, with_pair, Reads, tree_a, tree_x, tree_f, tree_pair, at-master, at-x, at-f, at-last, at-pair}

-- ---- names and records

abbrev pub a : List ℕ
a = 0x61 ∷ []

abbrev pub x : List ℕ
x = 0x78 ∷ []

abbrev pub x/f : List ℕ
x/f = 0x78 ∷ 0x2F ∷ 0x66 ∷ []

abbrev pub a_pair : List ℕ
a_pair = 0x83 ∷ 0x5C ∷ []

-- what team 0 has taken is what is used more than at first
abbrev pub totals : ℕ → ℕ → ℕ → Totals
totals used largest edits = record { used = used; largest = largest; teams = teams_after (used - 1370) edits }

abbrev pub held : ℕ → ℕ → ℕ → Account
held used largest edits = account (totals used largest edits) 0

-- the working bytes of a table of four entries
abbrev pub room : ℕ
room = 0x36

planned : {image next : List ℕ} {nodes nodes' : List Node} {free free' : List DiscRegion} {size size' used used' : ℕ} → Reads image nodes free size used → Reads next nodes' free' size' used' →
    (ed : Edit) (p : Plan) → plan_of ed (disc_of image) ≡ p → plan_verdict p (disc_of image) master_words room ≡ Ok tt → plan_image p image ≡ next → Planned room ed image next (to used used' (total_size free') (largest_size free'))
planned r r' ed p plan tests writes = record { opens = r.opens; tests = rw plan tests; writes = rw plan writes; change = rw (r.used, r'.used, r'.free) }

-- ---- what the lines come to

-- `x`, in the root; `f`, in `x`, which is entry 2; the whole path of `a` leads to entry 1
pub line-x : line_edit tree_a (make_directory x) ≡ Ok (insert_directory 0 x)
unfolding line_edit name_in lookup follow components components_of units child_of first_child are_same_bytes parent_of parent_below
line-x = refl

pub line-f : line_edit tree_x (make_file x/f) ≡ Ok (insert_file 2 (0x66 ∷ []))
unfolding line_edit name_in lookup follow components components_of units child_of first_child are_same_bytes parent_of parent_below
line-f = refl

pub line-a : line_edit (tree_f 0x100) (resize a 0x200) ≡ Ok (resize_file 1 0x200)
unfolding line_edit name_in lookup follow components components_of units child_of first_child are_same_bytes parent_of parent_below
line-a = refl

-- further paths: `x\f`, `.\x/f`, `x/../f`, `../f`
abbrev x\f : List ℕ
x\f = 0x78 ∷ 0x5C ∷ 0x66 ∷ []

abbrev here\x/f : List ℕ
here\x/f = 0x2E ∷ 0x5C ∷ 0x78 ∷ 0x2F ∷ 0x66 ∷ []

abbrev x/up/f : List ℕ
x/up/f = 0x78 ∷ 0x2F ∷ 0x2E ∷ 0x2E ∷ 0x2F ∷ 0x66 ∷ []

abbrev up/f : List ℕ
up/f = 0x2E ∷ 0x2E ∷ 0x2F ∷ 0x66 ∷ []

pub record Paths : Type 0 where
  -- kinds 3 and 4 look the whole path up, where `\` divides too: `f`, in `x`, is entry 3
  pub moved : (line_edit (tree_f 0x100) (move x/f 7) ≡ Ok (move_file 3 7)) × (line_edit (tree_f 0x100) (move x\f 7) ≡ Ok (move_file 3 7))
  pub resized : (line_edit (tree_f 0x100) (resize x/f 4) ≡ Ok (resize_file 3 4)) × (line_edit (tree_f 0x100) (resize x\f 4) ≡ Ok (resize_file 3 4))
  -- as it divides a parent's path, which is `.\x` here
  pub parent : line_edit tree_x (make_file here\x/f) ≡ Ok (insert_file 2 (0x66 ∷ []))
  -- `..` leads back to the root, and nowhere from there
  pub back : (line_edit tree_x (make_file x/up/f) ≡ Ok (insert_file 0 (0x66 ∷ []))) × (line_edit tree_x (make_file up/f) ≡ Err NotFound)

pub paths : Paths
unfolding line_edit name_in lookup follow components components_of units child_of first_child are_same_bytes parent_of parent_below
paths = record { moved = (refl, refl); resized = (refl, refl); parent = refl; back = (refl, refl) }

-- ---- the directory `x`

x-plan : plan_of (insert_directory 0 x) (disc_of master) ≡ change 2 (table_change tree_x)
unfolding insert_verdict insert_at splice raised_next child_of first_child are_same_bytes is_plain is_safe parent_of parent_below dirs_open_at units
x-plan = rw at-master.tree

x-tests : plan_verdict (change 2 (table_change tree_x)) (disc_of master) master_words room ≡ Ok tt
unfolding table_verdict place_verdict limits is_shallow is_shallow_from dirs_open_at texts_of encode entries_bytes parent_of parent_below max_size_from size_beside_free
x-tests = rw (at-master.free, at-master.header.3, at-master.header.0, at-master.header.1)

x-writes : plan_image (change 2 (table_change tree_x)) master ≡ with_x
unfolding with_x master put be32 texts_of encode entries_bytes parent_of parent_below written_image image_with_table
x-writes = refl

x-planned : Planned room (insert_directory 0 x) master with_x (to 1370 1384 6808 6656)
unfolding total_size largest_size
x-planned = planned at-master at-x (insert_directory 0 x) _ x-plan x-tests x-writes

pub made-x : Step room (Ok tt) (insert_directory 0 x) (held 1370 6656 0) master with_x (totals 1384 6656 1)
unfolding team_verdict totals_verdict remainders moved_totals largest_size total_size
made-x = accepted-by x-planned (held 1370 6656 0) refl

-- by team 5, which may take nothing: 27
pub over-limit : Step room (Err TakenAboveLimit) (insert_directory 0 x) (account (totals 1370 6656 0) 5) master master (totals 1370 6656 0)
unfolding team_verdict totals_verdict remainders moved_totals largest_size total_size
over-limit = refused-by x-planned (account (totals 1370 6656 0) 5) TakenAboveLimit refl

-- once more: 19

again-tests : verdict_of (insert_directory 0 x) (held 1384 6656 1) with_x master_words room ≡ Err AlreadyExists
unfolding verdict_of counted_verdict team_verdict insert_verdict child_of first_child are_same_bytes is_plain is_safe parent_of parent_below units
again-tests = rw (at-x.opens, at-x.tree)

pub made-again : Step room (Err AlreadyExists) (insert_directory 0 x) (held 1384 6656 1) with_x with_x (totals 1384 6656 1)
made-again = refused room AlreadyExists (insert_directory 0 x) (held 1384 6656 1) with_x again-tests

-- ---- `f` in it

f-plan : plan_of (insert_file 2 (0x66 ∷ [])) (disc_of with_x) ≡ change 3 (table_change (tree_f 0x100))
unfolding insert_verdict insert_at splice raised_next child_of first_child are_same_bytes is_plain is_safe parent_of parent_below dirs_open_at units
f-plan = rw at-x.tree

f-tests : plan_verdict (change 3 (table_change (tree_f 0x100))) (disc_of with_x) master_words room ≡ Ok tt
unfolding table_verdict place_verdict limits is_shallow is_shallow_from dirs_open_at texts_of encode entries_bytes parent_of parent_below max_size_from size_beside_free
f-tests = rw (at-x.free, at-x.header.3, at-x.header.0, at-x.header.1)

f-writes : plan_image (change 3 (table_change (tree_f 0x100))) with_x ≡ with_f 0x100
unfolding with_x with_f master put be32 texts_of encode entries_bytes parent_of parent_below written_image image_with_table
f-writes = refl

pub made-f : Step room (Ok tt) (insert_file 2 (0x66 ∷ [])) (held 1384 6656 1) with_x (with_f 0x100) (totals 1398 6656 2)
unfolding team_verdict totals_verdict remainders moved_totals largest_size total_size
made-f = accepted-by (planned at-x at-f (insert_file 2 (0x66 ∷ [])) _ f-plan f-tests f-writes) (held 1384 6656 1) refl

-- ---- `a` twice as large

a-plan : plan_of (resize_file 1 0x200) (disc_of (with_f 0x100)) ≡ change 1 (resize_change (tree_f 0x100) 1 (at 0x500 0x100) 0x200)
unfolding plan_resize max_size_from size_beside_free
a-plan = rw (at-f.tree, at-f.free)

a-tests : plan_verdict (change 1 (resize_change (tree_f 0x100) 1 (at 0x500 0x100) 0x200)) (disc_of (with_f 0x100)) master_words room ≡ Ok tt
unfolding table_verdict place_verdict limits is_shallow is_shallow_from dirs_open_at texts_of encode entries_bytes parent_of parent_below max_size_from size_beside_free set_place
a-tests = rw (at-f.free, at-f.header.3, at-f.header.0, at-f.header.1)

a-writes : plan_image (change 1 (resize_change (tree_f 0x100) 1 (at 0x500 0x100) 0x200)) (with_f 0x100) ≡ with_f 0x200
unfolding with_f master put be32 texts_of encode entries_bytes parent_of parent_below written_image image_with_table set_place
a-writes = refl

pub resized-a : Step room (Ok tt) (resize_file 1 0x200) (held 1398 6656 2) (with_f 0x100) (with_f 0x200) (totals 1654 6400 3)
unfolding team_verdict totals_verdict remainders moved_totals largest_size total_size
resized-a = accepted-by (planned at-f at-last (resize_file 1 0x200) _ a-plan a-tests a-writes) (held 1398 6656 2) refl

-- ---- a file whose name is one pair, of which the second byte is that of `\`

pub line-pair : line_edit tree_a (make_file a_pair) ≡ Ok (insert_file 0 a_pair)
unfolding line_edit name_in lookup follow components components_of units child_of first_child are_same_bytes parent_of parent_below
line-pair = refl

pair-plan : plan_of (insert_file 0 a_pair) (disc_of master) ≡ change 2 (table_change tree_pair)
unfolding insert_verdict insert_at splice raised_next child_of first_child are_same_bytes is_plain is_safe parent_of parent_below dirs_open_at units
pair-plan = rw at-master.tree

pair-tests : plan_verdict (change 2 (table_change tree_pair)) (disc_of master) master_words room ≡ Ok tt
unfolding table_verdict place_verdict limits is_shallow is_shallow_from dirs_open_at texts_of encode entries_bytes parent_of parent_below max_size_from size_beside_free
pair-tests = rw (at-master.free, at-master.header.3, at-master.header.0, at-master.header.1)

pair-writes : plan_image (change 2 (table_change tree_pair)) master ≡ with_pair
unfolding with_pair master put be32 texts_of encode entries_bytes parent_of parent_below written_image image_with_table
pair-writes = refl

pub made-pair : Step room (Ok tt) (insert_file 0 a_pair) (held 1370 6656 0) master with_pair (totals 1385 6656 1)
unfolding team_verdict totals_verdict remainders moved_totals largest_size total_size
made-pair = accepted-by (planned at-master at-pair (insert_file 0 a_pair) _ pair-plan pair-tests pair-writes) (held 1370 6656 0) refl
