-- Each call of the worked list on the image that it is handed: its plan, the tests that it passes, what it writes; so its answer, and the image and
-- the record that it leaves. Assumes nothing.
use Rattle.std.specs.Prelude.{Ok, Err}
use Rattle.std.specs.Prelude.{ℕ, ◌-◌, ◌≡◌, refl, List, [], ◌∷◌}
use Rattle.endian.specs.Bytes.{be32, put, are_same_bytes}
use Rattle.refusal.specs.declared.Refusal.TheVariants.{OverlappingMove, TableAboveMaximum}
use Rattle.tree.specs.Units.{units}
use Rattle.tree.specs.Table.{Node, is_plain, is_safe, dirs_open_at, parent_below, parent_of, entries_bytes, texts_of, encode, is_shallow_from, is_shallow, limits}
use Rattle.tree.specs.Lookup.{first_child, child_of}
use Rattle.tree.specs.Insert.{raised_next, splice, insert_at, set_place}
use Rattle.space.specs.declared.region.DiscRegion.{DiscRegion}
use Rattle.space.specs.Used.{no_region, total_size}
use Rattle.space.specs.Free.{largest_size}
use Rattle.space.specs.MaxRegionSize.{size_beside_free, max_size_from}
use Rattle.totals.specs.declared.Totals.{Totals}
use Rattle.totals.specs.Totals.{remainders, team_verdict, totals_verdict, moved_totals}
use Rattle.opened.specs.Opening.{disc_of}
use Rattle.edit_rules.specs.Change.{Change, Plan, change, filled, image_with_table, written_image, table_verdict, place_verdict}
use Rattle.edit_rules.specs.Edits.{Edit, Account, account, insert_file, move_file, resize_file, fill_file, rewrite, table_change, relocation_change, resize_change, insert_verdict, plan_move, plan_resize, plan_fill, plan_of, plan_verdict, plan_image, counted_verdict, verdict_of}
use Rattle.worked.specs.Laws.Handed.{teams_after}
use Rattle.worked.specs.Image.{master, master_words}
use Rattle.worked.specs.Laws.Marked.{at}
use Rattle.worked.specs.Laws.Maximum.{stating}
use Rattle.worked.specs.Laws.Planned.{to, Step, Planned, accepted-by, refused}
use Rattle.worked.specs.Laws.ListImages.{first, clip, with_b, last, Reads, space, total, tree_b, at_first, at-inserted, at_moved, at-filled, at_last}

-- what team 0 has taken is what is used more than at first
abbrev pub totals : ℕ → ℕ → ℕ → Totals
totals used largest edits = record { used = used; largest = largest; teams = teams_after (used - 1630) edits }

abbrev pub held : ℕ → ℕ → ℕ → Account
held used largest edits = account (totals used largest edits) 0

-- the record of the first image
abbrev pub fresh : Account
fresh = held 1630 6140 0

-- of images that read so, with the plan, its tests and what it writes; each call is lent as many working bytes as a table of four entries would
-- have
pub planned : {image next : List ℕ} {nodes nodes' : List Node} {free free' : List DiscRegion} {size size' used used' : ℕ} → Reads image nodes free size used → Reads next nodes' free' size' used' →
    (ed : Edit) (p : Plan) → plan_of ed (disc_of image) ≡ p → plan_verdict p (disc_of image) master_words 0x36 ≡ Ok tt → plan_image p image ≡ next → Planned 0x36 ed image next (to used used' (total_size free') (largest_size free'))
planned r r' ed p plan tests writes = record { opens = r.opens; tests = rw plan tests; writes = rw plan writes; change = rw (total r, total r', space r') }

-- `b` put in

abbrev insert_b : Edit
insert_b = insert_file 0 (0x62 ∷ [])

pub insert-plan : plan_of insert_b (disc_of first) ≡ change 2 (table_change (tree_b 0 0))
unfolding insert_verdict insert_at splice raised_next child_of first_child are_same_bytes is_plain is_safe parent_of parent_below dirs_open_at units
insert-plan = rw at_first.tree

insert-tests : plan_verdict (change 2 (table_change (tree_b 0 0))) (disc_of first) master_words 0x36 ≡ Ok tt
unfolding table_verdict place_verdict limits is_shallow is_shallow_from dirs_open_at texts_of encode entries_bytes parent_of parent_below max_size_from size_beside_free
insert-tests = rw (space at_first, at_first.header.2, at_first.header.0, at_first.header.1)

insert-writes : plan_image (change 2 (table_change (tree_b 0 0))) first ≡ with_b 0 0 []
unfolding with_b first stating master put be32 texts_of encode entries_bytes parent_of parent_below written_image image_with_table
insert-writes = refl

pub inserted : Step 0x36 (Ok tt) insert_b fresh first (with_b 0 0 []) (totals 1644 6140 1)
unfolding team_verdict totals_verdict remainders moved_totals largest_size total_size
inserted = accepted-by (planned at_first at-inserted insert_b _ insert-plan insert-tests insert-writes) fresh refl

-- one entry more: 26; `a` onto itself: 20

above-tests : verdict_of (insert_file 0 (0x63 ∷ [])) (held 1644 6140 1) (with_b 0 0 []) master_words 0x36 ≡ Err TableAboveMaximum
unfolding verdict_of counted_verdict team_verdict table_verdict place_verdict limits is_shallow is_shallow_from dirs_open_at texts_of encode entries_bytes parent_of parent_below max_size_from size_beside_free insert_verdict insert_at splice raised_next child_of first_child are_same_bytes is_plain is_safe units
above-tests = rw (at-inserted.opens, at-inserted.tree, at-inserted.header.2)

onto-itself-tests : verdict_of (move_file 1 0x580) (held 1644 6140 1) (with_b 0 0 []) master_words 0x36 ≡ Err OverlappingMove
unfolding verdict_of counted_verdict team_verdict plan_move
onto-itself-tests = rw (at-inserted.opens, at-inserted.tree)

pub above : Step 0x36 (Err TableAboveMaximum) (insert_file 0 (0x63 ∷ [])) (held 1644 6140 1) (with_b 0 0 []) (with_b 0 0 []) (totals 1644 6140 1)
above = refused 0x36 TableAboveMaximum (insert_file 0 (0x63 ∷ [])) (held 1644 6140 1) (with_b 0 0 []) above-tests

pub onto-itself : Step 0x36 (Err OverlappingMove) (move_file 1 0x580) (held 1644 6140 1) (with_b 0 0 []) (with_b 0 0 []) (totals 1644 6140 1)
onto-itself = refused 0x36 OverlappingMove (move_file 1 0x580) (held 1644 6140 1) (with_b 0 0 []) onto-itself-tests

-- `b`, which is empty, to where there is room

abbrev move_b : Change
move_b = relocation_change (tree_b 0 0) 2 no_region (at 0x900 0)

pub move-plan : plan_of (move_file 2 0x900) (disc_of (with_b 0 0 [])) ≡ change 2 move_b
unfolding plan_move max_size_from size_beside_free
move-plan = rw (at-inserted.tree, space at-inserted)

move-tests : plan_verdict (change 2 move_b) (disc_of (with_b 0 0 [])) master_words 0x36 ≡ Ok tt
unfolding table_verdict place_verdict limits is_shallow is_shallow_from dirs_open_at texts_of encode entries_bytes parent_of parent_below max_size_from size_beside_free set_place
move-tests = rw (space at-inserted, at-inserted.header.2, at-inserted.header.0, at-inserted.header.1)

move-writes : plan_image (change 2 move_b) (with_b 0 0 []) ≡ with_b 0x900 0 []
unfolding with_b first stating master put be32 texts_of encode entries_bytes parent_of parent_below written_image image_with_table set_place
move-writes = refl

pub moved : Step 0x36 (Ok tt) (move_file 2 0x900) (held 1644 6140 1) (with_b 0 0 []) (with_b 0x900 0 []) (totals 1644 6140 2)
unfolding team_verdict totals_verdict remainders moved_totals largest_size total_size
moved = accepted-by (planned at-inserted at_moved (move_file 2 0x900) _ move-plan move-tests move-writes) (held 1644 6140 1) refl

-- the clip

abbrev grow_b : Change
grow_b = resize_change (tree_b 0x900 0) 2 (at 0x900 0) 3

pub fill-plan : plan_of (fill_file 2 clip) (disc_of (with_b 0x900 0 [])) ≡ filled 2 clip (change 2 grow_b)
unfolding plan_fill plan_resize max_size_from size_beside_free
fill-plan = rw (at_moved.tree, space at_moved)

fill-tests : plan_verdict (filled 2 clip (change 2 grow_b)) (disc_of (with_b 0x900 0 [])) master_words 0x36 ≡ Ok tt
unfolding table_verdict place_verdict limits is_shallow is_shallow_from dirs_open_at texts_of encode entries_bytes parent_of parent_below max_size_from size_beside_free set_place
fill-tests = rw (space at_moved, at_moved.header.2, at_moved.header.0, at_moved.header.1)

fill-writes : plan_image (filled 2 clip (change 2 grow_b)) (with_b 0x900 0 []) ≡ with_b 0x900 3 clip
unfolding with_b first stating master put be32 texts_of encode entries_bytes parent_of parent_below written_image image_with_table set_place
fill-writes = refl

pub filled-b : Step 0x36 (Ok tt) (fill_file 2 clip) (held 1644 6140 2) (with_b 0x900 0 []) (with_b 0x900 3 clip) (totals 1647 5885 3)
unfolding team_verdict totals_verdict remainders moved_totals largest_size total_size
filled-b = accepted-by (planned at_moved at-filled (fill_file 2 clip) _ fill-plan fill-tests fill-writes) (held 1644 6140 2) refl

-- two bytes more

abbrev more_b : Change
more_b = resize_change (tree_b 0x900 3) 2 (at 0x900 3) 5

pub resize-plan : plan_of (resize_file 2 5) (disc_of (with_b 0x900 3 clip)) ≡ change 2 more_b
unfolding plan_resize max_size_from size_beside_free
resize-plan = rw (at-filled.tree, space at-filled)

resize-tests : plan_verdict (change 2 more_b) (disc_of (with_b 0x900 3 clip)) master_words 0x36 ≡ Ok tt
unfolding table_verdict place_verdict limits is_shallow is_shallow_from dirs_open_at texts_of encode entries_bytes parent_of parent_below max_size_from size_beside_free set_place
resize-tests = rw (space at-filled, at-filled.header.2, at-filled.header.0, at-filled.header.1)

resize-writes : plan_image (change 2 more_b) (with_b 0x900 3 clip) ≡ last
unfolding with_b first stating master put be32 texts_of encode entries_bytes parent_of parent_below written_image image_with_table set_place
resize-writes = refl

pub resized-b : Step 0x36 (Ok tt) (resize_file 2 5) (held 1647 5885 3) (with_b 0x900 3 clip) last (totals 1649 5883 4)
unfolding team_verdict totals_verdict remainders moved_totals largest_size total_size
resized-b = accepted-by (planned at-filled at_last (resize_file 2 5) _ resize-plan resize-tests resize-writes) (held 1647 5885 3) refl

-- the table written anew

rewrite-plan : plan_of rewrite (disc_of last) ≡ change 0 (table_change (tree_b 0x900 5))
rewrite-plan = rw at_last.tree

rewrite-tests : plan_verdict (change 0 (table_change (tree_b 0x900 5))) (disc_of last) master_words 0x36 ≡ Ok tt
unfolding table_verdict place_verdict limits is_shallow is_shallow_from dirs_open_at texts_of encode entries_bytes parent_of parent_below max_size_from size_beside_free
rewrite-tests = rw (space at_last, at_last.header.2, at_last.header.0, at_last.header.1)

rewrite-writes : plan_image (change 0 (table_change (tree_b 0x900 5))) last ≡ last
unfolding with_b first stating master put be32 texts_of encode entries_bytes parent_of parent_below written_image image_with_table
rewrite-writes = refl

pub rewritten : Step 0x36 (Ok tt) rewrite (held 1649 5883 4) last last (totals 1649 5883 5)
unfolding team_verdict totals_verdict remainders moved_totals largest_size total_size
rewritten = accepted-by (planned at_last at_last rewrite _ rewrite-plan rewrite-tests rewrite-writes) (held 1649 5883 4) refl
