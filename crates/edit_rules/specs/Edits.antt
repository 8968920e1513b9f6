-- The edits: their tests in order, and what they come to (RULES, Edits). Assumes nothing: these are
-- definitions.
use Rattle.std.specs.Prelude.{Result, Ok, Err, if◌then◌else◌, ◌==◌, nat_lt, nat_le, slice_index_or, is_err, is_ok}
use Rattle.std.specs.Result.{result_and}
use Rattle.refusal.specs.Refusal.{Verdict}
use Rattle.std.specs.Prelude.{ℕ, ◌+◌, ◌-◌, ◌^◌, min, Bool, true, false, not, ◌&&◌, ◌||◌, List, [], ◌∷◌, length}
use Rattle.endian.specs.Bytes.{put}
use Rattle.refusal.specs.declared.Refusal.{Refusal}
use Rattle.refusal.specs.declared.Refusal.TheVariants.{LimitOrMemory, InvalidNameByte, UnsafeName, NoSuchEntry, ExpectedFile, ExpectedDirectory, NotFound, AlreadyExists, OverlappingMove, NotEnoughSpace}
use Rattle.refusal.specs.Refusal.{refuse, first}
use Rattle.tree.specs.Table.{Node, empty_root, is_plain, is_safe}
use Rattle.tree.specs.Lookup.{is_directory, next_of, components, is_staying, is_going_back, child_of}
use Rattle.tree.specs.Insert.{insert_at, set_place, empty_file, empty_directory}
use Rattle.space.specs.declared.region.DiscRegion.{DiscRegion}
use Rattle.space.specs.Used.{no_region, total_size}
use Rattle.space.specs.Free.{largest_size}
use Rattle.space.specs.MaxRegionSize.{max_region_size}
use Rattle.space.specs.Allocate.{allocation_of}
use Rattle.totals.specs.declared.Totals.{Totals}
use Rattle.totals.specs.declared.SpaceChange.{SpaceChange}
use Rattle.totals.specs.Totals.{team_verdict, totals_verdict, moved_totals}
use Rattle.opened.specs.Opening.{opening, nodes_in, free_space_of, used_of, region_of, Disc, disc_of, free_of}
use Rattle.opened.specs.Answers.{answer_behind}
use Rattle.edit_rules.specs.Change.{Change, written_image, table_verdict, Plan, refused, nothing, change, filled}

-- an edit, with its numbers and its name, path or clip
pub data Edit : Type 0 where
  insert_file : ℕ → List ℕ → Edit
  insert_directory : ℕ → List ℕ → Edit
  make_directories : ℕ → List ℕ → Edit
  move_file : ℕ → ℕ → Edit
  resize_file : ℕ → ℕ → Edit
  fill_file : ℕ → List ℕ → Edit
  rewrite : Edit

-- only the table is written
abbrev pub table_change : List Node → Change
table_change nodes = record { nodes = nodes; old = no_region; place = no_region; kept = 0; lost = no_region }

-- a plan behind tests
abbrev pub plan_behind : Verdict → Plan → Plan
plan_behind v p = answer_behind v (λ c. refused (Err c)) p

-- ---- inserts: the new entry is the last child, and a file has offset and size 0

-- the number that a new last child of p gets
abbrev pub new_number : List Node → ℕ → ℕ
new_number nodes p = next_of (slice_index_or nodes p empty_root)

-- 17, 19 and 12, which look at the parent
abbrev pub child_verdict : List Node → ℕ → List ℕ → Verdict
child_verdict nodes p nm =
    refuse (not (is_directory (slice_index_or nodes p empty_root))) ExpectedDirectory
    (refuse (is_ok (child_of nodes p nm)) AlreadyExists
    (refuse (not (is_plain nm)) InvalidNameByte
    (Ok tt)))

-- RULES, Insert: 15, 13, 17, 19, 12
unfoldable pub insert_verdict : List Node → ℕ → List ℕ → Verdict
insert_verdict nodes p nm =
    refuse (nat_le (length nodes) p) NoSuchEntry
    (refuse (not (is_safe nm)) UnsafeName
    (child_verdict nodes p nm))

abbrev pub plan_insert : (ℕ → Node) → List Node → ℕ → List ℕ → Plan
plan_insert new nodes p nm =
    plan_behind (insert_verdict nodes p nm)
    (change (new_number nodes p) (table_change (insert_at p (new (new_number nodes p)) nodes)))

-- ---- make-directories: a lookup that adds each directory which is missing, as the last child

-- the tree so far, the entry where the walk stands, and whether a name of a made directory has a unit that no name may have
pub data Made : Type 0 where
  stopped : Refusal → Made
  made : List Node → ℕ → Bool → Made

abbrev pub made_step_back : List ℕ → (ℕ → List ℕ → Made) → Made
made_step_back [] f = stopped NotFound
made_step_back (k ∷ trail) f = f k trail

abbrev pub if_found : Result ℕ Refusal → (ℕ → Made) → Made → Made
if_found (Ok k) f missing = f k
if_found (Err c) f missing = missing

-- along the components from entry k; a directory made earlier is found again; the walk must end on a directory
unfoldable pub make : List Node → List ℕ → ℕ → Bool → List (List ℕ) → Made
make nodes trail k bad [] = if is_directory (slice_index_or nodes k empty_root) then made nodes k bad else stopped ExpectedDirectory
make nodes trail k bad (c ∷ cs) =
    if is_directory (slice_index_or nodes k empty_root)
    then (if is_staying c then make nodes trail k bad cs
    else if is_going_back c then made_step_back trail (λ j rest. make nodes rest j bad cs)
    else if_found (child_of nodes k c) (λ j. make nodes (k ∷ trail) j bad cs)
    (if is_safe c
    then make (insert_at k (empty_directory c (new_number nodes k)) nodes) (k ∷ trail) (new_number nodes k) (bad || not (is_plain c)) cs
    else stopped UnsafeName))
    else stopped ExpectedDirectory

abbrev pub plan_made : Made → Plan
plan_made (stopped c) = refused (Err c)
plan_made (made nodes k false) = change k (table_change nodes)
plan_made (made nodes k true) = refused (Err InvalidNameByte)

unfoldable pub plan_make_directories : List Node → ℕ → List ℕ → Plan
plan_make_directories nodes start path =
    plan_behind (refuse (nat_lt 1024 (length path)) LimitOrMemory (refuse (nat_le (length nodes) start) NoSuchEntry (Ok tt)))
    (plan_made (make nodes [] start false (components path)))

-- ---- moves and resizes

-- 15, then 16
abbrev pub file_verdict : List Node → ℕ → Verdict
file_verdict nodes k = refuse (nat_le (length nodes) k) NoSuchEntry (refuse (is_directory (slice_index_or nodes k empty_root)) ExpectedFile (Ok tt))

-- 20: the new place begins before the old one's end, and ends behind its start
abbrev pub is_overlapping : DiscRegion → DiscRegion → Bool
is_overlapping old new = nat_lt new.offset (old.offset + old.size) && nat_lt old.offset (new.offset + new.size)

-- the file k, which lies at `old`, goes to `new`; the smaller of both sizes is copied, and the old place is zeroed
abbrev pub relocation_change : List Node → ℕ → DiscRegion → DiscRegion → Change
relocation_change nodes k old new = record {
  nodes = set_place k new.offset new.size nodes;
  old = old;
  place = new;
  kept = min old.size new.size;
  lost = old;
}

-- 20 before 21: the new place must be free, so long is what `max_region_size` says of 0 bytes there. An empty file goes anywhere
abbrev pub relocate_verdict : List DiscRegion → DiscRegion → DiscRegion → Verdict
relocate_verdict free old new =
    refuse (is_overlapping old new) OverlappingMove
    (refuse (nat_lt (max_region_size new.offset 0 free) new.size) NotEnoughSpace (Ok tt))

unfoldable pub plan_move : List DiscRegion → List Node → ℕ → ℕ → Plan
plan_move free nodes k to =
    let old : DiscRegion = region_of (slice_index_or nodes k empty_root) in
    let new : DiscRegion = record { offset = to; size = old.size } in
    plan_behind (first (file_verdict nodes k) (relocate_verdict free old new)) (change k (relocation_change nodes k old new))

-- where the file stays and has n bytes: what it loses is zeroed after the table, what it gains is as the free space held it
abbrev pub resize_change : List Node → ℕ → DiscRegion → ℕ → Change
resize_change nodes k old n = record {
  nodes = set_place k old.offset n nodes;
  old = old;
  place = record { offset = old.offset; size = n };
  kept = 0;
  lost = record { offset = old.offset + n; size = old.size - n };
}

-- at a multiple of 0x8000, where it can't grow in place
abbrev pub plan_elsewhere : List Node → List DiscRegion → ℕ → DiscRegion → ℕ → Result DiscRegion Refusal → Plan
plan_elsewhere nodes free k old n (Err c) = refused (Err c)
plan_elsewhere nodes free k old n (Ok r) =
    let new : DiscRegion = record { offset = r.offset; size = n } in
    plan_behind (relocate_verdict free old new) (change k (relocation_change nodes k old new))

-- a resize, once the file's place is known
abbrev pub plan_sized : List DiscRegion → List Node → ℕ → DiscRegion → ℕ → Plan
plan_sized free nodes k old n =
    if n == old.size then nothing
    else if nat_le n old.size || nat_le n (max_region_size old.offset old.size free)
    then change k (resize_change nodes k old n)
    else plan_elsewhere nodes free k old n (allocation_of 0x8000 n free)

unfoldable pub plan_resize : List DiscRegion → List Node → ℕ → ℕ → Plan
plan_resize free nodes k n = plan_behind (file_verdict nodes k) (plan_sized free nodes k (region_of (slice_index_or nodes k empty_root)) n)

-- ---- fills: the resize to the clip's length with all its tests, and then the clip

-- 15, 16, and then 21 for a clip whose length passes 32 bits
abbrev pub clip_verdict : List Node → ℕ → ℕ → Verdict
clip_verdict nodes k n = first (file_verdict nodes k) (refuse (nat_lt (2 ^ 32 - 1) n) NotEnoughSpace (Ok tt))

unfoldable pub plan_fill : List DiscRegion → List Node → ℕ → List ℕ → Plan
plan_fill free nodes k clip = plan_behind (clip_verdict nodes k (length clip)) (filled k clip (plan_resize free nodes k (length clip)))

-- ---- the whole of an edit, which is decided on the disc that the image means, and on nothing else of it

abbrev pub plan_of : Edit → Disc → Plan
plan_of (insert_file p nm) d = plan_insert (λ q. empty_file nm) d.nodes p nm
plan_of (insert_directory p nm) d = plan_insert (empty_directory nm) d.nodes p nm
plan_of (make_directories start path) d = plan_make_directories d.nodes start path
plan_of (move_file k to) d = plan_move (free_of d) d.nodes k to
plan_of (resize_file k n) d = plan_resize (free_of d) d.nodes k n
plan_of (fill_file k clip) d = plan_fill (free_of d) d.nodes k clip
plan_of rewrite d = change 0 (table_change d.nodes)

abbrev pub plan_verdict : Plan → Disc → ℕ → ℕ → Verdict
plan_verdict (refused v) d words bytes = v
plan_verdict nothing d words bytes = Ok tt
plan_verdict (change k c) d words bytes = table_verdict c d words bytes
plan_verdict (filled k clip p) d words bytes = plan_verdict p d words bytes

-- the tree that a plan comes to
abbrev pub plan_tree : Plan → List Node → List Node
plan_tree (refused v) nodes = nodes
plan_tree nothing nodes = nodes
plan_tree (change k c) nodes = c.nodes
plan_tree (filled k clip p) nodes = plan_tree p nodes

-- the clip goes where the file lies in the tree that the plan before it comes to
abbrev pub plan_image : Plan → List ℕ → List ℕ
plan_image (refused v) image = image
plan_image nothing image = image
plan_image (change k c) image = written_image c image
plan_image (filled k clip p) image = put (plan_image p image) (region_of (slice_index_or (plan_tree p (nodes_in image)) k empty_root)).offset clip

-- ---- the record

-- the record that an edit is handed, and the team that it carries
pub record Account : Type 0 where
  pub totals : Totals
  pub team : ℕ

abbrev pub account : Totals → ℕ → Account
account t k = record { totals = t; team = k }

-- what an edit of the image that leaves `new` does to used and free bytes
abbrev pub space_change : List ℕ → List ℕ → SpaceChange
space_change image new = record {
  before = used_of image;
  after = used_of new;
  free = total_size (free_space_of new);
  largest = largest_size (free_space_of new);
}

-- 27, 28 and 25 are the last tests of all
unfoldable pub counted_verdict : Plan → Account → List ℕ → ℕ → ℕ → Verdict
counted_verdict p a image words bytes =
    first (plan_verdict p (disc_of image) words bytes) (totals_verdict a.totals a.team (space_change image (plan_image p image)))

-- the verdict on an edit of an image, with an account and so many working words and bytes lent: opening, the team, the edit's own tests, the
-- table's, the record's
unfoldable pub verdict_of : Edit → Account → List ℕ → ℕ → ℕ → Verdict
verdict_of ed a image words bytes =
    first (opening image words) (first (team_verdict a.team) (counted_verdict (plan_of ed (disc_of image)) a image words bytes))

-- the image afterwards: a refused edit leaves it as it is
unfoldable pub image_after : Edit → Account → List ℕ → ℕ → ℕ → List ℕ
image_after ed a image words bytes = if is_err (verdict_of ed a image words bytes) then image else plan_image (plan_of ed (disc_of image)) image

-- the record moved on to the new image
abbrev pub totals_to : Account → List ℕ → List ℕ → Totals
totals_to a image new = moved_totals a.totals a.team (space_change image new)

-- the record afterwards; a refused edit leaves it as it was
unfoldable pub totals_after : Edit → Account → List ℕ → ℕ → ℕ → Totals
totals_after ed a image words bytes =
    if is_err (verdict_of ed a image words bytes) then a.totals else totals_to a image (plan_image (plan_of ed (disc_of image)) image)

-- the answer of an edit that gives an entry's number
abbrev pub plan_number : Plan → ℕ
plan_number (refused v) = 0
plan_number nothing = 0
plan_number (change k c) = k
plan_number (filled k clip p) = k

abbrev pub number_behind : Verdict → ℕ → Result ℕ Refusal
number_behind v k = result_and v (Ok k)
