-- Each theorem about new masters, applied to the worked one of NewMastersImage: what it says is read off in numbers. Assumes nothing.
use Rattle.std.specs.Prelude.{Result, Ok, Err, ℕ, zero, suc, ◌+◌, ◌^◌, ◌<◌, ◌≤◌, ◌≡◌, refl, Bool, true, false, List, [], ◌∷◌, map, length, nat_eq, replicate, slice_index, slice_index_or}
use Rattle.std.specs.List.{starts_with}
use Rattle.std.proofs.Common.{arith, ap, sym, subst, ◌∙◌}
use Rattle.std.proofs.lemmas.Bool.{false≢true}
use Rattle.std.proofs.lemmas.List.{length-replicate}
use Rattle.endian.specs.Bytes.{AllBytes, are_same_bytes, be24, be32, put, span}
use Rattle.refusal.specs.declared.Refusal.{Refusal}
use Rattle.refusal.specs.declared.Refusal.TheVariants.{NotEnoughSpace}
use Rattle.header.specs.Verdicts.{disc_end, table_end}
use Rattle.tree.specs.Units.{units}
use Rattle.tree.specs.Table.{Node, file, name_of, empty_root, is_plain, is_safe, dirs_open_at, count, name_at, node_at, nodes_from, nodes_of, parent_below, parent_of, entries_bytes, texts_of, encode, is_shallow_from, is_shallow, limits}
use Rattle.tree.specs.Lookup.{components_of, components, first_child, child_of, follow, lookup}
use Rattle.opened.specs.Opening.{table_of, nodes_in, region_of, opening, used_in, used_of, free_space_of, regions_behind_table}
use Rattle.edit_rules.specs.Edits.{fill_file, plan_resize, plan_fill, counted_verdict, verdict_of, image_after}
use Rattle.tree.specs.Insert.{set_place}
use Rattle.disc.specs.declared.answers.DiscTotals.{DiscTotals}
use Rattle.disc.specs.Calls.{totals_answer}
use Rattle.ledger.specs.Theorem.{LedgerHolds}
use Rattle.ledger.specs.Ledger.{History, Ledger, node_without_place, files_before, first_histories, first_ledger, ledger_after}
use Rattle.ledger.specs.Runs.{Call, image_after_all, reports_of, AllWithin}
use Rattle.space.specs.Used.{is_used, nonempty_regions, total_size}
use Rattle.space.specs.Free.{runs, free_regions}
use Rattle.totals.specs.Totals.{remainders, team_verdict, totals_verdict}
use Rattle.executable.specs.Program.{program_of, program_in, own_region, program_behind}
use Rattle.header.specs.Fields.{fields}
use Rattle.header.specs.Header.{header_of, put_fields, field_bytes, blank_header}
use Rattle.listing.specs.Lines.{path_of}
use Rattle.space.specs.Align.{align_up}
use Rattle.wish_list.specs.Paths.{paths_in, path_verdict, paths_verdict, list_verdict}
use Rattle.wish_list.specs.Tree.{wishes, common, below, entries_from, tree_from, tree}
use Rattle.placement.specs.Placement.{whole_total, largest_rest, offsets_in_order, offsets_with_last, last_file, offsets_of}
use Rattle.placement.specs.Places.{IsPlaced}
use Rattle.master.specs.Master.{Master, first_free, nodes_of_master, before_place, master_verdict, header_with, written_master}
use Rattle.master.specs.Theorem.{IsGranted, FileSeen, files_in, files_wished, IsFirstBelow, IsWishTree, IsFound, IsOpenedAs}
use Rattle.master.proofs.Laws.WishTree.{tree-is-wish-list, each-is-found}
use Rattle.master.proofs.Laws.Opens.{new-master-opens}
use Rattle.master.proofs.Laws.AllListsFollow.{any-list-follows, refused-exactly}
use Rattle.worked.specs.Laws.Handed.{handed}
use Rattle.worked.specs.Laws.NewMastersImage.{nested, nested_tree, small, lent, written, image, small-tree}

-- ---- the hypotheses

code-bytes : AllBytes small.game_code
code-bytes zero = omega arith
code-bytes (suc zero) = omega arith
code-bytes (suc (suc zero)) = omega arith
code-bytes (suc (suc (suc zero))) = omega arith
code-bytes (suc (suc (suc (suc i)))) = omega arith

sizes : (i : ℕ) → slice_index small.sizes i < 2 ^ 32
sizes zero = omega arith
sizes (suc zero) = omega arith
sizes (suc (suc zero)) = omega arith
sizes (suc (suc (suc i))) = omega arith

same-bytes : (n : ℕ) → AllBytes (replicate n 0xEE)
same-bytes zero i = omega arith
same-bytes (suc n) zero = omega arith
same-bytes (suc n) (suc i) = same-bytes n i

lent-length : length lent ≡ 0x8005
lent-length = length-replicate {A = ℕ} 0x8005 0xEE

granted : IsGranted small (length lent) 32 0x52
granted = record {
  passable = record { game_code = refl; code_bytes = code-bytes; end = omega arith; sizes = sizes };
  granted = image.accepted;
}

-- what was granted, as the theorems have it
pub record Granted : Type 0 where
  pub verdict : master_verdict small (length lent) 32 0x52 ≡ Ok tt
  -- the game code has four bytes, the last one `E`
  pub code : (length small.game_code ≡ 4) × (0x45 < 256)
  pub end : 0x8003 < 2 ^ 32
  pub size-of-d : 3 < 2 ^ 32

pub granted-worked : Granted
granted-worked = record {
  verdict = granted.granted;
  code = (granted.passable.game_code, granted.passable.code_bytes 3);
  end = granted.passable.end;
  size-of-d = granted.passable.sizes 1;
}

small-free : first_free small ≡ 0x492
unfolding paths_in wishes common below entries_from tree_from tree are_same_bytes texts_of encode entries_bytes parent_of parent_below
small-free = refl

small-offsets : offsets_of 0x492 small.sizes ≡ 0 ∷ 0x8000 ∷ 0 ∷ []
unfolding align_up whole_total largest_rest offsets_in_order offsets_with_last last_file offsets_of
small-offsets = refl

abbrev nodes : List Node
nodes = nested_tree 0 0 0x8000 3

abbrev node : ℕ → Node
node k = slice_index_or nodes k empty_root

-- ---- its tree: the files are those that were wished for

abbrev path_b : List ℕ
path_b = 0x2F ∷ 0x61 ∷ 0x2F ∷ 0x62 ∷ []

abbrev path_d : List ℕ
path_d = 0x2F ∷ 0x61 ∷ 0x2F ∷ 0x63 ∷ 0x2F ∷ 0x64 ∷ []

abbrev path_e : List ℕ
path_e = 0x2F ∷ 0x65 ∷ []

wish_tree : IsWishTree (paths_in small.paths) small.sizes nodes
wish_tree = rw small-tree at (tree-is-wish-list small (length lent) 32 0x52 granted)

pub record Files : Type 0 where
  pub paths : map (λ f. f.path) (files_in nodes) ≡ path_b ∷ path_d ∷ path_e ∷ []
  pub sizes : map (λ f. f.size) (files_in nodes) ≡ 0 ∷ 3 ∷ 0 ∷ []

pub files : Files
unfolding files_wished paths_in
files = record { paths = ap (map (λ (f : FileSeen). f.path)) wish_tree.files; sizes = ap (map (λ (f : FileSeen). f.size)) wish_tree.files }

-- `a`, entry 1, and `c`, entry 3: each stands just before its first file

pub below-a : (f : ℕ) × IsFirstBelow nodes 1 f
below-a = wish_tree.directories 1 (omega arith) (omega arith) refl

pub below-c : (f : ℕ) × IsFirstBelow nodes 3 f
below-c = wish_tree.directories 3 (omega arith) (omega arith) refl

first-in-a : (f : ℕ) → IsFirstBelow nodes 1 f → f ≡ 2
first-in-a zero b = absurd (omega (arith, b.behind))
first-in-a (suc zero) b = absurd (omega (arith, b.behind))
first-in-a (suc (suc zero)) b = refl
first-in-a (suc (suc (suc zero))) b = absurd (false≢true (sym b.file))
first-in-a (suc (suc (suc (suc zero)))) b = absurd (false≢true ((b.between 2 (omega arith) (omega arith)).0))
first-in-a (suc (suc (suc (suc (suc f))))) b = absurd (omega (arith, b.inside))

first-in-c : (f : ℕ) → IsFirstBelow nodes 3 f → f ≡ 4
first-in-c zero b = absurd (omega (arith, b.behind))
first-in-c (suc zero) b = absurd (omega (arith, b.behind))
first-in-c (suc (suc zero)) b = absurd (omega (arith, b.behind))
first-in-c (suc (suc (suc zero))) b = absurd (omega (arith, b.behind))
first-in-c (suc (suc (suc (suc zero)))) b = refl
first-in-c (suc (suc (suc (suc (suc f))))) b = absurd (omega (arith, b.inside))

pub record Directories : Type 0 where
  pub a : below-a.0 ≡ 2
  pub c : below-c.0 ≡ 4
  -- `/a/b` begins with `/a/`, and `/a/c/d` with `/a/c/`
  pub paths : (starts_with nat_eq (path_of nodes below-a.0) (path_of nodes 1) ≡ true) × (starts_with nat_eq (path_of nodes below-c.0) (path_of nodes 3) ≡ true)
  -- `/a/b`, before `c`, does not
  pub before : starts_with nat_eq (path_of nodes 2) (path_of nodes 3) ≡ false
  -- `b` and `c`, which are both in `a`, have two names, and so have `a` and `e`
  pub siblings : (name_of (node 2) ≡ name_of (node 3) → ⊥) × (name_of (node 1) ≡ name_of (node 5) → ⊥)

pub directories : Directories
unfolding parent_of parent_below
directories = record {
  a = first-in-a below-a.0 below-a.1;
  c = first-in-c below-c.0 below-c.1;
  paths = ((below-a.1.between 1 (omega arith) below-a.1.behind).1, (below-c.1.between 3 (omega arith) below-c.1.behind).1);
  before = below-c.1.before 2 (omega arith) refl;
  siblings = (
    λ e. let n : ◌≡◌ {A = ℕ} 2 3 = wish_tree.siblings 2 3 (omega arith) (omega arith) (omega arith) (omega arith) refl e in absurd (omega (arith, n)),
    λ e. let n : ◌≡◌ {A = ℕ} 1 5 = wish_tree.siblings 1 5 (omega arith) (omega arith) (omega arith) (omega arith) refl e in absurd (omega (arith, n)),
  );
}

-- ---- `/a/c/d`, found by its path: at 0x8000, of 3 bytes

pub found-d : IsFound nodes (0x61 ∷ 0x2F ∷ 0x63 ∷ 0x2F ∷ 0x64 ∷ []) 0x8000 3
unfolding paths_in
found-d = rw (small-tree, small-free, small-offsets) at (each-is-found small (length lent) 32 0x52 granted 1 (omega arith))

by-path : lookup nodes 0 (0x61 ∷ 0x2F ∷ 0x63 ∷ 0x2F ∷ 0x64 ∷ []) ≡ Ok 4
unfolding lookup follow components components_of units child_of first_child are_same_bytes parent_of parent_below
by-path = refl

which-d : (k : ℕ) (nm : List ℕ) → ◌≡◌ {A = Result ℕ Refusal} (Ok k) (Ok 4) → node k ≡ file nm 0x8000 3 → (k ≡ 4) × (nm ≡ 0x64 ∷ [])
which-d k nm e l = let n : k ≡ 4 = cc in let f : node 4 ≡ file nm 0x8000 3 = subst (λ x. node x ≡ file nm 0x8000 3) n l in (n, cc)

pub record Found : Type 0 where
  pub entry : found-d.entry ≡ 4
  pub name : found-d.name ≡ 0x64 ∷ []

pub found : Found
found = let w = which-d found-d.entry found-d.name (sym found-d.found ∙ by-path) found-d.lies in record { entry = w.0; name = w.1 }

-- ---- 21

-- one byte less of disc
abbrev pub less : Master
less = nested 0x8002 (0 ∷ 3 ∷ 0 ∷ [])

before : before_place less 0x8005 32 0x52 ≡ Ok tt
unfolding paths_in path_verdict paths_verdict list_verdict wishes common below entries_from tree_from tree are_same_bytes is_plain is_safe units limits is_shallow is_shallow_from dirs_open_at texts_of encode entries_bytes parent_of parent_below before_place
before = refl

less-free : first_free less ≡ 0x492
unfolding paths_in wishes common below entries_from tree_from tree are_same_bytes texts_of encode entries_bytes parent_of parent_below
less-free = refl

-- `d` lies behind the table on a multiple of 0x8000, and so it ends past the disc
nowhere : (offsets : List ℕ) → IsPlaced (first_free less) less.disc_end less.sizes offsets → ⊥
nowhere offsets p = omega (arith, less-free, p.behind 1 (omega arith), p.multiple 1 (omega arith), p.within 1 (omega arith))

pub record Refused : Type 0 where
  pub no-place : (offsets : List ℕ) → IsPlaced 0x492 0x8002 (0 ∷ 3 ∷ 0 ∷ []) offsets → ⊥
  pub verdict : master_verdict less 0x8005 32 0x52 ≡ Err NotEnoughSpace

pub refused : Refused
refused = record {
  no-place = rw less-free at ((refused-exactly less 0x8005 32 0x52 before).0 (rw lent-length at image.less));
  verdict = (refused-exactly less 0x8005 32 0x52 before).1 nowhere;
}

-- ---- the image opens

opened : IsOpenedAs small 32 lent written
unfolding written
opened = new-master-opens small lent 32 0x52 granted

pub record Opened : Type 0 where
  pub opens : opening written 32 ≡ Ok tt
  pub tree : nodes_in written ≡ nested_tree 0 0 0x8000 3
  -- the header as it was wished for: game code, FST offset, and no program and no maximum
  pub header : ((header_of written).game_code ≡ small.game_code) × ((header_of written).dol_offset ≡ 0) × ((header_of written).fst_offset ≡ 0x440) × ((header_of written).fst_max_size ≡ 0) × ((header_of written).user_size ≡ 0x8003)
  pub end : disc_end written ≡ 0x8003
  pub table : table_end written ≡ 0x492
  -- `d` is placed behind the table, and its last byte is the disc's
  pub placed : (0x492 ≤ 0x8000) × (0x8000 + 3 ≤ 0x8003)
  -- the first byte behind the table, and the last of `d`
  pub zero : (slice_index written 0x492 ≡ 0) × (slice_index written 0x8002 ≡ 0)
  pub behind : (slice_index written 0x8003 ≡ 0xEE) × (slice_index written 0x8004 ≡ 0xEE)
  pub length : length written ≡ 0x8005

pub opened-worked : Opened
unfolding header_with blank_header
opened-worked =
    let p : IsPlaced 0x492 0x8003 (0 ∷ 3 ∷ 0 ∷ []) (0 ∷ 0x8000 ∷ 0 ∷ []) = rw (small-free, small-offsets) at opened.placed in
    record {
      opens = opened.opens;
      tree = opened.tree ∙ small-tree;
      header = rw opened.header (refl, refl, refl, refl, refl);
      end = opened.end;
      table = opened.table ∙ small-free;
      placed = (p.behind 1 (omega arith), p.within 1 (omega arith));
      zero = (opened.zero 0x492 (omega (arith, small-free)) (omega arith), opened.zero 0x8002 (omega (arith, small-free)) (omega arith));
      behind = (opened.behind 0x8003 (omega arith), opened.behind 0x8004 (omega arith));
      length = opened.length ∙ lent-length;
    }

-- ---- any list of edits may follow, with as many words as the call was lent or more; so the last image opens

pub any-opens : (w : ℕ) (calls : List Call) → 32 ≤ w → AllWithin w calls → opening (image_after_all calls written) w ≡ Ok tt
unfolding written
any-opens w calls h each = (any-list-follows small lent 32 0x52 w calls (same-bytes 0x8005) granted h each).opens

-- `d`, entry 4, is filled with a clip of three bytes

abbrev pub clip : List ℕ
clip = 0x11 ∷ 0x12 ∷ 0x13 ∷ []

abbrev pub list : List Call
list = record { edit = fill_file 4 clip; account = handed 0x495 0x7B6E 0; words = 32; bytes = 0x52 } ∷ []

clip-bytes : AllBytes clip
clip-bytes zero = omega arith
clip-bytes (suc zero) = omega arith
clip-bytes (suc (suc zero)) = omega arith
clip-bytes (suc (suc (suc i))) = omega arith

nodes-written : nodes_in written ≡ nodes
nodes-written = opened.tree ∙ small-tree

-- what is written then
abbrev pub filled : List ℕ
filled = put written 0x8000 clip

used : (used_of written ≡ 0x495) × (used_of filled ≡ 0x495)
unfolding written paths_in wishes common below entries_from tree_from tree are_same_bytes texts_of encode entries_bytes parent_of parent_below align_up whole_total largest_rest offsets_in_order offsets_with_last last_file offsets_of nodes_of_master header_with written_master put put_fields fields field_bytes blank_header be32 be24 table_of nodes_in nodes_of nodes_from node_at name_at count used_of regions_behind_table program_of program_in own_region total_size
used = (refl, refl)

free : free_space_of filled ≡ record { offset = 0x492; size = 0x7B6E } ∷ []
unfolding written paths_in wishes common below entries_from tree_from tree are_same_bytes texts_of encode entries_bytes parent_of parent_below align_up whole_total largest_rest offsets_in_order offsets_with_last last_file offsets_of nodes_of_master header_with written_master put put_fields fields field_bytes blank_header be32 be24 table_of nodes_in nodes_of nodes_from node_at name_at count used_in regions_behind_table program_of program_in own_region free_regions runs is_used nonempty_regions
free = refl

counted : ◌≡◌ {A = Result DiscTotals Refusal} (Ok (record { disc_end = disc_end filled; used = table_end filled + (program_behind filled).size + total_size (map region_of (nodes_in filled)) })) (Ok (record { disc_end = 0x8003; used = 0x495 }))
unfolding written paths_in wishes common below entries_from tree_from tree are_same_bytes texts_of encode entries_bytes parent_of parent_below align_up whole_total largest_rest offsets_in_order offsets_with_last last_file offsets_of nodes_of_master header_with written_master put put_fields fields field_bytes blank_header be32 be24 table_of nodes_in nodes_of nodes_from node_at name_at count used_of regions_behind_table program_of program_in own_region total_size
counted = refl

accepted : reports_of list written ≡ record { edit = fill_file 4 clip; accepted = true } ∷ []
unfolding reports_of verdict_of counted_verdict plan_fill plan_resize team_verdict totals_verdict remainders total_size
accepted = rw (opened.opens, nodes-written, nodes-written, used.0, used.1, free)

last : image_after_all list written ≡ filled
unfolding image_after_all image_after verdict_of counted_verdict plan_fill plan_resize team_verdict totals_verdict remainders total_size
last = rw (opened.opens, nodes-written, nodes-written, used.0, used.1, free)

history : ℕ → List ℕ → Bool → History
history place bytes named = record { place = place; bytes = bytes; m = length bytes; named = named }

abbrev ledger : Ledger
ledger = record {
  nodes = nested_tree 0 0 0 3;
  histories = history 0 [] false ∷ history 0x8000 clip true ∷ history 0 [] false ∷ [];
}

entered : ledger_after (reports_of list written) (first_ledger written) ≡ ledger
unfolding ledger_after first_histories files_before set_place history
entered = rw (accepted, nodes-written)

holds : (w : ℕ) → 32 ≤ w → LedgerHolds w written filled ledger
unfolding written
holds w h = rw (last, entered) at (any-list-follows small lent 32 0x52 w list (same-bytes 0x8005) granted h (h, clip-bytes, tt))

pub record Follows (w : ℕ) : Type 0 where
  pub opens : opening filled w ≡ Ok tt
  pub tree : map node_without_place (nodes_in filled) ≡ nested_tree 0 0 0 3
  pub used : totals_answer filled w ≡ Ok (record { disc_end = 0x8003; used = 0x495 })
  -- `d`, wherever it is read then
  pub bytes : (nm : List ℕ) (offset size : ℕ) → slice_index_or (nodes_in filled) 4 empty_root ≡ file nm offset size → (3 ≤ size) × (span filled offset 3 ≡ clip)

pub follows : (w : ℕ) → 32 ≤ w → Follows w
unfolding files_before history
follows w h =
    let d = holds w h in
    record {
      opens = d.opens;
      tree = d.tree;
      used = d.used-reported ∙ counted;
      bytes = λ nm offset size e. let f = d.files 4 nm offset size e in (f.m-size, f.first-bytes);
    }
