-- A new master that is granted opens with the words that were lent, and reads as the tree that it was made for. Assumes nothing.
use Rattle.std.specs.Prelude.{Ok, ℕ, suc, drop, ◌+◌, ◌<◌, ◌≤◌, ◌≡◌, refl, true, not, List, [], ◌∷◌, ◌++◌, length, ltb}
use Rattle.std.proofs.Common.{◌∙◌, arith, ltb-false, length-drop}
use Rattle.std.proofs.lemmas.Bool.{not-false}
use Rattle.refusal.specs.declared.Refusal.TheVariants.{LimitOrMemory, NotEnoughSpace}
use Rattle.refusal.specs.Laws.Chains.{refuse-passed, first-passed}
use Rattle.tree.specs.Table.{Node, file, directory, encode, limits}
use Rattle.tree.specs.Inner.WellFormed.{IsWellFormed}
use Rattle.tree.proofs.Laws.RoundTrip.{written-accepted, written-reads}
use Rattle.space.specs.declared.region.DiscRegion.{DiscRegion}
use Rattle.space.specs.Used.{no_region, nonempty_regions, used_regions}
use Rattle.space.specs.Layout.{are_disjoint_below}
use Rattle.opened.specs.Opening.{nodes_in, regions_behind_table, used_in, opening}
use Rattle.header.specs.Verdicts.{disc_end}
use Rattle.ledger.specs.Inner.Files.{pick, files_of}
use Rattle.ledger.proofs.Laws.Files.{used-files}
use Rattle.ledger.proofs.Laws.Opened.{opening-passes}
use Rattle.wish_list.specs.Paths.{paths_in, list_verdict}
use Rattle.wish_list.specs.Tree.{Wish, wishes, common, added, entries_from, entries_with, tree_from, tree}
use Rattle.wish_list.proofs.Laws.Below.{AllNamed, common-less}
use Rattle.wish_list.proofs.Laws.NameTexts.{wishes-named, encode-length-placed, limits-placed}
use Rattle.wish_list.proofs.Laws.AcceptedPaths.{list-accepted, accepted-sound}
use Rattle.placement.specs.Placement.{is_placeable, offsets_of}
use Rattle.placement.specs.Places.{IsPlaced}
use Rattle.placement.specs.Theorem.{regions_of}
use Rattle.placement.proofs.Laws.Sound.{sound}
use Rattle.placement.proofs.Laws.Regions.{placed-passes}
use Rattle.placement.proofs.Laws.Offsets.{length-offsets_of, offsets-below}
use Rattle.master.specs.Master.{Master, nodes_at, nodes_of_master, table_size, first_free, before_place, master_verdict, written_master}
use Rattle.master.specs.Theorem.{IsGranted, NewMasterOpens}
use Rattle.master.proofs.Laws.Written.{Fits, good, length-new, header-new, fst-offset-new, disc-end-new, table-end-new, table-new, program-new, program_behind-new, zero-new, behind-new}

-- ---- what a granted list has passed

pub record Passed (m : Master) (room words bytes : ℕ) : Type 0 where
  pub listed : list_verdict m.paths (length m.sizes) ≡ Ok tt
  pub limited : limits (nodes_at m []) words ≡ Ok tt
  pub bytes_fit : table_size m ≤ bytes
  pub room_fits : m.disc_end ≤ room

passed-before : (m : Master) (room words bytes : ℕ) → before_place m room words bytes ≡ Ok tt → Passed m room words bytes
unfolding before_place
passed-before m room words bytes e =
    let a = first-passed (list_verdict m.paths (length m.sizes)) _ e in
    let b = first-passed (limits (nodes_at m []) words) _ a.1 in
    let c = refuse-passed (ltb bytes (table_size m)) LimitOrMemory _ b.1 in
    let d = refuse-passed (ltb room m.disc_end) LimitOrMemory _ c.1 in
    record { listed = a.0; limited = b.0; bytes_fit = ltb-false _ _ c.0; room_fits = ltb-false _ _ d.0 }

module _ (m : Master) (room words bytes : ℕ) (e : master_verdict m room words bytes ≡ Ok tt) where
  both : (before_place m room words bytes ≡ Ok tt) × (is_placeable (first_free m) m.disc_end m.sizes ≡ true)
  unfolding master_verdict
  both =
      let a = first-passed (before_place m room words bytes) _ e in
      let b = refuse-passed (not (is_placeable (first_free m) m.disc_end m.sizes)) NotEnoughSpace _ a.1 in
      (a.0, not-false (is_placeable (first_free m) m.disc_end m.sizes) b.0)

  pub passed : Passed m room words bytes
  passed = passed-before m room words bytes both.0

  pub placeable : is_placeable (first_free m) m.disc_end m.sizes ≡ true
  placeable = both.1

  pub placed : IsPlaced (first_free m) m.disc_end m.sizes (offsets_of (first_free m) m.sizes)
  placed = sound (first_free m) m.disc_end m.sizes placeable

-- ---- the files as regions

region_of-entries : (k n : ℕ) (names : List (List ℕ)) (w : Wish) (ws : List Wish) → 0 < length names → files_of (entries_from k n names w ws) ≡ record { offset = w.offset; size = w.size } ∷ []
unfolding entries_from pick
region_of-entries k n [] w ws h = absurd (omega arith)
region_of-entries k n (name ∷ []) w ws h = refl
region_of-entries k n (name ∷ next ∷ names) w ws h = region_of-entries (suc k) (suc n) (next ∷ names) w ws (omega arith)

files_of-append : (xs ys : List Node) → files_of (xs ++ ys) ≡ files_of xs ++ files_of ys
unfolding pick
files_of-append [] ys = refl
files_of-append (file nm offset size ∷ xs) ys = rw (files_of-append xs ys)
files_of-append (directory nm next ∷ xs) ys = files_of-append xs ys

-- each file brings one region
unfoldable regions_wished : List Wish → List DiscRegion
regions_wished [] = []
regions_wished (w ∷ ws) = record { offset = w.offset; size = w.size } ∷ regions_wished ws

files_of-tree_from : (k : ℕ) (before : List (List ℕ)) (ws : List Wish) → AllNamed ws → files_of (tree_from k before ws) ≡ regions_wished ws
unfolding tree_from regions_wished pick
files_of-tree_from k before [] h = refl
files_of-tree_from k before (w ∷ ws) h =
    let n : ℕ = common before w.names in
    let some : 0 < length (drop n w.names) = omega (arith, length-drop n w.names, common-less before w.names h.0) in
    rw (files_of-append (entries_with k before w ws) (tree_from (k + added before w.names) w.names ws), region_of-entries k n (drop n w.names) w ws some, files_of-tree_from (k + added before w.names) w.names ws h.1)

regions_wished-wishes : (paths : List (List ℕ)) (sizes offsets : List ℕ) → length paths ≡ length sizes → length offsets ≡ length sizes → regions_wished (wishes paths sizes offsets) ≡ regions_of sizes offsets
unfolding regions_wished wishes regions_of
regions_wished-wishes [] [] offsets a b = refl
regions_wished-wishes [] (s ∷ ss) offsets a b = absurd (omega arith)
regions_wished-wishes (p ∷ ps) [] offsets a b = absurd (omega arith)
regions_wished-wishes (p ∷ ps) (s ∷ ss) [] a b = absurd (omega arith)
regions_wished-wishes (p ∷ ps) (s ∷ ss) (o ∷ os) a b = rw (regions_wished-wishes ps ss os (omega arith) (omega arith))

files_of-tree : (paths : List (List ℕ)) (sizes offsets : List ℕ) → length paths ≡ length sizes → length offsets ≡ length sizes → files_of (tree (wishes paths sizes offsets)) ≡ regions_of sizes offsets
unfolding tree pick
files_of-tree paths sizes offsets a b =
    files_of-tree_from 1 [] (wishes paths sizes offsets) (wishes-named paths sizes offsets) ∙ regions_wished-wishes paths sizes offsets a b

-- the table with these offsets has the size that was measured
pub table-sized : (m : Master) → length (encode (nodes_at m (offsets_of (first_free m) m.sizes))) ≡ table_size m
table-sized m = encode-length-placed (paths_in m.paths) m.sizes (offsets_of (first_free m) m.sizes) m.sizes []

-- ---- it opens

module _ (m : Master) (image : List ℕ) (words bytes : ℕ) (g : IsGranted m (length image) words bytes) where
  abbrev offsets : List ℕ
  offsets = offsets_of (first_free m) m.sizes

  abbrev new : List ℕ
  new = written_master m image

  p : Passed m (length image) words bytes
  p = passed m (length image) words bytes g.granted

  at : IsPlaced (first_free m) m.disc_end m.sizes offsets
  at = placed m (length image) words bytes g.granted

  pub well : IsWellFormed (nodes_of_master m)
  unfolding nodes_of_master
  well =
      accepted-sound m.paths m.sizes offsets p.listed g.passable.sizes
      (λ i. omega (arith, g.passable.end, offsets-below (first_free m) m.disc_end m.sizes (placeable m (length image) words bytes g.granted) i))

  size-same : length (encode (nodes_of_master m)) ≡ table_size m
  unfolding nodes_of_master
  size-same = table-sized m

  limits-same : limits (nodes_of_master m) words ≡ Ok tt
  unfolding nodes_of_master
  limits-same = limits-placed (paths_in m.paths) m.sizes offsets m.sizes [] words ∙ p.limited

  pub fits : Fits m image
  fits = record { code = g.passable.game_code; small = g.passable.end; table = at.table; size = size-same; room = p.room_fits }

  nodes-new : nodes_in new ≡ nodes_of_master m
  unfolding nodes_in written_master
  nodes-new = rw (table-new m image fits) (written-reads (nodes_of_master m) words well limits-same)

  counted : length (paths_in m.paths) ≡ length m.sizes
  counted = (list-accepted m.paths (length m.sizes) p.listed).counted

  files-new : files_of (nodes_of_master m) ≡ regions_of m.sizes offsets
  unfolding nodes_of_master
  files-new = files_of-tree (paths_in m.paths) m.sizes offsets counted (length-offsets_of (first_free m) m.sizes)

  regions : are_disjoint_below (disc_end new) (used_in new) ≡ true
  unfolding used_in regions_behind_table written_master nonempty_regions
  regions =
      let d : are_disjoint_below m.disc_end (used_regions (first_free m) (regions_of m.sizes offsets)) ≡ true = placed-passes (first_free m) m.disc_end m.sizes offsets (omega arith) at in
      rw (disc-end-new m image fits, table-end-new m image fits, program_behind-new m image fits, nodes-new, used-files (first_free m) no_region (nodes_of_master m), files-new) d

  pub opens-new : opening new words ≡ Ok tt
  unfolding written_master
  opens-new =
      opening-passes new words (good m image fits)
      (record {
        after-header = omega (arith, fst-offset-new m image fits);
        small = omega (arith, disc-end-new m image fits, g.passable.end);
        table = omega (arith, disc-end-new m image fits, table-end-new m image fits, at.table);
        image_holds = omega (arith, disc-end-new m image fits, length-new m image fits, p.room_fits);
      })
      (rw (table-new m image fits) (written-accepted (nodes_of_master m) words well limits-same))
      (rw (program-new m image fits))
      regions

-- THEOREM
pub new-master-opens : NewMasterOpens
unfolding written_master
new-master-opens m image words bytes g =
    let f = fits m image words bytes g in
    record {
      opens = opens-new m image words bytes g;
      tree = nodes-new m image words bytes g;
      header = header-new m image f;
      end = disc-end-new m image f;
      table = table-end-new m image f;
      placed = placed m (length image) words bytes g.granted;
      zero = zero-new m image f;
      behind = behind-new m image f;
      length = length-new m image f;
    }
