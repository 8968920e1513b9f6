-- The tree of an accepted wish list: its directories stand just before their first files, and each file is found by its path. Assumes nothing.
use Rattle.std.specs.Prelude.{Ok, ℕ, zero, suc, ◌<◌, ◌≤◌, ◌≡◌, refl, true, false, List, [], ◌∷◌, ◌++◌, length, get_or, nat_eq}
use Rattle.std.specs.List.{starts_with}
use Rattle.std.proofs.Common.{sym, ap, ◌∙◌, ⊎_elim, arith}
use Rattle.std.proofs.lemmas.Bool.{false≢true}
use Rattle.refusal.specs.Laws.Tests.{lt-or-le, is_false}
use Rattle.tree.specs.Table.{Node, file, empty_root}
use Rattle.tree.specs.Inner.WellFormed.{IsWellFormed}
use Rattle.tree.specs.Lookup.{is_directory}
use Rattle.listing.specs.Lines.{path_of}
use Rattle.wish_list.specs.Paths.{paths_in, list_verdict}
use Rattle.wish_list.specs.Tree.{Wish, wishes, tree_from, tree}
use Rattle.wish_list.proofs.Laws.AcceptedPaths.{HaveAllPassed, IsAccepted, list-accepted, accepted-sound}
use Rattle.placement.specs.Placement.{offsets_of}
use Rattle.placement.proofs.Laws.Offsets.{offsets-below}
use Rattle.master.proofs.Entries.{entry_paths}
use Rattle.master.specs.Master.{Master, first_free, nodes_of_master}
use Rattle.master.specs.Theorem.{IsGranted, IsFirstBelow, IsFound, TreeIsWishList, EachIsFound}
use Rattle.master.proofs.Laws.Opens.{passed, placeable}
use Rattle.master.proofs.Laws.NewPathsFiles.{files-of-tree}
use Rattle.master.proofs.Laws.Order.{begins-test, test-begins, below-not_behind}
use Rattle.master.proofs.Laws.FoundEntries.{IsFor, entry-for, entry-of}
use Rattle.master.proofs.Laws.Siblings.{node-past_root, length-past_root, text-past_root, texts-rise, siblings-differ}
use Rattle.master.proofs.Laws.Found.{file-found}

module _ (paths : List (List ℕ)) (sizes offsets : List ℕ) (passed : HaveAllPassed [] paths) where
  abbrev ws : List Wish
  ws = wishes paths sizes offsets

  abbrev nodes : List Node
  nodes = tree ws

  abbrev xs : List Node
  xs = tree_from 1 [] ws

  abbrev texts : List (List ℕ)
  texts = entry_paths [] ws

  -- ---- a directory stands just before the first file in it

  root-directory : is_directory (get_or nodes 0 empty_root) ≡ true
  unfolding tree
  root-directory = refl

  -- no file before directory n + 1 has a path through it
  none-before : (n j : ℕ) → n < length xs → j < suc n → is_directory (get_or nodes j empty_root) ≡ false → starts_with nat_eq (path_of nodes j) (path_of nodes (suc n)) ≡ false
  none-before n zero l h leaf = absurd (false≢true (sym leaf ∙ root-directory))
  none-before n (suc i) l h leaf = is_false (starts_with nat_eq (path_of nodes (suc i)) (path_of nodes (suc n))) (λ e.
      let b = test-begins (path_of nodes (suc i)) (path_of nodes (suc n)) e in
      let t : 0x2F ∷ get_or texts i [] ≡ 0x2F ∷ (get_or texts n [] ++ b.0) = sym (at i (omega arith)) ∙ b.1 ∙ ap (λ (s : List ℕ). s ++ b.0) (at n l) in
      false≢true (sym (below-not_behind (get_or texts n []) (get_or texts i []) (b.0, cc)) ∙ texts-rise paths sizes offsets passed i n (omega arith) l))
    where
      at : (m : ℕ) → m < length xs → path_of nodes (suc m) ≡ 0x2F ∷ get_or texts m []
      at m h = text-past_root paths sizes offsets passed m h

  first-below : (n : ℕ) → n < length xs → is_directory (get_or xs n empty_root) ≡ true → (f : ℕ) × IsFirstBelow nodes (suc n) f
  first-below n l d = (
    suc g.entry,
    record {
      behind = omega (arith, past);
      inside = rw (at n) (omega (arith, (g.around n (omega arith) past).past));
      file = rw (at g.entry) g.leaf;
      between = between;
      before = λ j h leaf. none-before n j l h leaf;
    },
  )
    where
      g : IsFor xs texts paths 1 n
      g = entry-for 1 [] paths sizes offsets n l

      at : (i : ℕ) → get_or nodes (suc i) empty_root ≡ get_or xs i empty_root
      at i = node-past_root paths sizes offsets passed i

      past : n < g.entry
      past = ⊎_elim (λ (b : n < g.entry). b) (λ (b : g.entry ≤ n). let n≡ : n ≡ g.entry = omega (arith, g.behind) in absurd (false≢true (sym g.leaf ∙ rw n≡ at d))) (lt-or-le n g.entry)

      between : (j : ℕ) → suc n ≤ j → j < suc g.entry → (is_directory (get_or nodes j empty_root) ≡ true) × (starts_with nat_eq (path_of nodes (suc g.entry)) (path_of nodes j) ≡ true)
      between zero a b = absurd (omega arith)
      between (suc i) a b =
          let r = g.around i (omega arith) (omega arith) in
          let p : path_of nodes (suc g.entry) ≡ 0x2F ∷ get_or paths g.file [] = text-past_root paths sizes offsets passed g.entry g.within ∙ ap (λ (s : List ℕ). 0x2F ∷ s) g.text in
          let q : path_of nodes (suc i) ≡ 0x2F ∷ get_or texts i [] = text-past_root paths sizes offsets passed i (omega (arith, g.within)) in
          (rw (at i) r.directory, begins-test (path_of nodes (suc g.entry)) (path_of nodes (suc i)) ((r.on).0, rw (p, q) (ap (λ (s : List ℕ). 0x2F ∷ s) (r.on).1)))

  -- LAW: each directory is there for a file, and stands just before its first one
  directory-first : (d : ℕ) → 0 < d → d < length nodes → is_directory (get_or nodes d empty_root) ≡ true → (f : ℕ) × IsFirstBelow nodes d f
  directory-first zero h l d = absurd (omega arith)
  directory-first (suc n) h l d = first-below n (omega (arith, length-past_root paths sizes offsets passed)) (rw (node-past_root paths sizes offsets passed n) at d)

  -- LAW: the path of each file leads to an entry with its offset and size
  path-found : IsWellFormed nodes → (i : ℕ) → i < length paths → IsFound nodes (get_or paths i []) (get_or offsets i 0) (get_or sizes i 0)
  path-found w i h =
      let g = entry-of 1 [] paths sizes offsets i h in
      let n : get_or nodes (suc g.entry) empty_root ≡ file g.name (get_or offsets i 0) (get_or sizes i 0) = node-past_root paths sizes offsets passed g.entry ∙ g.node in
      let p : path_of nodes (suc g.entry) ≡ 0x2F ∷ get_or paths i [] = text-past_root paths sizes offsets passed g.entry g.within ∙ ap (λ (s : List ℕ). 0x2F ∷ s) g.text in
      record {
        entry = suc g.entry;
        found = file-found nodes w (siblings-differ paths sizes offsets passed) (suc g.entry) (get_or paths i []) g.name (get_or offsets i 0) (get_or sizes i 0) (omega arith) (omega (arith, g.within, length-past_root paths sizes offsets passed)) n p;
        name = g.name;
        lies = n;
      }

-- ---- a list that is granted

module _ (m : Master) (room words bytes : ℕ) (g : IsGranted m room words bytes) where
  listed : list_verdict m.paths (length m.sizes) ≡ Ok tt
  listed = (passed m room words bytes g.granted).listed

  accepted : IsAccepted m.paths (length m.sizes)
  accepted = list-accepted m.paths (length m.sizes) listed

  well : IsWellFormed (nodes_of_master m)
  unfolding nodes_of_master
  well =
      accepted-sound m.paths m.sizes (offsets_of (first_free m) m.sizes) listed g.passable.sizes
      (λ i. omega (arith, g.passable.end, offsets-below (first_free m) m.disc_end m.sizes (placeable m room words bytes g.granted) i))

-- THEOREM
pub tree-is-wish-list : TreeIsWishList
unfolding nodes_of_master
tree-is-wish-list m room words bytes g =
    let offsets : List ℕ = offsets_of (first_free m) m.sizes in
    let p = (accepted m room words bytes g).passed in
    record {
      files = files-of-tree (paths_in m.paths) m.sizes offsets;
      directories = directory-first (paths_in m.paths) m.sizes offsets p;
      siblings = siblings-differ (paths_in m.paths) m.sizes offsets p;
    }

-- THEOREM
pub each-is-found : EachIsFound
unfolding nodes_of_master
each-is-found m room words bytes g i h =
    let a = accepted m room words bytes g in
    path-found (paths_in m.paths) m.sizes (offsets_of (first_free m) m.sizes) a.passed (well m room words bytes g) i (omega (arith, a.counted))
