-- The files of a new tree, in the order of its table, are the wish list. Assumes nothing.
use Rattle.std.specs.Prelude.{ℕ, zero, suc, ◌+◌, ◌<◌, ◌≡◌, refl, List, [], ◌∷◌, ◌++◌, length, drop, get_or}
use Rattle.std.proofs.Common.{sym, ap, ◌∙◌, arith, append_assoc, length-drop}
use Rattle.std.specs.List.{join_with_byte}
use Rattle.std.proofs.lemmas.List.Splits.{join_with_byte-slice_split}
use mathlib.Core.List.{tail}
use Rattle.tree.specs.Table.{Node, directory, empty_root}
use Rattle.wish_list.specs.Paths.{names_of}
use Rattle.wish_list.specs.Tree.{Wish, wishes, common, added, below, entries_from, entries_with, tree_from, tree}
use Rattle.wish_list.proofs.Laws.Below.{AllNamed, common-less, below-nil, below-zero, length-entries_with, length-tree}
use Rattle.wish_list.proofs.Laws.NameTexts.{wishes-named}
use Rattle.master.proofs.Entries.{front_of, paths_below, paths_with, entry_paths}
use Rattle.master.specs.Theorem.{FileSeen, file_seen, files_from, files_in, files_wished}
use Rattle.master.proofs.Laws.NewPaths.{Stands, HasPaths, stands-left, stands-right, paths-left, paths-right, length-paths_with, tree-stands, tree-paths}
use Rattle.master.proofs.Laws.OrderNames.{joined-behind}

-- ---- names and paths

-- the names, joined by `/`, are the path
pub join-names_of : (path : List ℕ) → join_with_byte 0x2F (names_of path) ≡ path
join-names_of path = join_with_byte-slice_split 0x2F path

-- the first names, and the others behind them
pub front-join : (n : ℕ) (names : List (List ℕ)) → n < length names → front_of n names ++ join_with_byte 0x2F (drop n names) ≡ join_with_byte 0x2F names
unfolding front_of
front-join zero names h = refl
front-join (suc n) [] h = absurd (omega arith)
front-join (suc n) (x ∷ []) h = absurd (omega arith)
front-join (suc n) (x ∷ y ∷ names) h = rw (append_assoc x (0x2F ∷ front_of n (y ∷ names)) (join_with_byte 0x2F (drop n (y ∷ names))), front-join n (y ∷ names) (omega arith))

-- ---- files among some entries

files_from-append : (nodes : List Node) (k m a b n : ℕ) → k + a ≡ m → a + b ≡ n → files_from nodes k n ≡ files_from nodes k a ++ files_from nodes m b
unfolding files_from
files_from-append nodes k m zero b n e f = let k≡ : k ≡ m = omega arith in let n≡ : n ≡ b = omega arith in rw (k≡, n≡)
files_from-append nodes k m (suc a) b zero e f = absurd (omega arith)
files_from-append nodes k m (suc a) b (suc n) e f =
    rw (files_from-append nodes (suc k) m a b n (omega arith) (omega arith))
    (sym (append_assoc (file_seen nodes k (get_or nodes k empty_root)) (files_from nodes (suc k) a) (files_from nodes m b)))

-- the entries that a file brings: directories, and the file
entries-files : (nodes : List Node) (k n : ℕ) (front : List ℕ) (names : List (List ℕ)) (w : Wish) (ws : List Wish) → 0 < length names →
    Stands nodes k (entries_from k n names w ws) → HasPaths nodes k (paths_below front names) →
    files_from nodes k (length names) ≡ record { path = 0x2F ∷ (front ++ join_with_byte 0x2F names); size = w.size } ∷ []
unfolding entries_from paths_below Stands HasPaths files_from
entries-files nodes k n front [] w ws h s p = absurd (omega arith)
entries-files nodes k n front (name ∷ []) w ws h s p = rw (s.0, p.0)
entries-files nodes k n front (name ∷ inside ∷ names) w ws h s p =
    rw s.0
    (entries-files nodes (suc k) (suc n) (front ++ (name ++ (0x2F ∷ []))) (inside ∷ names) w ws (omega arith) s.1 p.1
    ∙ ap (λ (path : List ℕ). record { path = 0x2F ∷ path; size = w.size } ∷ []) (joined-behind front name inside names))

-- each file of a wish list
unfoldable pub files_of : List Wish → List FileSeen
files_of [] = []
files_of (w ∷ ws) = record { path = 0x2F ∷ join_with_byte 0x2F w.names; size = w.size } ∷ files_of ws

tree_from-files : (nodes : List Node) (k : ℕ) (before : List (List ℕ)) (ws : List Wish) → AllNamed ws → Stands nodes k (tree_from k before ws) → HasPaths nodes k (entry_paths before ws) →
    files_from nodes k (below 0 before ws) ≡ files_of ws
unfolding tree_from entry_paths files_from files_of
tree_from-files nodes k before [] named s p = rw (below-nil 0 before)
tree_from-files nodes k before (w ∷ ws) named s p =
    let c : ℕ = common before w.names in
    let next : ℕ = k + added before w.names in
    let l : length (drop c w.names) ≡ added before w.names = length-drop c w.names in
    let less : c < length w.names = common-less before w.names named.0 in
    let e = entries-files nodes k c (front_of c w.names) (drop c w.names) w ws (omega arith)
    (stands-left nodes k (entries_with k before w ws) (tree_from next w.names ws) s)
    (paths-left nodes k (paths_with before w.names) (entry_paths w.names ws) p) in
    let r = tree_from-files nodes next w.names ws named.1
    (stands-right nodes k next (entries_with k before w ws) (tree_from next w.names ws) (omega (arith, length-entries_with k before w ws)) s)
    (paths-right nodes k next (paths_with before w.names) (entry_paths w.names ws) (omega (arith, length-paths_with before w.names)) p) in
    files_from-append nodes k next (added before w.names) (below 0 w.names ws) (below 0 before (w ∷ ws)) refl (sym (below-zero before w ws))
    ∙ rw r (rw (l, front-join c w.names less) at (ap (λ (t : List FileSeen). t ++ files_of ws) e))

tree-root : (ws : List Wish) → get_or (tree ws) 0 empty_root ≡ directory [] (suc (below 0 [] ws))
unfolding tree
tree-root ws = refl

files_in-tree : (ws : List Wish) → AllNamed ws → files_in (tree ws) ≡ files_of ws
unfolding files_from
files_in-tree ws named = rw (length-tree ws, tree-root ws) (tree_from-files (tree ws) 1 [] ws named (tree-stands ws) (tree-paths ws named))

wished : (paths : List (List ℕ)) (sizes offsets : List ℕ) → files_of (wishes paths sizes offsets) ≡ files_wished paths sizes
unfolding wishes files_of files_wished
wished [] sizes offsets = refl
wished (path ∷ paths) sizes offsets = rw (join-names_of path, wished paths (tail sizes) (tail offsets))

-- LAW: path and size of each file are the wish list, wherever the files lie
pub files-of-tree : (paths : List (List ℕ)) (sizes offsets : List ℕ) → files_in (tree (wishes paths sizes offsets)) ≡ files_wished paths sizes
files-of-tree paths sizes offsets = files_in-tree (wishes paths sizes offsets) (wishes-named paths sizes offsets) ∙ wished paths sizes offsets
