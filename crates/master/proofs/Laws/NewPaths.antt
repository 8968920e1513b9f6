-- In a new tree each entry has the path that the wish list gives it. Assumes nothing.
use Rattle.std.specs.Prelude.{ℕ, zero, suc, ◌+◌, ◌-◌, ◌<◌, ◌≤◌, ◌≡◌, refl, List, [], ◌∷◌, ◌++◌, length, drop, get_or}
use Rattle.std.proofs.Common.{sym, ap, ◌∙◌, ⊎_elim, arith, add-zero, one-add, append_assoc, append-nil, length-append, length-drop}
use Rattle.refusal.specs.Laws.Tests.{lt-or-le}
use Rattle.tree.specs.Table.{Node, file, directory, empty_root}
use Rattle.tree.specs.Lookup.{next_of}
use Rattle.listing.specs.Lines.{path_of}
use Rattle.listing.proofs.Paths.{path-root}
use Rattle.wish_list.specs.Tree.{Wish, common, added, below, entries_from, entries_with, tree_from, tree}
use Rattle.wish_list.proofs.Laws.Below.{AllNamed, common-less, common-most, below-in, below-out, below-zero, below-nil, length-entries_with, length-tree, below-least}
use Rattle.master.proofs.Entries.{front_of, paths_below, paths_with, entry_paths}
use Rattle.master.proofs.Laws.Parents.{front-more, front-shared, Around, around-later, around-path}

-- ---- entries and paths that stand one behind the other

-- the entries from k on are xs
unfoldable pub Stands : List Node → ℕ → List Node → Type 0
Stands nodes k [] = Unit {0}
Stands nodes k (x ∷ xs) = (get_or nodes k empty_root ≡ x) × Stands nodes (suc k) xs

-- the paths of the entries from k on are these, below the root
unfoldable pub HasPaths : List Node → ℕ → List (List ℕ) → Type 0
HasPaths nodes k [] = Unit {0}
HasPaths nodes k (path ∷ paths) = (path_of nodes k ≡ 0x2F ∷ path) × HasPaths nodes (suc k) paths

pub stands-left : (nodes : List Node) (k : ℕ) (xs ys : List Node) → Stands nodes k (xs ++ ys) → Stands nodes k xs
unfolding Stands
stands-left nodes k [] ys s = tt
stands-left nodes k (x ∷ xs) ys s = (s.0, stands-left nodes (suc k) xs ys s.1)

pub stands-right : (nodes : List Node) (k m : ℕ) (xs ys : List Node) → k + length xs ≡ m → Stands nodes k (xs ++ ys) → Stands nodes m ys
unfolding Stands
stands-right nodes k m [] ys e s = let k≡ : k ≡ m = omega arith in rw k≡ at s
stands-right nodes k m (x ∷ xs) ys e s = stands-right nodes (suc k) m xs ys (omega arith) s.1

paths-append : (nodes : List Node) (k m : ℕ) (ps qs : List (List ℕ)) → k + length ps ≡ m → HasPaths nodes k ps → HasPaths nodes m qs → HasPaths nodes k (ps ++ qs)
unfolding HasPaths
paths-append nodes k m [] qs e s t = let k≡ : k ≡ m = omega arith in rw k≡ t
paths-append nodes k m (p ∷ ps) qs e s t = (s.0, paths-append nodes (suc k) m ps qs (omega arith) s.1 t)

pub paths-left : (nodes : List Node) (k : ℕ) (ps qs : List (List ℕ)) → HasPaths nodes k (ps ++ qs) → HasPaths nodes k ps
unfolding HasPaths
paths-left nodes k [] qs s = tt
paths-left nodes k (p ∷ ps) qs s = (s.0, paths-left nodes (suc k) ps qs s.1)

pub paths-right : (nodes : List Node) (k m : ℕ) (ps qs : List (List ℕ)) → k + length ps ≡ m → HasPaths nodes k (ps ++ qs) → HasPaths nodes m qs
unfolding HasPaths
paths-right nodes k m [] qs e s = let k≡ : k ≡ m = omega arith in rw k≡ at s
paths-right nodes k m (p ∷ ps) qs e s = paths-right nodes (suc k) m ps qs (omega arith) s.1

path-at : (nodes : List Node) (k : ℕ) (ps : List (List ℕ)) (i : ℕ) → HasPaths nodes k ps → i < length ps → path_of nodes (k + i) ≡ 0x2F ∷ get_or ps i []
unfolding HasPaths
path-at nodes k [] i s h = absurd (omega arith)
path-at nodes k (p ∷ ps) zero s h = rw (add-zero k) s.0
path-at nodes k (p ∷ ps) (suc i) s h =
    let e : k + suc i ≡ suc k + i = omega arith in
    rw e (path-at nodes (suc k) ps i s.1 (omega arith))

-- a list's own entries
stands-in : (before xs : List Node) → Stands (before ++ xs) (length before) xs
unfolding Stands
stands-in before [] = tt
stands-in before (x ∷ xs) = (at before, rw (append_assoc before (x ∷ []) xs, long) at (stands-in (before ++ (x ∷ [])) xs))
  where
    long : length (before ++ (x ∷ [])) ≡ suc (length before)
    long = omega (arith, length-append before (x ∷ []))

    at : (ys : List Node) → get_or (ys ++ (x ∷ xs)) (length ys) empty_root ≡ x
    at [] = refl
    at (y ∷ ys) = at ys

-- ---- lengths

length-paths_below : (front : List ℕ) (names : List (List ℕ)) → length (paths_below front names) ≡ length names
unfolding paths_below
length-paths_below front [] = refl
length-paths_below front (name ∷ []) = refl
length-paths_below front (name ∷ next ∷ names) = ap suc (length-paths_below (front ++ (name ++ (0x2F ∷ []))) (next ∷ names))

pub length-paths_with : (before names : List (List ℕ)) → length (paths_with before names) ≡ added before names
length-paths_with before names = length-paths_below (front_of (common before names) names) (drop (common before names) names) ∙ length-drop (common before names) names

length-entry_paths : (before : List (List ℕ)) (ws : List Wish) → length (entry_paths before ws) ≡ below 0 before ws
unfolding entry_paths
length-entry_paths before [] = rw (below-nil 0 before)
length-entry_paths before (w ∷ ws) = omega (arith, length-append (paths_with before w.names) (entry_paths w.names ws), length-paths_with before w.names, length-entry_paths w.names ws, below-zero before w ws)

-- LAW: one path for each entry past the root
pub entries-paths-length : (ws : List Wish) → length (tree ws) ≡ suc (length (entry_paths [] ws))
entries-paths-length ws = length-tree ws ∙ ap suc (sym (length-entry_paths [] ws))

-- ---- the entries of one file

rest-more : {A : Type 0} (n : ℕ) (xs : List A) (x : A) (ys : List A) → drop n xs ≡ x ∷ ys → drop (suc n) xs ≡ ys
rest-more zero [] x ys e = cc
rest-more zero (y ∷ xs) x ys e = cc
rest-more (suc n) [] x ys e = cc
rest-more (suc n) (y ∷ xs) x ys e = rest-more n xs x ys e

-- the directories around its last entry, where the entries behind it start
abbrev pub AllAround : List Node → ℕ → List (List ℕ) → List Wish → Type 0
AllAround nodes k before ws = (i : ℕ) → i ≤ length before - 1 → Around nodes k i k before ws (k + below (suc i) before ws)

-- the paths of a file's entries from its n-th name on, where n directories on its path stand before them
file-paths : (nodes : List Node) (k n next : ℕ) (names : List (List ℕ)) (w : Wish) (ws : List Wish) → 0 < length names → drop n w.names ≡ names → k + length names ≡ next →
    ((i : ℕ) → i < n → Around nodes k i next w.names ws (next + below (suc i) w.names ws)) → Around nodes k n next w.names ws k →
    Stands nodes k (entries_from k n names w ws) → HasPaths nodes k (paths_below (front_of n w.names) names) × AllAround nodes next w.names ws
unfolding entries_from paths_below Stands HasPaths
file-paths nodes k n next [] w ws some e f outer inner s = absurd (omega arith)
file-paths nodes k n next (name ∷ []) w ws some e f outer inner s =
    let l : length w.names - n ≡ 1 = sym (length-drop n w.names) ∙ ap length e in
    let m : suc k ≡ next = omega arith in
    let z : next_of (get_or nodes k empty_root) ≡ 0 = rw s.0 refl in
    let p = around-path nodes k n next w.names ws (file name w.offset w.size) inner (omega arith) s.0 in (
      (rw (append-nil name) at p, tt),
      λ i h. rw m at (⊎_elim
          (λ (b : i < n). around-later (outer i b) (next + below (suc i) w.names ws) (omega arith) (omega arith))
          (λ (b : n ≤ i). let i≡ : i ≡ n = omega arith in rw i≡ (around-later inner (next + below (suc n) w.names ws) (omega arith) (omega arith)))
          (lt-or-le i n)),
    )
file-paths nodes k n next (name ∷ inside ∷ names) w ws some e f outer inner s =
    let q : next_of (get_or nodes k empty_root) ≡ next + below (suc n) w.names ws = rw (s.0, f) refl in
    let p : path_of nodes k ≡ 0x2F ∷ (front_of n w.names ++ (name ++ (0x2F ∷ []))) = around-path nodes k n next w.names ws (directory name (k + length (name ∷ inside ∷ names) + below (suc n) w.names ws)) inner (omega arith) s.0 in
    let m : front_of (suc n) w.names ≡ front_of n w.names ++ (name ++ (0x2F ∷ [])) = front-more n w.names name (inside ∷ names) e in
    let new : Around nodes (suc k) (suc n) next w.names ws (suc k) = record {
      at = k;
      before = omega arith;
      name = name;
      node = rw f at s.0;
      path = p ∙ ap (λ (t : List ℕ). 0x2F ∷ t) (sym m);
      ends = λ j a b. absurd (omega arith);
    } in
    let r = file-paths nodes (suc k) (suc n) next (inside ∷ names) w ws (omega arith) (rest-more n w.names name (inside ∷ names) e) (omega arith)
    (λ i h. ⊎_elim
    (λ (b : i < n). around-later (outer i b) (next + below (suc i) w.names ws) (omega arith) (omega (arith, below-least (suc i) (suc n) w.names ws (omega arith))))
    (λ (b : n ≤ i). let i≡ : i ≡ n = omega arith in rw i≡ (around-later inner (next + below (suc n) w.names ws) (omega arith) (omega arith)))
    (lt-or-le i n))
    new s.1 in
    ((p, rw m at r.0), r.1)

-- ---- file by file

-- the directories that the next file is in too
around-next : (nodes : List Node) (k next : ℕ) (before : List (List ℕ)) (w : Wish) (ws : List Wish) (i : ℕ) (inner : ℕ) → k + added before w.names ≡ next → i ≤ common before w.names →
    Around nodes k i k before (w ∷ ws) inner → Around nodes k i next w.names ws inner
around-next nodes k next before w ws i inner e h a =
    let l : k + below i before (w ∷ ws) ≡ next + below i w.names ws = omega (arith, below-in i before w ws h) in
    record {
      at = a.at;
      before = a.before;
      name = a.name;
      node = rw l at a.node;
      path = a.path ∙ ap (λ (t : List ℕ). 0x2F ∷ t) (front-shared i before w.names h);
      ends = a.ends;
    }

tree_from-paths : (nodes : List Node) (k : ℕ) (before : List (List ℕ)) (ws : List Wish) → AllNamed ws → AllAround nodes k before ws → Stands nodes k (tree_from k before ws) →
    HasPaths nodes k (entry_paths before ws)
unfolding tree_from entry_paths HasPaths
tree_from-paths nodes k before [] named a s = tt
tree_from-paths nodes k before (w ∷ ws) named a s =
    let c : ℕ = common before w.names in
    let next : ℕ = k + added before w.names in
    let l : length (drop c w.names) ≡ added before w.names = length-drop c w.names in
    let m : c ≤ length before - 1 = common-most before w.names in
    let out : k + below (suc c) before (w ∷ ws) ≡ k = omega (arith, below-out (suc c) before w ws (omega arith)) in
    let r = file-paths nodes k c next (drop c w.names) w ws (omega (arith, common-less before w.names named.0)) refl (omega arith)
    (λ i h.
    let b : k + below (suc i) before (w ∷ ws) ≡ next + below (suc i) w.names ws = omega (arith, below-in (suc i) before w ws (omega arith)) in
    rw b at (around-next nodes k next before w ws i (k + below (suc i) before (w ∷ ws)) refl (omega arith) (a i (omega arith))))
    (rw out at (around-next nodes k next before w ws c (k + below (suc c) before (w ∷ ws)) refl (omega arith) (a c m)))
    (stands-left nodes k (entries_with k before w ws) (tree_from next w.names ws) s) in
    paths-append nodes k next (paths_with before w.names) (entry_paths w.names ws) (omega (arith, length-paths_with before w.names)) r.0
    (tree_from-paths nodes next w.names ws named.1 r.1
    (stands-right nodes k next (entries_with k before w ws) (tree_from next w.names ws) (omega (arith, length-entries_with k before w ws)) s))

-- ---- the whole tree

pub tree-stands : (ws : List Wish) → Stands (tree ws) 1 (tree_from 1 [] ws)
unfolding tree
tree-stands ws = stands-in (directory [] (suc (below 0 [] ws)) ∷ []) (tree_from 1 [] ws)

root_around : (ws : List Wish) → AllAround (tree ws) 1 [] ws
unfolding tree front_of
root_around ws i h =
    let i≡ : i ≡ 0 = omega arith in
    rw i≡
    (record {
      at = 0;
      before = omega arith;
      name = [];
      node = ap (directory []) (omega arith);
      path = path-root 0 (tree ws) 0 refl;
      ends = λ j p q. absurd (omega arith);
    })

-- LAW: the paths of the entries past the root
pub tree-paths : (ws : List Wish) → AllNamed ws → HasPaths (tree ws) 1 (entry_paths [] ws)
tree-paths ws named = tree_from-paths (tree ws) 1 [] ws named (root_around ws) (tree-stands ws)

-- LAW: the same, entry by entry
pub path_of-tree : (ws : List Wish) (k : ℕ) → AllNamed ws → k < length (entry_paths [] ws) → path_of (tree ws) (suc k) ≡ 0x2F ∷ get_or (entry_paths [] ws) k []
path_of-tree ws k named h = rw one-add at (path-at (tree ws) 1 (entry_paths [] ws) k (tree-paths ws named) h)
