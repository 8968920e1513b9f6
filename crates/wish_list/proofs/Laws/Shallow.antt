-- No directory of a wish list is too deep exactly if no path has more than 65 names. Assumes nothing.
use Rattle.std.specs.Prelude.{ℕ, suc, ◌+◌, ◌-◌, ◌<◌, ◌≤◌, ◌≡◌, refl, Bool, true, false, ◌&&◌, List, [], ◌∷◌, ◌++◌, length, drop, leb}
use Rattle.std.specs.List.{list_all}
use Rattle.std.proofs.Common.{◌∙◌, arith, leb-true, leb-false, le-leb, length-drop}
use Rattle.std.proofs.lemmas.Bool.{lt-leb}
use Rattle.tree.specs.Table.{Node, dirs_open_at, is_shallow_from, is_shallow}
use Rattle.wish_list.specs.Tree.{Wish, common, added, below, entries_from, tree_from, tree}
use Rattle.wish_list.proofs.Laws.Below.{common-less, common-most, AllNamed, length-tree}
use Rattle.wish_list.proofs.Laws.Sound.{ends, length-ends, none-closed, ends-open}

-- a path of so many names has its file in a directory that is not too deep
abbrev pub is_shallow_path : Wish → Bool
is_shallow_path w = leb (length w.names) 65

-- the entries of a file from its n-th name on, and what follows them: `next` is the entry behind them
entries-shallow : (k n next : ℕ) (dirs : List ℕ) (names : List (List ℕ)) (w : Wish) (ws : List Wish) (rest : List Node) →
    n ≤ 64 → 0 < length names → n + length names ≡ length w.names → k + length names ≡ next →
    dirs_open_at k dirs ≡ ends next w.names ws n →
    is_shallow_from dirs k (entries_from k n names w ws ++ rest) ≡ (is_shallow_path w && is_shallow_from (ends next w.names ws (length w.names - 1)) next rest)
unfolding entries_from ends is_shallow_from
entries-shallow k n next dirs [] w ws rest few named all last opened = absurd (omega arith)
entries-shallow k n next dirs (name ∷ []) w ws rest few named all last opened =
    let l : length w.names - 1 ≡ n = omega arith in
    let m : suc k ≡ next = omega arith in
    rw (opened, m, l, le-leb (length w.names) 65 (omega arith))
entries-shallow k n next dirs (name ∷ inner ∷ names) w ws rest few named all last opened =
    rw (opened, length-ends next w.names ws n, last)
    (go (leb (suc n) 64) refl
    (λ h. entries-shallow (suc k) (suc n) next ((next + below (suc n) w.names ws) ∷ ends next w.names ws n) (inner ∷ names) w ws rest h (omega arith) (omega arith) (omega arith)
    (none-closed (suc k) next w.names ws (suc n) (omega arith))))
  where
    go : (t : Bool) → leb (suc n) 64 ≡ t →
        (suc n ≤ 64 → is_shallow_from ((next + below (suc n) w.names ws) ∷ ends next w.names ws n) (suc k) (entries_from (suc k) (suc n) (inner ∷ names) w ws ++ rest) ≡ (is_shallow_path w && is_shallow_from (ends next w.names ws (length w.names - 1)) next rest)) →
        (t && is_shallow_from ((next + below (suc n) w.names ws) ∷ ends next w.names ws n) (suc k) (entries_from (suc k) (suc n) (inner ∷ names) w ws ++ rest)) ≡ (is_shallow_path w && is_shallow_from (ends next w.names ws (length w.names - 1)) next rest)
    go true e ih = ih (leb-true (suc n) 64 e)
    go false e ih = rw (lt-leb (length w.names) 65 (omega (arith, leb-false (suc n) 64 e)))

-- the directories of the file before were not too deep
tree_from-shallow : (k : ℕ) (before : List (List ℕ)) (ws : List Wish) → AllNamed ws → length before ≤ 65 → is_shallow_from (ends k before ws (length before - 1)) k (tree_from k before ws) ≡ list_all is_shallow_path ws
unfolding tree_from is_shallow_from
tree_from-shallow k before [] named h = refl
tree_from-shallow k before (w ∷ ws) named h =
    let l : length (drop (common before w.names) w.names) ≡ length w.names - common before w.names = length-drop (common before w.names) w.names in
    let s : common before w.names < length w.names = common-less before w.names named.0 in
    let m : common before w.names ≤ length before - 1 = common-most before w.names in
    entries-shallow k (common before w.names) (k + added before w.names) (ends k before (w ∷ ws) (length before - 1)) (drop (common before w.names) w.names) w ws (tree_from (k + added before w.names) w.names ws)
    (omega arith) (omega arith) (omega arith) (omega arith) (ends-open k before w ws (length before - 1) named.0 m) ∙
    go (leb (length w.names) 65) refl (tree_from-shallow (k + added before w.names) w.names ws named.1)
  where
    go : (t : Bool) → leb (length w.names) 65 ≡ t →
        (length w.names ≤ 65 → is_shallow_from (ends (k + added before w.names) w.names ws (length w.names - 1)) (k + added before w.names) (tree_from (k + added before w.names) w.names ws) ≡ list_all is_shallow_path ws) →
        (t && is_shallow_from (ends (k + added before w.names) w.names ws (length w.names - 1)) (k + added before w.names) (tree_from (k + added before w.names) w.names ws)) ≡ (t && list_all is_shallow_path ws)
    go true e ih = ih (leb-true (length w.names) 65 e)
    go false e ih = refl

pub tree-shallow : (ws : List Wish) → AllNamed ws → is_shallow (tree ws) ≡ list_all is_shallow_path ws
unfolding tree is_shallow ends
tree-shallow ws named =
    let c : length (tree ws) ≡ 1 + below 0 [] ws = omega (arith, length-tree ws) in
    rw c (tree_from-shallow 1 [] ws named (omega arith))
