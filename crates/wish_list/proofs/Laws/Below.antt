-- How many entries the files of a wish list bring, and how many of them are in a directory. Assumes nothing.
use Rattle.std.specs.Prelude.{ℕ, zero, suc, ◌+◌, ◌-◌, ◌<◌, ◌≤◌, ◌≡◌, refl, Bool, true, false, cond, List, [], ◌∷◌, length, drop, leb}
use Rattle.std.proofs.Common.{ap, ◌∙◌, ⊎_elim, arith, leb-true, le-leb, length-append, length-drop}
use Rattle.endian.specs.Bytes.{are_same_bytes}
use Rattle.std.proofs.lemmas.Bool.{lt-leb}
use Rattle.refusal.specs.Laws.Tests.{lt-or-le}
use Rattle.wish_list.specs.Tree.{Wish, common, added, below, entries_from, entries_with, tree_from, tree}

-- ---- a file's own name is no directory that two files are in

pub common-less : (before names : List (List ℕ)) → 0 < length names → common before names < length names
unfolding common
common-less [] names h = h
common-less (a ∷ []) names h = h
common-less (a ∷ b ∷ xs) [] h = h
common-less (a ∷ b ∷ xs) (c ∷ []) h = omega arith
common-less (a ∷ b ∷ xs) (c ∷ d ∷ ys) h = go (are_same_bytes a c) (common-less (b ∷ xs) (d ∷ ys) (omega arith))
  where
    go : (t : Bool) → common (b ∷ xs) (d ∷ ys) < suc (length ys) → cond t (suc (common (b ∷ xs) (d ∷ ys))) 0 < suc (suc (length ys))
    go true ih = omega arith
    go false ih = omega arith

common-less_before : (before names : List (List ℕ)) → 0 < length before → common before names < length before
unfolding common
common-less_before [] names h = h
common-less_before (a ∷ []) names h = h
common-less_before (a ∷ b ∷ xs) [] h = omega arith
common-less_before (a ∷ b ∷ xs) (c ∷ []) h = omega arith
common-less_before (a ∷ b ∷ xs) (c ∷ d ∷ ys) h = go (are_same_bytes a c) (common-less_before (b ∷ xs) (d ∷ ys) (omega arith))
  where
    go : (t : Bool) → common (b ∷ xs) (d ∷ ys) < suc (length xs) → cond t (suc (common (b ∷ xs) (d ∷ ys))) 0 < suc (suc (length xs))
    go true ih = omega arith
    go false ih = omega arith

-- at most all directories of the file before, also where none was before
pub common-most : (before names : List (List ℕ)) → common before names ≤ length before - 1
unfolding common
common-most [] names = omega arith
common-most (x ∷ xs) names = omega (arith, common-less_before (x ∷ xs) names (omega arith))

pub added-least : (before names : List (List ℕ)) → 0 < length names → 0 < added before names
added-least before names h = omega (arith, common-less before names h)

-- ---- each file has a name

abbrev pub AllNamed : List Wish → Type 0
AllNamed [] = Unit {0}
AllNamed (w ∷ ws) = (0 < length w.names) × AllNamed ws

-- ---- in a directory of the file before

pub below-in : (n : ℕ) (before : List (List ℕ)) (w : Wish) (ws : List Wish) → n ≤ common before w.names → below n before (w ∷ ws) ≡ added before w.names + below n w.names ws
unfolding below
below-in n before w ws h = rw (le-leb n (common before w.names) h)

pub below-out : (n : ℕ) (before : List (List ℕ)) (w : Wish) (ws : List Wish) → common before w.names < n → below n before (w ∷ ws) ≡ 0
unfolding below
below-out n before w ws h = rw (lt-leb n (common before w.names) h)

pub below-nil : (n : ℕ) (before : List (List ℕ)) → below n before [] ≡ 0
unfolding below
below-nil n before = refl

pub below-zero : (before : List (List ℕ)) (w : Wish) (ws : List Wish) → below 0 before (w ∷ ws) ≡ added before w.names + below 0 w.names ws
below-zero before w ws = below-in 0 before w ws (omega arith)

-- an inner directory has at most the entries of the one around it
pub below-falls : (n : ℕ) (before : List (List ℕ)) (ws : List Wish) → below (suc n) before ws ≤ below n before ws
unfolding below
below-falls n before [] = omega arith
below-falls n before (w ∷ ws) = go (leb (suc n) (common before w.names)) refl (below-falls n w.names ws)
  where
    go : (t : Bool) → leb (suc n) (common before w.names) ≡ t → below (suc n) w.names ws ≤ below n w.names ws →
        cond t (added before w.names + below (suc n) w.names ws) 0 ≤ cond (leb n (common before w.names)) (added before w.names + below n w.names ws) 0
    go true e ih = rw (le-leb n (common before w.names) (omega (arith, leb-true (suc n) (common before w.names) e))) (omega arith)
    go false e ih = omega arith

-- and so has one that is further in
pub below-least : (i n : ℕ) (before : List (List ℕ)) (ws : List Wish) → i ≤ n → below n before ws ≤ below i before ws
below-least i zero before ws h = let e : i ≡ 0 = omega arith in rw e (omega arith)
below-least i (suc n) before ws h = ⊎_elim
    (λ (l : i < suc n). omega (arith, below-falls n before ws, below-least i n before ws (omega arith)))
    (λ (l : suc n ≤ i). let e : i ≡ suc n = omega arith in rw e (omega arith))
    (lt-or-le i (suc n))

-- each file brings an entry
pub below-files : (before : List (List ℕ)) (ws : List Wish) → AllNamed ws → length ws ≤ below 0 before ws
below-files before [] h = omega arith
below-files before (w ∷ ws) h = omega (arith, below-zero before w ws, added-least before w.names h.0, below-files w.names ws h.1)

-- ---- lengths

length-entries_from : (k n : ℕ) (names : List (List ℕ)) (w : Wish) (ws : List Wish) → length (entries_from k n names w ws) ≡ length names
unfolding entries_from
length-entries_from k n [] w ws = refl
length-entries_from k n (name ∷ []) w ws = refl
length-entries_from k n (name ∷ next ∷ names) w ws = ap suc (length-entries_from (suc k) (suc n) (next ∷ names) w ws)

pub length-entries_with : (k : ℕ) (before : List (List ℕ)) (w : Wish) (ws : List Wish) → length (entries_with k before w ws) ≡ added before w.names
length-entries_with k before w ws = length-entries_from k (common before w.names) (drop (common before w.names) w.names) w ws ∙ length-drop (common before w.names) w.names

pub length-tree_from : (k : ℕ) (before : List (List ℕ)) (ws : List Wish) → length (tree_from k before ws) ≡ below 0 before ws
unfolding tree_from
length-tree_from k before [] = rw (below-nil 0 before)
length-tree_from k before (w ∷ ws) =
    omega (arith, length-append (entries_with k before w ws) (tree_from (k + added before w.names) w.names ws), length-entries_with k before w ws, length-tree_from (k + added before w.names) w.names ws, below-zero before w ws)

pub length-tree : (ws : List Wish) → length (tree ws) ≡ suc (below 0 [] ws)
unfolding tree
length-tree ws = ap suc (length-tree_from 1 [] ws)
