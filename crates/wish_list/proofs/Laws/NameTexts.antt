-- The texts of the tree of a wish list, and how long its table is: sizes and offsets change neither, nor the limits. Assumes nothing.
use Rattle.std.specs.Prelude.{ℕ, suc, ◌+◌, ◌*◌, ◌<◌, ◌≡◌, refl, List, [], ◌∷◌, ◌++◌, length, drop}
use Rattle.std.specs.List.{list_all}
use Rattle.std.proofs.Common.{sym, ap, ◌∙◌, arith, length-append}
use Rattle.std.proofs.lemmas.List.Splits.{length-slice_split}
use mathlib.Core.List.{tail}
use Rattle.tree.specs.Table.{texts_of, encode, is_shallow, limits}
use Rattle.tree.proofs.Laws.WrittenEntries.{length-encode}
use Rattle.tree.proofs.Laws.Writing.{texts-append}
use Rattle.wish_list.specs.Paths.{is_slash, names_of}
use Rattle.wish_list.specs.Tree.{Wish, wishes, common, added, below, entries_from, entries_with, tree_from, tree}
use Rattle.wish_list.proofs.Laws.Below.{AllNamed, length-tree}
use Rattle.wish_list.proofs.Laws.Shallow.{is_shallow_path, tree-shallow}

-- ---- the texts

-- each name with its zero byte
unfoldable pub name_texts : List (List ℕ) → List ℕ
name_texts [] = []
name_texts (name ∷ names) = name ++ (0 ∷ name_texts names)

-- of the entries that the files ws bring
unfoldable pub added_texts : List (List ℕ) → List Wish → List ℕ
added_texts before [] = []
added_texts before (w ∷ ws) = name_texts (drop (common before w.names) w.names) ++ added_texts w.names ws

pub texts_of-entries_from : (k n : ℕ) (names : List (List ℕ)) (w : Wish) (ws : List Wish) → texts_of (entries_from k n names w ws) ≡ name_texts names
unfolding entries_from texts_of name_texts
texts_of-entries_from k n [] w ws = refl
texts_of-entries_from k n (name ∷ []) w ws = refl
texts_of-entries_from k n (name ∷ inner ∷ names) w ws = ap (λ (s : List ℕ). name ++ (0 ∷ s)) (texts_of-entries_from (suc k) (suc n) (inner ∷ names) w ws)

texts_of-tree_from : (k : ℕ) (before : List (List ℕ)) (ws : List Wish) → texts_of (tree_from k before ws) ≡ added_texts before ws
unfolding tree_from texts_of added_texts
texts_of-tree_from k before [] = refl
texts_of-tree_from k before (w ∷ ws) =
    texts-append (entries_with k before w ws) (tree_from (k + added before w.names) w.names ws) ∙
    rw (texts_of-entries_from k (common before w.names) (drop (common before w.names) w.names) w ws, texts_of-tree_from (k + added before w.names) w.names ws)

texts_of-tree : (ws : List Wish) → texts_of (tail (tree ws)) ≡ added_texts [] ws
unfolding tree
texts_of-tree ws = texts_of-tree_from 1 [] ws

-- ---- how many bytes they are

unfoldable pub name_texts_total : List (List ℕ) → ℕ
name_texts_total [] = 0
name_texts_total (name ∷ names) = length name + 1 + name_texts_total names

unfoldable pub texts_total : List (List ℕ) → List Wish → ℕ
texts_total before [] = 0
texts_total before (w ∷ ws) = name_texts_total (drop (common before w.names) w.names) + texts_total w.names ws

pub length-name_texts : (names : List (List ℕ)) → length (name_texts names) ≡ name_texts_total names
unfolding name_texts name_texts_total
length-name_texts [] = refl
length-name_texts (name ∷ names) = omega (arith, length-append name (0 ∷ name_texts names), length-name_texts names)

length-added_texts : (before : List (List ℕ)) (ws : List Wish) → length (added_texts before ws) ≡ texts_total before ws
unfolding added_texts texts_total
length-added_texts before [] = refl
length-added_texts before (w ∷ ws) =
    omega (arith, length-append (name_texts (drop (common before w.names) w.names)) (added_texts w.names ws), length-name_texts (drop (common before w.names) w.names), length-added_texts w.names ws)

pub texts-tree_from : (k : ℕ) (before : List (List ℕ)) (ws : List Wish) → length (texts_of (tree_from k before ws)) ≡ texts_total before ws
texts-tree_from k before ws = ap length (texts_of-tree_from k before ws) ∙ length-added_texts before ws

pub texts-tree : (ws : List Wish) → length (texts_of (tail (tree ws))) ≡ texts_total [] ws
texts-tree ws = ap length (texts_of-tree ws) ∙ length-added_texts [] ws

pub length-encode_tree : (ws : List Wish) → length (encode (tree ws)) ≡ 12 * suc (below 0 [] ws) + texts_total [] ws
length-encode_tree ws = rw (length-encode (tree ws), length-tree ws, texts-tree ws)

-- ---- files with the same names, wherever they lie

abbrev pub HaveSameNames : List Wish → List Wish → Type 0
HaveSameNames [] [] = Unit {0}
HaveSameNames [] (v ∷ vs) = ⊥
HaveSameNames (w ∷ ws) [] = ⊥
HaveSameNames (w ∷ ws) (v ∷ vs) = (w.names ≡ v.names) × HaveSameNames ws vs

below-same : (n : ℕ) (before : List (List ℕ)) (ws vs : List Wish) → HaveSameNames ws vs → below n before ws ≡ below n before vs
unfolding below
below-same n before [] [] s = refl
below-same n before [] (v ∷ vs) s = absurd s
below-same n before (w ∷ ws) [] s = absurd s
below-same n before (w ∷ ws) (v ∷ vs) s = rw (s.0, below-same n v.names ws vs s.1)

texts_total-same : (before : List (List ℕ)) (ws vs : List Wish) → HaveSameNames ws vs → texts_total before ws ≡ texts_total before vs
unfolding texts_total
texts_total-same before [] [] s = refl
texts_total-same before [] (v ∷ vs) s = absurd s
texts_total-same before (w ∷ ws) [] s = absurd s
texts_total-same before (w ∷ ws) (v ∷ vs) s = rw (s.0, texts_total-same v.names ws vs s.1)

shallow_paths-same : (ws vs : List Wish) → HaveSameNames ws vs → list_all is_shallow_path ws ≡ list_all is_shallow_path vs
shallow_paths-same [] [] s = refl
shallow_paths-same [] (v ∷ vs) s = absurd s
shallow_paths-same (w ∷ ws) [] s = absurd s
shallow_paths-same (w ∷ ws) (v ∷ vs) s = rw (s.0, shallow_paths-same ws vs s.1)

length-tree-same : (ws vs : List Wish) → HaveSameNames ws vs → length (tree ws) ≡ length (tree vs)
length-tree-same ws vs s = length-tree ws ∙ ap suc (below-same 0 [] ws vs s) ∙ sym (length-tree vs)

texts-tree-same : (ws vs : List Wish) → HaveSameNames ws vs → length (texts_of (tail (tree ws))) ≡ length (texts_of (tail (tree vs)))
texts-tree-same ws vs s = texts-tree ws ∙ texts_total-same [] ws vs s ∙ sym (texts-tree vs)

encode-length-same : (ws vs : List Wish) → HaveSameNames ws vs → length (encode (tree ws)) ≡ length (encode (tree vs))
encode-length-same ws vs s = omega (arith, length-encode (tree ws), length-encode (tree vs), length-tree-same ws vs s, texts-tree-same ws vs s)

is_shallow-same : (ws vs : List Wish) → AllNamed ws → AllNamed vs → HaveSameNames ws vs → is_shallow (tree ws) ≡ is_shallow (tree vs)
is_shallow-same ws vs n m s = tree-shallow ws n ∙ shallow_paths-same ws vs s ∙ sym (tree-shallow vs m)

limits-same : (ws vs : List Wish) (words : ℕ) → AllNamed ws → AllNamed vs → HaveSameNames ws vs → limits (tree ws) words ≡ limits (tree vs) words
unfolding limits
limits-same ws vs words n m s = rw (length-tree-same ws vs s, texts-tree-same ws vs s, is_shallow-same ws vs n m s)

-- ---- paths with sizes and offsets

pub length-wishes : (paths : List (List ℕ)) (sizes offsets : List ℕ) → length (wishes paths sizes offsets) ≡ length paths
unfolding wishes
length-wishes [] sizes offsets = refl
length-wishes (path ∷ paths) sizes offsets = ap suc (length-wishes paths (tail sizes) (tail offsets))

pub names_of-named : (path : List ℕ) → 0 < length (names_of path)
names_of-named path = omega (arith, length-slice_split is_slash path)

pub wishes-named : (paths : List (List ℕ)) (sizes offsets : List ℕ) → AllNamed (wishes paths sizes offsets)
unfolding wishes
wishes-named [] sizes offsets = tt
wishes-named (path ∷ paths) sizes offsets = (names_of-named path, wishes-named paths (tail sizes) (tail offsets))

wishes-same : (paths : List (List ℕ)) (sizes offsets sizes' offsets' : List ℕ) → HaveSameNames (wishes paths sizes offsets) (wishes paths sizes' offsets')
unfolding wishes
wishes-same [] sizes offsets sizes' offsets' = tt
wishes-same (path ∷ paths) sizes offsets sizes' offsets' = (refl, wishes-same paths (tail sizes) (tail offsets) (tail sizes') (tail offsets'))

module _ (paths : List (List ℕ)) (sizes offsets sizes' offsets' : List ℕ) where
  pub encode-length-placed : length (encode (tree (wishes paths sizes offsets))) ≡ length (encode (tree (wishes paths sizes' offsets')))
  encode-length-placed = encode-length-same (wishes paths sizes offsets) (wishes paths sizes' offsets') (wishes-same paths sizes offsets sizes' offsets')

  pub limits-placed : (words : ℕ) → limits (tree (wishes paths sizes offsets)) words ≡ limits (tree (wishes paths sizes' offsets')) words
  limits-placed words =
      limits-same (wishes paths sizes offsets) (wishes paths sizes' offsets') words (wishes-named paths sizes offsets) (wishes-named paths sizes' offsets') (wishes-same paths sizes offsets sizes' offsets')
