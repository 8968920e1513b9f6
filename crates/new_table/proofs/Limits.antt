-- The limits of the tree of some paths, counted in their bytes. Assumes nothing.
use Rattle.std.specs.Prelude.{Ok, Err, ℕ, suc, ◌+◌, ◌*◌, ◌<◌, ◌≤◌, ◌≡◌, refl, Bool, true, false, cond, not, ◌&&◌, List, [], ◌∷◌, length, drop, get_or, leb, ltb}
use Rattle.std.specs.List.{list_all, onto_first}
use Rattle.std.proofs.Common.{sym, ◌∙◌, arith, leb-true, leb-false, le-leb, le-ltb, lt-ltb}
use mathlib.Core.List.{tail}
use Rattle.refusal.specs.declared.Refusal.TheVariants.{LimitOrMemory}
use Rattle.refusal.specs.Refusal.{Verdict, refuse}
use Rattle.refusal.specs.Laws.Tests.{and_left, and_right, same_test}
use Rattle.tree.specs.Table.{texts_of, encode, is_shallow, limits}
use Rattle.wish_list.specs.Paths.{is_slash, names_of}
use Rattle.wish_list.specs.Tree.{Wish, wishes, common, below, tree}
use Rattle.wish_list.proofs.Laws.Below.{below-zero, below-nil, length-tree}
use Rattle.wish_list.proofs.Laws.Shallow as shallow
use Rattle.wish_list.proofs.Laws.NameTexts.{name_texts_total, texts_total, texts-tree, length-encode_tree, wishes-named}
use Rattle.new_table.specs.Inner.Steps.{slashes, own_part, entries_behind, texts_behind, is_shallow_path, is_small}
use Rattle.new_table.proofs.Names.{length-names_of, shares, added-bytes}

-- ---- entries

pub entries_behind-below : (before : List ℕ) (paths : List (List ℕ)) (sizes offsets : List ℕ) → entries_behind before paths ≡ below 0 (names_of before) (wishes paths sizes offsets)
unfolding entries_behind wishes
entries_behind-below before [] sizes offsets = sym (below-nil 0 (names_of before))
entries_behind-below before (path ∷ paths) sizes offsets =
    let w : Wish = record { names = names_of path; offset = get_or offsets 0 0; size = get_or sizes 0 0 } in
    omega (arith, below-zero (names_of before) w (wishes paths (tail sizes) (tail offsets)), added-bytes before path, entries_behind-below path paths (tail sizes) (tail offsets))

-- ---- texts

name_texts_total-onto_first : (b : ℕ) (names : List (List ℕ)) → 0 < length names → name_texts_total (onto_first b names) ≡ suc (name_texts_total names)
unfolding name_texts_total
name_texts_total-onto_first b [] h = absurd (omega arith)
name_texts_total-onto_first b (x ∷ xs) h = omega arith

pub name_texts_total-names_of : (path : List ℕ) → name_texts_total (names_of path) ≡ suc (length path)
unfolding name_texts_total
name_texts_total-names_of [] = refl
name_texts_total-names_of (b ∷ path) = go (is_slash b) (name_texts_total-names_of path)
  where
    go : (t : Bool) → name_texts_total (names_of path) ≡ suc (length path) → name_texts_total (cond t ([] ∷ names_of path) (onto_first b (names_of path))) ≡ suc (suc (length path))
    go true e = omega arith
    go false e = omega (arith, name_texts_total-onto_first b (names_of path) (omega (arith, length-names_of path)))

pub texts_behind-total : (before : List ℕ) (paths : List (List ℕ)) (sizes offsets : List ℕ) → texts_behind before paths ≡ texts_total (names_of before) (wishes paths sizes offsets)
unfolding texts_behind wishes texts_total
texts_behind-total before [] sizes offsets = refl
texts_behind-total before (path ∷ paths) sizes offsets =
    let s = shares before path in
    let e : name_texts_total (drop (common (names_of before) (names_of path)) (names_of path)) ≡ suc (length (own_part before path)) = rw s.rest (name_texts_total-names_of (own_part before path)) in
    omega (arith, texts_behind-total path paths (tail sizes) (tail offsets))

-- ---- depth

leb-pred : (n : ℕ) → leb (suc n) 65 ≡ leb n 64
leb-pred n = same_test (leb (suc n) 65) (leb n 64) (λ e. le-leb n 64 (omega (arith, leb-true (suc n) 65 e))) (λ e. le-leb (suc n) 65 (omega (arith, leb-true n 64 e)))

shallow-bytes : (path : List ℕ) → leb (length (names_of path)) 65 ≡ is_shallow_path path
shallow-bytes path = rw (length-names_of path) (leb-pred (slashes path))

all-shallow : (paths : List (List ℕ)) (sizes offsets : List ℕ) → list_all shallow.is_shallow_path (wishes paths sizes offsets) ≡ list_all is_shallow_path paths
unfolding wishes
all-shallow [] sizes offsets = refl
all-shallow (path ∷ paths) sizes offsets = rw (shallow-bytes path, all-shallow paths (tail sizes) (tail offsets))

-- ---- with no path before, as with an empty one

below-first : (n : ℕ) (ws : List Wish) → below n [] ws ≡ below n ([] ∷ []) ws
unfolding below common
below-first n [] = refl
below-first n (w ∷ ws) = refl

texts-first : (ws : List Wish) → texts_total [] ws ≡ texts_total ([] ∷ []) ws
unfolding texts_total common
texts-first [] = refl
texts-first (w ∷ ws) = refl

-- ---- within the limits

pub small-entries : (paths : List (List ℕ)) → is_small paths ≡ true → suc (entries_behind [] paths) ≤ 16384
unfolding is_small
small-entries paths e = leb-true _ _ (and_left (leb (suc (entries_behind [] paths)) 16384) _ e)

pub small-texts : (paths : List (List ℕ)) → is_small paths ≡ true → texts_behind [] paths ≤ 1048576
unfolding is_small
small-texts paths e = leb-true _ _ (and_left (leb (texts_behind [] paths) 1048576) _ (and_right (leb (suc (entries_behind [] paths)) 16384) _ e))

small-shallow : (paths : List (List ℕ)) → is_small paths ≡ true → list_all is_shallow_path paths ≡ true
unfolding is_small
small-shallow paths e = and_right (leb (texts_behind [] paths) 1048576) _ (and_right (leb (suc (entries_behind [] paths)) 16384) _ e)

-- ---- one cause for each limit

second : (a : Bool) (later : Verdict) → refuse a LimitOrMemory (refuse true LimitOrMemory later) ≡ Err LimitOrMemory
second true later = refl
second false later = refl

third : (a b : Bool) (later : Verdict) → refuse a LimitOrMemory (refuse b LimitOrMemory (refuse true LimitOrMemory later)) ≡ Err LimitOrMemory
third true b later = refl
third false b later = second b later

fourth : (a b c : Bool) (later : Verdict) → refuse a LimitOrMemory (refuse b LimitOrMemory (refuse c LimitOrMemory (refuse true LimitOrMemory later))) ≡ Err LimitOrMemory
fourth true b c later = refl
fourth false b c later = third b c later

-- ---- the tree

module _ (paths : List (List ℕ)) (sizes offsets : List ℕ) where
  pub tree-entries : length (tree (wishes paths sizes offsets)) ≡ suc (entries_behind [] paths)
  tree-entries = omega (arith, length-tree (wishes paths sizes offsets), below-first 0 (wishes paths sizes offsets), entries_behind-below [] paths sizes offsets)

  pub tree-texts : length (texts_of (tail (tree (wishes paths sizes offsets)))) ≡ texts_behind [] paths
  tree-texts = omega (arith, texts-tree (wishes paths sizes offsets), texts-first (wishes paths sizes offsets), texts_behind-total [] paths sizes offsets)

  pub tree-size : length (encode (tree (wishes paths sizes offsets))) ≡ 12 * suc (entries_behind [] paths) + texts_behind [] paths
  tree-size =
      omega (arith, length-encode_tree (wishes paths sizes offsets), texts-tree (wishes paths sizes offsets), tree-texts, length-tree (wishes paths sizes offsets), tree-entries)

  pub tree-depth : is_shallow (tree (wishes paths sizes offsets)) ≡ list_all is_shallow_path paths
  tree-depth = shallow.tree-shallow (wishes paths sizes offsets) (wishes-named paths sizes offsets) ∙ all-shallow paths sizes offsets

  pub limits-small : (words : ℕ) → is_small paths ≡ true → 4 * (suc (entries_behind [] paths) + 2) ≤ words → limits (tree (wishes paths sizes offsets)) words ≡ Ok tt
  unfolding limits
  limits-small words e h =
      rw (
        tree-entries,
        tree-texts,
        tree-depth,
        le-ltb 16384 (suc (entries_behind [] paths)) (small-entries paths e),
        le-ltb 1048576 (texts_behind [] paths) (small-texts paths e),
        le-ltb words (4 * (suc (entries_behind [] paths) + 2)) h,
        small-shallow paths e,
      )

  pub limits-few_words : (words : ℕ) → words < 4 * (suc (entries_behind [] paths) + 2) → limits (tree (wishes paths sizes offsets)) words ≡ Err LimitOrMemory
  unfolding limits
  limits-few_words words h = rw (tree-entries, lt-ltb words (4 * (suc (entries_behind [] paths) + 2)) h) (third (ltb 16384 (suc (entries_behind [] paths))) (ltb 1048576 (length (texts_of (tail (tree (wishes paths sizes offsets)))))) (refuse (not (is_shallow (tree (wishes paths sizes offsets)))) LimitOrMemory (Ok tt)))

  pub limits-large : (words : ℕ) → is_small paths ≡ false → limits (tree (wishes paths sizes offsets)) words ≡ Err LimitOrMemory
  unfolding limits is_small
  limits-large words e =
      rw (tree-entries, tree-texts, tree-depth)
      (go (leb (suc (entries_behind [] paths)) 16384) refl (leb (texts_behind [] paths) 1048576) refl (list_all is_shallow_path paths) refl e)
    where
      go : (a : Bool) → leb (suc (entries_behind [] paths)) 16384 ≡ a → (b : Bool) → leb (texts_behind [] paths) 1048576 ≡ b → (d : Bool) → list_all is_shallow_path paths ≡ d → (a && (b && d)) ≡ false →
          refuse (ltb 16384 (suc (entries_behind [] paths))) LimitOrMemory
          (refuse (ltb 1048576 (texts_behind [] paths)) LimitOrMemory
          (refuse (ltb words (4 * (suc (entries_behind [] paths) + 2))) LimitOrMemory (refuse (not (list_all is_shallow_path paths)) LimitOrMemory (Ok tt)))) ≡ Err LimitOrMemory
      go true p true q true r e = let z : ◌≡◌ {A = ℕ} 0 1 = cc in absurd (omega arith)
      go false p b q d r e = rw (lt-ltb 16384 (suc (entries_behind [] paths)) (leb-false _ _ p)) refl
      go true p false q d r e = rw (lt-ltb 1048576 (texts_behind [] paths) (leb-false _ _ q)) (second (ltb 16384 (suc (entries_behind [] paths))) (refuse (ltb words (4 * (suc (entries_behind [] paths) + 2))) LimitOrMemory (refuse (not (list_all is_shallow_path paths)) LimitOrMemory (Ok tt))))
      go true p true q false r e = rw r (fourth (ltb 16384 (suc (entries_behind [] paths))) (ltb 1048576 (texts_behind [] paths)) (ltb words (4 * (suc (entries_behind [] paths) + 2))) (Ok tt))
