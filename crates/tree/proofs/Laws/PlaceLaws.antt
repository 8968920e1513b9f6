-- A file's offset and size changed: the tree stays well-formed, within the same limits, and keeps everything but that entry.
-- Assumes nothing.
use Prim.Native.Nat.{ℕ, zero, suc, ◌^◌, ◌<◌}
use Rattle.std.specs.Prelude.{◌≡◌, get_or, set}
use Rattle.std.proofs.Math.Path.{refl}
use mathlib.Core.List.{List, [], ◌∷◌, tail, head-eq_of_cons-eq, nil≢cons}
use Rattle.std.proofs.Math.ListN.{length, length-set}
use Rattle.std.proofs.Math.Seq.{get_or-set_same, get_or-set_other}
use Rattle.tree.specs.Table.{Node, file, directory, name_of, empty_root, dirs_open_at, dirs_with, is_enclosing, parent_below, parent_of, texts_of, is_shallow_entry, is_shallow_from, is_shallow, limits}
use Rattle.tree.specs.Inner.WellFormed.{IsGoodEntry, IsSound, IsWellFormed}
use Rattle.tree.specs.Insert.{node_at_place, set_place}

module _ (offset size : ℕ) where
  pub name-node_at_place : (x : Node) → name_of (node_at_place offset size x) ≡ name_of x
  name-node_at_place (file nm a b) = refl
  name-node_at_place (directory nm next) = refl

  dirs_with-node_at_place : (dirs : List ℕ) (x : Node) → dirs_with dirs (node_at_place offset size x) ≡ dirs_with dirs x
  dirs_with-node_at_place dirs (file nm a b) = refl
  dirs_with-node_at_place dirs (directory nm next) = refl

  is_shallow-node_at_place : (dirs : List ℕ) (x : Node) → is_shallow_entry dirs (node_at_place offset size x) ≡ is_shallow_entry dirs x
  is_shallow-node_at_place dirs (file nm a b) = refl
  is_shallow-node_at_place dirs (directory nm next) = refl

  is_enclosing-node_at_place : (x : Node) (k : ℕ) → is_enclosing (node_at_place offset size x) k ≡ is_enclosing x k
  is_enclosing-node_at_place (file nm a b) k = refl
  is_enclosing-node_at_place (directory nm next) k = refl

  good_placed : (c k : ℕ) (dirs : List ℕ) (x : Node) → offset < 2 ^ 32 → size < 2 ^ 32 → IsGoodEntry c dirs k x → IsGoodEntry c dirs k (node_at_place offset size x)
  good_placed c k dirs (file nm a b) ho hs g = (ho, hs)
  good_placed c k dirs (directory nm next) ho hs g = g

  -- ---- entries k and on, where the i-th of them is changed

  sound-set : (c k : ℕ) (dirs : List ℕ) (xs : List Node) (i : ℕ) → offset < 2 ^ 32 → size < 2 ^ 32 → IsSound c dirs k xs → IsSound c dirs k (set xs i (node_at_place offset size (get_or xs i empty_root)))
  sound-set c k dirs [] i ho hs g = tt
  sound-set c k dirs (x ∷ xs) zero ho hs g = rw (name-node_at_place x, dirs_with-node_at_place (dirs_open_at k dirs) x) (g.0, good_placed c k (dirs_open_at k dirs) x ho hs g.1, g.2)
  sound-set c k dirs (x ∷ xs) (suc i) ho hs g = (g.0, g.1, sound-set c (suc k) (dirs_with (dirs_open_at k dirs) x) xs i ho hs g.2)

  is_shallow-set : (k : ℕ) (dirs : List ℕ) (xs : List Node) (i : ℕ) → is_shallow_from dirs k (set xs i (node_at_place offset size (get_or xs i empty_root))) ≡ is_shallow_from dirs k xs
  unfolding is_shallow_from
  is_shallow-set k dirs [] i = refl
  is_shallow-set k dirs (x ∷ xs) zero = rw (is_shallow-node_at_place (dirs_open_at k dirs) x, dirs_with-node_at_place (dirs_open_at k dirs) x)
  is_shallow-set k dirs (x ∷ xs) (suc i) = rw (is_shallow-set (suc k) (dirs_with (dirs_open_at k dirs) x) xs i)

  texts-set : (xs : List Node) (i : ℕ) → texts_of (set xs i (node_at_place offset size (get_or xs i empty_root))) ≡ texts_of xs
  unfolding texts_of
  texts-set [] i = refl
  texts-set (x ∷ xs) zero = rw (name-node_at_place x)
  texts-set (x ∷ xs) (suc i) = rw (texts-set xs i)

  is_enclosing-set : (xs : List Node) (i j k : ℕ) → is_enclosing (get_or (set xs i (node_at_place offset size (get_or xs i empty_root))) j empty_root) k ≡ is_enclosing (get_or xs j empty_root) k
  is_enclosing-set [] i j k = refl
  is_enclosing-set (x ∷ xs) zero zero k = is_enclosing-node_at_place x k
  is_enclosing-set (x ∷ xs) zero (suc j) k = refl
  is_enclosing-set (x ∷ xs) (suc i) zero k = refl
  is_enclosing-set (x ∷ xs) (suc i) (suc j) k = is_enclosing-set xs i j k

  -- ---- the whole tree

  pub length-set_place : (k : ℕ) (nodes : List Node) → length (set_place k offset size nodes) ≡ length nodes
  unfolding set_place
  length-set_place k nodes = simp length-set

  pub set_place-at : (k : ℕ) (nodes : List Node) → k < length nodes → get_or (set_place k offset size nodes) k empty_root ≡ node_at_place offset size (get_or nodes k empty_root)
  unfolding set_place
  set_place-at k nodes h = get_or-set_same nodes k _ empty_root h

  pub set_place-other : (k j : ℕ) (nodes : List Node) → (j ≡ k → ⊥) → get_or (set_place k offset size nodes) j empty_root ≡ get_or nodes j empty_root
  unfolding set_place
  set_place-other k j nodes h = get_or-set_other nodes k j _ empty_root h

  below-set_place : (k m i : ℕ) (nodes : List Node) → parent_below (set_place k offset size nodes) m i ≡ parent_below nodes m i
  unfolding parent_below set_place
  below-set_place k m zero nodes = refl
  below-set_place k m (suc i) nodes = rw (is_enclosing-set nodes k i m, below-set_place k m i nodes)

  pub parent-set_place : (k m : ℕ) (nodes : List Node) → parent_of (set_place k offset size nodes) m ≡ parent_of nodes m
  unfolding parent_of
  parent-set_place k m nodes = below-set_place k m m nodes

  -- the root is a directory and stays; the others are changed past it
  root-stays : (xs : List Node) (c : ℕ) → set_place 0 offset size (directory [] c ∷ xs) ≡ directory [] c ∷ xs
  unfolding set_place
  root-stays xs c = refl

  past-root : (r : Node) (xs : List Node) (i : ℕ) → set_place (suc i) offset size (r ∷ xs) ≡ r ∷ set xs i (node_at_place offset size (get_or xs i empty_root))
  unfolding set_place
  past-root r xs i = refl

  pub texts-set_place : (k : ℕ) (nodes : List Node) → texts_of (tail (set_place k offset size nodes)) ≡ texts_of (tail nodes)
  unfolding set_place
  texts-set_place k [] = refl
  texts-set_place zero (r ∷ xs) = refl
  texts-set_place (suc i) (r ∷ xs) = texts-set xs i

  pub is_shallow-set_place : (k : ℕ) (nodes : List Node) → is_shallow (set_place k offset size nodes) ≡ is_shallow nodes
  unfolding is_shallow set_place
  is_shallow-set_place k [] = refl
  is_shallow-set_place zero (r ∷ xs) = refl
  is_shallow-set_place (suc i) (r ∷ xs) =
      let l : length (set xs i (node_at_place offset size (get_or xs i empty_root))) ≡ length xs = simp length-set in
      rw l (is_shallow-set 1 (suc (length xs) ∷ []) xs i)

  pub limits-set_place : (k : ℕ) (nodes : List Node) (words : ℕ) → limits (set_place k offset size nodes) words ≡ limits nodes words
  unfolding limits
  limits-set_place k nodes words = rw (length-set_place k nodes, texts-set_place k nodes, is_shallow-set_place k nodes)

  pub set_place-sound : (k : ℕ) (nodes : List Node) → IsWellFormed nodes → offset < 2 ^ 32 → size < 2 ^ 32 → IsWellFormed (set_place k offset size nodes)
  set_place-sound k [] w ho hs = absurd (nil≢cons w.root)
  set_place-sound zero (r ∷ xs) w ho hs =
      let e : r ≡ directory [] (suc (length xs)) = head-eq_of_cons-eq w.root in
      rw (e, root-stays xs (suc (length xs))) (rw e at w)
  set_place-sound (suc i) (r ∷ xs) w ho hs =
      let l : length (set xs i (node_at_place offset size (get_or xs i empty_root))) ≡ length xs = simp length-set in
      let e : r ≡ directory [] (suc (length xs)) = head-eq_of_cons-eq w.root in
      rw (past-root r xs i) record { root = rw (l, e); sound = rw l (sound-set (suc (length xs)) 1 (suc (length xs) ∷ []) xs i ho hs w.sound) }
