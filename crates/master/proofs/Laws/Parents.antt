-- The directories around an entry of a new tree: where they stand, and their paths. Assumes nothing.
use Rattle.std.specs.Prelude.{ℕ, zero, suc, ◌+◌, ◌<◌, ◌≤◌, ◌≡◌, refl, Bool, true, false, cond, List, [], ◌∷◌, ◌++◌, drop, get_or}
use Rattle.std.proofs.Common.{◌∙◌, ⊎_elim, arith, lt-ltb, append_assoc}
use Rattle.endian.specs.Bytes.{are_same_bytes}
use Rattle.endian.specs.Laws.Stored.{same-eq}
use Rattle.refusal.specs.Laws.Tests.{lt-or-le}
use Rattle.tree.specs.Table.{Node, directory, name_of, empty_root, parent_of}
use Rattle.tree.specs.Lookup.{next_of}
use Rattle.tree.proofs.Laws.Nesting.{ended, parent_is}
use Rattle.listing.specs.Lines.{ending, path_of}
use Rattle.listing.proofs.Paths.{path-step}
use Rattle.wish_list.specs.Tree.{Wish, common, below}
use Rattle.master.proofs.Entries.{front_of}

-- ---- the first names of a path

pub front-more : (n : ℕ) (names : List (List ℕ)) (name : List ℕ) (rest : List (List ℕ)) → drop n names ≡ name ∷ rest → front_of (suc n) names ≡ front_of n names ++ (name ++ (0x2F ∷ []))
unfolding front_of
front-more zero [] name rest e = cc
front-more zero (x ∷ xs) name rest e = let x≡ : x ≡ name = cc in rw x≡
front-more (suc n) [] name rest e = cc
front-more (suc n) (x ∷ xs) name rest e = rw (front-more n xs name rest e, append_assoc x (0x2F ∷ front_of n xs) (name ++ (0x2F ∷ [])))

-- two files have the names of the directories that both are in
pub front-shared : (i : ℕ) (before names : List (List ℕ)) → i ≤ common before names → front_of i before ≡ front_of i names
unfolding front_of common
front-shared zero before names h = refl
front-shared (suc i) [] names h = absurd (omega arith)
front-shared (suc i) (a ∷ []) names h = absurd (omega arith)
front-shared (suc i) (a ∷ b ∷ xs) [] h = absurd (omega arith)
front-shared (suc i) (a ∷ b ∷ xs) (c ∷ []) h = absurd (omega arith)
front-shared (suc i) (a ∷ b ∷ xs) (c ∷ d ∷ ys) h = go (are_same_bytes a c) refl h (front-shared i (b ∷ xs) (d ∷ ys))
  where
    go : (t : Bool) → are_same_bytes a c ≡ t → suc i ≤ cond t (suc (common (b ∷ xs) (d ∷ ys))) 0 → (i ≤ common (b ∷ xs) (d ∷ ys) → front_of i (b ∷ xs) ≡ front_of i (d ∷ ys)) →
        a ++ (0x2F ∷ front_of i (b ∷ xs)) ≡ c ++ (0x2F ∷ front_of i (d ∷ ys))
    go true e h ih = rw (same-eq a c e, ih (omega arith))
    go false e h ih = absurd (omega arith)

-- ---- the directories around an entry

-- entry `at` is the i-th directory on the path `names` of a file whose entries end before entry `next`, and which ws follow; the
-- directories in it that stand before entry k end at `inner` at most
pub record Around (nodes : List Node) (k i next : ℕ) (names : List (List ℕ)) (ws : List Wish) (inner : ℕ) : Type 0 where
  pub at : ℕ
  pub before : at < k
  pub name : List ℕ
  pub node : get_or nodes at empty_root ≡ directory name (next + below i names ws)
  pub path : path_of nodes at ≡ 0x2F ∷ front_of i names
  pub ends : (j : ℕ) → at < j → j < k → next_of (get_or nodes j empty_root) ≤ inner

module _ {nodes : List Node} {k i next : ℕ} {names : List (List ℕ)} {ws : List Wish} {inner : ℕ} (a : Around nodes k i next names ws inner) where
  -- past one more entry
  pub around-later : (more : ℕ) → inner ≤ more → next_of (get_or nodes k empty_root) ≤ more → Around nodes (suc k) i next names ws more
  around-later more h l = record {
    at = a.at;
    before = omega (arith, a.before);
    name = a.name;
    node = a.node;
    path = a.path;
    ends = λ j p q. ⊎_elim (λ (b : j < k). omega (arith, a.ends j p b)) (λ (b : k ≤ j). let e : j ≡ k = omega arith in rw e l) (lt-or-le j k);
  }

-- the entry is nested in the innermost one
around-parent : (nodes : List Node) (k i next : ℕ) (names : List (List ℕ)) (ws : List Wish) → (a : Around nodes k i next names ws k) → k < next → parent_of nodes k ≡ a.at
around-parent nodes k i next names ws a h =
    parent_is nodes k a.at (a.before, rw a.node (lt-ltb k (next + below i names ws) (omega arith))) (λ j p q. ended k (get_or nodes j empty_root) (a.ends j p q))

pub around-path : (nodes : List Node) (k i next : ℕ) (names : List (List ℕ)) (ws : List Wish) (x : Node) → (a : Around nodes k i next names ws k) → k < next →
    get_or nodes k empty_root ≡ x → path_of nodes k ≡ 0x2F ∷ (front_of i names ++ (name_of x ++ ending x))
around-path nodes k i next names ws x a h e =
    path-step nodes k (omega (arith, a.before)) ∙ rw (around-parent nodes k i next names ws a h, a.path, e)
