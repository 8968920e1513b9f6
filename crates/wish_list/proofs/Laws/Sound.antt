-- The tree of a wish list is well formed. Assumes nothing.
use Rattle.std.specs.Prelude.{ℕ, zero, suc, ◌+◌, ◌-◌, ◌^◌, ◌<◌, ◌≤◌, ◌≡◌, refl, Bool, true, false, List, [], ◌∷◌, ◌++◌, length, drop, leb}
use Rattle.std.proofs.Common.{ap, ◌∙◌, arith, leb-true, leb-false, le-leb, length-drop}
use Rattle.std.proofs.lemmas.Bool.{lt-leb}
use Rattle.tree.specs.Table.{Node, top, dirs_open_at}
use Rattle.tree.specs.Inner.WellFormed.{IsGoodName, IsSound, IsWellFormed}
use Rattle.wish_list.specs.Tree.{Wish, common, added, below, entries_from, tree_from, tree}
use Rattle.wish_list.proofs.Laws.Below.{common-less, common-most, added-least, below-in, below-out, below-zero, below-falls, below-least, length-tree_from}

-- ---- the directories open where a file was written

-- the nexts of the m directories around the file with the names `before`, the innermost first, and then the root's; k is the next entry
unfoldable pub ends : ℕ → List (List ℕ) → List Wish → ℕ → List ℕ
ends k before ws zero = (k + below 0 before ws) ∷ []
ends k before ws (suc m) = (k + below (suc m) before ws) ∷ ends k before ws m

top-ends : (k : ℕ) (before : List (List ℕ)) (ws : List Wish) (m : ℕ) → top (ends k before ws m) ≡ k + below m before ws
unfolding ends
top-ends k before ws zero = refl
top-ends k before ws (suc m) = refl

pub length-ends : (k : ℕ) (before : List (List ℕ)) (ws : List Wish) (m : ℕ) → length (ends k before ws m) ≡ suc m
unfolding ends
length-ends k before ws zero = refl
length-ends k before ws (suc m) = ap suc (length-ends k before ws m)

-- at an entry before them all none is closed
pub none-closed : (j k : ℕ) (before : List (List ℕ)) (ws : List Wish) (m : ℕ) → j < k → dirs_open_at j (ends k before ws m) ≡ ends k before ws m
unfolding ends dirs_open_at
none-closed j k before ws zero h = rw (lt-leb (k + below 0 before ws) j (omega arith))
none-closed j k before ws (suc m) h = rw (lt-leb (k + below (suc m) before ws) j (omega arith))

-- the directories that the file w is in too
ends-next : (k : ℕ) (before : List (List ℕ)) (w : Wish) (ws : List Wish) (m : ℕ) → m ≤ common before w.names →
    ends k before (w ∷ ws) m ≡ ends (k + added before w.names) w.names ws m
unfolding ends
ends-next k before w ws zero h = ap (λ (n : ℕ). n ∷ []) (omega (arith, below-in 0 before w ws h))
ends-next k before w ws (suc m) h =
    let e : k + below (suc m) before (w ∷ ws) ≡ k + added before w.names + below (suc m) w.names ws = omega (arith, below-in (suc m) before w ws h) in
    rw (e, ends-next k before w ws m (omega arith))

ends-kept : (k : ℕ) (before : List (List ℕ)) (w : Wish) (ws : List Wish) (m : ℕ) → 0 < length w.names → m ≡ common before w.names →
    dirs_open_at k (ends k before (w ∷ ws) m) ≡ ends (k + added before w.names) w.names ws (common before w.names)
ends-kept k before w ws m named e =
    rw (e, ends-next k before w ws (common before w.names) (omega arith))
    (none-closed k (k + added before w.names) w.names ws (common before w.names) (omega (arith, added-least before w.names named)))

-- at the file w the others are closed
pub ends-open : (k : ℕ) (before : List (List ℕ)) (w : Wish) (ws : List Wish) (m : ℕ) → 0 < length w.names → common before w.names ≤ m →
    dirs_open_at k (ends k before (w ∷ ws) m) ≡ ends (k + added before w.names) w.names ws (common before w.names)
unfolding ends dirs_open_at
ends-open k before w ws zero named h = ends-kept k before w ws zero named (omega arith)
ends-open k before w ws (suc m) named h = go (leb (suc m) (common before w.names)) refl (ends-open k before w ws m named)
  where
    go : (t : Bool) → leb (suc m) (common before w.names) ≡ t → (common before w.names ≤ m → dirs_open_at k (ends k before (w ∷ ws) m) ≡ ends (k + added before w.names) w.names ws (common before w.names)) →
        dirs_open_at k (ends k before (w ∷ ws) (suc m)) ≡ ends (k + added before w.names) w.names ws (common before w.names)
    go true e ih = ends-kept k before w ws (suc m) named (omega (arith, leb-true (suc m) (common before w.names) e))
    go false e ih =
        let out : common before w.names < suc m = leb-false (suc m) (common before w.names) e in
        rw (le-leb (k + below (suc m) before (w ∷ ws)) k (omega (arith, below-out (suc m) before w ws out)))
        (ih (omega arith))

-- ---- each entry is good where it stands

abbrev pub AllGoodNames : List (List ℕ) → Type 0
AllGoodNames [] = Unit {0}
AllGoodNames (name ∷ names) = IsGoodName name × AllGoodNames names

pub record IsGoodWish (w : Wish) : Type 0 where
  pub named : 0 < length w.names
  pub good : AllGoodNames w.names
  pub offset_fits : w.offset < 2 ^ 32
  pub size_fits : w.size < 2 ^ 32

abbrev pub AllGoodWishes : List Wish → Type 0
AllGoodWishes [] = Unit {0}
AllGoodWishes (w ∷ ws) = IsGoodWish w × AllGoodWishes ws

pub good-rest : (n : ℕ) (names : List (List ℕ)) → AllGoodNames names → AllGoodNames (drop n names)
good-rest zero names g = g
good-rest (suc n) [] g = tt
good-rest (suc n) (name ∷ names) g = good-rest n names g.1

-- the entries of a file, and what follows them, from its n-th name on: `next` is the entry behind them
entries-sound : (c k n next : ℕ) (dirs : List ℕ) (names : List (List ℕ)) (w : Wish) (ws : List Wish) (rest : List Node) →
    0 < length names → n + length names ≡ length w.names → k + length names ≡ next → next + below 0 w.names ws ≡ c →
    AllGoodNames names → w.offset < 2 ^ 32 → w.size < 2 ^ 32 →
    dirs_open_at k dirs ≡ ends next w.names ws n → IsSound c (ends next w.names ws (length w.names - 1)) next rest →
    IsSound c dirs k (entries_from k n names w ws ++ rest)
unfolding entries_from ends
entries-sound c k n next dirs [] w ws rest named all last whole good offset size opened sound = absurd (omega arith)
entries-sound c k n next dirs (name ∷ []) w ws rest named all last whole good offset size opened sound =
    let l : length w.names - 1 ≡ n = omega arith in
    let m : suc k ≡ next = omega arith in
    (good.0, (offset, size), rw (opened, m, ← l) sound)
entries-sound c k n next dirs (name ∷ inner ∷ names) w ws rest named all last whole good offset size opened sound =
    let m : k + length (name ∷ inner ∷ names) ≡ next = last in
    let t : top (dirs_open_at k dirs) ≡ next + below n w.names ws = ap top opened ∙ top-ends next w.names ws n in (
      good.0,
      rw m ((omega arith, omega (arith, below-least 0 (suc n) w.names ws (omega arith)), omega (arith, below-falls n w.names ws))),
      rw (opened, m)
          (entries-sound c (suc k) (suc n) next ((next + below (suc n) w.names ws) ∷ ends next w.names ws n) (inner ∷ names) w ws rest (omega arith) (omega arith) (omega arith) whole good.1 offset size
          (none-closed (suc k) next w.names ws (suc n) (omega arith)) sound),
    )

tree_from-sound : (c k : ℕ) (before : List (List ℕ)) (ws : List Wish) → AllGoodWishes ws → k + below 0 before ws ≡ c → IsSound c (ends k before ws (length before - 1)) k (tree_from k before ws)
unfolding tree_from
tree_from-sound c k before [] g e = tt
tree_from-sound c k before (w ∷ ws) g e =
    let l : length (drop (common before w.names) w.names) ≡ length w.names - common before w.names = length-drop (common before w.names) w.names in
    let s : common before w.names < length w.names = common-less before w.names (g.0).named in
    let z : k + added before w.names + below 0 w.names ws ≡ c = omega (arith, below-zero before w ws) in
    entries-sound c k (common before w.names) (k + added before w.names) (ends k before (w ∷ ws) (length before - 1)) (drop (common before w.names) w.names) w ws (tree_from (k + added before w.names) w.names ws)
    (omega arith) (omega arith) (omega arith) z (good-rest (common before w.names) w.names (g.0).good) (g.0).offset_fits (g.0).size_fits
    (ends-open k before w ws (length before - 1) (g.0).named (common-most before w.names)) (tree_from-sound c (k + added before w.names) w.names ws g.1 z)

pub tree-sound : (ws : List Wish) → AllGoodWishes ws → IsWellFormed (tree ws)
unfolding tree ends
tree-sound ws g =
    let l : length (tree_from 1 [] ws) ≡ below 0 [] ws = length-tree_from 1 [] ws in
    let s : 1 + below 0 [] ws ≡ suc (length (tree_from 1 [] ws)) = omega arith in
    record {
      root = rw l;
      sound = rw s at (tree_from-sound (suc (length (tree_from 1 [] ws))) 1 [] ws g (omega arith));
    }
