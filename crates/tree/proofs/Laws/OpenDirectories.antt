-- The directories open at entry k are those before it whose next is past k: the walk's stack read off the table. Assumes nothing.
use Rattle.std.specs.Prelude.{ℕ, zero, suc, ◌+◌, ◌<◌, ◌≤◌, ◌≡◌, refl, Bool, true, false, cond, length, get_or, leb, ltb}
use Rattle.std.proofs.Common.{ap, ◌∙◌, arith, add-zero, one-add, ltb-true, ltb-false, leb-false, lt-ltb, le-leb}
use mathlib.Core.List.{List, [], ◌∷◌, tail, head-eq_of_cons-eq, nil≢cons}
use Rattle.std.proofs.lemmas.Bool.{lt-leb}
use Rattle.tree.specs.Table.{Node, file, directory, name_of, empty_root, dirs_open_at, dirs_with, is_enclosing, parent_below}
use Rattle.tree.specs.Inner.WellFormed.{IsGoodName, IsGoodEntry, IsSound, IsWellFormed}
use Rattle.tree.specs.Lookup.{next_of}
use Rattle.tree.specs.Inner.Depths.{open_dirs}

-- the nexts of the directories open at the i-th of the entries k and on
unfoldable pub open_at : List ℕ → ℕ → List Node → ℕ → List ℕ
open_at dirs k xs zero = dirs_open_at k dirs
open_at dirs k [] (suc i) = []
open_at dirs k (x ∷ xs) (suc i) = open_at (dirs_with (dirs_open_at k dirs) x) (suc k) xs i

-- what holds of entry k + i
pub sound-at : (c k : ℕ) (dirs : List ℕ) (xs : List Node) (i : ℕ) → IsSound c dirs k xs → i < length xs →
    IsGoodName (name_of (get_or xs i empty_root)) × IsGoodEntry c (open_at dirs k xs i) (k + i) (get_or xs i empty_root)
unfolding open_at
sound-at c k dirs [] i g h = absurd (omega arith)
sound-at c k dirs (x ∷ xs) zero g h = rw (add-zero k) (g.0, g.1)
sound-at c k dirs (x ∷ xs) (suc i) g h =
    let n : k + suc i ≡ suc k + i = omega arith in
    rw n (sound-at c (suc k) (dirs_with (dirs_open_at k dirs) x) xs i g.2 (omega arith))

-- those of a stack that are past m
unfoldable keep : ℕ → List ℕ → List ℕ
keep m [] = []
keep m (n ∷ dirs) = cond (leb n m) (keep m dirs) (n ∷ keep m dirs)

abbrev pub AllGe : ℕ → List ℕ → Type 0
AllGe n [] = Unit {0}
AllGe n (m ∷ dirs) = (n ≤ m) × AllGe n dirs

abbrev pub Sorted : List ℕ → Type 0
Sorted [] = Unit {0}
Sorted (n ∷ dirs) = AllGe n dirs × Sorted dirs

ge_trans : (n m : ℕ) (dirs : List ℕ) → n ≤ m → AllGe m dirs → AllGe n dirs
ge_trans n m [] h g = tt
ge_trans n m (k ∷ dirs) h g = (omega arith, ge_trans n m dirs h g.1)

keep_all : (m n : ℕ) (dirs : List ℕ) → m < n → AllGe n dirs → keep m dirs ≡ dirs
unfolding keep
keep_all m n [] h g = refl
keep_all m n (k ∷ dirs) h g = rw (lt-leb k m (omega arith), keep_all m n dirs h g.1)

keep-dirs_open_at : (m : ℕ) (dirs : List ℕ) → Sorted dirs → keep m dirs ≡ dirs_open_at m dirs
unfolding keep dirs_open_at
keep-dirs_open_at m [] s = refl
keep-dirs_open_at m (n ∷ dirs) s = go (leb n m) refl (keep-dirs_open_at m dirs s.1)
  where
    go : (t : Bool) → leb n m ≡ t → keep m dirs ≡ dirs_open_at m dirs → cond t (keep m dirs) (n ∷ keep m dirs) ≡ cond t (dirs_open_at m dirs) (n ∷ dirs)
    go true e ih = ih
    go false e ih = ap (λ (l : List ℕ). n ∷ l) (keep_all m n dirs (leb-false n m e) s.0)

sorted-dirs_open_at : (m : ℕ) (dirs : List ℕ) → Sorted dirs → Sorted (dirs_open_at m dirs)
unfolding dirs_open_at
sorted-dirs_open_at m [] s = tt
sorted-dirs_open_at m (n ∷ dirs) s = go (leb n m) (sorted-dirs_open_at m dirs s.1)
  where
    go : (t : Bool) → Sorted (dirs_open_at m dirs) → Sorted (cond t (dirs_open_at m dirs) (n ∷ dirs))
    go true ih = ih
    go false ih = s

sorted-dirs_with : (c k : ℕ) (dirs : List ℕ) (x : Node) → IsGoodEntry c dirs k x → Sorted dirs → Sorted (dirs_with dirs x)
sorted-dirs_with c k dirs (file nm offset size) g h = h
sorted-dirs_with c k [] (directory nm next) g h = (tt, tt)
sorted-dirs_with c k (n ∷ dirs) (directory nm next) g h = ((g.2, ge_trans next n dirs g.2 h.0), h)

-- one entry further: those that close are left out
is_enclosing-step : (x : Node) (k : ℕ) (dirs : List ℕ) →
    cond (is_enclosing x (suc k)) (next_of x ∷ keep (suc k) dirs) (keep (suc k) dirs) ≡ keep (suc k) (cond (is_enclosing x k) (next_of x ∷ dirs) dirs)
unfolding keep
is_enclosing-step (file nm offset size) k dirs = refl
is_enclosing-step (directory nm next) k dirs = go (ltb (suc k) next) refl (ltb k next) refl
  where
    go : (t : Bool) → ltb (suc k) next ≡ t → (u : Bool) → ltb k next ≡ u → cond t (next ∷ keep (suc k) dirs) (keep (suc k) dirs) ≡ keep (suc k) (cond u (next ∷ dirs) dirs)
    go true p true q = rw (lt-leb next (suc k) (ltb-true (suc k) next p))
    go true p false q = absurd (omega (arith, ltb-true (suc k) next p, ltb-false k next q))
    go false p true q = rw (le-leb next (suc k) (ltb-false (suc k) next p))
    go false p false q = refl

open_dirs-keep : (nodes : List Node) (k i : ℕ) → open_dirs nodes (suc k) i ≡ keep (suc k) (open_dirs nodes k i)
unfolding open_dirs keep
open_dirs-keep nodes k zero = refl
open_dirs-keep nodes k (suc i) = rw (open_dirs-keep nodes k i) (is_enclosing-step (get_or nodes i empty_root) k (open_dirs nodes k i))

dirs_with-keep : (c k : ℕ) (dirs : List ℕ) (x : Node) → IsGoodEntry c dirs k x → cond (is_enclosing x k) (next_of x ∷ dirs) dirs ≡ dirs_with dirs x
dirs_with-keep c k dirs (file nm offset size) g = refl
dirs_with-keep c k dirs (directory nm next) g = rw (lt-ltb k next g.0)

open_step : (nodes : List Node) (c k : ℕ) (dirs : List ℕ) (x : Node) → get_or nodes k empty_root ≡ x → Sorted dirs → open_dirs nodes k k ≡ dirs_open_at k dirs → IsGoodEntry c (dirs_open_at k dirs) k x →
    open_dirs nodes (suc k) (suc k) ≡ dirs_open_at (suc k) (dirs_with (dirs_open_at k dirs) x)
unfolding open_dirs
open_step nodes c k dirs x e s h g =
    rw (open_dirs-keep nodes k k, e, h, is_enclosing-step x k (dirs_open_at k dirs), dirs_with-keep c k (dirs_open_at k dirs) x g)
    (keep-dirs_open_at (suc k) (dirs_with (dirs_open_at k dirs) x) (sorted-dirs_with c k (dirs_open_at k dirs) x g (sorted-dirs_open_at k dirs s)))

-- the stack at entry k + i is the nexts of the directories it is in, and they rise outwards
open-at : (nodes : List Node) (c k : ℕ) (dirs : List ℕ) (xs : List Node) → ((i : ℕ) → get_or nodes (k + i) empty_root ≡ get_or xs i empty_root) → IsSound c dirs k xs → Sorted dirs →
    open_dirs nodes k k ≡ dirs_open_at k dirs → (i : ℕ) → i < length xs → (open_dirs nodes (k + i) (k + i) ≡ open_at dirs k xs i) × Sorted (open_at dirs k xs i)
unfolding open_at
open-at nodes c k dirs [] a g s e i h = absurd (omega arith)
open-at nodes c k dirs (x ∷ xs) a g s e zero h = rw (add-zero k) (e, sorted-dirs_open_at k dirs s)
open-at nodes c k dirs (x ∷ xs) a g s e (suc i) h =
    let n : k + suc i ≡ suc k + i = omega arith in
    let x≡ : get_or nodes k empty_root ≡ x = rw add-zero at (a 0) in
    rw n
    (open-at nodes c (suc k) (dirs_with (dirs_open_at k dirs) x) xs (λ j. ap (λ (m : ℕ). get_or nodes m empty_root) (omega arith) ∙ a (suc j)) g.2
    (sorted-dirs_with c k (dirs_open_at k dirs) x g.1 (sorted-dirs_open_at k dirs s)) (open_step nodes c k dirs x x≡ s e g.1) i (omega arith))

root-open : (r : Node) (xs : List Node) (c : ℕ) → r ≡ directory [] c → 1 < c → open_dirs (r ∷ xs) 1 1 ≡ dirs_open_at 1 (c ∷ [])
unfolding open_dirs dirs_open_at
root-open r xs c e h = rw (e, lt-ltb 1 c h, lt-leb c 1 h)

pub stack : (nodes : List Node) → IsWellFormed nodes → (i : ℕ) → suc i < length nodes →
    (open_dirs nodes (suc i) (suc i) ≡ open_at (length nodes ∷ []) 1 (tail nodes) i) × Sorted (open_at (length nodes ∷ []) 1 (tail nodes) i)
unfolding open_dirs
stack [] w i h = absurd (omega arith)
stack (r ∷ xs) w i h =
    let e : open_dirs (r ∷ xs) 1 1 ≡ dirs_open_at 1 (suc (length xs) ∷ []) = root-open r xs (suc (length xs)) (head-eq_of_cons-eq w.root) (omega arith) in
    rw one-add at (open-at (r ∷ xs) (suc (length xs)) 1 (suc (length xs) ∷ []) xs (λ j. rw one-add) w.sound (tt, tt) e i (omega arith))

-- the stack at an entry is the nexts of the directories that it is in
pub stack_is : (nodes : List Node) → IsWellFormed nodes → (i : ℕ) → suc i < length nodes → open_dirs nodes (suc i) (suc i) ≡ open_at (length nodes ∷ []) 1 (tail nodes) i
stack_is nodes w i h = (stack nodes w i h).0

-- so the walk's test is against the parent's next
pub parent-next : (nodes : List Node) (k i n : ℕ) (dirs : List ℕ) → open_dirs nodes k i ≡ n ∷ dirs → next_of (get_or nodes (parent_below nodes k i) empty_root) ≡ n
unfolding open_dirs parent_below
parent-next nodes k zero n dirs e = absurd (nil≢cons e)
parent-next nodes k (suc i) n dirs e = go (is_enclosing (get_or nodes i empty_root) k) (parent-next nodes k i n dirs) e
  where
    go : (t : Bool) → (open_dirs nodes k i ≡ n ∷ dirs → next_of (get_or nodes (parent_below nodes k i) empty_root) ≡ n) →
        cond t (next_of (get_or nodes i empty_root) ∷ open_dirs nodes k i) (open_dirs nodes k i) ≡ n ∷ dirs → next_of (get_or nodes (cond t i (parent_below nodes k i)) empty_root) ≡ n
    go true ih q = head-eq_of_cons-eq q
    go false ih q = ih q
