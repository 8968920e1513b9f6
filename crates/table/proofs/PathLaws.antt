-- Lookup with the entries left by named steps in words, for which an accepted tree is shallow enough. Assumes nothing.
use Rattle.std.specs.Prelude.{Ok, Err, Some, None, slice_get}
use Prim.Native.Nat.{ℕ, zero, suc, ◌<◌, ◌≤◌}
use mathlib.Core.Path.{◌≡◌, refl}
use mathlib.Core.Bool.{true, false}
use mathlib.Core.List.{List, [], ◌∷◌, tail}
use native.Mathlib.Omega.{arith}
use borrow.Author.Tests.{leb-true}
use lib.ListN.{length, get_or, drop}
use Rattle.refusal.specs.Laws.Tests.{and_left, and_right}
use Rattle.refusal.specs.declared.Refusal.TheVariants.{ExpectedDirectory}
use Rattle.tree.specs.Table.{Node, file, directory, empty_root, dirs_open_at, dirs_with, is_shallow_entry, is_shallow_from, is_shallow}
use Rattle.tree.specs.Inner.WellFormed.{IsWellFormed}
use Rattle.tree.specs.Lookup.{is_directory, child_of, is_staying, is_going_back, and_then, step_back, follow}
use Rattle.tree.proofs.Laws.Children.{child-is}
use Rattle.tree.proofs.Laws.OpenDirectories.{open_at, stack_is}
use Rattle.tree.specs.Inner.Depths.{depth_of}
use Rattle.tree.proofs.Laws.Depth.{depth-root, depth-parent}
use Rattle.table.specs.Inner.Steps.{IsBehind, IsTrail}
use Rattle.table.proofs.ChildLaws.{child-found}

-- ---- a directory of an accepted tree is at most 64 deep

is_shallow-at : (k : ℕ) (dirs : List ℕ) (xs : List Node) (i : ℕ) → is_shallow_from dirs k xs ≡ true → i < length xs → is_shallow_entry (open_at dirs k xs i) (get_or xs i empty_root) ≡ true
unfolding is_shallow_from open_at
is_shallow-at k dirs [] i e h = absurd (omega arith)
is_shallow-at k dirs (x ∷ xs) zero e h = and_left (is_shallow_entry (dirs_open_at k dirs) x) _ e
is_shallow-at k dirs (x ∷ xs) (suc i) e h = is_shallow-at (suc k) (dirs_with (dirs_open_at k dirs) x) xs i (and_right (is_shallow_entry (dirs_open_at k dirs) x) _ e) (omega arith)

entry-is_shallow : (nodes : List Node) (i : ℕ) → is_shallow nodes ≡ true → suc i < length nodes → is_shallow_entry (open_at (length nodes ∷ []) 1 (tail nodes) i) (get_or nodes (suc i) empty_root) ≡ true
unfolding is_shallow
entry-is_shallow [] i s h = absurd (omega arith)
entry-is_shallow (r ∷ xs) i s h = is_shallow-at 1 (suc (length xs) ∷ []) xs i s (omega arith)

pub directory-depth : (nodes : List Node) (k : ℕ) → IsWellFormed nodes → is_shallow nodes ≡ true → k < length nodes → is_directory (get_or nodes k empty_root) ≡ true → depth_of nodes k ≤ 64
directory-depth nodes zero w s h d = omega (arith, depth-root nodes)
directory-depth nodes (suc i) w s h d = go (get_or nodes (suc i) empty_root) (entry-is_shallow nodes i s h) d
  where
    go : (x : Node) → is_shallow_entry (open_at (length nodes ∷ []) 1 (tail nodes) i) x ≡ true → is_directory x ≡ true → depth_of nodes (suc i) ≤ 64
    go (file nm offset size) e q = let z : ◌≡◌ {A = ℕ} 0 1 = cc in absurd (omega arith)
    go (directory nm next) e q = rw (stack_is nodes w i h) (leb-true (length (open_at (length nodes ∷ []) 1 (tail nodes) i)) 64 e)

-- so a step from it finds room in a trail
pub room : (nodes : List Node) (trail : List ℕ) (k : ℕ) → IsWellFormed nodes → is_shallow nodes ≡ true → IsTrail nodes trail k → is_directory (get_or nodes k empty_root) ≡ true → length trail < 65
room nodes trail k w s t d = omega (arith, t.deep, directory-depth nodes k w s t.inside d)

-- ---- one step

module _ (nodes : List Node) (trail : List ℕ) (k : ℕ) (nm : List ℕ) where
  pub step-file : is_directory (get_or nodes k empty_root) ≡ false → (cs : List (List ℕ)) → follow nodes trail k (nm ∷ cs) ≡ Err ExpectedDirectory
  unfolding follow
  step-file d cs = rw d

  module _ (d : is_directory (get_or nodes k empty_root) ≡ true) where
    pub step-stay : is_staying nm ≡ true → (cs : List (List ℕ)) → follow nodes trail k (nm ∷ cs) ≡ follow nodes trail k cs
    unfolding follow
    step-stay s cs = rw (d, s)

    pub step_back_lem : is_staying nm ≡ false → is_going_back nm ≡ true → (cs : List (List ℕ)) → follow nodes trail k (nm ∷ cs) ≡ step_back trail (λ j rest. follow nodes rest j cs)
    unfolding follow
    step_back_lem s b cs = rw (d, s, b)

    pub step-into : is_staying nm ≡ false → is_going_back nm ≡ false → (cs : List (List ℕ)) → follow nodes trail k (nm ∷ cs) ≡ and_then (child_of nodes k nm) (λ j. follow nodes (k ∷ trail) j cs)
    unfolding follow
    step-into s b cs = rw (d, s, b)

-- the entry that the last named step left is on top
pub back-some : (trail rest : List ℕ) (j : ℕ) → Some j ≡ slice_get trail 0 → rest ≡ drop 1 trail → trail ≡ j ∷ rest
back-some [] rest j e r = absurd (cc)
back-some (i ∷ trail) rest j e r = let q : j ≡ i = cc in rw (q, r)

pub back-none : (trail : List ℕ) → None ≡ slice_get trail 0 → trail ≡ []
back-none [] e = refl
back-none (i ∷ trail) e = absurd (cc)

-- the trail goes on from there, or from a child
pub trail-back : (nodes : List Node) (trail : List ℕ) (j : ℕ) → IsBehind nodes (j ∷ trail) → IsTrail nodes trail j
trail-back nodes trail j b = record { inside = b.0; deep = b.1; behind = b.2 }

pub trail-into : (nodes : List Node) (trail : List ℕ) (k : ℕ) (nm : List ℕ) (j : ℕ) → IsWellFormed nodes → IsTrail nodes trail k → child_of nodes k nm ≡ Ok j → IsTrail nodes (k ∷ trail) j
trail-into nodes trail k nm j w t e =
    let f = child-found nodes k nm j w t.inside e in
    let d : depth_of nodes j ≡ suc (depth_of nodes k) = rw f.0 at (depth-parent nodes j w (omega (arith, (child-is nodes k nm j e).after)) f.1) in
    record { inside = f.1; deep = omega (arith, t.deep); behind = (t.inside, t.deep, t.behind) }

-- ---- the start and the end

pub trail-start : (nodes : List Node) (k : ℕ) → k < length nodes → IsTrail nodes [] k
trail-start nodes k h = record { inside = h; deep = omega arith; behind = tt }

pub follow-done : (nodes : List Node) (trail : List ℕ) (k : ℕ) → follow nodes trail k [] ≡ Ok k
unfolding follow
follow-done nodes trail k = refl
