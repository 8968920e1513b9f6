-- The used regions collected: one turn of the loop over the entries, and what stands in the words after it. Assumes nothing.
use Prim.Native.Nat.{ℕ, zero, suc, ◌+◌, ◌-◌, ◌≤◌}
use mathlib.Core.Path.{◌≡◌, refl, sym, ap, ◌∙◌}
use mathlib.Core.List.{List, [], ◌∷◌, ◌++◌, append-nil, append_assoc, map}
use native.Mathlib.Omega.{arith}
use native.Mathlib.Nat.{add-zero}
use Rattle.tree.specs.Table.{node_with, node_at, nodes_from, nodes_of, count, kind, offset_or_parent, size_or_next}
use Rattle.space.specs.declared.region.DiscRegion.{DiscRegion}
use Rattle.space.specs.Used.{nonempty_regions, used_regions}
use Rattle.space.specs.Laws.UsedLaws.{nonempty_regions-append}
use Rattle.space.specs.Inner.Sort.{regions_in}
use Rattle.space.specs.Inner.Words.{IsAdded}
use Rattle.opened.specs.Opening.{region_of}
use Rattle.opened.specs.Inner.Prepared.{entry_region, regions_from, AddedEntry, CollectedTo, CollectedUsed}

-- ---- one entry

directory-empty : (n : ℕ) (a b : ℕ) → (n ≡ 0 → ⊥) → nonempty_regions (region_of (node_with n [] a b) ∷ []) ≡ []
unfolding nonempty_regions
directory-empty zero a b h = absurd (h refl)
directory-empty (suc n) a b h = refl

pub added_none : (tab : List ℕ) (k : ℕ) (w : List ℕ) (m t : ℕ) → t ≡ kind tab k → (t ≡ 0 → ⊥) → AddedEntry tab k w w m m
added_none tab k w m t d h =
    record { list = rw (directory-empty (kind tab k) (offset_or_parent tab k) (size_or_next tab k) (λ e. h (d ∙ e))) (sym (append-nil (regions_in w 0 m))); bound = omega arith }

-- ---- the loop

entries-snoc : (tab : List ℕ) (k n : ℕ) → regions_from tab k (suc n) ≡ regions_from tab k n ++ (entry_region tab (k + n) ∷ [])
unfolding regions_from
entries-snoc tab k zero = rw add-zero
entries-snoc tab k (suc n) =
    let e : k + suc n ≡ suc k + n = omega arith in
    rw e (ap (λ (l : List DiscRegion). entry_region tab k ∷ l) (entries-snoc tab (suc k) n))

pub collected-start : (tab w : List ℕ) (k m : ℕ) → CollectedTo tab k m w w k m
unfolding regions_from nonempty_regions
collected-start tab w k m =
    let z : k - k ≡ 0 = omega arith in
    record { list = rw z (sym (append-nil (regions_in w 0 m))); from = omega arith; bound = omega arith }

pub collected-turn : (tab w₀ w w' : List ℕ) (k m k' m' r : ℕ) → CollectedTo tab k m w₀ w k' m' → AddedEntry tab k' w w' m' r → CollectedTo tab k m w₀ w' (k' + 1) r
collected-turn tab w₀ w w' k m k' m' r c a =
    let p : k' + 1 - k ≡ suc (k' - k) = omega (arith, c.from) in
    let q : k + (k' - k) ≡ k' = omega (arith, c.from) in
    record {
      list = rw (p, entries-snoc tab k (k' - k), q, nonempty_regions-append (regions_from tab k (k' - k)) (entry_region tab k' ∷ []), ← append_assoc (regions_in w₀ 0 m) (nonempty_regions (regions_from tab k (k' - k))) (nonempty_regions (entry_region tab k' ∷ [])), ← c.list) a.list;
      from = omega (arith, c.from);
      bound = omega (arith, c.from, c.bound, a.bound);
    }

-- the table, entries, the program, entries
pub used-collected : (tab w w₁ w₂ w₃ w₄ : List ℕ) (program : DiscRegion) (n t m₁ k m₂ m₃ m₄ : ℕ) → 1 ≤ k → k ≤ n → IsAdded w w₁ 0 0 t m₁ → CollectedTo tab 1 m₁ w₁ w₂ k m₂ → IsAdded w₂ w₃ m₂ program.offset program.size m₃ → CollectedTo tab k m₃ w₃ w₄ n m₄ →
    CollectedUsed tab n t program w₄ m₄
unfolding regions_in
used-collected tab w w₁ w₂ w₃ w₄ program n t m₁ k m₂ m₃ m₄ f l a c b d =
    let table : List DiscRegion = record { offset = 0; size = t } ∷ [] in
    let one : List DiscRegion = program ∷ [] in
    let early : List DiscRegion = regions_from tab 1 (k - 1) in
    let late : List DiscRegion = regions_from tab k (n - k) in
    let whole : used_regions t (early ++ (program ∷ late)) ≡ nonempty_regions table ++ (nonempty_regions early ++ (nonempty_regions one ++ nonempty_regions late)) =
    nonempty_regions-append table (early ++ (one ++ late)) ∙ ap (λ (x : List DiscRegion). nonempty_regions table ++ x) (nonempty_regions-append early (one ++ late) ∙ ap (λ (x : List DiscRegion). nonempty_regions early ++ x) (nonempty_regions-append one late)) in
    record {
      turn = k;
      from = f;
      to = l;
      list = d.list
          ∙ ap (λ (x : List DiscRegion). x ++ nonempty_regions late) (b.list ∙ ap (λ (x : List DiscRegion). x ++ nonempty_regions one) (c.list ∙ ap (λ (x : List DiscRegion). x ++ nonempty_regions early) a.list))
          ∙ append_assoc (nonempty_regions table ++ nonempty_regions early) (nonempty_regions one) (nonempty_regions late)
          ∙ append_assoc (nonempty_regions table) (nonempty_regions early) (nonempty_regions one ++ nonempty_regions late)
          ∙ sym whole;
      bound = omega (arith, a.bound, c.from, c.bound, b.bound, d.from, d.bound);
    }

-- ---- the entries' regions are those of the tree

region-named : (n : ℕ) (nm : List ℕ) (a b : ℕ) → region_of (node_with n nm a b) ≡ region_of (node_with n [] a b)
region-named zero nm a b = refl
region-named (suc n) nm a b = refl

regions-from : (tab : List ℕ) (c k n : ℕ) → map region_of (nodes_from tab c k n) ≡ regions_from tab k n
unfolding nodes_from regions_from node_at
regions-from tab c k zero = refl
regions-from tab c k (suc n) = rw (region-named (kind tab k) _ (offset_or_parent tab k) (size_or_next tab k), regions-from tab c (suc k) n)

-- cut in two
entries-cut : (tab : List ℕ) (k n n' : ℕ) → regions_from tab k (n + n') ≡ regions_from tab k n ++ regions_from tab (k + n) n'
unfolding regions_from
entries-cut tab k zero n' = let z : 0 + n' ≡ n' = omega arith in rw (z, add-zero k)
entries-cut tab k (suc n) n' =
    let e : k + suc n ≡ suc k + n = omega arith in
    let f : suc n + n' ≡ suc (n + n') = omega arith in
    rw (e, f, entries-cut tab (suc k) n n')

pub regions-of-tree : (tab : List ℕ) (k : ℕ) → 1 ≤ k → k ≤ count tab → nonempty_regions (map region_of (nodes_of tab)) ≡ nonempty_regions (regions_from tab 1 (k - 1) ++ regions_from tab k (count tab - k))
unfolding nodes_of nonempty_regions
regions-of-tree tab k h l =
    let e : count tab - 1 ≡ k - 1 + (count tab - k) = omega arith in
    let f : 1 + (k - 1) ≡ k = omega arith in
    rw (regions-from tab (count tab) 1 (count tab - 1), e, entries-cut tab 1 (k - 1) (count tab - k), f)
