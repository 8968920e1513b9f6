-- The directories around an entry, kept from one entry to the next: those that are done are left out, and a directory is added.
-- Assumes nothing.
use Prim.Native.Nat.{ℕ, zero, suc, ◌+◌, ◌-◌, ◌<◌, ◌≤◌}
use mathlib.Core.Path.{◌≡◌, refl, sym, ap, ◌∙◌}
use mathlib.Core.Logic.{⊎_elim}
use mathlib.Core.Bool.{Bool, true, false}
use mathlib.Core.List.{List}
use denote.Ref.{Bor}
use native.Mathlib.Omega.{arith}
use native.Mathlib.Numerals.{add-one}
use lib.ListN.{length, get_or, set, replicate, length-set, length-replicate}
use lib.Seq.{get_or-set_same, get_or-set_other}
use Rattle.tree.specs.Table.{Node, file, directory, name_of, empty_root, parent_below, parent_of, is_shallow, count, nodes_of}
use Rattle.tree.specs.Inner.WellFormed.{IsWellFormed}
use Rattle.tree.specs.Lookup.{is_directory, next_of}
use Rattle.tree.proofs.Laws.WellNested.{root_is}
use Rattle.tree.specs.Inner.Depths.{depth_of}
use Rattle.tree.proofs.Laws.Depth.{depth-root, depth-parent}
use Rattle.refusal.specs.Laws.Tests.{lt-or-le}
use Rattle.table.proofs.Nodes.{parent-whole}
use Rattle.table.proofs.PathLaws.{directory-depth}
use Rattle.table.proofs.RowLaws.{climb-found, climb-turn, climb-end}
use Rattle.tree.proofs.Laws.Accepted.{length-nodes_of}
use Rattle.listing.proofs.Tables.{Read}
use Rattle.listing.specs.Inner.Around.{Chain, Climbs, Ends, Named, no_bytes}

-- ---- the first entry after the root

chain-root : (nodes : List Node) → IsWellFormed nodes → Chain nodes (replicate 65 0) 1 1
chain-root nodes w = record {
  long = length-replicate {A = ℕ} 65 0;
  some = omega arith;
  few = omega arith;
  root = refl;
  before = λ i h. let e : i ≡ 0 = omega arith in rw e (omega arith);
  directories = λ i h. let e : i ≡ 0 = omega arith in rw (e, root_is nodes w);
  nested = λ i h. absurd (omega arith);
}

pub chain-start : (tab : List ℕ) → Read tab → Chain (nodes_of tab) (replicate 65 0) 1 1
chain-start tab r = chain-root (nodes_of tab) r.is.well

pub climbs-start : (nodes : List Node) → Climbs nodes (replicate 65 0) 1 1
climbs-start nodes = parent-whole nodes 1

module _ {nodes : List Node} {dirs : List ℕ} {d k : ℕ} (c : Chain nodes dirs d k) where
  -- ---- fewer of them

  chain-shorter : (e : ℕ) → 0 < e → e ≤ d → Chain nodes dirs e k
  chain-shorter e h l = record {
    long = c.long;
    some = h;
    few = omega (arith, c.few);
    root = c.root;
    before = λ i q. c.before i (omega arith);
    directories = λ i q. c.directories i (omega arith);
    nested = λ i q. c.nested i (omega arith);
  }

  -- before a later entry too
  chain-later : Chain nodes dirs d (k + 1)
  chain-later = record {
    long = c.long;
    some = c.some;
    few = c.few;
    root = c.root;
    before = λ i q. omega (arith, c.before i q);
    directories = c.directories;
    nested = c.nested;
  }

  -- ---- their depth

  module _ (w : IsWellFormed nodes) (few : k < length nodes) where
    depth_is : (i : ℕ) → i < d → depth_of nodes (get_or dirs i 0) ≡ i
    depth_is zero h = rw c.root (depth-root nodes)
    depth_is (suc i) h =
        let n : i + 1 ≡ suc i = add-one i in
        let q = rw n at (c.nested i (omega arith)) in
        depth-parent nodes (get_or dirs (suc i) 0) w q.0 (omega (arith, c.before (suc i) h)) ∙ ap suc (ap (depth_of nodes) q.1 ∙ depth_is i (omega arith))

-- ---- those that are done, left out

module _ (nodes : List Node) (dirs : List ℕ) (d k : ℕ) (b : Chain nodes dirs d k × Climbs nodes dirs d k) where
  -- entry k is among those of the last
  pub shut-found : (n : ℕ) → n ≡ next_of (get_or nodes (get_or dirs (d - 1) 0) empty_root) → k < n → Ends nodes dirs d k
  shut-found n e h = record { chain = b.0; last = b.1 ∙ climb-found nodes k (get_or dirs (d - 1) 0) (rw e at h) }

  -- only the root is left
  pub shut-root : d ≤ 1 → Ends nodes dirs d k
  shut-root h =
      let n : d - 1 ≡ 0 = omega arith in
      let e : get_or dirs (d - 1) 0 ≡ 0 = ap (λ (i : ℕ). get_or dirs i 0) n ∙ b.0.root in
      record { chain = b.0; last = b.1 ∙ climb-end nodes k (get_or dirs (d - 1) 0) e ∙ sym e }

  -- it is not: the last is left out
  pub shut-turn : (n : ℕ) → 1 < d → n ≡ next_of (get_or nodes (get_or dirs (d - 1) 0) empty_root) → n ≤ k → Chain nodes dirs (d - 1) k × Climbs nodes dirs (d - 1) k
  shut-turn n h f l =
      let m : d - 1 - 1 + 1 ≡ d - 1 = omega arith in
      let q = rw m at (b.0.nested (d - 1 - 1) (omega arith)) in (
        chain-shorter b.0 (d - 1) (omega arith) (omega arith),
        b.1 ∙ climb-turn nodes k (get_or dirs (d - 1) 0) q.0 (b.0.before (d - 1) (omega arith)) (rw f at l) ∙ ap (λ (p : ℕ). parent_below nodes k (p + 1)) q.1,
      )

-- ---- one entry further

module _ {nodes : List Node} {dirs : List ℕ} {d k : ℕ} (a : Ends nodes dirs d k) (w : IsWellFormed nodes) (some : 0 < k) (few : k < length nodes) where
  c : Chain nodes dirs d k
  c = a.chain

  enter-room : is_shallow nodes ≡ true → is_directory (get_or nodes k empty_root) ≡ true → d < 65
  enter-room s h =
      let e : depth_of nodes k ≡ suc (depth_of nodes (get_or dirs (d - 1) 0)) = depth-parent nodes k w some few ∙ ap (λ (p : ℕ). suc (depth_of nodes p)) a.last in
      omega (arith, c.some, depth_is c w few (d - 1) (omega (arith, c.some)), directory-depth nodes k w s few h)

  pass-file : is_directory (get_or nodes k empty_root) ≡ false → Climbs nodes dirs d (k + 1)
  pass-file h = parent-whole nodes (k + 1) ∙ climb-turn nodes (k + 1) k some (omega arith) (ended (get_or nodes k empty_root) h) ∙ ap (λ (p : ℕ). parent_below nodes (k + 1) (p + 1)) a.last
    where
      ended : (x : Node) → is_directory x ≡ false → next_of x ≤ k + 1
      ended (file nm offset size) q = omega arith
      ended (directory nm next) q = let z : ◌≡◌ {A = ℕ} 0 1 = cc in absurd (omega arith)

  module _ (h : is_directory (get_or nodes k empty_root) ≡ true) (room : d < 65) where
    kept : (i : ℕ) → i < d → get_or (set dirs d k) i 0 ≡ get_or dirs i 0
    kept i q = get_or-set_other dirs d i k 0 (λ e. omega arith)

    new : get_or (set dirs d k) d 0 ≡ k
    new = get_or-set_same dirs d k 0 (omega (arith, c.long))

    enter-directory : Chain nodes (set dirs d k) (d + 1) (k + 1) × Climbs nodes (set dirs d k) (d + 1) (k + 1)
    enter-directory = (
      record {
        long = length-set dirs d k ∙ c.long;
        some = omega arith;
        few = omega arith;
        root = kept 0 c.some ∙ c.root;
        before = λ i q. ⊎_elim (λ l. rw (kept i l) (omega (arith, c.before i l))) (λ (l : d ≤ i). let e : i ≡ d = omega arith in rw (e, new) (omega arith)) (lt-or-le i d);
        directories = λ i q. ⊎_elim (λ l. rw (kept i l) (c.directories i l)) (λ (l : d ≤ i). let e : i ≡ d = omega arith in rw (e, new) h) (lt-or-le i d);
        nested = λ i q. ⊎_elim (λ l. rw (kept (i + 1) l, kept i (omega arith)) (c.nested i l)) (λ l. last-nested i (omega arith)) (lt-or-le (i + 1) d);
      },
      parent-whole nodes (k + 1) ∙ ap (λ (p : ℕ). parent_below nodes (k + 1) (p + 1)) (sym new'),
    )
      where
        new' : get_or (set dirs d k) (d + 1 - 1) 0 ≡ k
        new' = let e : d + 1 - 1 ≡ d = omega arith in rw e new

        last-nested : (i : ℕ) → i + 1 ≡ d → (0 < get_or (set dirs d k) (i + 1) 0) × (parent_of nodes (get_or (set dirs d k) (i + 1) 0) ≡ get_or (set dirs d k) i 0)
        last-nested i e =
            let n : i ≡ d - 1 = omega arith in
            let o : get_or (set dirs d k) i 0 ≡ get_or dirs (d - 1) 0 = kept i (omega arith) ∙ ap (λ (j : ℕ). get_or dirs j 0) n in
            rw (e, new, o) (some, a.last)

-- the same of a table's entries, by the kind that was read
module _ (tab dirs : List ℕ) (d k : ℕ) (b : Bool) (a : Ends (nodes_of tab) dirs d k) (r : Read tab) (some : 0 < k) (few : k < count tab)
    (asked : b ≡ is_directory (get_or (nodes_of tab) k empty_root)) where
  inside : k < length (nodes_of tab)
  inside = rw (length-nodes_of tab) few

  pub entered-room : b ≡ true → d < 65
  entered-room h = enter-room a r.is.well some inside r.is.depth (sym asked ∙ h)

  pub entered : b ≡ true → Chain (nodes_of tab) (set dirs d k) (d + 1) (k + 1) × Climbs (nodes_of tab) (set dirs d k) (d + 1) (k + 1)
  entered h = enter-directory a r.is.well some inside (sym asked ∙ h) (entered-room h)

  pub passed : b ≡ false → Chain (nodes_of tab) dirs d (k + 1) × Climbs (nodes_of tab) dirs d (k + 1)
  passed h = (chain-later a.chain, pass-file a r.is.well some inside (sym asked ∙ h))

-- ---- their names

pub named-start : (nodes : List Node) (names : List (Bor (List ℕ))) → length names ≡ 65 → Named nodes (replicate 65 0) names 1
named-start nodes names h = record { long = h; each = λ i p q. absurd (omega arith) }

module _ {nodes : List Node} {dirs : List ℕ} {names : List (Bor (List ℕ))} {d : ℕ} (m : Named nodes dirs names d) where
  pub named-shorter : (e : ℕ) → e ≤ d → Named nodes dirs names e
  named-shorter e h = record { long = m.long; each = λ i p q. m.each i p (omega arith) }

  pub named-more : (k : ℕ) (b : Bor (List ℕ)) → length dirs ≡ 65 → d < 65 → b.now ≡ name_of (get_or nodes k empty_root) → Named nodes (set dirs d k) (set names d b) (d + 1)
  named-more k b l room e = record {
    long = length-set names d b ∙ m.long;
    each = λ i p q. ⊎_elim (λ j. before i p j) (λ (j : d ≤ i). let n : i ≡ d = omega arith in rw n last) (lt-or-le i d);
  }
    where
      before : (i : ℕ) → 0 < i → i < d → (get_or (set names d b) i no_bytes).now ≡ name_of (get_or nodes (get_or (set dirs d k) i 0) empty_root)
      before i p q = rw (get_or-set_other names d i b no_bytes (λ x. omega arith), get_or-set_other dirs d i k 0 (λ x. omega arith)) (m.each i p q)

      last : (get_or (set names d b) d no_bytes).now ≡ name_of (get_or nodes (get_or (set dirs d k) d 0) empty_root)
      last = rw (get_or-set_same names d b no_bytes (omega (arith, m.long)), get_or-set_same dirs d k 0 (omega (arith, l))) e
