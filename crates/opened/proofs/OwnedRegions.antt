-- The regions of an image one by one: which stands at a place, and one turn of each loop over them. Assumes nothing.
use Prim.Native.Nat.{ℕ, suc, ◌+◌, ◌-◌, ◌<◌, ◌≤◌}
use Rattle.std.specs.Prelude.{◌≡◌, refl, Bool, true, false, not, ◌&&◌, List, [], length, take, drop, get_or, None, Some, if◌then◌else◌, nat_lt}
use Rattle.std.proofs.Common.{sym, ap, ◌∙◌, arith}
use Rattle.std.proofs.Math.Numerals.{add-one}
use Rattle.std.proofs.Math.ListN.{get_or-map}
use Rattle.std.proofs.Math.Seq.{take-suc, drop-cons}
use Rattle.std.proofs.lemmas.List.{drop_all, get_or-take, length-map, length-take-le}
use Rattle.std.specs.List.{position_from}
use Rattle.std.specs.Option.{option_or}
use Rattle.tree.specs.Table.{Node, file, directory, empty_root, count, nodes_of}
use Rattle.tree.specs.Lookup.{is_directory}
use Rattle.tree.proofs.Laws.Accepted.{length-nodes_of}
use Rattle.table.specs.Inner.Fields.{offset_of, size_or_next_of}
use Rattle.space.specs.declared.region.DiscRegion.{DiscRegion}
use Rattle.space.specs.Used.{end_of, no_region}
use Rattle.space.specs.Layout.{are_disjoint}
use Rattle.opened.specs.Opening.{region_of}
use Rattle.opened.specs.Faults.{owner_at, conflict_with, first_conflict}
use Rattle.opened.specs.Inner.Owned.{owned_in}
use Rattle.opened.specs.declared.faults.About.{About}
use Rattle.opened.specs.declared.faults.About.TheVariants as about

-- ---- region i

module _ (tab : List ℕ) (t : ℕ) (own : DiscRegion) where
  pub length-owned : length (owned_in tab t own) ≡ count tab + 2
  unfolding owned_in
  length-owned = omega (arith, length-map (nodes_of tab) region_of, length-nodes_of tab)

  pub owned-table : (i : ℕ) → i ≡ 0 → record { offset = 0; size = t } ≡ get_or (owned_in tab t own) i no_region
  unfolding owned_in
  owned-table i e = rw e refl

  pub owned-program : (i : ℕ) → i ≡ 1 → own ≡ get_or (owned_in tab t own) i no_region
  unfolding owned_in
  owned-program i e = rw e refl

  owned-entry : (i : ℕ) → (i ≡ 0 → ⊥) → (i ≡ 1 → ⊥) → get_or (owned_in tab t own) i no_region ≡ region_of (get_or (nodes_of tab) (i - 2) empty_root)
  unfolding owned_in
  owned-entry i a b =
      let e : i ≡ suc (suc (i - 2)) = omega arith in
      ap (λ (j : ℕ). get_or (owned_in tab t own) j no_region) e ∙ get_or-map region_of (nodes_of tab) (i - 2) empty_root

  module _ (i : ℕ) (a : i ≡ 0 → ⊥) (b : i ≡ 1 → ⊥) (d : Bool) (kind : d ≡ is_directory (get_or (nodes_of tab) (i - 2) empty_root)) where
    pub owned-directory : d ≡ true → record { offset = 0; size = 0 } ≡ get_or (owned_in tab t own) i no_region
    owned-directory e = sym (owned-entry i a b ∙ go (get_or (nodes_of tab) (i - 2) empty_root) (sym kind ∙ e))
      where
        go : (x : Node) → is_directory x ≡ true → region_of x ≡ record { offset = 0; size = 0 }
        go (file nm offset size) h = cc
        go (directory nm next) h = refl

    pub owned-file : d ≡ false → (offset size : ℕ) → offset ≡ offset_of (get_or (nodes_of tab) (i - 2) empty_root) → size ≡ size_or_next_of (get_or (nodes_of tab) (i - 2) empty_root) →
        record { offset = offset; size = size } ≡ get_or (owned_in tab t own) i no_region
    owned-file e offset size p q = rw (p, q) (sym (owned-entry i a b ∙ go (get_or (nodes_of tab) (i - 2) empty_root) (sym kind ∙ e)))
      where
        go : (x : Node) → is_directory x ≡ false → region_of x ≡ record { offset = offset_of x; size = size_or_next_of x }
        go (file nm offset size) h = refl
        go (directory nm next) h = cc

-- ---- the first of those before a region that shares a byte with it

module _ (p : DiscRegion → Bool) (xs : List DiscRegion) (i j : ℕ) (room : i ≤ length xs) where
  sharing-step : j < i → position_from p j (drop j (take i xs)) ≡ (if p (get_or xs j no_region) then Some j else position_from p (j + 1) (drop (j + 1) (take i xs)))
  sharing-step h =
      let l : length (take i xs) ≡ i = length-take-le i xs room in
      let n : j < length (take i xs) = omega arith in
      rw (drop-cons (take i xs) j no_region n, get_or-take i xs j no_region h, add-one j) refl

  pub sharing-here : j < i → p (get_or xs j no_region) ≡ true → position_from p j (drop j (take i xs)) ≡ Some j
  sharing-here h e = sharing-step h ∙ rw e refl

  pub sharing-later : j < i → p (get_or xs j no_region) ≡ false → position_from p j (drop j (take i xs)) ≡ position_from p (j + 1) (drop (j + 1) (take i xs))
  sharing-later h e = sharing-step h ∙ rw e refl

  pub sharing_none : i ≤ j → position_from p j (drop j (take i xs)) ≡ None
  sharing_none h =
      let l : length (take i xs) ≡ i = length-take-le i xs room in
      rw (drop_all j (take i xs) (omega arith)) refl

-- ---- what is wrong with a region

module _ (e : ℕ) (xs : List DiscRegion) (i : ℕ) (room : i ≤ length xs) (r : DiscRegion) where
  pub conflict-past : (nat_lt 0 r.size && nat_lt e (end_of r)) ≡ true → Some (about.PastEnd (owner_at i)) ≡ conflict_with e (take i xs) r
  unfolding conflict_with
  conflict-past h = rw (h, length-take-le i xs room) refl

  module _ (within : (nat_lt 0 r.size && nat_lt e (end_of r)) ≡ false) where
    pub conflict-shared : (j : ℕ) → position_from (λ x. not (are_disjoint x r)) 0 (take i xs) ≡ Some j → Some (about.Shared (owner_at j) (owner_at i)) ≡ conflict_with e (take i xs) r
    unfolding conflict_with
    conflict-shared j q = rw (within, q, length-take-le i xs room) refl

    pub conflict_none : position_from (λ x. not (are_disjoint x r)) 0 (take i xs) ≡ None → None ≡ conflict_with e (take i xs) r
    unfolding conflict_with
    conflict_none q = rw (within, q) refl

-- ---- the first region with which something is wrong

module _ (e : ℕ) (xs : List DiscRegion) (i : ℕ) where
  conflict-step : i < length xs → first_conflict e (take i xs) (drop i xs) ≡ option_or (conflict_with e (take i xs) (get_or xs i no_region)) (first_conflict e (take (i + 1) xs) (drop (i + 1) xs))
  unfolding first_conflict
  conflict-step h = rw (drop-cons xs i no_region h, add-one i, take-suc xs i no_region h) refl

  module _ (left : first_conflict e [] xs ≡ first_conflict e (take i xs) (drop i xs)) where
    pub conflict-here : i < length xs → (a : About) → Some a ≡ conflict_with e (take i xs) (get_or xs i no_region) → Some a ≡ first_conflict e [] xs
    conflict-here h a q = sym (left ∙ conflict-step h ∙ rw (← q) refl)

    pub conflict-later : i < length xs → None ≡ conflict_with e (take i xs) (get_or xs i no_region) → first_conflict e [] xs ≡ first_conflict e (take (i + 1) xs) (drop (i + 1) xs)
    conflict-later h q = left ∙ conflict-step h ∙ rw (← q) refl

    pub conflicts_none : length xs ≤ i → None ≡ first_conflict e [] xs
    unfolding first_conflict
    conflicts_none h = sym (left ∙ rw (drop_all i xs h) refl)
