-- A table that stands in the working bytes with one entry more: its limits, its size, and that it then stands there. Assumes nothing.
use Rattle.std.specs.Prelude.{Result, Ok, Err}
use Prim.Native.Nat.{ℕ, suc, ◌+◌, ◌-◌, ◌*◌, ◌<◌, ◌≤◌, ◌^◌}
use mathlib.Core.Path.{◌≡◌, refl, sym, ap, ◌∙◌}
use mathlib.Core.Logic.{⊎_elim}
use mathlib.Core.Bool.{Bool, true, false, not, ◌&&◌}
use mathlib.Core.List.{List, tail}
use native.Mathlib.Omega.{arith}
use borrow.Author.Tests.{lt-ltb, le-ltb}
use lib.Dec.{ltb, leb}
use lib.ListN.{length, get_or, take}
use mir.Syntax.{w64}
use mir.Val.{Fits}
use Rattle.endian.specs.Bytes.{put}
use Rattle.refusal.specs.declared.Refusal.{Refusal}
use Rattle.refusal.specs.declared.Refusal.TheVariants.{LimitOrMemory}
use Rattle.refusal.specs.Refusal.{refuse}
use Rattle.tree.specs.Table.{Node, name_of, empty_root, size_or_next, texts_of, encode, limits}
use Rattle.tree.specs.Inner.WellFormed.{IsGoodName, IsWellFormed}
use Rattle.tree.specs.Lookup.{next_of}
use Rattle.tree.proofs.Laws.InsertWalk.{depth_ok}
use Rattle.tree.specs.Inner.Depths.{depth_of}
use Rattle.tree.specs.Inner.Patch.{insert_patch}
use Rattle.tree.proofs.Laws.Depth.{limits-insert}
use Rattle.tree.proofs.Laws.Renumbered.{directory-is}
use Rattle.tree.proofs.Laws.Growing.{Bigger, bigger-insert, limits-either}
use Rattle.tree.proofs.Laws.Size.{size-insert}
use Rattle.tree.proofs.Laws.RoundTrip.{Within, within-limits}
use Rattle.tree.proofs.Laws.WrittenEntries.{length-encode}
use Rattle.table_writing.specs.Inner.Inserting.{new_node, IsInsertable}
use Rattle.table_writing.proofs.Patches.{new-name}
use Rattle.table_writing.proofs.Written.{fresh-new, insertable, insert-written}
use Rattle.table_writing.specs.Inner.Growth.{tree_in, Stands, IsDirectory, tree_with_child, is_depth_allowed, IsBuilt}
use Rattle.table_writing.proofs.StandingTable.{size_is, front, inside, next-read, built-stands}

-- ---- one entry more

depth-new : (d : Bool) (nm : List ℕ) (q n : ℕ) → depth_ok (suc n) (new_node d nm q) ≡ is_depth_allowed d n
depth-new true nm q n = both (ltb n 64) refl
  where
    both : (t : Bool) → ltb n 64 ≡ t → leb (suc n) 64 ≡ ltb n 64
    both t e = refl
depth-new false nm q n = refl

module _ (M : List Node) (d : Bool) (p : ℕ) (nm : List ℕ) (w : IsWellFormed M) (dir : IsDirectory M p) (good : IsGoodName nm) where
  q : ℕ
  q = next_of (get_or M p empty_root)

  abbrev new : Node
  new = new_node d nm (next_of (get_or M p empty_root))

  named : IsGoodName (name_of new)
  named = rw (new-name d nm (next_of (get_or M p empty_root))) good

  pub bigger-tree_with_child : Bigger M (tree_with_child M d p nm)
  bigger-tree_with_child = let x = directory-is (get_or M p empty_root) dir.kind in
      bigger-insert M p (next_of (get_or M p empty_root)) x.0 new w x.1 dir.inside named (fresh-new d nm (next_of (get_or M p empty_root)))

  pub limits-tree_with_child : (words : ℕ) → Within M words →
      limits (tree_with_child M d p nm) words ≡
      refuse (ltb 16384 (suc (length M))) LimitOrMemory
      (refuse (ltb 1048576 (length (texts_of (tail M)) + suc (length nm))) LimitOrMemory
      (refuse (ltb words (4 * (suc (length M) + 2))) LimitOrMemory
      (refuse (not (is_depth_allowed d (depth_of M p))) LimitOrMemory (Ok tt))))
  limits-tree_with_child words i =
      let x = directory-is (get_or M p empty_root) dir.kind in
      limits-insert M p (next_of (get_or M p empty_root)) x.0 new words w x.1 dir.inside named (fresh-new d nm (next_of (get_or M p empty_root)))
      ∙ rw (new-name d nm (next_of (get_or M p empty_root)), depth-new d nm (next_of (get_or M p empty_root)) (depth_of M p), i.depth, and-true (is_depth_allowed d (depth_of M p)))
    where
      and-true : (t : Bool) → (t && true) ≡ t
      and-true true = refl
      and-true false = refl

  -- the tests one by one, in the order in which the code makes them
  module _ (words : ℕ) (i : Within M words) where
    abbrev F : List Node
    F = tree_with_child M d p nm

    pub too_many : 16384 ≤ length M → limits F words ≡ Err LimitOrMemory
    too_many h = limits-tree_with_child words i ∙ rw (lt-ltb 16384 (suc (length M)) (omega arith))

    pub too_long : length M < 16384 → 1048576 - length (texts_of (tail M)) ≤ length nm → limits F words ≡ Err LimitOrMemory
    too_long a h =
        limits-tree_with_child words i
        ∙ rw (le-ltb 16384 (suc (length M)) (omega arith), lt-ltb 1048576 (length (texts_of (tail M)) + suc (length nm)) (omega (arith, i.texts)))

    pub too_few : length M < 16384 → length nm < 1048576 - length (texts_of (tail M)) → words < 4 * (length M + 3) → limits F words ≡ Err LimitOrMemory
    too_few a b h =
        limits-tree_with_child words i
        ∙ rw (
          le-ltb 16384 (suc (length M)) (omega arith),
          le-ltb 1048576 (length (texts_of (tail M)) + suc (length nm)) (omega (arith, i.texts)),
          lt-ltb words (4 * (suc (length M) + 2)) (omega arith),
        )

    pub depth-decides : (t : Bool) → length M < 16384 → length nm < 1048576 - length (texts_of (tail M)) → 4 * (length M + 3) ≤ words → t ≡ is_depth_allowed d (depth_of M p) →
        limits F words ≡ refuse (not t) LimitOrMemory (Ok tt)
    depth-decides t a b h e =
        limits-tree_with_child words i
        ∙ rw (
          le-ltb 16384 (suc (length M)) (omega arith),
          le-ltb 1048576 (length (texts_of (tail M)) + suc (length nm)) (omega (arith, i.texts)),
          le-ltb words (4 * (suc (length M) + 2)) (omega arith),
          e,
        )

-- ---- the table with one entry more, written over the old one

pub past-cause : (F : List Node) (words : ℕ) (c : Refusal) → Err c ≡ limits F words → c ≡ LimitOrMemory
past-cause F words c e = ⊎_elim (λ q. let z : ◌≡◌ {A = ℕ} 0 1 = cc in absurd (omega arith)) (λ q. cc) (limits-either F words)

pub past-never : (F : List Node) (words : ℕ) (s : List ℕ) (c : Refusal) → Err c ≡ limits F words → limits F words ≡ Ok tt → length s < length (encode F)
past-never F words s c e f = let z : ◌≡◌ {A = ℕ} 0 1 = cc in absurd (omega arith)

module _ (s : List ℕ) (size words : ℕ) (st : Stands s size words) (d : Bool) (p : ℕ) (nm : List ℕ) (dir : IsDirectory (tree_in s size) p) (good : IsGoodName nm) where
  abbrev T : List Node
  T = tree_in s size

  abbrev G : List Node
  G = tree_with_child (tree_in s size) d p nm

  well : IsWellFormed (tree_in s size)
  well = st.well

  pub grown-size : length (encode G) ≡ size + 12 + length nm + 1
  grown-size =
      let x = directory-is (get_or T p empty_root) dir.kind in
      let new : Node = new_node d nm (next_of (get_or T p empty_root)) in
      omega (arith, size_is s size words st, size-insert T p (next_of (get_or T p empty_root)) x.0 new well x.1 dir.inside, ap length (new-name d nm (next_of (get_or T p empty_root))))

  pub short-built : (t : List ℕ) → length s < size + 12 + length nm + 1 → IsBuilt G words s t (Err LimitOrMemory)
  short-built t h = (refl, λ e. omega (arith, grown-size))

  module _ (passed : Ok tt ≡ limits G words) where
    small : size + 12 + length nm + 1 ≤ 2 ^ 24
    small = let w = within-limits G words (sym passed) in omega (arith, grown-size, length-encode G, w.few, w.texts)

    pub name-fits : Fits w64 (size + 12 + length nm)
    name-fits = record { fits = omega (arith, small) }

    pub grown-size-fits : Fits w64 (size + 12 + length nm + 1)
    grown-size-fits = record { fits = omega (arith, small) }

    module _ (room : size + 12 + length nm + 1 ≤ length s) where
      pub may-insert : IsInsertable s size p (length nm)
      may-insert =
          let x = directory-is (get_or T p empty_root) dir.kind in
          let i : IsInsertable (put s 0 (encode T)) (length (encode T)) p (length nm) =
          insertable s T p (next_of (get_or T p empty_root)) x.0 d nm well x.1 dir.inside (inside s size words st).few (omega (arith, size_is s size words st)) (omega (arith, size_is s size words st, small)) in
          rw (front s size words st, ← (size_is s size words st)) at i

      pub inserted-built : (t : List ℕ) → t ≡ put s 0 (insert_patch (take size s) (size_or_next s 0) p (new_node d nm (size_or_next s p))) → IsBuilt G words s t (Ok (size + 12 + length nm + 1))
      inserted-built t g =
          let x = directory-is (get_or T p empty_root) dir.kind in
          let i : put (put s 0 (encode T)) 0 (insert_patch (take (length (encode T)) (put s 0 (encode T))) (size_or_next (put s 0 (encode T)) 0) p (new_node d nm (size_or_next (put s 0 (encode T)) p))) ≡ put s 0 (encode G) =
          insert-written s T p (next_of (get_or T p empty_root)) x.0 d nm well x.1 dir.inside (inside s size words st).few (omega (arith, size_is s size words st)) (omega (arith, size_is s size words st, small)) in
          (sym passed, sym grown-size, room, g ∙ (rw (front s size words st, ← (size_is s size words st)) at i))

  -- and then stands there, the new entry under the number that is returned
  module _ (passed : Ok tt ≡ limits G words) (room : size + 12 + length nm + 1 ≤ length s) where
    pub inserted-number : (number : ℕ) → number ≡ size_or_next s p → number ≡ next_of (get_or T p empty_root)
    inserted-number number e = e ∙ next-read s size words st p dir

    module _ (t : List ℕ) (g : t ≡ put s 0 (insert_patch (take size s) (size_or_next s 0) p (new_node d nm (size_or_next s p)))) where
      stands : Stands t (size + 12 + length nm + 1) words × (tree_in t (size + 12 + length nm + 1) ≡ G)
      stands = built-stands G words s t (Ok (size + 12 + length nm + 1)) _ (bigger-tree_with_child T d p nm well dir good).well (inserted-built passed room t g) refl

      pub inserted-stands : Stands t (size + 12 + length nm + 1) words
      inserted-stands = stands.0

      pub inserted-tree : tree_in t (size + 12 + length nm + 1) ≡ G
      inserted-tree = stands.1

  -- what grew stands there
  module _ (t : List ℕ) (r : Result ℕ Refusal) (built : IsBuilt G words s t r) (n : ℕ) (e : r ≡ Ok n) where
    pub grown : Stands t n words × (tree_in t n ≡ G)
    grown = built-stands G words s t r n (bigger-tree_with_child T d p nm well dir good).well built e

    pub grown-stands : Stands t n words
    grown-stands = grown.0
