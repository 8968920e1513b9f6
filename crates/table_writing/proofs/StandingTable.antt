-- A table that stands in the working bytes: what is read of it, and that one which was built stands there. Assumes nothing.
use Rattle.std.specs.Prelude.{Result, Ok}
use Rattle.refusal.specs.declared.Refusal.{Refusal}
use Prim.Native.Nat.{ℕ, suc, ◌+◌, ◌-◌, ◌*◌, ◌<◌, ◌≤◌}
use mathlib.Core.Path.{◌≡◌, refl, sym, ap, ◌∙◌}
use mathlib.Core.Bool.{Bool, true, false}
use mathlib.Core.List.{List, ◌++◌, tail}
use native.Mathlib.Omega.{arith}
use native.Mathlib.Nat.{zero-add}
use lib.ListN.{length, get_or, take, drop, take-append-drop}
use lib.Seq.{length-take-le, take-append_seam}
use Rattle.endian.specs.Bytes.{be32, put}
use Rattle.endian.specs.Laws.Stored.{length-put, put_in}
use Rattle.tree.specs.Table.{Node, file, directory, empty_root, count, size_or_next, offset_or_parent, nodes_of, is_enclosing, parent_of, texts_of, encode}
use Rattle.tree.specs.Inner.WellFormed.{IsWellFormed}
use Rattle.tree.proofs.Laws.WellNested.{root_is, not-empty, parent-inside}
use Rattle.tree.proofs.Laws.Nesting.{parent-before}
use Rattle.tree.proofs.Laws.Renumbered.{directory-is}
use Rattle.tree.specs.Inner.Depths.{depth_of}
use Rattle.tree.specs.Lookup.{next_of}
use Rattle.tree.proofs.Laws.Depth.{depth-root, depth-parent}
use Rattle.tree.proofs.Laws.RoundTrip.{Within, within-limits, written-reads, written-accepted}
use Rattle.tree.proofs.Laws.WrittenEntries.{length-encode}
use Rattle.tree.proofs.Laws.Writing.{Fields, text_start, written-fields}
use borrow.Author.Tests.{lt-ltb, le-ltb}
use Rattle.tree.proofs.Laws.Accepted.{length-nodes_of}
use Rattle.table.specs.Inner.Reading.{Opens}
use Rattle.table_writing.proofs.Patches.{SameEntry, same-entry}
use Rattle.table_writing.specs.Inner.Growth.{tree_in, Stands, IsDirectory, is_depth_allowed, IsBuilt}
use Rattle.endian.proofs.Parts.{put-start}

-- ---- what is read of the table

module _ (s : List ℕ) (size words : ℕ) (st : Stands s size words) where
  abbrev pub M : List Node
  M = tree_in s size

  pub size_is : size ≡ length (encode M)
  size_is = sym (length-take-le size s st.held) ∙ ap length st.same

  pub front : put s 0 (encode M) ≡ s
  front =
      ap (put s 0) (sym st.same) ∙ put-start s (take size s)
      ∙ ap (λ (n : ℕ). take size s ++ drop n s) (length-take-le size s st.held) ∙ take-append-drop size s

  pub inside : Within M words
  inside = within-limits M words st.within

  pub entry-held : (k : ℕ) → k < length M → 12 * k + 12 ≤ length s
  entry-held k h = omega (arith, size_is, length-encode M, st.held)

  same : (k : ℕ) → k < length M → SameEntry s (encode M) k
  same k h =
      same-entry s (encode M) k
      (λ i l. sym (ap (λ (x : List ℕ). get_or x i 0) front) ∙ (rw (zero-add i) at (put_in s 0 (encode M) (omega (arith, size_is, st.held)) i (omega (arith, length-encode M)))))

  fields : (k : ℕ) → k < length M → Fields (encode M) k (parent_of M k) (text_start M k) (get_or M k empty_root)
  fields k h = let w = inside in written-fields M k st.well (omega arith) (omega arith) h

  directory-fields : (k n : ℕ) (nm : List ℕ) → k < length M → get_or M k empty_root ≡ directory nm n → (offset_or_parent s k ≡ parent_of M k) × (size_or_next s k ≡ n)
  directory-fields k n nm h e =
      let f : Fields (encode M) k (parent_of M k) (text_start M k) (directory nm n) = rw e at (fields k h) in
      ((same k h).places ∙ f.2, (same k h).nexts ∙ f.3)

  pub stored-parent : (k : ℕ) → IsDirectory M k → be32 s (12 * k + 4) ≡ parent_of M k
  stored-parent k d = let x = directory-is (get_or M k empty_root) d.kind in (directory-fields k _ x.0 d.inside x.1).0

  pub parent-read : (k r : ℕ) → IsDirectory M k → r ≡ be32 s (12 * k + 4) → r ≡ parent_of M k
  parent-read k r d e = e ∙ stored-parent k d

  pub next-read : (p : ℕ) → IsDirectory M p → size_or_next s p ≡ next_of (get_or M p empty_root)
  next-read p d = let x = directory-is (get_or M p empty_root) d.kind in (directory-fields p _ x.0 d.inside x.1).1 ∙ sym (ap next_of x.1)

  pub count-is : be32 s 8 ≡ length M
  count-is = (directory-fields 0 (length M) _ (not-empty M st.well) (root_is M st.well)).1

  pub texts-are : size - 12 * length M ≡ length (texts_of (tail M))
  texts-are = omega (arith, size_is, length-encode M)

  -- it is an accepted table
  pub opens-held : (k : ℕ) → k < length M → Opens (take size s) × (k < count (take size s))
  unfolding tree_in
  opens-held k h =
      (record { words = words; passed = rw st.same (written-accepted (tree_in s size) words st.well st.within) }, rw (← length-nodes_of (take size s)) h)

-- ---- the depth, counted from a directory up to the root

pub record Counted (nodes : List Node) (k at n : ℕ) : Type 0 where
  pub is : IsDirectory nodes at
  pub counted : depth_of nodes k ≡ depth_of nodes at + n
  pub most : n + at ≤ k

parent-directory : (nodes : List Node) (k : ℕ) → IsWellFormed nodes → 0 < k → k < length nodes → IsDirectory nodes (parent_of nodes k)
parent-directory nodes k w z h = go (get_or nodes (parent_of nodes k) empty_root) refl (parent-inside nodes k w z h).1
  where
    b : parent_of nodes k < k
    b = parent-before nodes k z

    go : (x : Node) → get_or nodes (parent_of nodes k) empty_root ≡ x → is_enclosing (get_or nodes (parent_of nodes k) empty_root) k ≡ true → IsDirectory nodes (parent_of nodes k)
    go (file nm a e) q i = let z : false ≡ true = rw q at i in let n : ◌≡◌ {A = ℕ} 0 1 = cc in absurd (omega arith)
    go (directory nm n) q i = record { inside = omega (arith, b); kind = rw q }

pub depth-up : (s : List ℕ) (size words k at n up : ℕ) → Stands s size words → Counted (tree_in s size) k at n → 0 < at → up ≡ parent_of (tree_in s size) at → (up < at) × Counted (tree_in s size) k up (n + 1)
depth-up s size words k at n up st c z e =
    let M : List Node = tree_in s size in
    let b : parent_of M at < at = parent-before M at z in
    let d : depth_of M at ≡ suc (depth_of M (parent_of M at)) = depth-parent M at st.well z c.is.inside in
    rw e (b, record { is = parent-directory M at st.well z c.is.inside; counted = omega (arith, c.counted); most = omega (arith, c.most) })

pub depth-done : (nodes : List Node) (k at n : ℕ) → Counted nodes k at n → at ≤ 0 → n ≡ depth_of nodes k
depth-done nodes k at n c h =
    let z : at ≡ 0 = omega arith in
    omega (arith, c.counted, ap (depth_of nodes) z, depth-root nodes)

pub depth-turn : (s : List ℕ) (size words k at n up : ℕ) → Stands s size words → Counted (tree_in s size) k at n → 0 < at → up ≡ parent_of (tree_in s size) at → Counted (tree_in s size) k up (n + 1)
depth-turn s size words k at n up st c z e = (depth-up s size words k at n up st c z e).1

pub counted-none : (nodes : List Node) (k : ℕ) → IsDirectory nodes k → Counted nodes k k 0
counted-none nodes k d = record { is = d; counted = omega arith; most = omega arith }

-- the root is reached before so many directories are passed, or it is not
pub shallow : (nodes : List Node) (k at n : ℕ) (d : Bool) → Counted nodes k at n → at ≡ 0 → n < 64 → true ≡ is_depth_allowed d (depth_of nodes k)
shallow nodes k at n true c z h = sym (lt-ltb (depth_of nodes k) 64 (omega (arith, depth-done nodes k at n c)))
shallow nodes k at n false c z h = refl

pub deep : (nodes : List Node) (k at n : ℕ) (d : Bool) → Counted nodes k at n → 64 ≤ n → d ≡ true → false ≡ is_depth_allowed d (depth_of nodes k)
deep nodes k at n true c h e = sym (le-ltb (depth_of nodes k) 64 (omega (arith, c.counted)))
deep nodes k at n false c h e = e

-- ---- a tree that was built stands there

pub built-stands : (F : List Node) (words : ℕ) (s t : List ℕ) (r : Result ℕ Refusal) (n : ℕ) → IsWellFormed F → IsBuilt F words s t r → r ≡ Ok n → Stands t n words × (tree_in t n ≡ F)
unfolding tree_in
built-stands F words s t r n w built is =
    let b : IsBuilt F words s t (Ok n) = rw is at built in
    let e : take n t ≡ encode F = rw (b.3, b.1, put-start s (encode F)) (take-append_seam (encode F) (drop (length (encode F)) s)) in
    let q : nodes_of (take n t) ≡ F = ap nodes_of e ∙ written-reads F words w b.0 in
    let l : length t ≡ length s = ap length b.3 ∙ length-put s 0 (encode F) (omega (arith, b.1, b.2)) in
    (record { well = rw q w; same = rw q e; held = omega (arith, b.2); within = rw q b.0 }, q)
