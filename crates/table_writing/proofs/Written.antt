-- For callers: a table that was written to the front of lent bytes can be changed there, and is then the table of the changed tree.
-- Assumes nothing.
use Prim.Native.Nat.{ℕ, ◌+◌, ◌*◌, ◌≤◌, ◌<◌, ◌^◌}
use mathlib.Core.Path.{◌≡◌, refl, ap, ◌∙◌}
use mathlib.Core.Bool.{Bool, true, false}
use mathlib.Core.List.{List, [], ◌++◌, tail, append_assoc}
use native.Mathlib.Omega.{arith}
use native.Mathlib.Nat.{zero-add}
use lib.ListN.{length, get_or, take, drop}
use lib.Seq.{take-append-le, drop-append-le}
use Rattle.endian.specs.Bytes.{put}
use Rattle.endian.specs.Laws.Stored.{length-put, put_in, drop-put}
use Rattle.tree.specs.Table.{Node, file, directory, empty_root, name_offset, size_or_next, parent_below, parent_of, texts_of, encode}
use Rattle.tree.specs.Inner.WellFormed.{IsWellFormed}
use Rattle.tree.proofs.Laws.WrittenEntries.{length-encode}
use Rattle.tree.proofs.Laws.Nesting.{parent-most}
use Rattle.tree.proofs.Laws.WellNested.{root_is, next-bounds}
use Rattle.tree.specs.Insert.{insert_at}
use Rattle.tree.proofs.Laws.InsertLaws.{Fresh}
use Rattle.tree.proofs.Laws.Writing.{text_start, start-most, Fields, written-fields}
use Rattle.tree.specs.Inner.Patch.{insert_patch}
use Rattle.tree.proofs.Laws.PatchLaws.{insert-patched, offset_read, next-read}
use Rattle.tree.proofs.Laws.Size.{size-insert}
use Rattle.table_writing.specs.Inner.Inserting.{new_node, IsRaisable, IsInsertable}
use Rattle.table_writing.proofs.Patches.{SameEntry, same-entry, raisable-same, new-name}
use Rattle.endian.proofs.Parts.{take_put, put-start}

-- ---- a table at the front

put-left : (t r : List ℕ) (at : ℕ) (bs : List ℕ) → at + length bs ≤ length t → put (t ++ r) at bs ≡ put t at bs ++ r
unfolding put
put-left t r at bs h =
    rw (take-append-le at t r (omega arith), drop-append-le (at + length bs) t r h, append_assoc (take at t) (bs ++ drop (at + length bs) t) r, append_assoc bs (drop (at + length bs) t) r)

-- a change inside the table
pub put-inside : (b t : List ℕ) (at : ℕ) (bs : List ℕ) → at + length bs ≤ length t → put (put b 0 t) at bs ≡ put b 0 (put t at bs)
put-inside b t at bs h =
    rw (put-start b t, put-start b (put t at bs), length-put t at bs h) (put-left t (drop (length t) b) at bs h)

-- a longer table over a shorter one
pub put-over : (b t t' : List ℕ) → length t ≤ length t' → length t ≤ length b → put (put b 0 t) 0 t' ≡ put b 0 t'
put-over b t t' h f =
    rw (put-start (put b 0 t) t', put-start b t') (ap (λ (l : List ℕ). t' ++ l) (drop-put b 0 t (omega arith) (length t') (omega arith)))

pub take-front : (b t : List ℕ) → length t ≤ length b → take (length t) (put b 0 t) ≡ t
take-front b t h = rw (zero-add (length t)) at (take_put b 0 t (omega arith))

same-front : (b t : List ℕ) (k : ℕ) → length t ≤ length b → 12 * k + 12 ≤ length t → SameEntry (put b 0 t) t k
same-front b t k h f =
    same-entry (put b 0 t) t k (λ i l. rw (zero-add i) at (put_in b 0 t (omega arith) i (omega arith)))

-- ---- one entry more

parent-zero : (nodes : List Node) → parent_of nodes 0 ≤ 0
unfolding parent_of parent_below
parent-zero nodes = omega arith

raisable-with : (tab : List ℕ) (k c par o : ℕ) (x : Node) → c ≤ 16384 → par ≤ c → ((nm : List ℕ) (n : ℕ) → x ≡ directory nm n → n ≤ c) → Fields tab k par o x → IsRaisable tab k
raisable-with tab k c par o (file nm a e) few p n f =
    record { kinds = omega (arith, f.0); place = λ h. absurd (omega (arith, f.0)); next = λ h. absurd (omega (arith, f.0)) }
raisable-with tab k c par o (directory nm next) few p n f =
    record { kinds = omega (arith, f.0); place = λ h. omega (arith, f.2); next = λ h. omega (arith, f.3, n nm next refl) }

pub fresh-new : (d : Bool) (nm : List ℕ) (q : ℕ) → Fresh q (new_node d nm q)
fresh-new true nm q = refl
fresh-new false nm q = (omega arith, omega arith)

module _ (b : List ℕ) (nodes : List Node) (p q : ℕ) (pm : List ℕ) (d : Bool) (nm : List ℕ)
    (w : IsWellFormed nodes) (here : get_or nodes p empty_root ≡ directory pm q) (p<c : p < length nodes) (few : length nodes ≤ 16384)
    (fits : length (encode nodes) + 12 + length nm + 1 ≤ length b) (small : length (encode nodes) + 12 + length nm + 1 ≤ 2 ^ 24) where
  abbrev tab : List ℕ
  tab = encode nodes

  abbrev s : List ℕ
  s = put b 0 tab

  short : length (texts_of (tail nodes)) < 2 ^ 24
  short = omega (arith, length-encode nodes)

  fields : (k : ℕ) → k < length nodes → Fields tab k (parent_of nodes k) (text_start nodes k) (get_or nodes k empty_root)
  fields k h = written-fields nodes k w (omega arith) short h

  same : (k : ℕ) → k < length nodes → SameEntry s tab k
  same k h = same-front b tab k (omega arith) (omega (arith, length-encode nodes))

  root-next : size_or_next s 0 ≡ length nodes
  root-next =
      let h : 0 < length nodes = omega arith in
      (same 0 h).nexts ∙ next-read tab 0 (parent_of nodes 0) (text_start nodes 0) (length nodes) [] (get_or nodes 0 empty_root) (fields 0 h) (root_is nodes w)

  pub parent-next : size_or_next s p ≡ q
  parent-next = (same p p<c).nexts ∙ next-read tab p (parent_of nodes p) (text_start nodes p) q pm (get_or nodes p empty_root) (fields p p<c) here

  raisable : (k : ℕ) → k < length nodes → IsRaisable s k
  raisable k h =
      raisable-same s tab k (same k h)
      (raisable-with tab k (length nodes) (parent_of nodes k) (text_start nodes k) (get_or nodes k empty_root) few (omega (arith, parent-most nodes k))
      (λ x n e. (next-bounds nodes k n x w e h).1) (fields k h))

  names : (k : ℕ) → k < length nodes → 12 * length nodes + name_offset s k ≤ length tab
  names k h =
      omega (arith, (same k h).names, offset_read tab k (parent_of nodes k) (text_start nodes k) (get_or nodes k empty_root) (fields k h), start-most nodes k h, length-encode nodes)

  pub insertable : IsInsertable s (length tab) p (length nm)
  insertable =
      let l : length s ≡ length b = length-put b 0 tab (omega arith) in
      let n = next-bounds nodes p q pm w here p<c in
      record {
        few = omega (arith, root-next);
        whole = omega (arith, root-next, length-encode nodes);
        fits = omega arith;
        small = small;
        parent = omega (arith, root-next);
        later = omega (arith, parent-next);
        within = omega (arith, parent-next, root-next);
        each = λ k h. raisable k (omega (arith, root-next));
        names = λ k h. rw root-next (names k (omega (arith, root-next)));
      }

  pub grown : length (encode (insert_at p (new_node d nm q) nodes)) ≡ length tab + 12 + length nm + 1
  grown = omega (arith, size-insert nodes p q pm (new_node d nm q) w here p<c, ap length (new-name d nm q))

  pub insert-written : put s 0 (insert_patch (take (length tab) s) (size_or_next s 0) p (new_node d nm (size_or_next s p))) ≡ put b 0 (encode (insert_at p (new_node d nm q) nodes))
  insert-written =
      rw (
        take-front b tab (omega arith),
        root-next,
        parent-next,
        insert-patched nodes p q pm (new_node d nm q) w here p<c (fresh-new d nm q) (omega arith) short,
      )
      (put-over b tab (encode (insert_at p (new_node d nm q) nodes)) (omega (arith, grown)) (omega arith))
