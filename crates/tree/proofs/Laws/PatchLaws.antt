-- A written table changed in place is the table of the changed tree. Assumes nothing.
use Prim.Native.Nat.{ℕ, zero, suc, ◌+◌, ◌-◌, ◌*◌, ◌^◌, ◌<◌, ◌≤◌}
use Rattle.std.specs.Prelude.{◌≡◌, Bool, get_or, set}
use Rattle.std.proofs.Math.Path.{refl, ap}
use Rattle.std.proofs.Common.{sym, ◌∙◌, ⊎_elim, arith, take-append-drop, take_at, drop_at}
use Rattle.std.proofs.Math.Bool.{true, false, cond}
use mathlib.Core.List.{List, [], ◌∷◌, ◌++◌, map, tail, append_assoc}
use borrow.Author.Tests.{ltb-true, ltb-false, eqb-true, eqb-false}
use Rattle.std.proofs.Math.ListN.{length, take, drop, length-append}
use Rattle.std.proofs.Math.Dec.{ltb, eqb}
use Rattle.endian.specs.Bytes.{be32_bytes, put}
use Rattle.refusal.specs.Laws.Tests.{lt-or-le}
use Rattle.tree.specs.Table.{Node, file, directory, name_of, empty_root, name_offset, size_or_next, node_bytes, parent_of, texts_of, encode}
use Rattle.tree.specs.Inner.WellFormed.{IsWellFormed}
use Rattle.tree.specs.Lookup.{next_of}
use Rattle.tree.proofs.Laws.WellNested.{next-bounds}
use Rattle.tree.specs.Insert.{node_before, node_after, splice, insert_at, number_after_insert, node_at_place, set_place}
use Rattle.tree.proofs.Laws.InsertLaws.{Fresh, name_of-node_after, name_of-node_before, length-insert, insert-before, insert-at, insert-after, parent-insert-before, parent-insert-at, parent-insert-after}
use Rattle.tree.proofs.Laws.PlaceLaws.{name-node_at_place, length-set_place, set_place-at, set_place-other, parent-set_place, texts-set_place}
use Rattle.tree.proofs.Laws.WrittenEntries.{length-encode}
use Rattle.tree.specs.Inner.Patch.{records, place_patch, record_before, record_after, patched_record, new_start, insert_patch}
use Rattle.tree.proofs.Laws.Records.{records-ext, records-at, length-records, put-middle}
use Rattle.tree.proofs.Laws.Writing.{texts-append, text_start, start-end, entry_bytes, entry-twelve, encode-records, written-texts, Fields, written-fields}

-- ---- a file's place

texts-set : (offset size : ℕ) (xs : List Node) (i j : ℕ) → texts_of (take j (set xs i (node_at_place offset size (get_or xs i empty_root)))) ≡ texts_of (take j xs)
unfolding texts_of
texts-set offset size [] i j = refl
texts-set offset size (x ∷ xs) i zero = refl
texts-set offset size (x ∷ xs) zero (suc j) = rw (name-node_at_place offset size x)
texts-set offset size (x ∷ xs) (suc i) (suc j) = rw (texts-set offset size xs i j)

start-set_place : (offset size k m : ℕ) (nodes : List Node) → text_start (set_place k offset size nodes) m ≡ text_start nodes m
unfolding text_start set_place
start-set_place offset size k m [] = refl
start-set_place offset size zero m (r ∷ xs) = refl
start-set_place offset size (suc i) m (r ∷ xs) = ap length (texts-set offset size xs i (m - 1))

-- the record of a file, with its place written over
file-patched : (p o offset size : ℕ) (x : Node) (nm : List ℕ) (a b : ℕ) → x ≡ file nm a b →
    put (node_bytes p o x) 4 (be32_bytes offset ++ be32_bytes size) ≡ node_bytes p o (node_at_place offset size x)
unfolding put
file-patched p o offset size x nm a b e = rw e

module _ (offset size k : ℕ) (nodes : List Node) (nm : List ℕ) (a b : ℕ) (here : get_or nodes k empty_root ≡ file nm a b) (h : k < length nodes) where
  other-record : (j : ℕ) → (j ≡ k → ⊥) → entry_bytes nodes j ≡ entry_bytes (set_place k offset size nodes) j
  unfolding entry_bytes
  other-record j n = rw (parent-set_place offset size k j nodes, start-set_place offset size k j nodes, set_place-other offset size k j nodes n)

  this-record : put (entry_bytes nodes k) 4 (be32_bytes offset ++ be32_bytes size) ≡ entry_bytes (set_place k offset size nodes) k
  unfolding entry_bytes
  this-record =
      rw (parent-set_place offset size k k nodes, start-set_place offset size k k nodes, set_place-at offset size k nodes h)
      (file-patched (parent_of nodes k) (text_start nodes k) offset size (get_or nodes k empty_root) nm a b here)

  pub place-patched : place_patch (encode nodes) k offset size ≡ encode (set_place k offset size nodes)
  place-patched =
      let f : ℕ → List ℕ = entry_bytes nodes in
      let g : ℕ → List ℕ = entry_bytes (set_place k offset size nodes) in
      let t : List ℕ = texts_of (tail nodes) in
      let n : ℕ = length nodes in
      let l : length (records f 0 k) + 4 ≡ 12 * k + 4 = rw (length-records f (entry-twelve nodes) 0 k) in
      let s : records f 0 k ≡ records g 0 k = records-ext f g 0 k (λ i m. other-record (0 + i) (λ e. omega arith)) in
      let u : records f (suc k) (n - suc k) ≡ records g (suc k) (n - suc k) = records-ext f g (suc k) (n - suc k) (λ i m. other-record (suc k + i) (λ e. omega arith)) in
      rw (encode-records nodes, encode-records (set_place k offset size nodes), length-set_place offset size k nodes, texts-set_place offset size k nodes, records-at f n k t h, records-at g n k t h)
      (put-middle (records f 0 k) (f k) (records f (suc k) (n - suc k) ++ t) (12 * k + 4) 4 (be32_bytes offset ++ be32_bytes size) l (rw (entry-twelve nodes k) (omega arith)) ∙ rw (this-record, s, u))

-- ---- an entry put in: the texts

texts-later : (xs : List Node) (i : ℕ) → texts_of (take i (map node_after xs)) ≡ texts_of (take i xs)
unfolding texts_of
texts-later [] i = refl
texts-later (x ∷ xs) zero = refl
texts-later (x ∷ xs) (suc i) = rw (name_of-node_after x, texts-later xs i)

later-texts : (xs : List Node) → texts_of (map node_after xs) ≡ texts_of xs
unfolding texts_of
later-texts [] = refl
later-texts (x ∷ xs) = rw (name_of-node_after x, later-texts xs)

module _ (p : ℕ) (new : Node) where
  pub texts-splice : (k j : ℕ) (xs : List Node) → j ≤ length xs → texts_of (splice p new k j xs) ≡ texts_of (take j xs) ++ (name_of new ++ (0 ∷ texts_of (drop j xs)))
  unfolding texts_of splice
  texts-splice k zero xs h = rw (later-texts xs)
  texts-splice k (suc j) [] h = absurd (omega arith)
  texts-splice k (suc j) (x ∷ xs) h = rw (name_of-node_before p k x, texts-splice (suc k) j xs (omega arith)) (sym (append_assoc (name_of x) (0 ∷ texts_of (take j xs)) _))

  -- the texts of the first entries, up to the new one
  texts-before : (k j : ℕ) (xs : List Node) (i : ℕ) → i ≤ j → j ≤ length xs → texts_of (take i (splice p new k j xs)) ≡ texts_of (take i xs)
  unfolding texts_of splice
  texts-before k j xs zero h l = refl
  texts-before k zero xs (suc i) h l = absurd (omega arith)
  texts-before k (suc j) [] (suc i) h l = absurd (omega arith)
  texts-before k (suc j) (x ∷ xs) (suc i) h l = rw (name_of-node_before p k x, texts-before (suc k) j xs i (omega arith) (omega arith))

  -- and past it
  texts-after : (k j : ℕ) (xs : List Node) (i : ℕ) → j ≤ i → j ≤ length xs → length (texts_of (take (suc i) (splice p new k j xs))) ≡ length (texts_of (take i xs)) + suc (length (name_of new))
  unfolding texts_of splice
  texts-after k zero xs i h l = rw (texts-later xs i, length-append (name_of new) (0 ∷ texts_of (take i xs))) (omega arith)
  texts-after k (suc j) [] i h l = absurd (omega arith)
  texts-after k (suc j) (x ∷ xs) zero h l = absurd (omega arith)
  texts-after k (suc j) (x ∷ xs) (suc i) h l =
      let ih : length (texts_of (take (suc i) (splice p new (suc k) j xs))) ≡ length (texts_of (take i xs)) + suc (length (name_of new)) = texts-after (suc k) j xs i (omega arith) (omega arith) in
      rw (name_of-node_before p k x, length-append (name_of x) (0 ∷ texts_of (take (suc i) (splice p new (suc k) j xs))), length-append (name_of x) (0 ∷ texts_of (take i xs))) (omega arith)

pub tail-splice : (p : ℕ) (new : Node) (q : ℕ) (nodes : List Node) → 0 < q → q ≤ length nodes → tail (splice p new 0 q nodes) ≡ splice p new 1 (q - 1) (tail nodes)
unfolding splice
tail-splice p new zero nodes h l = absurd (omega arith)
tail-splice p new (suc j) [] h l = absurd (omega arith)
tail-splice p new (suc j) (r ∷ xs) h l =
    let e : suc j - 1 ≡ j = omega arith in
    rw e

pub length-tail : (nodes : List Node) → 0 < length nodes → suc (length (tail nodes)) ≡ length nodes
length-tail [] h = absurd (omega arith)
length-tail (r ∷ xs) h = refl

other : (k q : ℕ) → q ≤ k → (k ≡ q → ⊥) → q < k
other k q h f = ⊎_elim (λ e. e) (λ e. absurd (f (omega arith))) (lt-or-le q k)

-- a record made from the fields that stand in the table
before-read : (tab : List ℕ) (p k par o : ℕ) (x : Node) → Fields tab k par o x → record_before tab p k ≡ node_bytes par o (node_before p k x)
unfolding record_before
before-read tab p k par o (file nm offset size) f = rw (f.0, f.1, f.2, f.3)
before-read tab p k par o (directory nm next) f = rw (f.0, f.1, f.2, f.3)

after_read : (tab : List ℕ) (q grow k par o : ℕ) (x : Node) → Fields tab k par o x → record_after tab q grow k ≡ node_bytes (number_after_insert q par) (o + grow) (node_after x)
unfolding record_after
after_read tab q grow k par o (file nm offset size) f = rw (f.0, f.1, f.2, f.3)
after_read tab q grow k par o (directory nm next) f = rw (f.0, f.1, f.2, f.3)

pub offset_read : (tab : List ℕ) (k par o : ℕ) (x : Node) → Fields tab k par o x → name_offset tab k ≡ o
offset_read tab k par o (file nm offset size) f = f.1
offset_read tab k par o (directory nm next) f = f.1

pub next-read : (tab : List ℕ) (k par o n : ℕ) (nm : List ℕ) (x : Node) → Fields tab k par o x → x ≡ directory nm n → size_or_next tab k ≡ n
next-read tab k par o n nm (file a b c) f e = let z : ◌≡◌ {A = ℕ} 0 1 = cc in absurd (omega arith)
next-read tab k par o n nm (directory a m) f e = f.3 ∙ ap next_of e

module _ (nodes : List Node) (p q : ℕ) (nm : List ℕ) (new : Node) (w : IsWellFormed nodes) (here : get_or nodes p empty_root ≡ directory nm q) (p<n : p < length nodes) (fresh : Fresh q new)
    (few : length nodes < 2 ^ 32) (short : length (texts_of (tail nodes)) < 2 ^ 24) where
  abbrev N : List Node
  N = insert_at p new nodes

  abbrev grow : ℕ
  grow = suc (length (name_of new))

  p<q : p < q
  p<q = (next-bounds nodes p q nm w here p<n).0

  q≤n : q ≤ length nodes
  q≤n = (next-bounds nodes p q nm w here p<n).1

  fields : (k : ℕ) → k < length nodes → Fields (encode nodes) k (parent_of nodes k) (text_start nodes k) (get_or nodes k empty_root)
  fields k h = written-fields nodes k w few short h

  next-is : size_or_next (encode nodes) p ≡ q
  next-is = next-read (encode nodes) p (parent_of nodes p) (text_start nodes p) q nm (get_or nodes p empty_root) (fields p p<n) here

  -- the entries past the root
  tail-insert : tail N ≡ splice p new 1 (q - 1) (tail nodes)
  unfolding insert_at
  tail-insert = rw here (tail-splice p new q nodes (omega (arith, p<q)) q≤n)

  inside : q - 1 ≤ length (tail nodes)
  inside = omega (arith, length-tail nodes (omega (arith, p<n)), q≤n)

  texts-insert : texts_of (tail N) ≡ take (text_start nodes q) (texts_of (tail nodes)) ++ (name_of new ++ (0 ∷ drop (text_start nodes q) (texts_of (tail nodes))))
  unfolding text_start
  texts-insert =
      let xs : List Node = tail nodes in
      let j : ℕ = q - 1 in
      let e : texts_of xs ≡ texts_of (take j xs) ++ texts_of (drop j xs) = ap texts_of (sym (take-append-drop j xs)) ∙ texts-append (take j xs) (drop j xs) in
      let a : take (length (texts_of (take j xs))) (texts_of xs) ≡ texts_of (take j xs) = rw e (take_at (texts_of (take j xs)) (texts_of (drop j xs)) _ refl) in
      let b : drop (length (texts_of (take j xs))) (texts_of xs) ≡ texts_of (drop j xs) = rw e (drop_at (texts_of (take j xs)) (texts_of (drop j xs)) _ refl) in
      rw (tail-insert, a, b) (texts-splice p new 1 j xs inside)

  start-before : (k : ℕ) → k ≤ q → text_start N k ≡ text_start nodes k
  unfolding text_start
  start-before k h = rw tail-insert (ap length (texts-before p new 1 (q - 1) (tail nodes) (k - 1) (omega arith) inside))

  start-after : (k : ℕ) → q ≤ k → text_start N (suc k) ≡ text_start nodes k + grow
  unfolding text_start
  start-after k h =
      let e : suc k - 1 ≡ suc (k - 1) = omega (arith, p<q) in
      rw (tail-insert, e) (texts-after p new 1 (q - 1) (tail nodes) (k - 1) (omega arith) inside)

  start-new : new_start (encode nodes) (length nodes) q ≡ text_start nodes q
  unfolding new_start
  start-new = go (ltb q (length nodes)) refl
    where
      go : (t : Bool) → ltb q (length nodes) ≡ t → cond t (name_offset (encode nodes) q) (length (encode nodes) - 12 * length nodes) ≡ text_start nodes q
      go true e = offset_read (encode nodes) q (parent_of nodes q) (text_start nodes q) (get_or nodes q empty_root) (fields q (ltb-true q (length nodes) e))
      go false e =
          let q≡ : q ≡ length nodes = omega (arith, ltb-false q (length nodes) e, q≤n) in
          rw (q≡, start-end nodes) (omega (arith, length-encode nodes))

  -- record k is the new tree's
  record_is : (k : ℕ) → k < suc (length nodes) → patched_record (encode nodes) p q new (text_start nodes q) k ≡ entry_bytes N k
  unfolding patched_record entry_bytes
  record_is k h = go (ltb k q) refl (eqb k q) refl
    where
      go : (t : Bool) → ltb k q ≡ t → (u : Bool) → eqb k q ≡ u →
          cond t (record_before (encode nodes) p k) (cond u (node_bytes p (text_start nodes q) new) (record_after (encode nodes) q grow (k - 1))) ≡ node_bytes (parent_of N k) (text_start N k) (get_or N k empty_root)
      go true e u e' =
          let l : k < q = ltb-true k q e in
          rw (parent-insert-before nodes p q nm new w here p<n k l, start-before k (omega arith), insert-before nodes p q nm new w here p<n k l)
          (before-read (encode nodes) p k (parent_of nodes k) (text_start nodes k) (get_or nodes k empty_root) (fields k (omega (arith, q≤n))))
      go false e true e' =
          let k≡ : k ≡ q = eqb-true k q e' in
          rw (k≡, parent-insert-at nodes p q nm new w here p<n, start-before q (omega arith), insert-at nodes p q nm new w here p<n)
      go false e false e' = past (k - 1) (omega (arith, ltb-false k q e, other k q (ltb-false k q e) (eqb-false k q e'), p<q)) (omega (arith, ltb-false k q e, other k q (ltb-false k q e) (eqb-false k q e')))
        where
          past : (j : ℕ) → k ≡ suc j → q ≤ j → record_after (encode nodes) q grow j ≡ node_bytes (parent_of N k) (text_start N k) (get_or N k empty_root)
          past j k≡ l =
              rw (k≡, parent-insert-after nodes p q nm new w here p<n fresh j l (omega arith), start-after j l, insert-after nodes p q nm new w here p<n j l (omega arith))
              (after_read (encode nodes) q grow j (parent_of nodes j) (text_start nodes j) (get_or nodes j empty_root) (fields j (omega arith)))

  pub insert-patched : insert_patch (encode nodes) (length nodes) p new ≡ encode (insert_at p new nodes)
  unfolding insert_patch
  insert-patched =
      rw (next-is, start-new, written-texts nodes, encode-records N, length-insert nodes p q nm new w here p<n, texts-insert)
      (ap (λ (l : List ℕ). l ++ (take (text_start nodes q) (texts_of (tail nodes)) ++ (name_of new ++ (0 ∷ drop (text_start nodes q) (texts_of (tail nodes))))))
      (records-ext (patched_record (encode nodes) p q new (text_start nodes q)) (entry_bytes N) 0 (suc (length nodes)) (λ i h. record_is (0 + i) (omega arith))))
