-- The entries written one after another, with the root before them, are `encode` of the table's entries.
-- Assumes nothing.
use Prim.Native.Nat.{ℕ, zero, suc, ◌+◌, ◌-◌, ◌*◌, ◌≤◌, ◌^◌}
use mathlib.Core.Path.{◌≡◌, refl, sym, ◌∙◌}
use mathlib.Core.List.{List, [], ◌∷◌, ◌++◌, tail, append_assoc}
use native.Mathlib.Omega.{arith}
use native.Mathlib.Numerals.{add-one}
use lib.ListN.{length, length-append}
use lib.Seq.{append_snoc}
use Rattle.endian.specs.Bytes.{put}
use Rattle.endian.specs.Laws.Stored.{length-put, put-none}
use Rattle.tree.specs.Table.{Node, directory, name_offset, size_or_next, name_at, node_at, nodes_from, nodes_of, parent_of, node_bytes, entries_bytes, texts_of, encode}
use Rattle.tree.proofs.Laws.Accepted.{length-nodes_from, length-nodes_of, name_of-node_at}
use Rattle.tree.proofs.Laws.WrittenEntries.{length-node_bytes, length-entries_bytes, length-encode}
use Rattle.table_writing.specs.Inner.Valid.{IsValid, name_size}
use Rattle.table_writing.specs.Inner.Flat.{record_at, put_text, text_flat, write_flat, text_to, write_to, root_at, Room}
use Rattle.table_writing.proofs.Puts.{put-swap}
use Rattle.table_writing.proofs.Nesting.{count-is}
use Rattle.endian.proofs.Parts.{put-append}

-- the name of one more entry, and its zero byte
text-next : (tab : List ℕ) (n k m : ℕ) → length (texts_of (nodes_from tab n k (suc m))) ≡ name_size tab n k + 1 + length (texts_of (nodes_from tab n (k + 1) m))
unfolding texts_of nodes_from name_size
text-next tab n k m =
    rw (add-one k, name_of-node_at tab n k) (omega (arith, length-append (name_at tab n (name_offset tab k)) (0 ∷ texts_of (nodes_from tab n (suc k) m))))

-- where the last name ends
pub text-end : (tab : List ℕ) (n m k text : ℕ) → text_flat tab n m k text ≡ text + length (texts_of (nodes_from tab n k m))
unfolding text_flat texts_of nodes_from
text-end tab n zero k text = omega arith
text-end tab n (suc m) k text = omega (arith, text-end tab n m (k + 1) (text + name_size tab n k + 1), text-next tab n k m)

-- one entry, and then the entries behind it
module _ (out R E N X : List ℕ) (at m text end : ℕ)
    (e : m ≡ at + length R) (f : end ≡ text + length N) (apart : m + length E ≤ text) (fits : end + length X ≤ length out) where
  pub two-parts : put (put (put (put out at R) text N) m E) end X ≡ put (put out at (R ++ E)) text (N ++ X)
  two-parts =
      let r : length (put out at R) ≡ length out = length-put out at R (omega arith) in
      let b : length (put out at (R ++ E)) ≡ length out = length-put out at (R ++ E) (omega (arith, length-append R E)) in
      rw (← put-swap (put out at R) m E text N apart (omega arith), put-append out at R m E e (omega arith))
      (put-append (put out at (R ++ E)) text N end X f (omega arith))

-- the records of m entries from k on, and their names from `text` on
abbrev parted : List ℕ → ℕ → ℕ → ℕ → ℕ → List ℕ → List ℕ
parted tab n m k text out = put (put out (12 * k) (entries_bytes (nodes_of tab) k (text - 12 * n) (nodes_from tab n k m))) text (texts_of (nodes_from tab n k m))

part_none : (tab : List ℕ) (n k text : ℕ) (out : List ℕ) → parted tab n zero k text out ≡ out
unfolding nodes_from entries_bytes texts_of
part_none tab n k text out = rw (put-none out (12 * k)) (put-none out text)

written-length : (tab : List ℕ) (n k text : ℕ) (out : List ℕ) → 12 * k + 12 ≤ length out → text + name_size tab n k + 1 ≤ length out →
    length (put_text tab n k text (record_at tab n (parent_of (nodes_of tab) k) k text out)) ≡ length out
unfolding put_text record_at name_size
written-length tab n k text out h f =
    let p : ℕ = parent_of (nodes_of tab) k in
    let R : List ℕ = node_bytes p (text - 12 * n) (node_at tab n k) in
    let nm : List ℕ = name_at tab n (name_offset tab k) in
    let r : length R ≡ 12 = length-node_bytes p (text - 12 * n) (node_at tab n k) in
    let l : length (put out (12 * k) R) ≡ length out = length-put out (12 * k) R (omega arith) in
    let a : length (nm ++ (0 ∷ [])) ≡ length nm + 1 = length-append nm (0 ∷ []) in
    length-put (put out (12 * k) R) text (nm ++ (0 ∷ [])) (omega arith) ∙ l

module _ (tab : List ℕ) (n m k text : ℕ) (out : List ℕ) (past : 12 * n ≤ text) (few : suc k + m ≤ n)
    (fits : text + name_size tab n k + 1 + length (texts_of (nodes_from tab n (suc k) m)) ≤ length out) where
  part_step : parted tab n m (suc k) (text + name_size tab n k + 1) (put_text tab n k text (record_at tab n (parent_of (nodes_of tab) k) k text out)) ≡ parted tab n (suc m) k text out
  unfolding nodes_from entries_bytes texts_of put_text record_at name_size
  part_step =
      let nm : List ℕ = name_at tab n (name_offset tab k) in
      let xs : List Node = nodes_from tab n (suc k) m in
      let p : ℕ = parent_of (nodes_of tab) k in
      let R : List ℕ = node_bytes p (text - 12 * n) (node_at tab n k) in
      let o : text + length nm + 1 - 12 * n ≡ text - 12 * n + suc (length nm) = omega arith in
      let E : List ℕ = entries_bytes (nodes_of tab) (suc k) (text - 12 * n + suc (length nm)) xs in
      let r : length R ≡ 12 = length-node_bytes p (text - 12 * n) (node_at tab n k) in
      let e : length E ≡ 12 * length xs = length-entries_bytes (nodes_of tab) (suc k) (text - 12 * n + suc (length nm)) xs in
      let l : length xs ≡ m = length-nodes_from tab n (suc k) m in
      let a : length (nm ++ (0 ∷ [])) ≡ length nm + 1 = length-append nm (0 ∷ []) in
      rw (name_of-node_at tab n k, o, ← append_snoc nm 0 (texts_of xs))
      (two-parts out R E (nm ++ (0 ∷ [])) (texts_of xs) (12 * k) (12 * suc k) text (text + length nm + 1) (omega arith) (omega arith) (omega arith) (omega arith))

pub flat-put : (tab : List ℕ) (n m k text : ℕ) (out : List ℕ) → 12 * n ≤ text → k + m ≤ n → text_flat tab n m k text ≤ length out →
    write_flat tab n m k text out ≡ parted tab n m k text out
unfolding write_flat text_flat
flat-put tab n zero k text out p q h = rw (part_none tab n k text out)
flat-put tab n (suc m) k text out p q h =
    let t = text-end tab n m (k + 1) (text + name_size tab n k + 1) in
    let f : text + name_size tab n k + 1 + length (texts_of (nodes_from tab n (k + 1) m)) ≤ length out = omega arith in
    let l = written-length tab n k text out (omega arith) (omega arith) in
    let ih = flat-put tab n m (k + 1) (text + name_size tab n k + 1) (put_text tab n k text (record_at tab n (parent_of (nodes_of tab) k) k text out)) (omega arith) (omega arith) (omega arith) in
    ih ∙ rw (add-one k) (part_step tab n m k text out p (omega arith) (rw (add-one k) at f))

-- ---- the whole table

root-length : (n : ℕ) (out : List ℕ) → 12 ≤ length out → length (root_at n out) ≡ length out
unfolding root_at
root-length n out h = length-put out 0 (node_bytes 0 0 (directory [] n)) h

module _ (tab : List ℕ) (n : ℕ) (v : IsValid tab n) where
  pub encode-size : length (encode (nodes_of tab)) ≡ 12 * n + length (texts_of (nodes_from tab n 1 (n - 1)))
  unfolding nodes_of
  encode-size =
      let t : length (texts_of (tail (nodes_of tab))) ≡ length (texts_of (nodes_from tab n 1 (n - 1))) = rw (count-is tab n v) in
      omega (arith, length-encode (nodes_of tab), length-nodes_of tab, count-is tab n v)

  pub whole-size : text_to tab n 1 n (12 * n) ≡ length (encode (nodes_of tab))
  whole-size = text-end tab n (n - 1) 1 (12 * n) ∙ sym encode-size

  three-parts : (out : List ℕ) → length (encode (nodes_of tab)) ≤ length out → parted tab n (n - 1) 1 (12 * n) (root_at n out) ≡ put out 0 (encode (nodes_of tab))
  unfolding encode nodes_of root_at
  three-parts out h =
      let xs : List Node = nodes_from tab n 1 (n - 1) in
      let R : List ℕ = node_bytes 0 0 (directory [] n) in
      let E : List ℕ = entries_bytes (directory [] n ∷ xs) 1 0 xs in
      let z : 12 * n - 12 * n ≡ 0 = omega arith in
      let s = encode-size in
      let e : length E ≡ 12 * length xs = length-entries_bytes (directory [] n ∷ xs) 1 0 xs in
      let l : length xs ≡ n - 1 = length-nodes_from tab n 1 (n - 1) in
      let re : length (R ++ E) ≡ 12 + length E = length-append R E in
      let some = v.some in
      rw (count-is tab n v, z, put-append out 0 R 12 E refl (omega arith), put-append out 0 (R ++ E) (12 * n) (texts_of xs) (omega arith) (omega arith), append_assoc R E (texts_of xs))

  pub whole : (out : List ℕ) → length (encode (nodes_of tab)) ≤ length out → write_to tab n 1 n (12 * n) (root_at n out) ≡ put out 0 (encode (nodes_of tab))
  whole out h =
      let l : length (root_at n out) ≡ length out = root-length n out (omega (arith, encode-size, v.some)) in
      flat-put tab n (n - 1) 1 (12 * n) (root_at n out) (omega arith) (omega (arith, v.some)) (omega (arith, whole-size)) ∙ three-parts out h

  pub whole_room : (room : ℕ) → length (encode (nodes_of tab)) ≤ room → length (encode (nodes_of tab)) ≤ 2 ^ 24 → Room n (12 * n) (text_to tab n 1 (size_or_next tab 0) (12 * n)) room
  whole_room room f g =
      let e = whole-size in
      rw v.reach record { past = omega arith; fits = omega arith; small = omega arith }
