-- The entries that are written so far, and one more before them. Assumes nothing.
use Rattle.std.specs.Prelude.{ℕ, zero, suc, ◌+◌, ◌-◌, ◌*◌, ◌≤◌, ◌≡◌, refl, List, [], ◌∷◌, ◌++◌, length, take}
use Rattle.std.proofs.Common.{sym, ap, ◌∙◌, inl, inr, arith, le-ltb, length-append, append_assoc}
use Rattle.endian.specs.Bytes.{put, span}
use Rattle.endian.specs.Laws.Stored.{length-put, span-put, span_ext, put-outside}
use Rattle.endian.proofs.Parts.{span-add}
use Rattle.tree.specs.Table.{Node, name_of, parent_below, parent_of, node_bytes, entries_bytes, texts_of}
use Rattle.tree.proofs.Laws.WrittenEntries.{length-node_bytes}
use Rattle.new_table.specs.Inner.Drafts.{entry_put, entries_put, draft_bytes}

-- ---- a part that is not written over

span-put_before : (s : List ℕ) (at : ℕ) (bs : List ℕ) (m n : ℕ) → at + length bs ≤ length s → m + n ≤ at → span (put s at bs) m n ≡ span s m n
span-put_before s at bs m n f h =
    let l : length (put s at bs) ≡ length s = length-put s at bs f in
    span_ext (put s at bs) s m n (omega arith) (omega arith) (λ i p. put-outside s at bs f (m + i) (inl (omega arith)))

span-put_after : (s : List ℕ) (at : ℕ) (bs : List ℕ) (m n : ℕ) → at + length bs ≤ m → m + n ≤ length s → span (put s at bs) m n ≡ span s m n
span-put_after s at bs m n h f =
    let l : length (put s at bs) ≡ length s = length-put s at bs (omega arith) in
    span_ext (put s at bs) s m n (omega arith) (omega arith) (λ i p. put-outside s at bs (omega arith) (m + i) (inr (omega arith)))

-- ---- with no entries to look for a parent among, each parent is 0

parent-none : (k i : ℕ) → parent_below [] k i ≡ 0
unfolding parent_below
parent-none k zero = refl
parent-none k (suc i) = rw (le-ltb k 0 (omega arith)) (parent-none k i)

parent_of-none : (k : ℕ) → parent_of [] k ≡ 0
unfolding parent_of
parent_of-none k = parent-none k k

-- ---- the entries from `entry` on are xs, whose names start at `text`

pub record Holds (bytes : List ℕ) (count entry text : ℕ) (xs : List Node) : Type 0 where
  pub numbers : entry + length xs ≡ count
  pub past : 12 * count ≤ text
  pub fits : text + length (texts_of xs) ≤ length bytes
  pub records : span bytes (12 * entry) (12 * length xs) ≡ entries_bytes [] entry (text - 12 * count) xs
  pub names : span bytes text (length (texts_of xs)) ≡ texts_of xs

pub holds-none : (bytes : List ℕ) (count text : ℕ) → 12 * count ≤ text → text ≤ length bytes → Holds bytes count count text []
unfolding entries_bytes texts_of
holds-none bytes count text p f = record { numbers = omega arith; past = p; fits = omega arith; records = refl; names = refl }

module _ (bytes : List ℕ) (count entry next text behind : ℕ) (x : Node) (xs : List Node) (h : Holds bytes count next behind xs) (one : suc entry ≡ next) (t : text + suc (length (name_of x)) ≡ behind) (past : 12 * count ≤ text) where
  abbrev named : List ℕ
  named = put bytes text (name_of x ++ (0 ∷ []))

  abbrev rec : List ℕ
  rec = node_bytes 0 (text - 12 * count) x

  len-name : length (name_of x ++ (0 ∷ [])) ≡ suc (length (name_of x))
  len-name = omega (arith, length-append (name_of x) (0 ∷ []))

  len-rec : length rec ≡ 12
  len-rec = length-node_bytes 0 (text - 12 * count) x

  len-named : length named ≡ length bytes
  len-named = length-put bytes text (name_of x ++ (0 ∷ [])) (omega (arith, len-name, h.fits))

  low : 12 * entry + 12 + 12 * length xs ≤ text
  low = omega (arith, h.numbers)

  rec-fits : 12 * entry + length rec ≤ length named
  rec-fits = omega (arith, len-rec, len-named, low, h.fits)

  records-before : span (put named (12 * entry) rec) (12 * entry) (12 * suc (length xs)) ≡ rec ++ entries_bytes [] next (behind - 12 * count) xs
  records-before =
      let m : 12 * suc (length xs) ≡ length rec + 12 * length xs = omega (arith, len-rec) in
      let n : 12 * entry + length rec ≡ 12 * next = omega (arith, len-rec) in
      rw (m, span-add (put named (12 * entry) rec) (12 * entry) (length rec) (12 * length xs), span-put named (12 * entry) rec rec-fits, n)
      (ap (λ (l : List ℕ). rec ++ l)
      (span-put_after named (12 * entry) rec (12 * next) (12 * length xs) (omega arith) (omega (arith, len-named, low, h.fits))
      ∙ span-put_before bytes text (name_of x ++ (0 ∷ [])) (12 * next) (12 * length xs) (omega (arith, len-name, h.fits)) (omega (arith, low)) ∙ h.records))

  names-before : span (put named (12 * entry) rec) text (suc (length (name_of x)) + length (texts_of xs)) ≡ (name_of x ++ (0 ∷ [])) ++ texts_of xs
  names-before =
      rw (← len-name, span-add (put named (12 * entry) rec) text (length (name_of x ++ (0 ∷ []))) (length (texts_of xs)))
      (let e : text + length (name_of x ++ (0 ∷ [])) ≡ behind = omega (arith, len-name) in
      let a : span (put named (12 * entry) rec) text (length (name_of x ++ (0 ∷ []))) ≡ name_of x ++ (0 ∷ []) =
      span-put_after named (12 * entry) rec text (length (name_of x ++ (0 ∷ []))) (omega (arith, len-rec, low)) (omega (arith, len-named, len-name, h.fits)) ∙ span-put bytes text (name_of x ++ (0 ∷ [])) (omega (arith, len-name, h.fits)) in
      let b : span (put named (12 * entry) rec) behind (length (texts_of xs)) ≡ texts_of xs =
      span-put_after named (12 * entry) rec behind (length (texts_of xs)) (omega (arith, len-rec, low)) (omega (arith, len-named, h.fits))
      ∙ span-put_after bytes text (name_of x ++ (0 ∷ [])) behind (length (texts_of xs)) (omega (arith, len-name)) h.fits ∙ h.names in
      rw (e, a, b) refl)

  texts-length : length (texts_of (x ∷ xs)) ≡ suc (length (name_of x)) + length (texts_of xs)
  unfolding texts_of
  texts-length = omega (arith, length-append (name_of x) (0 ∷ texts_of xs))

  texts-parts : texts_of (x ∷ xs) ≡ (name_of x ++ (0 ∷ [])) ++ texts_of xs
  unfolding texts_of
  texts-parts = sym (append_assoc (name_of x) (0 ∷ []) (texts_of xs))

  bytes-parts : entries_bytes [] entry (text - 12 * count) (x ∷ xs) ≡ rec ++ entries_bytes [] next (behind - 12 * count) xs
  unfolding entries_bytes
  bytes-parts =
      let o : text - 12 * count + suc (length (name_of x)) ≡ behind - 12 * count = omega arith in
      rw (parent_of-none entry, o, one) refl

  holds-more : Holds (entry_put (12 * count) entry text x bytes) count entry text (x ∷ xs)
  unfolding entry_put
  holds-more = record {
    numbers = omega (arith, h.numbers);
    past = past;
    fits = omega (arith, texts-length, h.fits, length-put named (12 * entry) rec rec-fits, len-named);
    records = records-before ∙ sym bytes-parts;
    names = rw (texts-length, texts-parts) names-before;
  }

-- several entries
pub holds-entries : (bytes : List ℕ) (count entry next text behind : ℕ) (xs rest : List Node) → Holds bytes count next behind rest → entry + length xs ≡ next → text + length (texts_of xs) ≡ behind → 12 * count ≤ text →
    Holds (entries_put (12 * count) entry text xs bytes) count entry text (xs ++ rest)
unfolding entries_put texts_of
holds-entries bytes count entry next text behind [] rest h e t p =
    let e' : next ≡ entry = omega arith in
    let t' : behind ≡ text = omega arith in
    rw (e', t') at h
holds-entries bytes count entry next text behind (x ∷ xs) rest h e t p =
    let l : length (name_of x ++ (0 ∷ texts_of xs)) ≡ length (name_of x) + suc (length (texts_of xs)) = length-append (name_of x) (0 ∷ texts_of xs) in
    holds-more (entries_put (12 * count) (suc entry) (text + suc (length (name_of x))) xs bytes) count entry (suc entry) text (text + suc (length (name_of x))) x (xs ++ rest)
    (holds-entries bytes count (suc entry) next (text + suc (length (name_of x))) behind xs rest h (omega arith) (omega arith) (omega arith)) refl refl p

-- the whole table
pub holds-all : (bytes : List ℕ) (count size : ℕ) (root : Node) (xs : List Node) → Holds bytes count 1 (12 * count) xs → 12 * count + length (texts_of xs) ≡ size → take size (put bytes 0 (node_bytes 0 0 root)) ≡ draft_bytes (root ∷ xs)
unfolding draft_bytes
holds-all bytes count size root xs h s =
    let r : length (node_bytes 0 0 root) ≡ 12 = length-node_bytes 0 0 root in
    let c : 1 + length xs ≡ count = h.numbers in
    let f : 0 + length (node_bytes 0 0 root) ≤ length bytes = omega (arith, h.fits) in
    let l : length (put bytes 0 (node_bytes 0 0 root)) ≡ length bytes = length-put bytes 0 (node_bytes 0 0 root) f in
    let z : 12 * count - 12 * count ≡ 0 = omega arith in
    let m : size ≡ length (node_bytes 0 0 root) + (12 * length xs + length (texts_of xs)) = omega arith in
    let n : 0 + length (node_bytes 0 0 root) ≡ 12 * 1 = omega arith in
    let o : 12 * 1 + 12 * length xs ≡ 12 * count = omega arith in
    let a : span (put bytes 0 (node_bytes 0 0 root)) 0 (length (node_bytes 0 0 root)) ≡ node_bytes 0 0 root = span-put bytes 0 (node_bytes 0 0 root) f in
    let b : span (put bytes 0 (node_bytes 0 0 root)) (12 * 1) (12 * length xs) ≡ entries_bytes [] 1 0 xs =
    span-put_after bytes 0 (node_bytes 0 0 root) (12 * 1) (12 * length xs) (omega arith) (omega (arith, h.fits)) ∙ rw z at h.records in
    let d : span (put bytes 0 (node_bytes 0 0 root)) (12 * count) (length (texts_of xs)) ≡ texts_of xs =
    span-put_after bytes 0 (node_bytes 0 0 root) (12 * count) (length (texts_of xs)) (omega arith) h.fits ∙ h.names in
    rw m
    (span-add (put bytes 0 (node_bytes 0 0 root)) 0 (length (node_bytes 0 0 root)) (12 * length xs + length (texts_of xs))
    ∙ rw (a, n, span-add (put bytes 0 (node_bytes 0 0 root)) (12 * 1) (12 * length xs) (length (texts_of xs)), b, o, d) refl)
