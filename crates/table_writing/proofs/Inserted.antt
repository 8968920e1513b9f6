-- The texts moved up with a new one between them, and then the records: together the patched table.
-- Assumes nothing.
use Prim.Native.Nat.{ℕ, suc, ◌+◌, ◌-◌, ◌*◌, ◌≤◌, ◌<◌}
use mathlib.Core.Path.{◌≡◌, refl, sym, ◌∙◌}
use mathlib.Core.Bool.{Bool, true, false, cond}
use mathlib.Core.List.{List, [], ◌∷◌, ◌++◌}
use native.Mathlib.Omega.{arith}
use native.Mathlib.Numerals.{add-one}
use borrow.Author.Tests.{ltb-true}
use lib.ListN.{length, take, drop, length-append, length-drop}
use lib.Seq.{get_or-take, length-take-le, take-length, take_all, drop-drop, append_snoc}
use lib.Dec.{ltb}
use Rattle.endian.specs.Bytes.{put, span}
use Rattle.endian.specs.Laws.Stored.{length-put, put-before, length-span, span_ext}
use Rattle.tree.specs.Table.{Node, name_offset, size_or_next}
use Rattle.tree.specs.Inner.Patch.{records, patched_record, new_start, insert_patch}
use Rattle.tree.proofs.Laws.Records.{records-ext, length-records}
use Rattle.table_writing.specs.Inner.Inserting.{new_node, IsPatchable, new_texts, start_in, IsInsertable}
use Rattle.table_writing.proofs.Patches.{new-name, patched_same, patched-twelve, SameEntry, same-entry, raisable-same}
use Rattle.endian.proofs.Parts.{put-append, put-prepend}

-- ---- the texts

module _ (s : List ℕ) (size c start : ℕ) (nm : List ℕ) (inside : 12 * c + start ≤ size) (room : size + 12 + length nm + 1 ≤ length s) where
  abbrev behind : List ℕ
  behind = span s (12 * c + start) (size - (12 * c + start))

  behind-length : length behind ≡ size - (12 * c + start)
  behind-length = length-span s (12 * c + start) (size - (12 * c + start)) (omega arith)

  -- the texts behind the new one, then its name, then its zero byte
  abbrev moved : List ℕ
  moved =
      put (put (put s (12 * c + start + 12 + length nm + 1) behind) (12 * c + start + 12) (span nm 0 (length nm))) (12 * c + start + 12 + length nm) (0 ∷ [])

  moved-is : moved ≡ put s (12 * c + start + 12) (nm ++ (0 ∷ behind))
  moved-is =
      let l = behind-length in
      let far : ℕ = 12 * c + start + 12 + length nm + 1 in
      let p : length (put s far behind) ≡ length s = length-put s far behind (omega arith) in
      let a : length (nm ++ (0 ∷ [])) ≡ length nm + 1 = length-append nm (0 ∷ []) in
      rw (
        take-length nm,
        put-append (put s far behind) (12 * c + start + 12) nm (12 * c + start + 12 + length nm) (0 ∷ []) refl (omega arith),
        put-prepend s (12 * c + start + 12) (nm ++ (0 ∷ [])) far behind (omega arith) (omega arith),
        append_snoc nm 0 behind,
      )

  pub texts-moved : put moved (12 * c + 12) (span moved (12 * c) start) ≡ put s (12 * c + 12) (new_texts s size c start nm)
  texts-moved =
      let l = behind-length in
      let b : length (nm ++ (0 ∷ behind)) ≡ length nm + suc (length behind) = length-append nm (0 ∷ behind) in
      let at : ℕ = 12 * c + start + 12 in
      let fit : at + length (nm ++ (0 ∷ behind)) ≤ length s = omega arith in
      let p : length (put s at (nm ++ (0 ∷ behind))) ≡ length s = length-put s at (nm ++ (0 ∷ behind)) fit in
      let t : span (put s at (nm ++ (0 ∷ behind))) (12 * c) start ≡ span s (12 * c) start =
      span_ext (put s at (nm ++ (0 ∷ behind))) s (12 * c) start (omega arith) (omega arith) (λ i h. put-before s at (nm ++ (0 ∷ behind)) fit (12 * c + i) (omega arith)) in
      let n : length (span s (12 * c) start) ≡ start = length-span s (12 * c) start (omega arith) in
      rw (moved-is, t) (put-prepend s (12 * c + 12) (span s (12 * c) start) at (nm ++ (0 ∷ behind)) (omega arith) fit)

-- ---- the table

module _ (s : List ℕ) (size p : ℕ) (d : Bool) (nm : List ℕ) (r : IsInsertable s size p (length nm)) where
  abbrev c : ℕ
  c = size_or_next s 0

  abbrev q : ℕ
  q = size_or_next s p

  abbrev start : ℕ
  start = start_in s size c q

  abbrev new : Node
  new = new_node d nm q

  abbrev texts : List ℕ
  texts = new_texts s size c start nm

  abbrev s₁ : List ℕ
  s₁ = put s (12 * c + 12) texts

  abbrev tab : List ℕ
  tab = take size s

  pub start-inside : 12 * c + start ≤ size
  start-inside = go (ltb q c) refl
    where
      go : (t : Bool) → ltb q c ≡ t → 12 * c + cond t (name_offset s q) (size - 12 * c) ≤ size
      go true e = r.names q (ltb-true q c e)
      go false e = omega (arith, r.whole)

  texts-length : length texts ≡ start + (length nm + suc (size - (12 * c + start)))
  texts-length =
      let i = start-inside in
      let f = r.fits in
      let b : List ℕ = span s (12 * c + start) (size - (12 * c + start)) in
      omega (
        arith,
        length-append (span s (12 * c) start) (nm ++ (0 ∷ b)),
        length-append nm (0 ∷ b),
        length-span s (12 * c) start (omega arith),
        length-span s (12 * c + start) (size - (12 * c + start)) (omega arith),
      )

  fits : 12 * c + 12 + length texts ≤ length s
  fits = omega (arith, texts-length, start-inside, r.fits)

  long : length s₁ ≡ length s
  long = length-put s (12 * c + 12) texts fits

  same : (k : ℕ) → k < c → SameEntry s₁ s k
  same k h = same-entry s₁ s k (λ i l. put-before s (12 * c + 12) texts fits i (omega arith))

  tab-length : length tab ≡ size
  tab-length = length-take-le size s (omega (arith, r.fits))

  same-tab : (k : ℕ) → k < c → SameEntry tab s k
  same-tab k h =
      let w = r.whole in
      same-entry tab s k (λ i l. get_or-take size s i 0 (omega arith))

  pub patchable : IsPatchable s₁ c p q start (length nm + 1)
  patchable =
      let i = start-inside in
      let l = long in
      let par = r.parent in
      let sm = r.small in
      record {
        few = r.few;
        room = omega (arith, fits);
        later = r.later;
        within = r.within;
        small = omega arith;
        each = λ k h. raisable-same s₁ s k (same k h) (r.each k h);
        names = λ k h. rw (same k h).names (omega (arith, r.names k h));
      }

  start_is : new_start tab c q ≡ start
  unfolding new_start
  start_is = go (ltb q c) refl
    where
      go : (t : Bool) → ltb q c ≡ t → cond t (name_offset tab q) (length tab - 12 * c) ≡ cond t (name_offset s q) (size - 12 * c)
      go true e = (same-tab q (ltb-true q c e)).names
      go false e = rw tab-length

  -- the texts of the table are those in the lent bytes
  first-texts : take start (drop (12 * c) tab) ≡ span s (12 * c) start
  first-texts =
      let i = start-inside in
      let l = tab-length in
      let f = r.fits in
      span_ext tab s (12 * c) start (omega arith) (omega arith) (λ j h. get_or-take size s (12 * c + j) 0 (omega arith))

  last-texts : drop start (drop (12 * c) tab) ≡ span s (12 * c + start) (size - (12 * c + start))
  last-texts =
      let i = start-inside in
      let l = tab-length in
      let f = r.fits in
      let m : ℕ = 12 * c + start in
      let a : length (drop m tab) ≤ size - m = omega (arith, length-drop m tab) in
      drop-drop start (12 * c) tab ∙ sym (take_all (size - m) (drop m tab) a)
      ∙ span_ext tab s m (size - m) (omega arith) (omega arith) (λ j h. get_or-take size s (m + j) 0 (omega arith))

  records-are : records (patched_record s₁ p q new start) 0 (c + 1) ≡ records (patched_record tab p q new start) 0 (suc c)
  records-are =
      let w = r.within in
      rw (add-one c)
      (records-ext (patched_record s₁ p q new start) (patched_record tab p q new start) 0 (suc c)
      (λ i h.
      patched_same s₁ tab p q new start (0 + i) (λ a. both (0 + i) (omega arith)) (λ a. both (0 + i - 1) (omega arith))))
    where
      both : (k : ℕ) → k < c → SameEntry s₁ tab k
      both k h =
          let x = same k h in
          let y = same-tab k h in
          record { kinds = x.kinds ∙ sym y.kinds; names = x.names ∙ sym y.names; places = x.places ∙ sym y.places; nexts = x.nexts ∙ sym y.nexts }

  pub inserted : put s₁ 0 (records (patched_record s₁ p q new start) 0 (c + 1)) ≡ put s 0 (insert_patch tab c p new)
  unfolding insert_patch
  inserted =
      let f = patched_record tab p q new start in
      let l : length (records f 0 (suc c)) ≡ 12 * suc c = length-records f (patched-twelve tab p q new start) 0 (suc c) in
      rw ((same-tab p r.parent).nexts, start_is, first-texts, last-texts, new-name d nm q, records-are)
      (put-prepend s 0 (records f 0 (suc c)) (12 * c + 12) texts (omega arith) fits)

  -- the same of the numbers that were read and the bytes in between
  module _ (c' q' start' : ℕ) (ec : c' ≡ c) (eq : q' ≡ q) (es : start' ≡ start_in s size c' q') where
    module _ (t : List ℕ) (et : t ≡ put s (12 * c' + 12) (new_texts s size c' start' nm)) where
      pub patchable-read : IsPatchable t c' p q' start' (length nm + 1)
      patchable-read = rw (et, es, ec, eq) patchable

      pub inserted-read : (t' : List ℕ) → t' ≡ put t 0 (records (patched_record t p q' (new_node d nm q') start') 0 (c' + 1)) → t' ≡ put s 0 (insert_patch tab c p new)
      inserted-read t' e = e ∙ rw (et, es, ec, eq) inserted
