-- A record of a table with one entry more, made from an old one.
-- Assumes nothing.
use Prim.Native.Nat.{ℕ, zero, suc, ◌+◌, ◌-◌, ◌*◌, ◌≤◌, ◌<◌}
use mathlib.Core.Path.{◌≡◌, refl, sym, ◌∙◌}
use mathlib.Core.Logic.{⊎_elim}
use mathlib.Core.Bool.{Bool, true, false, cond}
use mathlib.Core.List.{List, []}
use native.Mathlib.Omega.{arith}
use native.Mathlib.Numerals.{add-one}
use borrow.Author.Tests.{lt-ltb, le-ltb, le-leb, lt-leb, eq-eqb, ne_eqb}
use lib.ListN.{length, get_or}
use lib.Dec.{leb, eqb}
use Rattle.endian.specs.Bytes.{put, be32_bytes, AllBytes}
use Rattle.endian.specs.Laws.Stored.{be24-same, be32-same}
use Rattle.refusal.specs.Laws.Tests.{lt-or-eq-or-gt}
use Rattle.tree.specs.Table.{Node, name_of, kind, name_offset, offset_or_parent, size_or_next, node_with, node_bytes}
use Rattle.tree.proofs.Laws.WrittenEntries.{length-node_bytes}
use Rattle.tree.specs.Insert.{raised_next, node_before, node_after, number_after_insert}
use Rattle.tree.proofs.Laws.Records.{Twelve}
use Rattle.tree.specs.Inner.Patch.{stored_node, record_before, record_after, patched_record}
use Rattle.table_writing.specs.Inner.Flat.{record_bytes}
use Rattle.table_writing.specs.Inner.Inserting.{new_node, next_before, IsRaisable}
use Rattle.table_writing.proofs.Puts.{put-fields}
use Rattle.endian.specs.Laws.Stays.{byte-stays, be24-stays, be32-stays}
use Rattle.table_writing.specs.declared.kind.Kind.{Kind}
use Rattle.table_writing.specs.declared.kind.Kind.TheVariants.{File, Directory}
use Rattle.table_writing.specs.Inner.Kind.{kind_number, kind_is_directory}

-- what was read as a directory is stored as 1, and what was not is not
pub directory-one : (x : Kind) (n : ℕ) → kind_number x ≡ n → kind_is_directory x ≡ true → n ≡ 1
directory-one File n e h = absurd (cc h)
directory-one Directory n e h = sym e

pub file-not-one : (x : Kind) (n : ℕ) → kind_number x ≡ n → kind_is_directory x ≡ false → n ≡ 1 → ⊥
file-not-one File n e h o = omega arith
file-not-one Directory n e h o = absurd (cc h)

-- ---- one record

before-with : (t o a b p k : ℕ) → t ≤ 1 → record_bytes t o a (next_before t p k b) ≡ node_bytes a o (node_before p k (node_with t [] a b))
before-with zero o a b p k h = refl
before-with (suc zero) o a b p k h = refl
before-with (suc (suc t)) o a b p k h = absurd (omega arith)

pub before-is : (s : List ℕ) (p k : ℕ) → kind s k ≤ 1 → record_bytes (kind s k) (name_offset s k) (offset_or_parent s k) (next_before (kind s k) p k (size_or_next s k)) ≡ record_before s p k
unfolding record_before
before-is s p k h = before-with (kind s k) (name_offset s k) (offset_or_parent s k) (size_or_next s k) p k h

module _ (s : List ℕ) (q grow k : ℕ) where
  pub after-file : kind s k ≡ 0 → record_bytes (kind s k) (name_offset s k + grow) (offset_or_parent s k) (size_or_next s k) ≡ record_after s q grow k
  unfolding record_after
  after-file e = rw e

  pub after-directory : kind s k ≡ 1 → record_bytes (kind s k) (name_offset s k + grow) (number_after_insert q (offset_or_parent s k)) (suc (size_or_next s k)) ≡ record_after s q grow k
  unfolding record_after
  after-directory e = rw e

-- the new entry's record does not hold its name
pub new_is : (d : Bool) (p q start : ℕ) (nm : List ℕ) → node_bytes p start (new_node d [] q) ≡ node_bytes p start (new_node d nm q)
new_is true p q start nm = refl
new_is false p q start nm = refl

pub new-name : (d : Bool) (nm : List ℕ) (q : ℕ) → name_of (new_node d nm q) ≡ nm
new-name true nm q = refl
new-name false nm q = refl

pub before-twelve : (s : List ℕ) (p k : ℕ) → length (record_before s p k) ≡ 12
unfolding record_before
before-twelve s p k = length-node_bytes (offset_or_parent s k) (name_offset s k) (node_before p k (stored_node s k))

pub after-twelve : (s : List ℕ) (q grow k : ℕ) → length (record_after s q grow k) ≡ 12
unfolding record_after
after-twelve s q grow k = length-node_bytes (number_after_insert q (offset_or_parent s k)) (name_offset s k + grow) (node_after (stored_node s k))

-- ---- the next of an entry before the new one

-- either way
both : (t : Bool) (a b x : ℕ) → a ≡ x → b ≡ x → cond t a b ≡ x
both true a b x e f = e
both false a b x e f = f

raised_next-past : (p n : ℕ) → p < n → raised_next p n ≡ n + 1
unfolding raised_next
raised_next-past p n h = rw (lt-ltb p n h) (sym (add-one n))

raised_next-ended : (p n : ℕ) → n ≤ p → raised_next p n ≡ n
unfolding raised_next
raised_next-ended p n h = rw (le-ltb p n h)

next-raised : (t p k n : ℕ) → t ≡ 1 → k ≤ p → p < n → next_before t p k n ≡ n + 1
next-raised t p k n e h g = rw (eq-eqb t 1 e, le-leb k p h, raised_next-past p n g)

next-file : (t p k n : ℕ) → (t ≡ 1 → ⊥) → next_before t p k n ≡ n
next-file t p k n e = rw (ne_eqb t 1 e)

next-ended : (t p k n : ℕ) → n ≤ p → next_before t p k n ≡ n
next-ended t p k n h = both (eqb t 1) (cond (leb k p) (raised_next p n) n) n n (both (leb k p) (raised_next p n) n n (raised_next-ended p n h) refl) refl

next-between : (t p k n : ℕ) → p < k → next_before t p k n ≡ n
next-between t p k n h = rw (lt-leb k p h) (both (eqb t 1) n n n refl refl)

-- ---- which of the lt-or-eq-or-gt it is

module _ (s : List ℕ) (p q : ℕ) (new : Node) (start k : ℕ) where
  pub patched-before : k < q → patched_record s p q new start k ≡ record_before s p k
  unfolding patched_record
  patched-before h = rw (lt-ltb k q h)

  pub patched-new : k ≡ q → patched_record s p q new start k ≡ node_bytes p start new
  unfolding patched_record
  patched-new h = rw (le-ltb k q (omega arith), eq-eqb k q h)

  pub patched-after : q < k → patched_record s p q new start k ≡ record_after s q (suc (length (name_of new))) (k - 1)
  unfolding patched_record
  patched-after h = rw (le-ltb k q (omega arith), ne_eqb k q (λ e. omega arith))

pub patched-twelve : (s : List ℕ) (p q : ℕ) (new : Node) (start : ℕ) → Twelve (patched_record s p q new start)
patched-twelve s p q new start k =
    ⊎_elim (λ h. rw (patched-before s p q new start k h) (before-twelve s p k))
    (⊎_elim (λ h. rw (patched-new s p q new start k h) (length-node_bytes p start new)) (λ h. rw (patched-after s p q new start k h) (after-twelve s q (suc (length (name_of new))) (k - 1))))
    (lt-or-eq-or-gt k q)

-- ---- two lists that agree on the bytes of an entry

-- entry j of one is entry k of the other
pub record MovedEntry (s : List ℕ) (j : ℕ) (t : List ℕ) (k : ℕ) : Type 0 where
  pub kinds : kind s j ≡ kind t k
  pub names : name_offset s j ≡ name_offset t k
  pub places : offset_or_parent s j ≡ offset_or_parent t k
  pub nexts : size_or_next s j ≡ size_or_next t k

abbrev pub SameEntry : List ℕ → List ℕ → ℕ → Type 0
SameEntry s t k = MovedEntry s k t k

pub same-entry : (s t : List ℕ) (k : ℕ) → ((i : ℕ) → i < 12 * k + 12 → get_or s i 0 ≡ get_or t i 0) → SameEntry s t k
same-entry s t k f =
    record {
      kinds = f (12 * k) (omega arith);
      names = be24-same s t (12 * k + 1) (λ i h. f (12 * k + 1 + i) (omega arith));
      places = be32-same s t (12 * k + 4) (λ i h. f (12 * k + 4 + i) (omega arith));
      nexts = be32-same s t (12 * k + 8) (λ i h. f (12 * k + 8 + i) (omega arith));
    }

pub same-before : (s t : List ℕ) (p k : ℕ) → SameEntry s t k → record_before s p k ≡ record_before t p k
unfolding record_before
same-before s t p k e = rw (e.kinds, e.names, e.places, e.nexts)

pub moved-after : (s : List ℕ) (j : ℕ) (t : List ℕ) (k q grow : ℕ) → MovedEntry s j t k → record_after s q grow j ≡ record_after t q grow k
unfolding record_after
moved-after s j t k q grow e = rw (e.kinds, e.names, e.places, e.nexts)

pub patched_same : (s t : List ℕ) (p q : ℕ) (new : Node) (start k : ℕ) → (k < q → SameEntry s t k) → (q < k → SameEntry s t (k - 1)) → patched_record s p q new start k ≡ patched_record t p q new start k
patched_same s t p q new start k f g =
    ⊎_elim (λ h. rw (patched-before s p q new start k h, patched-before t p q new start k h) (same-before s t p k (f h)))
    (⊎_elim (λ h. rw (patched-new s p q new start k h, patched-new t p q new start k h))
    (λ h. rw (patched-after s p q new start k h, patched-after t p q new start k h) (moved-after s (k - 1) t (k - 1) q (suc (length (name_of new))) (g h))))
    (lt-or-eq-or-gt k q)

pub raisable-moved : (s : List ℕ) (j : ℕ) (t : List ℕ) (k : ℕ) → MovedEntry s j t k → IsRaisable t k → IsRaisable s j
raisable-moved s j t k e r =
    record {
      kinds = rw e.kinds r.kinds;
      place = λ h. rw e.places (r.place (rw e.kinds at h));
      next = λ h. rw e.nexts (r.next (rw e.kinds at h));
    }

pub raisable-same : (s t : List ℕ) (k : ℕ) → SameEntry s t k → IsRaisable t k → IsRaisable s k
raisable-same s t k = raisable-moved s k t k

-- ---- an entry that stays before the new one changes in its next only, and most do not change

module _ (s : List ℕ) (p k : ℕ) (bytes : AllBytes s) (room : 12 * k + 12 ≤ length s) (known : kind s k ≤ 1) where
  next-put : (next : ℕ) → put s (12 * k) (record_bytes (kind s k) (name_offset s k) (offset_or_parent s k) next) ≡ put s (12 * k + 8) (be32_bytes next)
  next-put next =
      sym (put-fields s (12 * k) (kind s k) (name_offset s k) (offset_or_parent s k) next room)
      ∙ rw (byte-stays s (12 * k) (omega arith), be24-stays s (12 * k + 1) bytes (omega arith), be32-stays s (12 * k + 4) bytes (omega arith))

  before-put : put s (12 * k) (record_before s p k) ≡ put s (12 * k + 8) (be32_bytes (next_before (kind s k) p k (size_or_next s k)))
  before-put = rw (← before-is s p k known) (next-put (next_before (kind s k) p k (size_or_next s k)))

  unchanged : next_before (kind s k) p k (size_or_next s k) ≡ size_or_next s k → put s (12 * k) (record_before s p k) ≡ s
  unchanged e = before-put ∙ rw e (be32-stays s (12 * k + 8) bytes (omega arith))

  pub raised : kind s k ≡ 1 → k ≤ p → p < size_or_next s k → put s (12 * k) (record_before s p k) ≡ put s (12 * k + 8) (be32_bytes (size_or_next s k + 1))
  raised t h g =
      let e : next_before (kind s k) p k (size_or_next s k) ≡ size_or_next s k + 1 = next-raised (kind s k) p k (size_or_next s k) t h g in
      before-put ∙ rw e

  pub file-stays : (kind s k ≡ 1 → ⊥) → put s (12 * k) (record_before s p k) ≡ s
  file-stays t = unchanged (next-file (kind s k) p k (size_or_next s k) t)

  pub ended-stays : size_or_next s k ≤ p → put s (12 * k) (record_before s p k) ≡ s
  ended-stays h = unchanged (next-ended (kind s k) p k (size_or_next s k) h)

  pub between_stays : p < k → put s (12 * k) (record_before s p k) ≡ s
  between_stays h = unchanged (next-between (kind s k) p k (size_or_next s k) h)
