-- The turns of a directory's loop, on plain values: what holds at its head, what a turn's call asks, and what holds after it.
-- Assumes nothing.
use mathlib.Core.Path.{◌≡◌, refl, sym, ◌∙◌}
use mathlib.Core.List.{List}
use Prim.Native.Nat.{ℕ, ◌+◌, ◌*◌, ◌≤◌, ◌<◌, ◌^◌}
use native.Mathlib.Omega.{arith}
use borrow.Author.Tests.{eq-eqb}
use lib.ListN.{length}
use Rattle.endian.specs.Bytes.{put}
use Rattle.tree.specs.Table.{kind, size_or_next, count, nodes_of, parent_of, encode}
use Rattle.table_writing.specs.Inner.Valid.{IsValid}
use Rattle.table_writing.specs.Inner.Flat.{after_in, text_to, write_to, root_at, Room}
use Rattle.table_writing.proofs.Nesting.{Closed, closed_none, closed-more, after-later, after-within, parent_is}
use Rattle.table_writing.proofs.Whole.{whole-size, whole, whole_room}
use Rattle.table_writing.proofs.Split.{text-split, write-split, text-none, write-none, text-mono, text-up}

-- the entries of directory k up to c are written
pub record Upto (tab out₀ : List ℕ) (n k text : ℕ) (out : List ℕ) (at c : ℕ) : Type 0 where
  pub low : k < c
  pub high : c ≤ size_or_next tab k
  pub closed : Closed tab k c
  pub texts : at ≡ text_to tab n (k + 1) c text
  pub written : out ≡ write_to tab n (k + 1) c text out₀
  pub long : length out ≡ length out₀

-- what a turn at c asks and gives
pub record Turn (tab out₀ : List ℕ) (n k text : ℕ) (out : List ℕ) (at c : ℕ) : Type 0 where
  pub inside : c < n
  pub parent : k ≡ parent_of (nodes_of tab) c
  pub later : c < after_in tab c
  pub room : Room n text (text_to tab n (k + 1) (size_or_next tab k) text) (length out₀) → Room n at (text_to tab n c (after_in tab c) at) (length out)
  pub again : (out' : List ℕ) (at' c' : ℕ) → at' ≡ text_to tab n c (after_in tab c) at → out' ≡ write_to tab n c (after_in tab c) at out → length out' ≡ length out → c' ≡ after_in tab c
      → Upto tab out₀ n k text out' at' c'

module _ (tab : List ℕ) (n k text : ℕ) (v : IsValid tab n) (kn : k < n) (dir : kind tab k ≡ 1) (out₀ : List ℕ) where
  pub start : Upto tab out₀ n k text out₀ text (k + 1)
  start =
      record {
        low = omega arith;
        high = omega (arith, (v.nested k kn dir).later);
        closed = closed_none tab k;
        texts = sym (text-none tab n (k + 1) text);
        written = sym (write-none tab n (k + 1) text out₀);
        long = refl;
      }

  module _ (out : List ℕ) (at c : ℕ) (u : Upto tab out₀ n k text out at c) (more : c < size_or_next tab k) where
    inside : c < n
    inside = omega (arith, (v.nested k kn dir).within)

    later : c < after_in tab c
    later = after-later tab n c v inside

    within : after_in tab c ≤ size_or_next tab k
    within = after-within tab n k c v kn dir u.low more

    texts-on : text_to tab n c (after_in tab c) at ≡ text_to tab n (k + 1) (after_in tab c) text
    texts-on =
        let l = later in
        rw u.texts (sym (text-split tab n (k + 1) c (after_in tab c) text (omega arith) (omega arith)))

    room : Room n text (text_to tab n (k + 1) (size_or_next tab k) text) (length out₀) → Room n at (text_to tab n c (after_in tab c) at) (length out)
    room r =
        let l = later in
        let up : text ≤ text_to tab n (k + 1) c text = text-up tab n (k + 1) c text in
        let top : text_to tab n (k + 1) (after_in tab c) text ≤ text_to tab n (k + 1) (size_or_next tab k) text =
        text-mono tab n (k + 1) (after_in tab c) (size_or_next tab k) text (omega arith) within in
        record { past = omega (arith, u.texts); fits = omega (arith, texts-on); small = omega (arith, texts-on) }

    again : (out' : List ℕ) (at' c' : ℕ) → at' ≡ text_to tab n c (after_in tab c) at → out' ≡ write_to tab n c (after_in tab c) at out → length out' ≡ length out → c' ≡ after_in tab c
        → Upto tab out₀ n k text out' at' c'
    again out' at' c' et eo el ec =
        let l = later in
        rw ec
        record {
          low = omega arith;
          high = within;
          closed = closed-more tab n k c v inside u.closed;
          texts = et ∙ texts-on;
          written = eo ∙ rw (u.texts, u.written) (sym (write-split tab n (k + 1) c (after_in tab c) text (omega arith) (omega arith) out₀));
          long = el ∙ u.long;
        }

    pub turn : Turn tab out₀ n k text out at c
    turn =
        record {
          inside = inside;
          parent = sym (parent_is tab n c k v inside dir more u.closed u.low);
          later = later;
          room = room;
          again = again;
        }

-- an entry's own record and name, and then what is in it
module _ (tab : List ℕ) (n k text : ℕ) (v : IsValid tab n) (kn : k < n) (L : ℕ) (r : Room n text (text_to tab n k (after_in tab k) text) L) where
  pub room-one : Room n text (text_to tab n k (k + 1) text) L
  room-one =
      let top : text_to tab n k (k + 1) text ≤ text_to tab n k (after_in tab k) text =
      text-mono tab n k (k + 1) (after_in tab k) text (omega arith) (omega (arith, after-later tab n k v kn)) in
      record { past = r.past; fits = omega arith; small = omega arith }

  module _ (dir : kind tab k ≡ 1) where
    reach : after_in tab k ≡ size_or_next tab k
    reach = rw (eq-eqb (kind tab k) 1 dir)

    pub texts-in : text_to tab n (k + 1) (size_or_next tab k) (text_to tab n k (k + 1) text) ≡ text_to tab n k (after_in tab k) text
    texts-in = rw reach (sym (text-split tab n k (k + 1) (size_or_next tab k) text (omega arith) (omega (arith, (v.nested k kn dir).later))))

    pub written_in : (out : List ℕ)
        → write_to tab n (k + 1) (size_or_next tab k) (text_to tab n k (k + 1) text) (write_to tab n k (k + 1) text out) ≡ write_to tab n k (after_in tab k) text out
    written_in out = rw reach (sym (write-split tab n k (k + 1) (size_or_next tab k) text (omega arith) (omega (arith, (v.nested k kn dir).later)) out))

    pub room_in : (at L' : ℕ) → at ≡ text_to tab n k (k + 1) text → L' ≡ L → Room n at (text_to tab n (k + 1) (size_or_next tab k) at) L'
    room_in at L' e el =
        let up : text ≤ text_to tab n k (k + 1) text = text-up tab n k (k + 1) text in
        rw (e, el) record { past = omega arith; fits = omega (arith, texts-in); small = omega (arith, texts-in) }

-- ---- the whole table, by what was read and written on the way

module _ (tab source out out₁ : List ℕ) (n text : ℕ) (v : IsValid tab (count tab)) (e : source ≡ tab) (c : n ≡ count source) (z : text ≡ 12 * n) where
  pub written-room : (L : ℕ) → length out₁ ≡ L → length (encode (nodes_of tab)) ≤ L → length (encode (nodes_of tab)) ≤ 2 ^ 24 →
      Room (count source) text (text_to source (count source) 1 (size_or_next source 0) text) (length out₁)
  written-room L l h g = rw (z, c, e, l) (whole_room tab (count tab) v L h g)

  pub written-size : (end : ℕ) → end ≡ text_to source (count source) 1 (size_or_next source 0) text → end ≡ length (encode (nodes_of tab))
  written-size end w = w ∙ rw (z, c, e, v.reach) (whole-size tab (count tab) v)

  pub written-whole : (out₂ : List ℕ) → length (encode (nodes_of tab)) ≤ length out → out₁ ≡ root_at n out → out₂ ≡ write_to source (count source) 1 (size_or_next source 0) text out₁ → out₂ ≡ put out 0 (encode (nodes_of tab))
  written-whole out₂ h r w = w ∙ rw (r, z, c, e, v.reach) (whole tab (count tab) v out h)
