-- Texts written one behind the other are one text; bytes written at once, and byte by byte. Assumes nothing.
use Prim.Native.Nat.{ℕ, ◌+◌, ◌<◌, ◌≤◌, ◌^◌, min}
use mathlib.Core.Path.{◌≡◌, refl, sym, ap, ◌∙◌}
use mathlib.Core.List.{List, [], ◌∷◌, ◌++◌, append_assoc}
use native.Mathlib.Omega.{arith}
use lib.ListN.{length, get_or, take, length-append}
use Rattle.std.proofs.lemmas.List.{take_more, take_all}
use Rattle.endian.specs.Bytes.{put, span}
use Rattle.endian.specs.Laws.Stored.{length-put, span-put, put-none}
use Rattle.endian.proofs.Parts.{put-append}
use Rattle.table.specs.Inner.Texts.{text_at}
use Rattle.table.proofs.Texts.{text-more}
use Rattle.listing.specs.Inner.Writing.{Wrote, Appends}
use Rattle.listing.specs.declared.buffer.TextBuffer.{TextBuffer}

pub wrote_none : (text : List ℕ) (at : ℕ) → Wrote text text at [] at
wrote_none text at = record { stop = omega arith; laid = λ h l. sym (put-none text at) }

module _ {text text' text'' : List ℕ} {at m end : ℕ} {a b : List ℕ} (f : Wrote text text' at a m) (g : Wrote text' text'' m b end) where
  both : length (a ++ b) ≡ length a + length b
  both = length-append a b

  lies : at + length (a ++ b) ≤ length text → at + length (a ++ b) < 2 ^ 63 → text'' ≡ put text at (a ++ b)
  lies h l =
      let e : text' ≡ put text at a = f.laid (omega (arith, both)) (omega (arith, both)) in
      let n : m ≡ at + length a = omega (arith, both, f.stop) in
      let k : length text' ≡ length text = ap length e ∙ length-put text at a (omega (arith, both)) in
      g.laid (omega (arith, both)) (omega (arith, both)) ∙ rw e (put-append text at a m b n (omega (arith, both)))

  pub wrote-join : Wrote text text'' at (a ++ b) end
  wrote-join = record { stop = omega (arith, both, f.stop, g.stop); laid = lies }

-- ---- the same of a buffer

pub appends-none : (t : TextBuffer) → Appends t t []
appends-none t = record { wrote = wrote_none t.bytes.now t.len; long = refl; same_reference = refl }

pub appends-join : {t u v : TextBuffer} {a b : List ℕ} → Appends t u a → Appends u v b → Appends t v (a ++ b)
appends-join f g = record { wrote = wrote-join f.wrote g.wrote; long = g.long ∙ f.long; same_reference = g.same_reference ∙ f.same_reference }

-- the same text said otherwise
pub appends-as : {t u : TextBuffer} {a b : List ℕ} → Appends t u a → a ≡ b → Appends t u b
appends-as f e = rw e at f

-- a text in two parts, and in three
pub appends-two : (t u v : TextBuffer) (a b bs : List ℕ) → Appends t u a → Appends u v b → a ++ b ≡ bs → Appends t v bs
appends-two t u v a b bs f g e = appends-as (appends-join f g) e

pub appends-three : (t u v w : TextBuffer) (a b c bs : List ℕ) → Appends t u a → Appends u v b → Appends v w c → a ++ (b ++ c) ≡ bs → Appends t w bs
appends-three t u v w a b c bs f g h e = appends-as (appends-join f (appends-join g h)) e

-- in front of lent bytes that hold it all
pub appends-first : (t u : TextBuffer) (bs : List ℕ) → Appends t u bs → t.len ≡ 0 → length t.bytes.now < 2 ^ 63 → u.len ≤ length t.bytes.now → take u.len u.bytes.now ≡ bs
appends-first t u bs f z s h =
    let w = rw z at f.wrote in
    let n : u.len ≡ length bs = omega (arith, w.stop) in
    let e : u.bytes.now ≡ put t.bytes.now 0 bs = w.laid (omega (arith, n)) (omega (arith, n)) in
    rw (n, e) (span-put t.bytes.now 0 bs (omega (arith, n)))

-- ---- bytes, one at a time

pub bytes-turn : (bytes : List ℕ) (t u v : TextBuffer) (i : ℕ) → i < length bytes → Appends t u (take i bytes) → Appends u v (get_or bytes i 0 ∷ []) → Appends t v (take (i + 1) bytes)
bytes-turn bytes t u v i h f g = appends-as (appends-join f g) (sym (take_more bytes i 0 h))

pub bytes-all : (bytes : List ℕ) (t u : TextBuffer) (i : ℕ) → length bytes ≤ i → Appends t u (take i bytes) → Appends t u bytes
bytes-all bytes t u i h f = appends-as f (take_all i bytes h)

-- ---- bytes, at once

-- where their end is right: all of them where there is room, and nothing is said of a buffer that is too short
module _ (text : List ℕ) (at : ℕ) (bs : List ℕ) (end : ℕ) (stop : min end (2 ^ 63) ≡ min (at + length bs) (2 ^ 63)) where
  pub wrote-whole : (text' : List ℕ) → text' ≡ put text at (span bs 0 (length bs)) → Wrote text text' at bs end
  wrote-whole text' e = record { stop = stop; laid = λ h l. e ∙ ap (put text at) (take_all (length bs) bs (omega arith)) }

  pub wrote-cut : (text' : List ℕ) → length text < at + length bs → Wrote text text' at bs end
  wrote-cut text' h = record { stop = stop; laid = λ k l. absurd (omega arith) }

  pub wrote-past : length text ≤ at → Wrote text text at bs end
  wrote-past h = record { stop = stop; laid = λ k l. go bs (omega arith) }
    where
      go : (l : List ℕ) → length l ≡ 0 → text ≡ put text at l
      go [] e = sym (put-none text at)
      go (b ∷ l) e = absurd (omega arith)

-- ---- a text up to its end, one byte at a time

pub record Copying (source : List ℕ) (t u : TextBuffer) (i : ℕ) : Type 0 where
  pub done : List ℕ
  pub appends : Appends t u done
  pub left : done ++ text_at source i ≡ text_at source 0

pub copy_start : (source : List ℕ) (t : TextBuffer) → Copying source t t 0
copy_start source t = record { done = []; appends = appends-none t; left = refl }

module _ (source : List ℕ) (t u : TextBuffer) (i : ℕ) (c : Copying source t u i) where
  pub copy-turn : (v : TextBuffer) → (get_or source i 0 ≡ 0 → ⊥) → Appends u v (get_or source i 0 ∷ []) → Copying source t v (i + 1)
  copy-turn v h w = record {
    done = c.done ++ (get_or source i 0 ∷ []);
    appends = appends-join c.appends w;
    left = append_assoc c.done (get_or source i 0 ∷ []) (text_at source (i + 1)) ∙ (rw (text-more source i h) at c.left);
  }
