-- The clip put first, and then the table and the zeros, is the clip put over the image that a resize leaves. Assumes nothing.
use Prim.Native.Nat.{ℕ, ◌+◌, ◌-◌, ◌<◌, ◌≤◌}
use mathlib.Core.Path.{◌≡◌, refl, sym, ap, ◌∙◌}
use mathlib.Core.Logic.{◌⊎◌, inl, inr, ⊎_elim}
use mathlib.Core.List.{List, [], ◌∷◌, ◌++◌}
use native.Mathlib.Omega.{arith}
use lib.ListN.{length, take, drop, replicate, length-append, length-replicate, length-take}
use lib.Seq.{length-take-le, take-append_seam}
use Rattle.endian.specs.Bytes.{put, span, be32, be32_bytes}
use Rattle.endian.specs.Laws.Stored.{length-put, drop-put, put-none}
use Rattle.header.specs.Verdicts.{fst_offset, fst_size}
use Rattle.edit_rules.specs.Change.{padded_table, image_with_table}
use Rattle.edit_rules.proofs.Laws.Puts.{put-length, field_below}
use Rattle.table_writing.proofs.Puts.{put-swap}
use Rattle.edit.specs.declared.decision.Writing.{Writing}
use Rattle.edit.specs.Inner.Decision.{clipped_image, written_with, Fits}
use Rattle.edit.specs.Inner.Filling.{IsClear, uncopied_writing}

-- bytes put over others that they cover
over : (s : List ℕ) (at : ℕ) (x y : List ℕ) → length x ≤ length y → at + length y ≤ length s → put (put s at x) at y ≡ put s at y
over s at x y h fits = parts ∙ (rw (front, drop-put s at x (omega arith) (at + length y) (omega arith)) (sym whole))
  where
    whole : put s at y ≡ take at s ++ (y ++ drop (at + length y) s)
    whole = unfold put in refl

    parts : put (put s at x) at y ≡ take at (put s at x) ++ (y ++ drop (at + length y) (put s at x))
    parts = unfold put in refl

    front : take at (put s at x) ≡ take at s
    front =
        unfold put in
        let l : length (take at s) ≡ at = length-take-le at s (omega arith) in
        ap (λ (n : ℕ). take n (take at s ++ (x ++ drop (at + length x) s))) (sym l) ∙ take-append_seam (take at s) (x ++ drop (at + length x) s)

pub put-over : (s : List ℕ) (at : ℕ) (x y : List ℕ) → length x ≤ length y → (0 < length y → at + length y ≤ length s) → put (put s at x) at y ≡ put s at y
put-over s at [] y h fits = rw (put-none s at)
put-over s at (b ∷ x) y h fits = over s at (b ∷ x) y h (fits (omega arith))

pub clipped_image-put : (s : List ℕ) (at : ℕ) (x : List ℕ) → clipped_image s at x ≡ put s at x
clipped_image-put s at [] = sym (put-none s at)
clipped_image-put s at (b ∷ x) = refl

-- ---- bytes at places that are apart, in either order

apart-swap : (s : List ℕ) (a : ℕ) (x : List ℕ) (b : ℕ) (y : List ℕ) → a + length x ≤ length s → b + length y ≤ length s → (a + length x ≤ b) ⊎ (b + length y ≤ a) →
    put (put s a x) b y ≡ put (put s b y) a x
apart-swap s a x b y f g = ⊎_elim (λ h. put-swap s a x b y h g) (λ h. sym (put-swap s b y a x h f))

-- ---- three writes after the one at `a`

module _ (p z : List ℕ) (n a f at lost long : ℕ) (word : List ℕ) (behind : 0 < n → f + length p ≤ a) (before : 0 < n → at + length word ≤ a) (into : 0 < n → a + n ≤ long) (header : at + length word ≤ long)
    (apart : 0 < n → 0 < length z → (a + n ≤ lost) ⊎ (lost + length z ≤ a)) (zeroed : 0 < length z → lost + length z ≤ long) where
  abbrev rest : List ℕ → List ℕ
  rest s = put (put (put s f p) at word) lost z

  pub length_rest : (s : List ℕ) → length s ≡ long → f + length p ≤ long → length (rest s) ≡ long
  length_rest s l g =
      let l₁ : length (put s f p) ≡ long = length-put s f p (omega arith) ∙ l in
      let l₂ : length (put (put s f p) at word) ≡ long = length-put (put s f p) at word (omega arith) ∙ l₁ in
      put-length (put (put s f p) at word) lost z (λ y. omega (arith, zeroed y)) ∙ l₂

  last-swap : (s x : List ℕ) → length s ≡ long → length x ≤ n → 0 < length x → put (put s a x) lost z ≡ put (put s lost z) a x
  last-swap s x l h i = go z refl
    where
      go : (y : List ℕ) → z ≡ y → put (put s a x) lost y ≡ put (put s lost y) a x
      go [] e = rw (put-none (put s a x) lost, put-none s lost)
      go (y ∷ ys) e =
          let q : length z ≡ length (y ∷ ys) = ap length e in
          apart-swap s a x lost (y ∷ ys) (omega (arith, into (omega arith))) (omega (arith, zeroed (omega arith)))
          (⊎_elim (λ u. inl (omega arith)) (λ u. inr (omega arith)) (apart (omega arith) (omega arith)))

  -- LAW: x, which is not longer than the clip, can as well be put last
  pub put-later : (s x : List ℕ) → length s ≡ long → f + length p ≤ long → length x ≤ n → rest (put s a x) ≡ put (rest s) a x
  put-later s [] l g h = rw (put-none s a, put-none (rest s) a)
  put-later s (b ∷ bs) l g h =
      let x : List ℕ = b ∷ bs in
      let i : 0 < n = omega arith in
      let j : a + length x ≤ long = omega (arith, into i) in
      let l₁ : length (put s f p) ≡ long = length-put s f p (omega arith) ∙ l in
      let l₂ : length (put (put s f p) at word) ≡ long = length-put (put s f p) at word (omega arith) ∙ l₁ in
      let e₁ : put (put s a x) f p ≡ put (put s f p) a x = apart-swap s a x f p (omega arith) (omega arith) (inr (behind i)) in
      let e₂ : put (put (put s f p) a x) at word ≡ put (put (put s f p) at word) a x = apart-swap (put s f p) a x at word (omega arith) (omega arith) (inr (before i)) in
      ap (λ (y : List ℕ). put (put y at word) lost z) e₁ ∙ ap (λ (y : List ℕ). put y lost z) e₂ ∙ last-swap (put (put s f p) at word) x l₂ h (omega arith)

-- ---- the image

module _ (image t clip : List ℕ) (room : ℕ) (w : Writing) (k : IsClear image (length t) w (length clip)) (fits : Fits image room (length t) w) where
  abbrev n : ℕ
  n = length clip

  abbrev a : ℕ
  a = w.place.offset

  -- the table's place is that of before
  field-kept : (at : ℕ) → at + 4 ≤ 0x440 → be32 (put image a clip) at ≡ be32 image at
  field-kept at h = field_below image a clip 0x440 k.into (λ z. omega (arith, k.old-table z, fits.table.behind-header)) at h

  pub offset-kept : fst_offset (put image a clip) ≡ fst_offset image
  offset-kept = field-kept 0x424 (omega arith)

  pub size-kept : fst_size (put image a clip) ≡ fst_size image
  size-kept = field-kept 0x428 (omega arith)

  abbrev table : List ℕ
  table = padded_table t (fst_size image)

  length-table : length table ≡ length t + (fst_size image - length t)
  length-table = length-append t (replicate (fst_size image - length t) 0) ∙ ap (λ (m : ℕ). length t + m) (length-replicate {A = ℕ} (fst_size image - length t) 0)

  length-zeros : length (replicate {A = ℕ} w.lost.size 0) ≡ w.lost.size
  length-zeros = length-replicate {A = ℕ} w.lost.size 0

  copied : List ℕ
  copied = span image w.old.offset w.kept

  short : length copied ≤ n
  unfolding copied
  short = omega (arith, length-take w.kept (drop w.old.offset image), k.covers)

  -- what the rest asks
  behind : 0 < n → fst_offset image + length table ≤ a
  behind z = omega (arith, length-table, k.old-table z, k.new-table z)

  before : 0 < n → 0x428 + 4 ≤ a
  before z = omega (arith, k.old-table z, fits.table.behind-header)

  header : 0x428 + 4 ≤ length image
  header = omega (arith, fits.table.old, fits.table.behind-header)

  apart : 0 < n → 0 < length (replicate {A = ℕ} w.lost.size 0) → (a + n ≤ w.lost.offset) ⊎ (w.lost.offset + length (replicate {A = ℕ} w.lost.size 0) ≤ a)
  apart z y = rw length-zeros (k.apart z (rw length-zeros at y))

  zeroed : 0 < length (replicate {A = ℕ} w.lost.size 0) → w.lost.offset + length (replicate {A = ℕ} w.lost.size 0) ≤ length image
  zeroed y = rw length-zeros (fits.inside.zeroed.into (rw length-zeros at y))

  inside : fst_offset image + length table ≤ length image
  inside = omega (arith, length-table, fits.table.old, fits.table.into)

  abbrev others : List ℕ → List ℕ
  others s = rest table (replicate w.lost.size 0) n a (fst_offset image) 0x428 w.lost.offset (length image) (be32_bytes (length t)) behind before k.into header apart zeroed s

  writes : (x : List ℕ) → length x ≤ n → others (put image a x) ≡ put (others image) a x
  writes x h =
      put-later table (replicate w.lost.size 0) n a (fst_offset image) 0x428 w.lost.offset (length image) (be32_bytes (length t)) behind before k.into header apart zeroed image x refl inside h

  long : length (others image) ≡ length image
  long = length_rest table (replicate w.lost.size 0) n a (fst_offset image) 0x428 w.lost.offset (length image) (be32_bytes (length t)) behind before k.into header apart zeroed image refl inside

  -- LAW: the clip, the table, the zeros, and no copy
  pub clip-first : written_with (uncopied_writing w) t (put image a clip) ≡ put (written_with w t image) a clip
  unfolding written_with image_with_table copied
  clip-first =
      rw (offset-kept, size-kept, put-none (put image a clip) a)
      (writes clip (omega arith) ∙ sym (ap (λ (y : List ℕ). put y a clip) (writes copied short) ∙ put-over (others image) a copied clip short (λ z. omega (arith, long, k.into z))))
