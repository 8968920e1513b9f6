-- An entry that has moved behind the new one is raised where it stands: its kind and name offset are one word, and a file's other two words stay.
-- Assumes nothing.
use Prim.Native.Nat.{ℕ, suc, ◌+◌, ◌*◌, ◌/◌, ◌%◌, ◌≤◌, ◌<◌, ◌^◌}
use mathlib.Core.Path.{◌≡◌, refl, sym, ◌∙◌}
use mathlib.Core.List.{List, [], ◌∷◌, ◌++◌}
use native.Mathlib.Omega.{arith}
use native.Mathlib.Numerals.{add-one}
use lib.ListN.{length, get_or}
use Rattle.endian.specs.Bytes.{put, be24, be32, be24_bytes, be32_bytes, AllBytes}
use Rattle.endian.specs.Laws.Stored.{length-put, put-after, be32-same}
use Rattle.tree.specs.Table.{kind, name_offset, offset_or_parent, size_or_next}
use Rattle.tree.specs.Insert.{number_after_insert}
use Rattle.tree.specs.Inner.Patch.{record_after}
use Rattle.endian.specs.Laws.Stays.{be32-stays}
use Rattle.table_writing.proofs.Patches.{after-file, after-directory}
use Rattle.endian.proofs.Parts.{put-append, put-prepend}

-- ---- a word is its highest byte and a number of 3 bytes

word_read : (s : List ℕ) (at : ℕ) → be32 s at ≡ get_or s at 0 * 16777216 + be24 s (at + 1)
unfolding be32 be24
word_read s at =
    let e₁ : at + 1 + 1 ≡ at + 2 = omega arith in
    let e₂ : at + 1 + 2 ≡ at + 3 = omega arith in
    rw (e₁, e₂) (omega arith)

word_bytes : (t n : ℕ) → t < 256 → n < 2 ^ 24 → be32_bytes (t * 16777216 + n) ≡ t ∷ be24_bytes n
word_bytes t n h l =
    let w : ℕ = t * 16777216 + n in
    let f₃ : w / 16777216 % 256 ≡ t = omega arith in
    let f₂ : w / 65536 % 256 ≡ n / 65536 % 256 = omega arith in
    let f₁ : w / 256 % 256 ≡ n / 256 % 256 = omega arith in
    let f₀ : w % 256 ≡ n % 256 = omega arith in
    λ i. f₃ i ∷ f₂ i ∷ f₁ i ∷ f₀ i ∷ []

-- ---- the words behind what was put are as they were

word-behind : (s : List ℕ) (at v n : ℕ) → at + 4 ≤ length s → at + 4 ≤ n → be32 (put s at (be32_bytes v)) n ≡ be32 s n
word-behind s at v n h l = be32-same (put s at (be32_bytes v)) s n (λ i m. put-after s at (be32_bytes v) h (n + i) (omega arith))

module _ (s : List ℕ) (k : ℕ) (room : 12 * k + 12 ≤ length s) (t₁ : List ℕ) (v : ℕ) (e₁ : t₁ ≡ put s (12 * k) (be32_bytes v)) where
  pub place_read : be32 t₁ (12 * k + 4) ≡ offset_or_parent s k
  place_read = rw e₁ (word-behind s (12 * k) v (12 * k + 4) (omega arith) (omega arith))

  pub next-read : (t₂ : List ℕ) (w : ℕ) → t₂ ≡ put t₁ (12 * k + 4) (be32_bytes w) → be32 t₂ (12 * k + 8) ≡ size_or_next s k
  next-read t₂ w e₂ =
      let l : length t₁ ≡ length s = rw e₁ (length-put s (12 * k) (be32_bytes v) (omega arith)) in
      let f : be32 t₁ (12 * k + 8) ≡ size_or_next s k = rw e₁ (word-behind s (12 * k) v (12 * k + 8) (omega arith) (omega arith)) in
      rw e₂ (word-behind t₁ (12 * k + 4) w (12 * k + 8) (omega (arith, l)) (omega arith) ∙ f)

-- ---- entry k

module _ (s : List ℕ) (q grow k : ℕ) (room : 12 * k + 12 ≤ length s) (known : kind s k ≤ 1) (small : name_offset s k + grow < 2 ^ 24) where
  pub first_small : be32 s (12 * k) + grow < 2 ^ 32
  first_small = omega (arith, word_read s (12 * k))

  -- the kind stands above the name offset
  pub first-directory : 2 ^ 24 ≤ be32 s (12 * k) + grow → kind s k ≡ 1
  first-directory h = omega (arith, word_read s (12 * k))

  pub first-file : be32 s (12 * k) + grow < 2 ^ 24 → kind s k ≡ 0
  first-file h = omega (arith, word_read s (12 * k))

  first-bytes : be32_bytes (be32 s (12 * k) + grow) ≡ kind s k ∷ be24_bytes (name_offset s k + grow)
  first-bytes =
      let e : be32 s (12 * k) + grow ≡ kind s k * 16777216 + (name_offset s k + grow) = omega (arith, word_read s (12 * k)) in
      rw e (word_bytes (kind s k) (name_offset s k + grow) (omega arith) small)

  pub raised-file : AllBytes s → kind s k ≡ 0 → put s (12 * k) (be32_bytes (be32 s (12 * k) + grow)) ≡ put s (12 * k) (record_after s q grow k)
  raised-file bytes file =
      let x : List ℕ = kind s k ∷ be24_bytes (name_offset s k + grow) in
      let a : List ℕ = be32_bytes (offset_or_parent s k) in
      let b : List ℕ = be32_bytes (size_or_next s k) in
      let stays : put s (12 * k + 4) (a ++ b) ≡ s =
      sym (put-append s (12 * k + 4) a (12 * k + 8) b (omega arith) (omega arith))
      ∙ rw (be32-stays s (12 * k + 4) bytes (omega arith)) (be32-stays s (12 * k + 8) bytes (omega arith)) in
      let e : put (put s (12 * k + 4) (a ++ b)) (12 * k) x ≡ put s (12 * k) (x ++ (a ++ b)) = put-prepend s (12 * k) x (12 * k + 4) (a ++ b) refl (omega arith) in
      rw (first-bytes, ← after-file s q grow k file) (rw stays at e)

  words-raised : kind s k ≡ 1 →
      put (put (put s (12 * k) (be32_bytes (be32 s (12 * k) + grow))) (12 * k + 4) (be32_bytes (number_after_insert q (offset_or_parent s k)))) (12 * k + 8) (be32_bytes (size_or_next s k + 1))
      ≡ put s (12 * k) (record_after s q grow k)
  words-raised e =
      let x : List ℕ = kind s k ∷ be24_bytes (name_offset s k + grow) in
      let a : List ℕ = be32_bytes (number_after_insert q (offset_or_parent s k)) in
      let b : List ℕ = be32_bytes (suc (size_or_next s k)) in
      rw (
        first-bytes,
        add-one (size_or_next s k),
        ← after-directory s q grow k e,
        put-append s (12 * k) x (12 * k + 4) a refl (omega arith),
        put-append s (12 * k) (x ++ a) (12 * k + 8) b refl (omega arith),
      )

  -- by what is read before each word is written
  pub raised-directory : kind s k ≡ 1 → (first : ℕ) → first ≡ be32 s (12 * k) → (t₁ : List ℕ) → t₁ ≡ put s (12 * k) (be32_bytes (first + grow)) →
      (place : ℕ) → place ≡ be32 t₁ (12 * k + 4) → (place' : ℕ) → place' ≡ number_after_insert q place → (t₂ : List ℕ) → t₂ ≡ put t₁ (12 * k + 4) (be32_bytes place') →
      (next : ℕ) → next ≡ be32 t₂ (12 * k + 8) → (t₃ : List ℕ) → t₃ ≡ put t₂ (12 * k + 8) (be32_bytes (next + 1)) → t₃ ≡ put s (12 * k) (record_after s q grow k)
  raised-directory e first r₁ t₁ e₁ place r₂ place' f t₂ e₂ next r₃ t₃ e₃ =
      let p : place ≡ offset_or_parent s k = r₂ ∙ place_read s k room t₁ (first + grow) e₁ in
      let n : next ≡ size_or_next s k = r₃ ∙ next-read s k room t₁ (first + grow) e₁ t₂ place' e₂ in
      rw (e₃, n, e₂, f, p, e₁, r₁) (words-raised e)
