-- The records of a table with one entry more, made from the old ones: first those behind the new one, then it, then those up to its directory.
-- Those in between stay as they are.
-- Assumes nothing.
use Prim.Native.Nat.{ℕ, zero, suc, ◌+◌, ◌-◌, ◌*◌, ◌≤◌, ◌<◌}
use mathlib.Core.Path.{◌≡◌, refl, sym, ◌∙◌}
use mathlib.Core.Bool.{Bool}
use mathlib.Core.List.{List, [], ◌++◌}
use native.Mathlib.Omega.{arith}
use native.Mathlib.Numerals.{add-one}
use native.Mathlib.Nat.{zero-add}
use lib.ListN.{length}
use Rattle.endian.specs.Bytes.{put, AllBytes}
use Rattle.endian.specs.Laws.Stored.{length-put, put-before, put-none}
use Rattle.tree.specs.Table.{Node, node_bytes}
use Rattle.tree.proofs.Laws.WrittenEntries.{length-node_bytes}
use Rattle.tree.specs.Inner.Patch.{records, record_before, record_after, patched_record}
use Rattle.tree.proofs.Laws.Records.{Twelve, length-records, records-ext, records-split}
use Rattle.table_writing.specs.Inner.Inserting.{new_node, IsRaisable, EachIsRaisable, IsPatchable}
use Rattle.table_writing.proofs.Patches.{SameEntry, same-entry, same-before, raisable-same, before-twelve, patched-twelve, patched-before, patched-new, patched-after, new_is, new-name, between_stays}
use Rattle.endian.proofs.Parts.{put-prepend}

-- ---- records put over a list, the last one first

-- records k to n - 1 are put
pub record Filled (s : List ℕ) (f : ℕ → List ℕ) (n : ℕ) (out : List ℕ) (k : ℕ) : Type 0 where
  pub most : k ≤ n
  pub long : length out ≡ length s
  pub done : out ≡ put s (12 * k) (records f k (n - k))

records-none : (f : ℕ → List ℕ) (k : ℕ) → records f k 0 ≡ []
unfolding records
records-none f k = refl

records-one : (f : ℕ → List ℕ) (k n : ℕ) → records f k (suc n) ≡ f k ++ records f (suc k) n
unfolding records
records-one f k n = refl

module _ (s : List ℕ) (f : ℕ → List ℕ) (twelve : Twelve f) (n : ℕ) (room : 12 * n ≤ length s) where
  pub fill_start : Filled s f n s n
  fill_start =
      let e : n - n ≡ 0 = omega arith in
      record { most = omega arith; long = refl; done = rw (e, records-none f n) (sym (put-none s (12 * n))) }

  module _ (out : List ℕ) (k : ℕ) (u : Filled s f n out k) where
    abbrev rest : List ℕ
    rest = records f k (n - k)

    fits : 12 * k + length rest ≤ length s
    fits =
        let l : length rest ≡ 12 * (n - k) = length-records f twelve k (n - k) in
        let m = u.most in
        omega arith

    -- the entries below are as they were
    pub fill-same : (j : ℕ) → j < k → SameEntry out s j
    fill-same j h = same-entry out s j (λ i l. rw u.done (put-before s (12 * k) rest fits i (omega arith)))

    pub fill-again : 0 < k → (out' : List ℕ) → out' ≡ put out (12 * (k - 1)) (f (k - 1)) → length out' ≡ length out → Filled s f n out' (k - 1)
    fill-again more out' e l =
        let m = u.most in
        let tw : length (f (k - 1)) ≡ 12 = twelve (k - 1) in
        let x : n - (k - 1) ≡ suc (n - k) = omega arith in
        let z : suc (k - 1) ≡ k = omega arith in
        record {
          most = omega arith;
          long = l ∙ u.long;
          done = e ∙ rw (u.done, x, records-one f (k - 1) (n - k), z) (put-prepend s (12 * (k - 1)) (f (k - 1)) (12 * k) rest (omega arith) fits);
        }

-- ---- the entries up to directory p

module _ (s : List ℕ) (p : ℕ) where
  module _ (room : 12 * (p + 1) ≤ length s) (out : List ℕ) (k : ℕ) (u : Filled s (record_before s p) (p + 1) out k) (more : 0 < k) where
    same-below : SameEntry out s (k - 1)
    same-below = fill-same s (record_before s p) (before-twelve s p) (p + 1) room out k u (k - 1) (omega arith)

    pub before-turn : EachIsRaisable s (p + 1) → (k - 1 ≤ p) × (12 * (k - 1) + 12 ≤ length out) × IsRaisable out (k - 1)
    before-turn each =
        let m = u.most in
        (omega arith, omega (arith, u.long), raisable-same out s (k - 1) same-below (each (k - 1) (omega arith)))

    pub before-again : (out' : List ℕ) → out' ≡ put out (12 * (k - 1)) (record_before out p (k - 1)) → length out' ≡ length out → Filled s (record_before s p) (p + 1) out' (k - 1)
    before-again out' e l =
        fill-again s (record_before s p) (before-twelve s p) (p + 1) room out k u more out' (rw (same-before out s p (k - 1) same-below) at e) l

-- ---- all records

-- the same records under other numbers
pub records-shift : (f g : ℕ → List ℕ) (k n : ℕ) → ((i : ℕ) → k ≤ i → i < k + n → f i ≡ g (suc i)) → records f k n ≡ records g (suc k) n
unfolding records
records-shift f g k zero h = refl
records-shift f g k (suc n) h = rw (h k (omega arith) (omega arith), records-shift f g (suc k) n (λ i l m. h i (omega arith) (omega arith)))

module _ (s : List ℕ) (c p q : ℕ) (d : Bool) (nm : List ℕ) (start : ℕ) (r : IsPatchable s c p q start (length nm + 1)) where
  abbrev new : Node
  new = new_node d nm q

  abbrev each : ℕ → List ℕ
  each = patched_record s p q new start

  twelve : Twelve each
  twelve = patched-twelve s p q new start

  -- those behind the new one
  behind : records (record_after s q (length nm + 1)) q (c - q) ≡ records each (q + 1) (c - q)
  behind =
      rw (add-one q) (records-shift (record_after s q (length nm + 1)) each q (c - q)
      (λ i h l.
      let e : suc i - 1 ≡ i = omega arith in
      sym (rw (patched-after s p q new start (suc i) (omega arith), new-name d nm q, add-one (length nm), e))))

  module _ (t₁ : List ℕ) (e₁ : t₁ ≡ put s (12 * (q + 1)) (records (record_after s q (length nm + 1)) q (c - q))) where
    moved : Filled s each (c + 1) t₁ (q + 1)
    moved =
        let w = r.within in
        let b : c + 1 - (q + 1) ≡ c - q = omega arith in
        let l : length (records each (q + 1) (c - q)) ≡ 12 * (c - q) = length-records each twelve (q + 1) (c - q) in
        let f : t₁ ≡ put s (12 * (q + 1)) (records each (q + 1) (c - q)) = rw behind at e₁ in
        record { most = omega arith; long = rw f (length-put s (12 * (q + 1)) (records each (q + 1) (c - q)) (omega (arith, r.room))); done = rw b f }

    pub moved-long : length t₁ ≡ length s
    moved-long = moved.long

    module _ (t₂ : List ℕ) (e₂ : t₂ ≡ put t₁ (12 * q) (node_bytes p start (new_node d [] q))) where
      room : 12 * (c + 1) ≤ length s
      room = omega (arith, r.room)

      -- and the new one
      written : Filled s each (c + 1) t₂ q
      written =
          let k : q + 1 - 1 ≡ q = omega arith in
          let w = r.within in
          let n : node_bytes p start (new_node d [] q) ≡ each q = new_is d p q start nm ∙ sym (patched-new s p q new start q refl) in
          let e : t₂ ≡ put t₁ (12 * q) (each q) = rw n at e₂ in
          let l : length t₂ ≡ length t₁ = rw e₂ (length-put t₁ (12 * q) (node_bytes p start (new_node d [] q)) (omega (arith, length-node_bytes p start (new_node d [] q), moved-long, r.room))) in
          rw k at (fill-again s each twelve (c + 1) room t₁ (q + 1) moved (omega arith) t₂ (rw k e) l)

      same_old : (j : ℕ) → j < q → SameEntry t₂ s j
      same_old j h = fill-same s each twelve (c + 1) room t₂ q written j (omega arith)

      old-raisable : (j : ℕ) → j < q → IsRaisable t₂ j
      old-raisable j h =
          let w = r.within in
          raisable-same t₂ s j (same_old j h) (r.each j (omega arith))

      pub up-to-turn : (12 * (p + 1) ≤ length t₂) × EachIsRaisable t₂ (p + 1)
      up-to-turn =
          let w = r.within in
          let l = r.later in
          (omega (arith, written.long, r.room), λ j h. old-raisable j (omega arith))

      module _ (bytes : AllBytes t₂) where
        -- a record between directory p and the new one is put where it stands
        stays : (k : ℕ) → p < k → k < q → t₂ ≡ put t₂ (12 * k) (each k)
        stays k h g =
            let w = r.within in
            let e : each k ≡ record_before t₂ p k = patched-before s p q new start k g ∙ sym (same-before t₂ s p k (same_old k g)) in
            rw e (sym (between_stays t₂ p k bytes (omega (arith, written.long, r.room)) (old-raisable k g).kinds h))

        between : (j : ℕ) → p + j < q → Filled s each (c + 1) t₂ (q - j)
        between zero h = let e : q - 0 ≡ q = omega arith in rw e written
        between (suc j) h =
            let e : q - suc j ≡ q - j - 1 = omega arith in
            rw e (fill-again s each twelve (c + 1) room t₂ (q - j) (between j (omega arith)) (omega arith) t₂ (stays (q - j - 1) (omega arith) (omega arith)) refl)

        from-p : t₂ ≡ put s (12 * (p + 1)) (records each (p + 1) (c - p))
        from-p =
            let l = r.later in
            let e : q - (q - (p + 1)) ≡ p + 1 = omega arith in
            let b : c + 1 - (p + 1) ≡ c - p = omega arith in
            rw b at (rw e at (between (q - (p + 1)) (omega arith)).done)

        -- those up to directory p
        first : records (record_before t₂ p) 0 (p + 1) ≡ records each 0 (p + 1)
        first =
            let l = r.later in
            records-ext (record_before t₂ p) each 0 (p + 1)
            (λ i h. same-before t₂ s p (0 + i) (same_old (0 + i) (omega arith)) ∙ sym (patched-before s p q new start (0 + i) (omega arith)))

        pub all-patched : (t₃ : List ℕ) → t₃ ≡ put t₂ 0 (records (record_before t₂ p) 0 (p + 1)) → t₃ ≡ put s 0 (records each 0 (c + 1))
        all-patched t₃ e =
            let w = r.within in
            let l = r.later in
            let n : c + 1 ≡ p + 1 + (c - p) = omega arith in
            let a : length (records each 0 (p + 1)) ≡ 12 * (p + 1) = length-records each twelve 0 (p + 1) in
            let b : length (records each (p + 1) (c - p)) ≡ 12 * (c - p) = length-records each twelve (p + 1) (c - p) in
            let x : records each 0 (c + 1) ≡ records each 0 (p + 1) ++ records each (p + 1) (c - p) = rw (n, records-split each 0 (p + 1) (c - p), zero-add (p + 1)) in
            e ∙ rw (x, first, from-p) (put-prepend s 0 (records each 0 (p + 1)) (12 * (p + 1)) (records each (p + 1) (c - p)) (omega arith) (omega (arith, r.room)))
