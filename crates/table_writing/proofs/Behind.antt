-- The records behind the new entry: all are moved one record up, then each is raised, the last one first.
-- Assumes nothing.
use Prim.Native.Nat.{ℕ, suc, ◌+◌, ◌-◌, ◌*◌, ◌≤◌, ◌<◌, ◌^◌}
use mathlib.Core.Path.{◌≡◌, sym, ap, ◌∙◌}
use mathlib.Core.List.{List, ◌++◌}
use native.Mathlib.Omega.{arith}
use native.Mathlib.Numerals.{add-one}
use lib.ListN.{length, get_or, take, drop}
use lib.Seq.{get_or-drop, length-take-le, take_at}
use Rattle.endian.specs.Bytes.{put, span, be24, be32}
use Rattle.endian.specs.Laws.Stored.{length-put, put_in, drop-put, length-span, get_d-span, be24-drop, be32-drop, be24-same, be32-same}
use Rattle.tree.specs.Table.{name_offset}
use Rattle.tree.specs.Inner.Patch.{records, record_after}
use Rattle.tree.proofs.Laws.Records.{length-records}
use Rattle.table_writing.specs.Inner.Inserting.{IsRaisable, EachIsRaisable, NamesGrow}
use Rattle.table_writing.proofs.Patches.{MovedEntry, SameEntry, moved-after, raisable-moved, after-twelve}
use Rattle.table_writing.proofs.Passes.{Filled, fill_start, fill-same, fill-again, records-shift}

-- bytes put over others of the same number
put-again : (s : List ℕ) (at : ℕ) (a b : List ℕ) → length a ≡ length b → at + length a ≤ length s → put (put s at a) at b ≡ put s at b
unfolding put
put-again s at a b l h =
    rw (take_at (take at s) (a ++ drop (at + length a) s) at (length-take-le at s (omega arith)), drop-put s at a h (at + length b) (omega arith))

-- of the moved records t, those behind k are raised
abbrev pub Raised : List ℕ → ℕ → ℕ → ℕ → List ℕ → ℕ → Type 0
Raised t c q grow out k = Filled t (record_after t q grow) (c + 1) out (k + 1)

module _ (s : List ℕ) (c q grow : ℕ) (room : 12 * c + 12 ≤ length s) (within : q ≤ c) (t : List ℕ) (up : t ≡ put s (12 * (q + 1)) (span s (12 * q) (12 * (c - q)))) where
  span-long : length (span s (12 * q) (12 * (c - q))) ≡ 12 * (c - q)
  span-long = length-span s (12 * q) (12 * (c - q)) (omega arith)

  fits : 12 * (q + 1) + length (span s (12 * q) (12 * (c - q))) ≤ length s
  fits = omega (arith, span-long)

  long : length t ≡ length s
  long = rw up (length-put s (12 * (q + 1)) (span s (12 * q) (12 * (c - q))) fits)

  byte-moved : (i : ℕ) → 12 * q ≤ i → i < 12 * c → get_or t (12 + i) 0 ≡ get_or s i 0
  byte-moved i h l =
      let n : ℕ = i - 12 * q in
      let e : 12 * (q + 1) + n ≡ 12 + i = omega arith in
      let f : 12 * q + n ≡ i = omega arith in
      rw up
      (rw (e, f) at
      (put_in s (12 * (q + 1)) (span s (12 * q) (12 * (c - q))) fits n (omega (arith, span-long)) ∙ get_d-span s (12 * q) (12 * (c - q)) n (omega arith)))

  name-moved : (at : ℕ) → 12 * q ≤ at → at + 3 ≤ 12 * c → be24 t (12 + at) ≡ be24 s at
  name-moved at h l = rw (← be24-drop 12 t at) (be24-same (drop 12 t) s at (λ i m. get_or-drop 12 t (at + i) 0 ∙ byte-moved (at + i) (omega arith) (omega arith)))

  word_moved : (at : ℕ) → 12 * q ≤ at → at + 4 ≤ 12 * c → be32 t (12 + at) ≡ be32 s at
  word_moved at h l = rw (← be32-drop 12 t at) (be32-same (drop 12 t) s at (λ i m. get_or-drop 12 t (at + i) 0 ∙ byte-moved (at + i) (omega arith) (omega arith)))

  moved-entry : (j k : ℕ) → j ≡ k + 1 → q ≤ k → k < c → MovedEntry t j s k
  moved-entry j k e h l =
      record {
        kinds = let f : 12 * j ≡ 12 + 12 * k = omega arith in rw f (byte-moved (12 * k) (omega arith) (omega arith));
        names = let f : 12 * j + 1 ≡ 12 + (12 * k + 1) = omega arith in rw f (name-moved (12 * k + 1) (omega arith) (omega arith));
        places = let f : 12 * j + 4 ≡ 12 + (12 * k + 4) = omega arith in rw f (word_moved (12 * k + 4) (omega arith) (omega arith));
        nexts = let f : 12 * j + 8 ≡ 12 + (12 * k + 8) = omega arith in rw f (word_moved (12 * k + 8) (omega arith) (omega arith));
      }

  fit : 12 * (c + 1) ≤ length t
  fit = omega (arith, long)

  pub raise-start : Raised t c q grow t c
  raise-start = fill_start t (record_after t q grow) (after-twelve t q grow) (c + 1) fit

  module _ (out : List ℕ) (k : ℕ) (u : Raised t c q grow out k) (more : q < k) where
    -- entry k is as it was moved, and so the old one before it
    still : SameEntry out t k
    still = fill-same t (record_after t q grow) (after-twelve t q grow) (c + 1) fit out (k + 1) u k (omega arith)

    old : MovedEntry t k s (k - 1)
    old = let m = u.most in moved-entry k (k - 1) (omega arith) (omega arith) (omega arith)

    pub raise-turn : EachIsRaisable s c → NamesGrow s c grow → (12 * k + 12 ≤ length out) × IsRaisable out k × (name_offset out k + grow < 2 ^ 24)
    raise-turn each names =
        let m = u.most in
        (omega (arith, u.long, long), raisable-moved out k t k still (raisable-moved t k s (k - 1) old (each (k - 1) (omega arith))), rw (still.names, old.names) (names (k - 1) (omega arith)))

    pub raise-again : (out' : List ℕ) → out' ≡ put out (12 * k) (record_after out q grow k) → length out' ≡ length out → Raised t c q grow out' (k - 1)
    raise-again out' e l =
        let n : k + 1 - 1 ≡ k = omega arith in
        let n' : k - 1 + 1 ≡ k = omega arith in
        let f : out' ≡ put out (12 * k) (record_after t q grow k) = rw (moved-after out k t k q grow still) at e in
        rw n' (rw n at (fill-again t (record_after t q grow) (after-twelve t q grow) (c + 1) fit out (k + 1) u (omega arith) out' (rw n f) l))

  raised-old : records (record_after s q grow) q (c - q) ≡ records (record_after t q grow) (q + 1) (c - q)
  raised-old =
      records-shift (record_after s q grow) (record_after t q grow) q (c - q) (λ i h l. sym (moved-after t (suc i) s i q grow (moved-entry (suc i) i (omega arith) h (omega arith))))
      ∙ ap (λ (n : ℕ). records (record_after t q grow) n (c - q)) (sym (add-one q))

  pub raise-end : (out : List ℕ) → Raised t c q grow out q → out ≡ put s (12 * (q + 1)) (records (record_after s q grow) q (c - q))
  raise-end out u =
      let b : c + 1 - (q + 1) ≡ c - q = omega arith in
      let rs : List ℕ = records (record_after t q grow) (q + 1) (c - q) in
      let l : length rs ≡ 12 * (c - q) = length-records (record_after t q grow) (after-twelve t q grow) (q + 1) (c - q) in
      let e : out ≡ put t (12 * (q + 1)) rs = rw b at u.done in
      let f : put t (12 * (q + 1)) rs ≡ put (put s (12 * (q + 1)) (span s (12 * q) (12 * (c - q)))) (12 * (q + 1)) rs = ap (λ (x : List ℕ). put x (12 * (q + 1)) rs) up in
      e ∙ f ∙ put-again s (12 * (q + 1)) (span s (12 * q) (12 * (c - q))) rs (span-long ∙ sym l) fits ∙ ap (put s (12 * (q + 1))) (sym raised-old)
