-- `max_region_size` of a place whose bytes are used, and of a place of no bytes, is the largest size that it can grow to in free bytes.
-- Assumes nothing.
use Rattle.std.specs.Prelude.{ℕ, suc, ◌+◌, ◌-◌, ◌<◌, ◌≤◌, max, ◌≡◌, Bool, not, ltb, eqb}
use Rattle.std.proofs.Math.Path.{refl}
use Rattle.std.proofs.Common.{ap, ◌∙◌, ltb-true, eqb-true, lt-ltb, le-ltb, eq-eqb, ne_eqb}
use Rattle.std.proofs.Math.Logic.{⊎_elim}
use Rattle.std.proofs.Math.Bool.{true, false, cond}
use mathlib.Core.List.{List, [], ◌∷◌}
use native.Mathlib.Omega.{arith}
use Rattle.space.specs.declared.region.DiscRegion.{DiscRegion}
use Rattle.space.specs.Used.{end_of, is_inside, is_used, used_regions}
use Rattle.space.specs.Inner.Words.{AllNonempty}
use Rattle.space.specs.Free.{is_free_in, free_regions}
use Rattle.space.specs.MaxRegionSize.{size_inside_free, size_beside_free, max_size_from, max_region_size}
use Rattle.refusal.specs.Laws.Tests.{lt-or-le, or_left, or_right, never_both}
use Rattle.space.specs.Laws.UsedLaws.{is_inside-in, used-is}
use Rattle.space.specs.Laws.RunLaws.{Covers, AllPass, IsRising, covers-late}
use Rattle.space.specs.Laws.FreeLaws.{free-sound, free-rising, free-cover, In, AllEndBy, free-nonempty, free-end}

-- the bytes from a up to b pass
abbrev pub AllBetween : (ℕ → Bool) → ℕ → ℕ → Type 0
AllBetween p a b = (j : ℕ) → a ≤ j → j < b → p j ≡ true

of-run : (p : ℕ → Bool) (r : DiscRegion) (a : ℕ) → ((j : ℕ) → j < r.size → p (r.offset + j) ≡ true) → r.offset ≤ a → AllBetween p a (end_of r)
of-run p r a f h j u v =
    let e : r.offset + (j - r.offset) ≡ j = omega arith in
    rw e at (f (j - r.offset) (omega arith))

is_inside-free : (p : ℕ → Bool) (o n prev_end other : ℕ) → AllBetween p o prev_end → AllBetween p (o + n) (o + other) → AllBetween p (o + n) (o + size_inside_free o n prev_end other)
is_inside-free p o n prev_end other f g = go (ltb (o + n) prev_end) refl
  where
    go : (t : Bool) → ltb (o + n) prev_end ≡ t → AllBetween p (o + n) (o + cond t (prev_end - o) other)
    go true e = let l = ltb-true (o + n) prev_end e in λ j u v. f j (omega arith) (omega arith)
    go false e = g

beside-free : (p : ℕ → Bool) (o n prev_end : ℕ) (r : DiscRegion) → AllBetween p o prev_end → ((j : ℕ) → j < r.size → p (r.offset + j) ≡ true) → AllBetween p (o + n) (o + size_beside_free o n prev_end r)
unfolding size_beside_free
beside-free p o n prev_end r f g = go (eqb r.offset o) refl (is_inside-free p o n prev_end (cond (eqb r.offset (o + n)) (n + r.size) n) f (next (eqb r.offset (o + n)) refl))
  where
    next : (t : Bool) → eqb r.offset (o + n) ≡ t → AllBetween p (o + n) (o + cond t (n + r.size) n)
    next true e = let q = eqb-true r.offset (o + n) e in λ j u v. of-run p r (o + n) g (omega arith) j u (omega arith)
    next false e = λ j u v. absurd (omega arith)

    go : (t : Bool) → eqb r.offset o ≡ t → AllBetween p (o + n) (o + size_inside_free o n prev_end (cond (eqb r.offset (o + n)) (n + r.size) n)) →
        AllBetween p (o + n) (o + cond t r.size (size_inside_free o n prev_end (cond (eqb r.offset (o + n)) (n + r.size) n)))
    go true e h = let q = eqb-true r.offset o e in λ j u v. of-run p r o g (omega arith) j (omega arith) (omega arith)
    go false e h = h

growth-over : (p : ℕ → Bool) (o n prev_end : ℕ) (rs : List DiscRegion) → AllBetween p o prev_end → AllPass p rs → AllBetween p (o + n) (o + max_size_from o n prev_end rs)
unfolding max_size_from
growth-over p o n prev_end [] f s = is_inside-free p o n prev_end n f (λ j u v. absurd (omega arith))
growth-over p o n prev_end (r ∷ rs) f s = go (ltb r.offset o) refl (λ h. growth-over p o n (end_of r) rs h s.1)
  where
    go : (t : Bool) → ltb r.offset o ≡ t → (AllBetween p o (end_of r) → AllBetween p (o + n) (o + max_size_from o n (end_of r) rs)) →
        AllBetween p (o + n) (o + cond t (max_size_from o n (end_of r) rs) (size_beside_free o n prev_end r))
    go true e ih = let l = ltb-true r.offset o e in ih (of-run p r o s.0 (omega arith))
    go false e ih = beside-free p o n prev_end r f s.0

-- ---- no further than the disc end

is_inside-below : (o n e prev_end other : ℕ) → prev_end ≤ e → o + other ≤ max (o + n) e → o + size_inside_free o n prev_end other ≤ max (o + n) e
is_inside-below o n e prev_end other h k = go (ltb (o + n) prev_end) refl
  where
    go : (t : Bool) → ltb (o + n) prev_end ≡ t → o + cond t (prev_end - o) other ≤ max (o + n) e
    go true q = omega (arith, ltb-true (o + n) prev_end q)
    go false q = k

beside-below : (o n e prev_end : ℕ) (r : DiscRegion) → prev_end ≤ e → end_of r ≤ e → o + size_beside_free o n prev_end r ≤ max (o + n) e
unfolding size_beside_free
beside-below o n e prev_end r h k = go (eqb r.offset o) refl (is_inside-below o n e prev_end (cond (eqb r.offset (o + n)) (n + r.size) n) h (next (eqb r.offset (o + n)) refl))
  where
    next : (t : Bool) → eqb r.offset (o + n) ≡ t → o + cond t (n + r.size) n ≤ max (o + n) e
    next true q = omega (arith, eqb-true r.offset (o + n) q)
    next false q = omega arith

    go : (t : Bool) → eqb r.offset o ≡ t → o + size_inside_free o n prev_end (cond (eqb r.offset (o + n)) (n + r.size) n) ≤ max (o + n) e →
        o + cond t r.size (size_inside_free o n prev_end (cond (eqb r.offset (o + n)) (n + r.size) n)) ≤ max (o + n) e
    go true q l = omega (arith, eqb-true r.offset o q)
    go false q l = l

growth-below : (o n e prev_end : ℕ) (rs : List DiscRegion) → prev_end ≤ e → AllEndBy e rs → o + max_size_from o n prev_end rs ≤ max (o + n) e
unfolding max_size_from
growth-below o n e prev_end [] h k = is_inside-below o n e prev_end n h (omega arith)
growth-below o n e prev_end (r ∷ rs) h k = go (ltb r.offset o) (growth-below o n e (end_of r) rs k.0 k.1)
  where
    go : (t : Bool) → o + max_size_from o n (end_of r) rs ≤ max (o + n) e → o + cond t (max_size_from o n (end_of r) rs) (size_beside_free o n prev_end r) ≤ max (o + n) e
    go true l = l
    go false l = beside-below o n e prev_end r h k.0

-- ---- no smaller than the place, whose bytes do not pass

-- no byte from a up to b passes
abbrev pub NoneBetween : (ℕ → Bool) → ℕ → ℕ → Type 0
NoneBetween p a b = (j : ℕ) → a ≤ j → j < b → p j ≡ false

is_inside-least : (o n prev_end other : ℕ) → n ≤ other → n ≤ size_inside_free o n prev_end other
is_inside-least o n prev_end other h = go (ltb (o + n) prev_end) refl
  where
    go : (t : Bool) → ltb (o + n) prev_end ≡ t → n ≤ cond t (prev_end - o) other
    go true q = omega (arith, ltb-true (o + n) prev_end q)
    go false q = h

module _ (p : ℕ → Bool) (o n : ℕ) (place : NoneBetween p o (o + n)) where
  -- no byte of a run is one of the place's
  run-not-in : (r : DiscRegion) (k : ℕ) → ((j : ℕ) → j < r.size → p (r.offset + j) ≡ true) → r.offset ≤ k → k < end_of r → o ≤ k → k < o + n → ⊥
  run-not-in r k f a b c d = never_both (p k) (of-run p r r.offset f (omega arith) k a b) (place k c d)

  beside-least : (prev_end : ℕ) (r : DiscRegion) → 0 < r.size → ((j : ℕ) → j < r.size → p (r.offset + j) ≡ true) → n ≤ size_beside_free o n prev_end r
  unfolding size_beside_free
  beside-least prev_end r z f = go (eqb r.offset o) refl (is_inside-least o n prev_end (cond (eqb r.offset (o + n)) (n + r.size) n) (next (eqb r.offset (o + n))))
    where
      next : (t : Bool) → n ≤ cond t (n + r.size) n
      next true = omega arith
      next false = omega arith

      go : (t : Bool) → eqb r.offset o ≡ t → n ≤ size_inside_free o n prev_end (cond (eqb r.offset (o + n)) (n + r.size) n) →
          n ≤ cond t r.size (size_inside_free o n prev_end (cond (eqb r.offset (o + n)) (n + r.size) n))
      go true q l = let e = eqb-true r.offset o q in ⊎_elim (λ h. absurd (run-not-in r o f (omega arith) (omega arith) (omega arith) (omega arith))) (λ h. omega arith) (lt-or-le 0 n)
      go false q l = l

  growth-least : (prev_end : ℕ) (rs : List DiscRegion) → AllNonempty rs → AllPass p rs → n ≤ max_size_from o n prev_end rs
  unfolding max_size_from
  growth-least prev_end [] z s = is_inside-least o n prev_end n (omega arith)
  growth-least prev_end (r ∷ rs) z s = go (ltb r.offset o) (growth-least (end_of r) rs z.1 s.1)
    where
      go : (t : Bool) → n ≤ max_size_from o n (end_of r) rs → n ≤ cond t (max_size_from o n (end_of r) rs) (size_beside_free o n prev_end r)
      go true l = l
      go false l = beside-least prev_end r z.0 s.0

  -- ---- the m bytes right behind a place that has bytes, where they lie in a run
  growth-behind : (prev_end j m : ℕ) (rs : List DiscRegion) → prev_end ≤ o + n → 0 < n → 0 < m → AllNonempty rs → AllPass p rs → IsRising j rs → Covers (o + n) m rs → n + m ≤ max_size_from o n prev_end rs
  unfolding max_size_from size_beside_free
  growth-behind prev_end j m [] h z k f s g c = absurd c
  growth-behind prev_end j m (r ∷ rs) h z k f s g c = ⊎_elim here (λ d. later d (λ b. growth-behind (end_of r) (suc (end_of r)) m rs b z k f.1 s.1 g.1 d)) c
    where
      at : (r.offset ≤ o + n) × (o + n + m ≤ r.offset + r.size) → r.offset ≡ o + n
      at d = ⊎_elim (λ l. absurd (run-not-in r (o + n - 1) s.0 (omega arith) (omega arith) (omega arith) (omega arith))) (λ l. omega arith) (lt-or-le r.offset (o + n))

      here : (r.offset ≤ o + n) × (o + n + m ≤ r.offset + r.size) →
          n + m ≤ cond (ltb r.offset o) (max_size_from o n (end_of r) rs) (cond (eqb r.offset o) r.size (size_inside_free o n prev_end (cond (eqb r.offset (o + n)) (n + r.size) n)))
      here d =
          let q = at d in
          rw (le-ltb r.offset o (omega arith), ne_eqb r.offset o (λ e. omega arith), le-ltb (o + n) prev_end h, eq-eqb r.offset (o + n) q) (omega arith)

      later : Covers (o + n) m rs → (end_of r ≤ o + n → n + m ≤ max_size_from o n (end_of r) rs) →
          n + m ≤ cond (ltb r.offset o) (max_size_from o n (end_of r) rs) (cond (eqb r.offset o) r.size (size_inside_free o n prev_end (cond (eqb r.offset (o + n)) (n + r.size) n)))
      later d ih =
          let b : suc (end_of r) ≤ o + n = ⊎_elim (λ l. absurd (covers-late (suc (end_of r)) (o + n) m rs g.1 l d)) (λ l. l) (lt-or-le (o + n) (suc (end_of r))) in
          let a : r.offset < o = ⊎_elim (λ l. l) (λ l. absurd (run-not-in r r.offset s.0 (omega arith) (omega (arith, f.0)) l (omega arith))) (lt-or-le r.offset o) in
          rw (lt-ltb r.offset o a) (ih (omega arith))

-- ---- a place of no bytes, in a run

-- the run that holds it ends at prev_end
growth-in : (o m prev_end : ℕ) (rs : List DiscRegion) → o + m ≤ prev_end → 0 < m → IsRising (suc prev_end) rs → m ≤ max_size_from o 0 prev_end rs
unfolding max_size_from size_beside_free
growth-in o m prev_end [] h z g = rw (lt-ltb (o + 0) prev_end (omega arith)) (omega arith)
growth-in o m prev_end (r ∷ rs) h z g =
    let a = g.0 in
    rw (le-ltb r.offset o (omega arith), ne_eqb r.offset o (λ e. omega arith), lt-ltb (o + 0) prev_end (omega arith)) (omega arith)

growth-at : (o m prev_end j : ℕ) (rs : List DiscRegion) → 0 < m → IsRising j rs → Covers o m rs → m ≤ max_size_from o 0 prev_end rs
unfolding max_size_from size_beside_free
growth-at o m prev_end j [] z g c = absurd c
growth-at o m prev_end j (r ∷ rs) z g c = ⊎_elim here (λ d. later d (growth-at o m (end_of r) (suc (end_of r)) rs z g.1 d)) c
  where
    here : (r.offset ≤ o) × (o + m ≤ r.offset + r.size) →
        m ≤ cond (ltb r.offset o) (max_size_from o 0 (end_of r) rs) (cond (eqb r.offset o) r.size (size_inside_free o 0 prev_end (cond (eqb r.offset (o + 0)) (0 + r.size) 0)))
    here d =
        ⊎_elim (λ l. rw (lt-ltb r.offset o l) (growth-in o m (end_of r) rs (omega arith) z g.1))
        (λ l. rw (le-ltb r.offset o l, eq-eqb r.offset o (omega arith)) (omega arith)) (lt-or-le r.offset o)

    later : Covers o m rs → m ≤ max_size_from o 0 (end_of r) rs →
        m ≤ cond (ltb r.offset o) (max_size_from o 0 (end_of r) rs) (cond (eqb r.offset o) r.size (size_inside_free o 0 prev_end (cond (eqb r.offset (o + 0)) (0 + r.size) 0)))
    later d ih =
        let b : suc (end_of r) ≤ o = ⊎_elim (λ l. absurd (covers-late (suc (end_of r)) o m rs g.1 l d)) (λ l. l) (lt-or-le o (suc (end_of r))) in
        rw (lt-ltb r.offset o (omega arith)) ih

-- ---- the largest size

-- s is the largest size that a place of n bytes at o can grow to: the bytes behind it, up to its new end, pass and are below e, and no larger size has that
pub record IsLargestSize (p : ℕ → Bool) (e o n s : ℕ) : Type 0 where
  pub least : n ≤ s
  pub pass : AllBetween p (o + n) (o + s)
  pub below : o + s ≤ max (o + n) e
  pub most : (s' : ℕ) → o + s' ≤ e → AllBetween p (o + n) (o + s') → s' ≤ s

-- LAW: what any place grows over is free
pub growth-free : (e : ℕ) (xs : List DiscRegion) (o n : ℕ) → AllBetween (is_free_in xs) (o + n) (o + max_region_size o n (free_regions e xs))
growth-free e xs o n = growth-over (is_free_in xs) o n 0 (free_regions e xs) (λ j u v. absurd (omega arith)) (free-sound e xs)

-- LAW: `max_region_size` of a place all of whose bytes are used, or that has none, is its largest size
pub max-size-largest : (e : ℕ) (xs : List DiscRegion) (o n : ℕ) → ((j : ℕ) → o ≤ j → j < o + n → is_used xs j ≡ true) → IsLargestSize (is_free_in xs) e o n (max_region_size o n (free_regions e xs))
max-size-largest e xs o n used = record {
  least = least;
  pass = growth-free e xs o n;
  below = growth-below o n e 0 (free_regions e xs) (omega arith) (free-end e xs);
  most = λ s l f. ⊎_elim (more s l f) (λ h. omega (arith, least)) (lt-or-le n s);
}
  where
    place : NoneBetween (is_free_in xs) o (o + n)
    place j u v = ap not (used j u v)

    least : n ≤ max_region_size o n (free_regions e xs)
    least = growth-least (is_free_in xs) o n place 0 (free_regions e xs) (free-nonempty e xs) (free-sound e xs)

    more : (s : ℕ) → o + s ≤ e → AllBetween (is_free_in xs) (o + n) (o + s) → n < s → s ≤ max_region_size o n (free_regions e xs)
    more s l f h =
        let q : n + (s - n) ≡ s = omega arith in
        let c : Covers (o + n) (s - n) (free_regions e xs) = free-cover e xs (o + n) (s - n) (omega arith) (omega arith) (λ j k. f (o + n + j) (omega arith) (omega arith)) in
        ⊎_elim (λ z. rw q at (growth-behind (is_free_in xs) o n place 0 0 (s - n) (free_regions e xs) (omega arith) z (omega arith) (free-nonempty e xs) (free-sound e xs) (free-rising e xs) c))
        (λ z. none (omega arith) c) (lt-or-le 0 n)
      where
        none : n ≡ 0 → Covers (o + n) (s - n) (free_regions e xs) → s ≤ max_region_size o n (free_regions e xs)
        none i c =
            let a : o + 0 ≡ o = omega arith in
            let b : s - 0 ≡ s = omega arith in
            rw i (growth-at o s 0 0 (free_regions e xs) (omega arith) (free-rising e xs) (rw (i, a, b) at c))

-- LAW: the table of n bytes at o, which ends at t, grows up to the first used byte behind it, or to the disc end
pub table-largest : (e t : ℕ) (fs : List DiscRegion) (o n : ℕ) → o + n ≡ t → IsLargestSize (is_free_in (used_regions t fs)) e o n (max_region_size o n (free_regions e (used_regions t fs)))
table-largest e t fs o n q = max-size-largest e (used_regions t fs) o n (λ j u v. used-is t fs j ∙ or_left (ltb j t) (is_used fs j) (lt-ltb j t (omega arith)))

-- the bytes of a region of the list are used
pub file-used : (f : DiscRegion) (fs : List DiscRegion) → In f fs → (j : ℕ) → f.offset ≤ j → j < end_of f → is_used fs j ≡ true
unfolding is_used
file-used f [] i j u v = absurd i
file-used f (x ∷ fs) i j u v =
    ⊎_elim (λ q. or_left (is_inside x j) (is_used fs j) (rw (← q) (is_inside-in f j u v))) (λ k. or_right (is_inside x j) (is_used fs j) (file-used f fs k j u v)) i

-- LAW: a file, an empty one too, grows to the largest size that the free bytes behind it allow (`max_file_size`)
pub file-largest : (e t : ℕ) (fs : List DiscRegion) (f : DiscRegion) → In f fs → IsLargestSize (is_free_in (used_regions t fs)) e f.offset f.size (max_region_size f.offset f.size (free_regions e (used_regions t fs)))
file-largest e t fs f i = max-size-largest e (used_regions t fs) f.offset f.size (λ j u v. used-is t fs j ∙ or_right (ltb j t) (is_used fs j) (file-used f fs i j u v))

-- LAW: a new place of at least one byte is free, exactly if `max_region_size` of its start, with size 0, reaches its size
pub place-free : (e : ℕ) (xs : List DiscRegion) (o n : ℕ) → 0 < n → n ≤ max_region_size o 0 (free_regions e xs) → (o + n ≤ e) × ((j : ℕ) → j < n → is_free_in xs (o + j) ≡ true)
place-free e xs o n z h =
    let l = max-size-largest e xs o 0 (λ j u v. absurd (omega arith)) in
    (omega (arith, l.below), λ j k. l.pass (o + j) (omega arith) (omega arith))

pub free-place : (e : ℕ) (xs : List DiscRegion) (o n : ℕ) → o + n ≤ e → ((j : ℕ) → j < n → is_free_in xs (o + j) ≡ true) → n ≤ max_region_size o 0 (free_regions e xs)
free-place e xs o n h f =
    let l = max-size-largest e xs o 0 (λ j u v. absurd (omega arith)) in
    l.most n h (λ j u v. let q : o + (j - o) ≡ j = omega arith in rw q at (f (j - o) (omega arith)))
