-- The used regions before an edit, in order, tell the largest free region after it.
-- Assumes nothing.
use Rattle.std.specs.Prelude.{ℕ, zero, suc, ◌+◌, ◌-◌, ◌<◌, ◌≤◌, ◌≡◌, refl, true, false, not, ◌&&◌, ◌||◌, List, [], ◌∷◌, leb, eqb}
use Rattle.std.proofs.Math.Path.{sym}
use Rattle.std.proofs.Common.{ap, ◌∙◌, arith}
use Rattle.std.proofs.Math.Logic.{⊎_elim}
use borrow.Author.Tests.{eqb-true, leb-true, lt-ltb, le-ltb, le-leb, eq-eqb, ne_eqb}
use Rattle.space.specs.declared.region.DiscRegion.{DiscRegion}
use Rattle.space.specs.Used.{end_of, is_inside, is_used, used_regions, total_size}
use Rattle.space.specs.Layout.{are_disjoint_below}
use Rattle.space.specs.Free.{is_free_in, free_regions, largest_size}
use Rattle.space.specs.Inner.Sort.{region_at, regions_in, is_among}
use Rattle.space.specs.Inner.Words.{AllNonempty, is_in_sequence, IsSortedDisjoint}
use Rattle.space.specs.Laws.LayoutLaws.{is_inside-from, is_inside-to}
use Rattle.space.specs.Laws.UsedLaws.{used-is, is_inside-low, is_inside-in, is_inside-high, nonempty_regions-cons, files_within, lies_within}
use Rattle.space.specs.Laws.PassedLayout.{passes}
use Rattle.refusal.specs.Laws.Tests.{lt-or-le, and_left, and_right, and_both, or_cases, or_left, is_false, never_both}
use Rattle.space.specs.Inner.Scan.{longest_from, gone_of}
use Rattle.space.specs.Laws.LongestLaws.{without, sequence-rest, without-low, longest-runs}
use Rattle.space.specs.Laws.HoldsLaws.{and-true, is_among-cases, is_among-first, holds_later, is_among-none, is_among-uses, same_bytes, is_among-nonempty_regions, is_among-from, without-none, without-one}

-- what an edit does to the regions behind the table: `new` in place of `old`
pub record Exchanged (fs fs' : List DiscRegion) (old new : DiscRegion) : Type 0 where
  pub total : total_size fs' + old.size ≡ total_size fs + new.size
  pub bytes : (i : ℕ) → is_used fs' i ≡ (is_inside new i || (is_used fs i && not (is_inside old i)))

-- a byte of a region behind the table is past the table
within-from : (t e : ℕ) (fs : List DiscRegion) (i : ℕ) → files_within t e fs ≡ true → is_used fs i ≡ true → t ≤ i
unfolding files_within lies_within is_used
within-from t e [] i w u = absurd (never_both false u refl)
within-from t e (x ∷ fs) i w u =
    ⊎_elim (λ q. ⊎_elim (λ z. absurd (omega (arith, eqb-true x.size 0 z, is_inside-from x i q, is_inside-to x i q)))
    (λ z. omega (arith, leb-true t x.offset (and_left (leb t x.offset) _ z), is_inside-from x i q)) (or_cases (eqb x.size 0) _ (and_left _ (files_within t e fs) w)))
    (within-from t e fs i (and_right (eqb x.size 0 || (leb t x.offset && leb (end_of x) e)) _ w)) (or_cases (is_inside x i) (is_used fs i) u)

-- regions in order, none of whose bytes is before b
sequence-at : (a b e : ℕ) (xs : List DiscRegion) → AllNonempty xs → is_in_sequence a e xs ≡ true → b ≤ e → ((i : ℕ) → is_used xs i ≡ true → b ≤ i) → is_in_sequence b e xs ≡ true
unfolding is_in_sequence is_used
sequence-at a b e [] f c l h = le-leb b e l
sequence-at a b e (x ∷ xs) f c l h =
    and_both _ _ (le-leb b x.offset (h x.offset (or_left (is_inside x x.offset) _ (is_inside-in x x.offset (omega arith) (omega arith))))) (sequence-rest a e x xs c)

is_inside-empty : (r : DiscRegion) (i : ℕ) → r.size ≤ 0 → is_inside r i ≡ false
is_inside-empty r i z = ⊎_elim (is_inside-low r i) (λ k. is_inside-high r i (omega arith)) (lt-or-le i r.offset)

-- the region that starts at 0 is the first of regions in order
table-first : (e t : ℕ) (x : DiscRegion) (xs : List DiscRegion) → AllNonempty (x ∷ xs) → is_in_sequence 0 e (x ∷ xs) ≡ true →
    is_among (record { offset = 0; size = t }) (x ∷ xs) ≡ true → x ≡ record { offset = 0; size = t }
table-first e t x xs f c h =
    let table : DiscRegion = record { offset = 0; size = t } in
    ⊎_elim (λ q. q) (λ q. absurd (omega (arith, is_among-from table (end_of x) e xs (sequence-rest 0 e x xs c) q))) (is_among-cases table x xs h)

module _ (e t : ℕ) (fs : List DiscRegion) (x : DiscRegion) (xs : List DiscRegion) (f : AllNonempty (x ∷ xs)) (c : is_in_sequence 0 e (x ∷ xs) ≡ true) (z : 0 < t)
    (h : (r : DiscRegion) → is_among r (x ∷ xs) ≡ is_among r (used_regions t fs)) (d : are_disjoint_below e (used_regions t fs) ≡ true) where
  front : x ≡ record { offset = 0; size = t }
  front = table-first e t x xs f c (h (record { offset = 0; size = t }) ∙ rw (nonempty_regions-cons (record { offset = 0; size = t }) fs z) (is_among-first _ _))

  end-front : end_of x ≡ t
  end-front = ap end_of front ∙ omega arith

  behind : is_in_sequence t e xs ≡ true
  behind = rw end-front at (sequence-rest 0 e x xs c)

  past-table : (i : ℕ) → is_used fs i ≡ true → t ≤ i
  past-table i u = within-from t e fs i (passes t e fs z d).within u

  -- the others use the bytes that the regions behind the table use
  same-behind : (i : ℕ) → is_used xs i ≡ is_used fs i
  unfolding is_used
  same-behind i = ⊎_elim low high (lt-or-le i t)
    where
      low : i < t → is_used xs i ≡ is_used fs i
      low k = rw (without-none 0 t e xs behind z) at (without-low 0 t e xs i behind k) ∙ sym (is_false (is_used fs i) (λ u. omega (arith, past-table i u)))

      high : t ≤ i → is_used xs i ≡ is_used fs i
      high k = rw (is_inside-high x i (omega (arith, end-front))) at (same_bytes (x ∷ xs) (used_regions t fs) h i) ∙ used-is t fs i ∙ rw (le-ltb i t k)

  old-behind : (old : DiscRegion) → 0 < old.size → is_among old fs ≡ true → is_among old xs ≡ true
  old-behind old s o =
      ⊎_elim (λ q. absurd (at_front q)) (λ q. q) (is_among-cases old x xs (h old ∙ is_among-nonempty_regions old (record { offset = 0; size = t } ∷ fs) s (holds_later old (record { offset = 0; size = t }) fs o)))
    where
      at_front : x ≡ old → ⊥
      at_front q =
          let k : old.offset ≡ 0 = ap (λ (y : DiscRegion). y.offset) (sym q ∙ front) in
          omega (arith, past-table old.offset (is_among-uses old fs old.offset o (is_inside-in old old.offset (omega arith) (omega arith))))

  -- with the old place passed over they use what is left behind the table
  left_behind : (old : DiscRegion) → (0 < old.size → is_among old fs ≡ true) → (i : ℕ) → is_used (without (gone_of old) xs) i ≡ (is_used fs i && not (is_inside old i))
  left_behind old o i = ⊎_elim some none (lt-or-le 0 old.size)
    where
      some : 0 < old.size → is_used (without (gone_of old) xs) i ≡ (is_used fs i && not (is_inside old i))
      some s = rw (ne_eqb old.size 0 (λ q. omega arith), without-one old t e xs i f.1 behind (old-behind old s (o s)), same-behind i)

      none : old.size ≤ 0 → is_used (without (gone_of old) xs) i ≡ (is_used fs i && not (is_inside old i))
      none s = rw (eq-eqb old.size 0 (omega arith), without-none 0 t e xs behind z, same-behind i, is_inside-empty old i s) (sym (and-true (is_used fs i)))

  largest-behind : (t' : ℕ) (fs' : List DiscRegion) (old new : DiscRegion) → (0 < old.size → is_among old fs ≡ true) → t' ≤ e → ((i : ℕ) → is_used fs i ≡ true → t' ≤ i) →
      Exchanged fs fs' old new → longest_from e (gone_of old) new t' 0 xs ≡ largest_size (free_regions e (used_regions t' fs'))
  unfolding free_regions
  largest-behind t' fs' old new o l k x =
      longest-runs e t' (gone_of old) new xs (is_free_in (used_regions t' fs')) f.1 (sequence-at t t' e xs f.1 behind l (λ i u. k i (sym (same-behind i) ∙ u)))
      (λ i u. rw (used-is t' fs' i, lt-ltb i t' u)) (λ i u. rw (used-is t' fs' i, le-ltb i t' u, x.bytes i, left_behind old o i))

-- ---- read off the words

-- the table is one of the regions in the words
words-some : (w : List ℕ) (m e t : ℕ) (fs : List DiscRegion) → IsSortedDisjoint w m e → 0 < t →
    ((r : DiscRegion) → is_among r (regions_in w 0 m) ≡ is_among r (used_regions t fs)) → 0 < m
unfolding regions_in
words-some w zero e t fs s z h =
    absurd (is_among-none (record { offset = 0; size = t }) (h (record { offset = 0; size = t }) ∙ rw (nonempty_regions-cons (record { offset = 0; size = t }) fs z) (is_among-first _ _)))
words-some w (suc m) e t fs s z h = omega arith

-- LAW: the words before an edit tell the largest region after it
pub largest-after : (w : List ℕ) (m e t t' : ℕ) (fs fs' : List DiscRegion) (old new : DiscRegion) → IsSortedDisjoint w m e → 0 < t →
    ((r : DiscRegion) → is_among r (regions_in w 0 m) ≡ is_among r (used_regions t fs)) → are_disjoint_below e (used_regions t fs) ≡ true →
    (0 < old.size → is_among old fs ≡ true) → t' ≤ e → ((i : ℕ) → is_used fs i ≡ true → t' ≤ i) → Exchanged fs fs' old new →
    longest_from e (gone_of old) new t' 0 (regions_in w 1 (m - 1)) ≡ largest_size (free_regions e (used_regions t' fs'))
unfolding regions_in
largest-after w zero e t t' fs fs' old new s z h d o l k x = absurd (omega (arith, words-some w zero e t fs s z h))
largest-after w (suc m) e t t' fs fs' old new s z h d o l k x =
    let n : suc m - 1 ≡ m = omega arith in
    rw n (largest-behind e t fs (region_at w 0) (regions_in w 1 m) s.full s.sequence z h d t' fs' old new o l k x)

-- LAW: and with no edit, the largest region now
pub largest-now : (w : List ℕ) (m e t : ℕ) (fs : List DiscRegion) → IsSortedDisjoint w m e → 0 < t →
    ((r : DiscRegion) → is_among r (regions_in w 0 m) ≡ is_among r (used_regions t fs)) → are_disjoint_below e (used_regions t fs) ≡ true →
    longest_from e 0 (record { offset = 0; size = 0 }) t 0 (regions_in w 1 (m - 1)) ≡ largest_size (free_regions e (used_regions t fs))
largest-now w m e t fs s z h d =
    let p = passes t e fs z d in
    largest-after w m e t t fs fs none none s z h d (λ k. absurd (omega arith)) p.table (λ i u. within-from t e fs i p.within u)
    (record { total = refl; bytes = λ i. rw (is_inside-empty none i (omega arith)) (sym (and-true (is_used fs i))) })
  where
    none : DiscRegion
    none = record { offset = 0; size = 0 }
