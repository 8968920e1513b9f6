-- A region as one of a list: lists that hold the same regions use the same bytes, and what is left where one of regions in order is left out.
-- Assumes nothing.
use Rattle.std.specs.Prelude.{ℕ, ◌<◌, ◌≤◌, ◌≡◌, refl, ◌⊎◌, Bool, true, false, not, ◌&&◌, ◌||◌, List, [], ◌∷◌, eqb}
use Rattle.std.proofs.Common.{sym, ap, ◌∙◌, inl, inr, ⊎_elim, arith, eqb-true, eq-eqb, ne_eqb}
use Rattle.space.specs.declared.region.DiscRegion.{DiscRegion}
use Rattle.space.specs.Used.{end_of, is_inside, is_used, nonempty_regions}
use Rattle.space.specs.Inner.Sort.{is_among}
use Rattle.space.specs.Inner.Words.{AllNonempty, is_in_sequence}
use Rattle.space.specs.Laws.FreeLaws.{region-ext}
use Rattle.space.specs.Laws.LayoutLaws.{is_inside-to}
use Rattle.space.specs.Laws.UsedLaws.{is_inside-low, nonempty_regions-cons, nonempty_regions-empty}
use Rattle.refusal.specs.Laws.Tests.{lt-or-le, and_left, and_right, or_cases, or_left, or_right, never_both, same_test}
use Rattle.space.specs.Laws.LongestLaws.{without, sequence-first, sequence-rest, without-low}

pub and-true : (t : Bool) → (t && true) ≡ t
and-true true = refl
and-true false = refl

-- ---- one of a list

-- the first, or one of the others
pub is_among-cases : (r x : DiscRegion) (xs : List DiscRegion) → is_among r (x ∷ xs) ≡ true → (x ≡ r) ⊎ (is_among r xs ≡ true)
unfolding is_among
is_among-cases r x xs h =
    ⊎_elim (λ q. inl (region-ext x r (eqb-true _ _ (and_left (eqb x.offset r.offset) _ q)) (eqb-true _ _ (and_right (eqb x.offset r.offset) _ q)))) (λ q. inr q)
    (or_cases (eqb x.offset r.offset && eqb x.size r.size) (is_among r xs) h)

pub is_among-first : (r : DiscRegion) (xs : List DiscRegion) → is_among r (r ∷ xs) ≡ true
unfolding is_among
is_among-first r xs = rw (eq-eqb r.offset r.offset refl, eq-eqb r.size r.size refl)

pub holds_later : (r x : DiscRegion) (xs : List DiscRegion) → is_among r xs ≡ true → is_among r (x ∷ xs) ≡ true
unfolding is_among
holds_later r x xs h = or_right (eqb x.offset r.offset && eqb x.size r.size) (is_among r xs) h

pub is_among-none : (r : DiscRegion) → is_among r [] ≡ true → ⊥
unfolding is_among
is_among-none r h = never_both false h refl

pub is_among-uses : (r : DiscRegion) (xs : List DiscRegion) (i : ℕ) → is_among r xs ≡ true → is_inside r i ≡ true → is_used xs i ≡ true
unfolding is_used
is_among-uses r [] i h u = absurd (is_among-none r h)
is_among-uses r (x ∷ xs) i h u = ⊎_elim (λ q. or_left (is_inside x i) _ (rw q u)) (λ q. or_right (is_inside x i) _ (is_among-uses r xs i q u)) (is_among-cases r x xs h)

-- a used byte is one of some region's
uses-is_among : (xs : List DiscRegion) (i : ℕ) → is_used xs i ≡ true → (r : DiscRegion) × (is_among r xs ≡ true) × (is_inside r i ≡ true)
unfolding is_used
uses-is_among [] i u = absurd (never_both false u refl)
uses-is_among (x ∷ xs) i u =
    ⊎_elim (λ q. (x, is_among-first x xs, q)) (λ q. let f = uses-is_among xs i q in (f.0, holds_later f.0 x xs f.1, f.2)) (or_cases (is_inside x i) (is_used xs i) u)

-- two lists that hold the same regions use the same bytes
pub same_bytes : (xs ys : List DiscRegion) → ((r : DiscRegion) → is_among r xs ≡ is_among r ys) → (i : ℕ) → is_used xs i ≡ is_used ys i
same_bytes xs ys h i =
    same_test (is_used xs i) (is_used ys i) (λ u. let f = uses-is_among xs i u in is_among-uses f.0 ys i (sym (h f.0) ∙ f.1) f.2)
    (λ u. let f = uses-is_among ys i u in is_among-uses f.0 xs i (h f.0 ∙ f.1) f.2)

pub is_among-nonempty_regions : (r : DiscRegion) (xs : List DiscRegion) → 0 < r.size → is_among r xs ≡ true → is_among r (nonempty_regions xs) ≡ true
is_among-nonempty_regions r [] z h = absurd (is_among-none r h)
is_among-nonempty_regions r (x ∷ xs) z h =
    ⊎_elim (λ k. rw (nonempty_regions-cons x xs k) (⊎_elim (λ q. rw q (is_among-first r (nonempty_regions xs))) (λ q. holds_later r x (nonempty_regions xs) (is_among-nonempty_regions r xs z q)) (is_among-cases r x xs h)))
    (λ k. rw (nonempty_regions-empty x xs (omega arith)) (⊎_elim (λ q. absurd (omega (arith, ap (λ (y : DiscRegion). y.size) q))) (is_among-nonempty_regions r xs z) (is_among-cases r x xs h)))
    (lt-or-le 0 x.size)

-- ---- one of regions in order

pub is_among-from : (r : DiscRegion) (a e : ℕ) (xs : List DiscRegion) → is_in_sequence a e xs ≡ true → is_among r xs ≡ true → a ≤ r.offset
is_among-from r a e [] c h = absurd (is_among-none r h)
is_among-from r a e (x ∷ xs) c h =
    ⊎_elim (λ q. omega (arith, ap (λ (y : DiscRegion). y.offset) q, sequence-first a e x xs c))
    (λ q. omega (arith, is_among-from r (end_of x) e xs (sequence-rest a e x xs c) q, sequence-first a e x xs c)) (is_among-cases r x xs h)

-- nothing is left out where nothing starts
pub without-none : (gone a e : ℕ) (xs : List DiscRegion) → is_in_sequence a e xs ≡ true → gone < a → without gone xs ≡ xs
unfolding without
without-none gone a e [] c h = refl
without-none gone a e (x ∷ xs) c h =
    rw (ne_eqb x.offset gone (λ q. omega (arith, sequence-first a e x xs c)))
    (ap (x ∷◌) (without-none gone (end_of x) e xs (sequence-rest a e x xs c) (omega (arith, sequence-first a e x xs c))))

-- the bytes of regions in order, without those of one of them
pub without-one : (old : DiscRegion) (a e : ℕ) (xs : List DiscRegion) (i : ℕ) → AllNonempty xs → is_in_sequence a e xs ≡ true → is_among old xs ≡ true →
    is_used (without old.offset xs) i ≡ (is_used xs i && not (is_inside old i))
unfolding without is_used
without-one old a e [] i f c h = absurd (is_among-none old h)
without-one old a e (x ∷ xs) i f c h = ⊎_elim here (λ q. later q (without-one old (end_of x) e xs i f.1 next q)) (is_among-cases old x xs h)
  where
    next : is_in_sequence (end_of x) e xs ≡ true
    next = sequence-rest a e x xs c

    here : x ≡ old → is_used (without old.offset (x ∷ xs)) i ≡ (is_used (x ∷ xs) i && not (is_inside old i))
    here q =
        let o : x.offset ≡ old.offset = ap (λ (y : DiscRegion). y.offset) q in
        rw (eq-eqb x.offset old.offset o, without-none old.offset (end_of x) e xs next (omega (arith, f.0)), ← q) (go (is_inside x i) refl)
      where
        go : (t : Bool) → is_inside x i ≡ t → is_used xs i ≡ ((t || is_used xs i) && not t)
        go true u = rw (without-none x.offset (end_of x) e xs next (omega (arith, f.0))) at (without-low x.offset (end_of x) e xs i next (is_inside-to x i u))
        go false u = sym (and-true (is_used xs i))

    later : is_among old xs ≡ true → is_used (without old.offset xs) i ≡ (is_used xs i && not (is_inside old i)) →
        is_used (without old.offset (x ∷ xs)) i ≡ (is_used (x ∷ xs) i && not (is_inside old i))
    later q r =
        let b = is_among-from old (end_of x) e xs next q in
        rw (ne_eqb x.offset old.offset (λ k. omega (arith, f.0)), r) (go (is_inside x i) refl)
      where
        go : (t : Bool) → is_inside x i ≡ t → (t || (is_used xs i && not (is_inside old i))) ≡ ((t || is_used xs i) && not (is_inside old i))
        go true u = rw (is_inside-low old i (omega (arith, is_among-from old (end_of x) e xs next q, is_inside-to x i u)))
        go false u = refl
