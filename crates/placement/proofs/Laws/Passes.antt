-- What one pass over the sizes of the files finds, file by file, and bounds on it. Assumes nothing.
use Rattle.std.specs.Prelude.{ℕ, zero, suc, ◌+◌, ◌*◌, ◌^◌, ◌<◌, ◌≤◌, max, ◌≡◌, refl, Bool, true, false, if◌then◌else◌, ◌&&◌, List, [], ◌∷◌, leb, ltb, eqb, length, get_or, take}
use Rattle.std.proofs.Common.{◌∙◌, ⊎_elim, arith, add-one, ne_eqb, lt-ltb, le-ltb, le-leb}
use Rattle.std.proofs.lemmas.Bool.{lt-leb}
use Rattle.refusal.specs.Laws.Tests.{lt-or-le}
use Rattle.space.specs.Align.{align_up}
use Rattle.placement.specs.Inner.Need.{IsNeedOf}
use Rattle.placement.specs.declared.need.Need.{Need}
use Rattle.placement.proofs.Laws.Complete.{whole-none}
use Rattle.placement.specs.Placement.{whole_size, unused_rest, whole_total, largest_rest, are_all_empty, last_file}

-- ---- LAW: one file more

pub sum-next : (ss : List ℕ) (i : ℕ) → i < length ss → whole_total (take (suc i) ss) ≡ whole_total (take i ss) + whole_size (get_or ss i 0)
unfolding whole_total
sum-next [] i h = absurd (omega arith)
sum-next (s ∷ ss) zero h = omega arith
sum-next (s ∷ ss) (suc i) h = omega (arith, sum-next ss i (omega arith))

largest-next : (ss : List ℕ) (i : ℕ) → i < length ss → largest_rest (take (suc i) ss) ≡ max (largest_rest (take i ss)) (unused_rest (get_or ss i 0))
unfolding largest_rest
largest-next [] i h = absurd (omega arith)
largest-next (s ∷ ss) zero h = omega arith
largest-next (s ∷ ss) (suc i) h = omega (arith, largest-next ss i (omega arith))

-- a later file takes the place only with a larger rest
pick : (u m x i k : ℕ) → (if leb (max m x) u then 0 else suc (if ltb m x then i else k)) ≡ (if ltb (max u m) x then suc i else (if leb m u then 0 else suc k))
pick u m x i k =
    ⊎_elim (λ h. rw (lt-ltb (max u m) x h, lt-leb (max m x) u (omega arith), lt-ltb m x (omega arith)))
    (λ h. ⊎_elim (λ l. rw (le-ltb (max u m) x h, lt-leb m u l, lt-leb (max m x) u (omega arith), le-ltb m x (omega arith)))
    (λ l. rw (le-ltb (max u m) x h, le-leb m u l, le-leb (max m x) u (omega arith))) (lt-or-le u m)) (lt-or-le (max u m) x)

last-next : (ss : List ℕ) (i : ℕ) → i < length ss → last_file (take (suc i) ss) ≡ (if ltb (largest_rest (take i ss)) (unused_rest (get_or ss i 0)) then i else last_file (take i ss))
unfolding last_file largest_rest
last-next [] i h = absurd (omega arith)
last-next (s ∷ ss) zero h = rw (le-leb 0 (unused_rest s) (omega arith)) (go (ltb 0 (unused_rest s)))
  where
    go : (b : Bool) → ◌≡◌ {A = ℕ} 0 (if b then 0 else 0)
    go true = refl
    go false = refl
last-next (s ∷ ss) (suc i) h =
    rw (last-next ss i (omega arith), largest-next ss i (omega arith)) (pick (unused_rest s) (largest_rest (take i ss)) (unused_rest (get_or ss i 0)) i (last_file (take i ss)))

-- ---- LAW: files below 2^32 bytes together need at most 2^32 bytes each

pub whole-bound : (s : ℕ) → s < 2 ^ 32 → whole_size s ≤ 2 ^ 32
unfolding align_up
whole-bound s h = omega arith

pub sum_bound : (ss : List ℕ) → ((i : ℕ) → get_or ss i 0 < 2 ^ 32) → whole_total ss ≤ 2 ^ 32 * length ss
unfolding whole_total
sum_bound [] h = omega arith
sum_bound (s ∷ ss) h = omega (arith, whole-bound s (h 0), sum_bound ss (λ i. h (suc i)))

sum-taken : (ss : List ℕ) (i : ℕ) → whole_total (take i ss) ≤ whole_total ss
unfolding whole_total
sum-taken [] zero = omega arith
sum-taken [] (suc i) = omega arith
sum-taken (s ∷ ss) zero = omega arith
sum-taken (s ∷ ss) (suc i) = omega (arith, sum-taken ss i)

-- the files so far and one more need no more than all
pub sum-room : (ss : List ℕ) (i : ℕ) → i < length ss → whole_total (take i ss) + whole_size (get_or ss i 0) ≤ whole_total ss
sum-room ss i h = omega (arith, sum-next ss i h, sum-taken ss (suc i))

-- an unused rest is part of what is needed
pub rest-sum : (ss : List ℕ) → largest_rest ss ≤ whole_total ss
unfolding whole_total largest_rest
rest-sum [] = omega arith
rest-sum (s ∷ ss) = omega (arith, rest-sum ss)

-- ---- LAW: no file has a byte exactly if together they need none

whole_some : (s : ℕ) → 0 < s → 0 < whole_size s
unfolding align_up
whole_some s h = omega arith

pub empty-sum : (ss : List ℕ) → are_all_empty ss ≡ eqb (whole_total ss) 0
unfolding are_all_empty whole_total
empty-sum [] = refl
empty-sum (s ∷ ss) = ⊎_elim some (λ h. none (omega arith) (empty-sum ss)) (lt-or-le 0 s)
  where
    some : 0 < s → (eqb s 0 && are_all_empty ss) ≡ eqb (whole_size s + whole_total ss) 0
    some h = rw (ne_eqb s 0 (λ e. omega arith), ne_eqb (whole_size s + whole_total ss) 0 (λ e. omega (arith, whole_some s h)))

    none : s ≡ 0 → are_all_empty ss ≡ eqb (whole_total ss) 0 → (eqb s 0 && are_all_empty ss) ≡ eqb (whole_size s + whole_total ss) 0
    none e h = let z : 0 + whole_total ss ≡ whole_total ss = omega arith in rw (e, whole-none, z) h

-- ---- LAW: what a pass has found, before the first file and after one more

pub need_none : IsNeedOf [] (record { whole = 0; rest = 0; last = 0 })
unfolding whole_total largest_rest last_file
need_none = record { whole = refl; rest = refl; last = refl }

pub need_larger : (ss : List ℕ) (i : ℕ) (old new : Need) → i < length ss → IsNeedOf (take i ss) old → old.rest < unused_rest (get_or ss i 0) →
    new.whole ≡ old.whole + whole_size (get_or ss i 0) → new.rest ≡ unused_rest (get_or ss i 0) → new.last ≡ i → IsNeedOf (take (i + 1) ss) new
need_larger ss i old new h n l w r k = record {
  whole = rw add-one (omega (arith, n.whole, sum-next ss i h));
  rest = rw add-one (omega (arith, n.rest, largest-next ss i h));
  last = rw (add-one, last-next ss i h, ← n.rest, lt-ltb old.rest (unused_rest (get_or ss i 0)) l) k;
}

pub need_same : (ss : List ℕ) (i : ℕ) (old new : Need) → i < length ss → IsNeedOf (take i ss) old → unused_rest (get_or ss i 0) ≤ old.rest →
    new.whole ≡ old.whole + whole_size (get_or ss i 0) → new.rest ≡ old.rest → new.last ≡ old.last → IsNeedOf (take (i + 1) ss) new
need_same ss i old new h n l w r k = record {
  whole = rw add-one (omega (arith, n.whole, sum-next ss i h));
  rest = rw add-one (omega (arith, n.rest, largest-next ss i h));
  last = rw (add-one, last-next ss i h, ← n.rest, le-ltb old.rest (unused_rest (get_or ss i 0)) l) (k ∙ n.last);
}
