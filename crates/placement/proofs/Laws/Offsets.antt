-- Each offset of the placement by what the files before it need, and what a pass that writes the offsets keeps. Assumes nothing.
use Rattle.std.specs.Prelude.{ℕ, zero, suc, ◌+◌, ◌-◌, ◌<◌, ◌≤◌, ◌≡◌, ◌⊎◌, true, List, [], ◌∷◌, ◌++◌, if◌then◌else◌, ltb, length, get_or, set, take, drop}
use Rattle.std.proofs.Common.{⊎_elim, arith, add-one, lt-ltb, le-ltb}
use Rattle.std.proofs.lemmas.List.Edits.{paste_more}
use Rattle.refusal.specs.Laws.Tests.{lt-or-le}
use Rattle.placement.specs.Placement.{whole_size, whole_total, least_end, is_placeable, offset_at, offsets_in_order, offsets_with_last, last_file, offsets_of}
use Rattle.placement.proofs.Laws.Exactly.{least_end-is_placeable}
use Rattle.placement.proofs.Laws.Passes.{sum-next}
use Rattle.placement.proofs.Laws.Sound.{start-some, sound, length-with-last, empty-at-0}

-- ---- LAW: each offset

offset-before : (k p : ℕ) (ss : List ℕ) (i : ℕ) → i < length ss → i < k → get_or (offsets_with_last k p ss) i 0 ≡ offset_at (p + whole_total (take i ss)) (get_or ss i 0)
unfolding offsets_with_last whole_total
offset-before k p [] i h l = absurd (omega arith)
offset-before zero p (s ∷ ss) i h l = absurd (omega arith)
offset-before (suc k) p (s ∷ ss) zero h l = let e : p + 0 ≡ p = omega arith in rw e
offset-before (suc k) p (s ∷ ss) (suc i) h l =
    let e : p + (whole_size s + whole_total (take i ss)) ≡ p + whole_size s + whole_total (take i ss) = omega arith in
    rw e (offset-before k (p + whole_size s) ss i (omega arith) (omega arith))

offset-last : (k p : ℕ) (ss : List ℕ) → k < length ss → get_or (offsets_with_last k p ss) k 0 ≡ offset_at (p + whole_total ss - whole_size (get_or ss k 0)) (get_or ss k 0)
unfolding offsets_with_last whole_total
offset-last k p [] h = absurd (omega arith)
offset-last zero p (s ∷ ss) h = let e : p + (whole_size s + whole_total ss) - whole_size s ≡ p + whole_total ss = omega arith in rw e
offset-last (suc k) p (s ∷ ss) h =
    let e : p + (whole_size s + whole_total ss) ≡ p + whole_size s + whole_total ss = omega arith in
    rw e (offset-last k (p + whole_size s) ss (omega arith))

offset-in-order : (p : ℕ) (ss : List ℕ) (i : ℕ) → i < length ss → get_or (offsets_in_order p ss) i 0 ≡ offset_at (p + whole_total (take i ss)) (get_or ss i 0)
unfolding offsets_in_order whole_total
offset-in-order p [] i h = absurd (omega arith)
offset-in-order p (s ∷ ss) zero h = let e : p + 0 ≡ p = omega arith in rw e
offset-in-order p (s ∷ ss) (suc i) h =
    let e : p + (whole_size s + whole_total (take i ss)) ≡ p + whole_size s + whole_total (take i ss) = omega arith in
    rw e (offset-in-order (p + whole_size s) ss i (omega arith))

offset-behind : (k p : ℕ) (ss : List ℕ) (i : ℕ) → i < length ss → k < i → get_or (offsets_with_last k p ss) i 0 ≡ offset_at (p + whole_total (take i ss) - whole_size (get_or ss k 0)) (get_or ss i 0)
unfolding offsets_with_last whole_total
offset-behind k p [] i h l = absurd (omega arith)
offset-behind k p (s ∷ ss) zero h l = absurd (omega arith)
offset-behind zero p (s ∷ ss) (suc i) h l =
    let e : p + (whole_size s + whole_total (take i ss)) - whole_size s ≡ p + whole_total (take i ss) = omega arith in
    rw e (offset-in-order p ss i (omega arith))
offset-behind (suc k) p (s ∷ ss) (suc i) h l =
    let e : p + (whole_size s + whole_total (take i ss)) ≡ p + whole_size s + whole_total (take i ss) = omega arith in
    rw e (offset-behind k (p + whole_size s) ss i (omega arith) (omega arith))

-- ---- LAW: as many offsets as sizes, and none past the disc end

pub length-offsets_of : (t : ℕ) (sizes : List ℕ) → length (offsets_of t sizes) ≡ length sizes
unfolding offsets_of
length-offsets_of t sizes = length-with-last (last_file sizes) (whole_size t) sizes

pub offsets-below : (t end : ℕ) (sizes : List ℕ) → is_placeable t end sizes ≡ true → (i : ℕ) → get_or (offsets_of t sizes) i 0 ≤ end
offsets-below t end sizes h i =
    ⊎_elim (λ z. omega (arith, (sound t end sizes h).within i z)) (λ z. omega (arith, empty-at-0 t sizes i (omega arith))) (lt-or-le 0 (get_or sizes i 0))

-- ---- a pass that writes the offsets: file k lies last

-- the first i offsets over a list that was there
abbrev pub first_written : List ℕ → List ℕ → ℕ → List ℕ
first_written old offsets i = take i offsets ++ drop i old

pub first_written-next : (old offsets : List ℕ) (i : ℕ) → i < length old → i < length offsets → set (first_written old offsets i) i (get_or offsets i 0) ≡ first_written old offsets (i + 1)
first_written-next old offsets i h l =
    let z : 0 + i ≡ i = omega arith in
    let y : 0 + (i + 1) ≡ i + 1 = omega arith in
    rw (z, y) at (paste_more old 0 offsets i 0 (omega arith) l)

-- of the files before file i, what lies last
abbrev pub last_before : ℕ → List ℕ → ℕ → ℕ
last_before k ss i = if ltb k i then whole_size (get_or ss k 0) else 0

-- n is where the next file lies, as long as it is not file k
pub record IsNext (k p : ℕ) (ss : List ℕ) (i n : ℕ) : Type 0 where
  pub sum : n + last_before k ss i ≡ p + whole_total (take i ss)

pub next_first : (k p : ℕ) (ss : List ℕ) → IsNext k p ss 0 p
unfolding whole_total
next_first k p ss = record { sum = rw (le-ltb k 0 (omega arith)) }

pub next-last : (k p : ℕ) (ss : List ℕ) (i n : ℕ) → i < length ss → i ≡ k → IsNext k p ss i n → IsNext k p ss (i + 1) n
next-last k p ss i n h e c =
    let old : n + 0 ≡ p + whole_total (take i ss) = rw (le-ltb k i (omega arith)) at c.sum in
    record { sum = rw (add-one, lt-ltb k (suc i) (omega arith), ← e) (omega (arith, sum-next ss i h)) }

pub next-other : (k p : ℕ) (ss : List ℕ) (i n next : ℕ) → i < length ss → (i ≡ k → ⊥) → IsNext k p ss i n → next ≡ n + whole_size (get_or ss i 0) → IsNext k p ss (i + 1) next
next-other k p ss i n next h d c e =
    ⊎_elim
    (λ (l : k < i).
    let old : n + whole_size (get_or ss k 0) ≡ p + whole_total (take i ss) = rw (lt-ltb k i l) at c.sum in
    record { sum = rw (add-one, lt-ltb k (suc i) (omega arith)) (omega (arith, sum-next ss i h)) })
    (λ l.
    let old : n + 0 ≡ p + whole_total (take i ss) = rw (le-ltb k i l) at c.sum in
    let less : suc i ≤ k = ⊎_elim (λ q. q) (λ q. absurd (d (omega arith))) (lt-or-le i k) in
    record { sum = rw (add-one, le-ltb k (suc i) less) (omega (arith, sum-next ss i h)) })
    (lt-or-le k i)

-- it lies where the files so far end at most
pub next-most : (k p : ℕ) (ss : List ℕ) (i n : ℕ) → IsNext k p ss i n → n ≤ p + whole_total (take i ss)
next-most k p ss i n c = omega (arith, c.sum)

-- LAW: there the next file lies, and file k behind all others
offset-next : (k p : ℕ) (ss : List ℕ) (i n : ℕ) → i < length ss → (i ≡ k → ⊥) → IsNext k p ss i n → get_or (offsets_with_last k p ss) i 0 ≡ offset_at n (get_or ss i 0)
offset-next k p ss i n h d c =
    ⊎_elim
    (λ (l : k < i).
    let here : p + whole_total (take i ss) - whole_size (get_or ss k 0) ≡ n = omega (arith, rw (lt-ltb k i l) at c.sum) in
    rw (offset-behind k p ss i h l, here))
    (λ l.
    let here : p + whole_total (take i ss) ≡ n = omega (arith, rw (le-ltb k i l) at c.sum) in
    let less : i < k = ⊎_elim (λ q. q) (λ q. absurd (d (omega arith))) (lt-or-le i k) in
    rw (offset-before k p ss i h less, here))
    (lt-or-le k i)

-- file i lies at a: file k where all files together end, less its own clusters, another where the next file lies
abbrev pub LiesAt : ℕ → ℕ → List ℕ → ℕ → ℕ → ℕ → Type 0
LiesAt k p ss i n a = ((i ≡ k) × (a ≡ p + whole_total ss - whole_size (get_or ss i 0))) ⊎ ((i ≡ k → ⊥) × (a ≡ n))

-- LAW
pub offset-of : (t : ℕ) (ss : List ℕ) (i n a : ℕ) → i < length ss → IsNext (last_file ss) (whole_size t) ss i n → LiesAt (last_file ss) (whole_size t) ss i n a →
    get_or (offsets_of t ss) i 0 ≡ offset_at a (get_or ss i 0)
unfolding offsets_of
offset-of t ss i n a h c at =
    ⊎_elim (λ f. rw (f.1, f.0, offset-last (last_file ss) (whole_size t) ss (rw f.0 at h))) (λ f. rw f.1 (offset-next (last_file ss) (whole_size t) ss i n h f.0 c)) at

-- LAW: and a file with a byte lies no further than the least disc end
pub offset-least : (t : ℕ) (ss : List ℕ) (i n a : ℕ) → i < length ss → IsNext (last_file ss) (whole_size t) ss i n → LiesAt (last_file ss) (whole_size t) ss i n a → 0 < get_or ss i 0 → a ≤ least_end t ss
offset-least t ss i n a h c at z =
    omega (arith, offsets-below t (least_end t ss) ss (least_end-is_placeable t (least_end t ss) ss (omega arith)) i, offset-of t ss i n a h c at, start-some a (get_or ss i 0) z)
