-- A table as its 12-byte records one after the other, and one of them written over. Assumes nothing.
use Rattle.std.specs.Prelude.{ℕ, zero, suc, ◌+◌, ◌-◌, ◌*◌, ◌<◌, ◌≤◌, ◌≡◌, refl, Bool, true, false, cond, List, ◌++◌, length, take, drop, ltb}
use Rattle.std.proofs.Common.{sym, ap, ◌∙◌, append_assoc, append-nil, arith, add-zero, zero-add, suc-add, lt-ltb, le-ltb, length-append, drop_at, take_at}
use Rattle.std.proofs.Math.Seq.{drop-length, take-append-add, drop-append-add}
use Rattle.std.proofs.lemmas.List.{take-append-le, drop-append-le}
use Rattle.endian.specs.Bytes.{put, span}
use Rattle.tree.specs.Inner.Patch.{records}

-- each record has 12 bytes
abbrev pub Twelve : (ℕ → List ℕ) → Type 0
Twelve f = (k : ℕ) → length (f k) ≡ 12

pub records-ext : (f g : ℕ → List ℕ) (k n : ℕ) → ((i : ℕ) → i < n → f (k + i) ≡ g (k + i)) → records f k n ≡ records g k n
unfolding records
records-ext f g k zero h = refl
records-ext f g k (suc n) h =
    let e : f k ≡ g k = rw (add-zero k) at (h 0 (omega arith)) in
    let ih : records f (suc k) n ≡ records g (suc k) n =
    records-ext f g (suc k) n (λ i l. let m : k + suc i ≡ suc k + i = omega arith in rw m at (h (suc i) (omega arith))) in
    rw (e, ih)

pub records-split : (f : ℕ → List ℕ) (k n m : ℕ) → records f k (n + m) ≡ records f k n ++ records f (k + n) m
unfolding records
records-split f k zero m = rw (add-zero k, zero-add m)
records-split f k (suc n) m =
    let e : k + suc n ≡ suc k + n = omega arith in
    rw (e, suc-add n m, records-split f (suc k) n m) (sym (append_assoc (f k) (records f (suc k) n) _))

-- one record more, at the end
pub records-next : (f : ℕ → List ℕ) (k n : ℕ) → records f k (n + 1) ≡ records f k n ++ f (k + n)
unfolding records
records-next f k n = records-split f k n 1 ∙ ap (λ (l : List ℕ). records f k n ++ l) (append-nil (f (k + n)))

pub length-records : (f : ℕ → List ℕ) → Twelve f → (k n : ℕ) → length (records f k n) ≡ 12 * n
unfolding records
length-records f t k zero = refl
length-records f t k (suc n) = omega (arith, length-append (f k) (records f (suc k) n), t k, length-records f t (suc k) n)

opened : (f : ℕ → List ℕ) (i m : ℕ) → records f (0 + i) (suc m) ≡ f i ++ records f (suc i) m
unfolding records
opened f i m = rw (zero-add i)

-- record i stands between the ones before and after it
pub records-at : (f : ℕ → List ℕ) (n i : ℕ) (r : List ℕ) → i < n → records f 0 n ++ r ≡ records f 0 i ++ (f i ++ (records f (suc i) (n - suc i) ++ r))
records-at f n i r h =
    let m : n ≡ i + suc (n - suc i) = omega arith in
    let e : records f 0 n ≡ records f 0 i ++ (f i ++ records f (suc i) (n - suc i)) =
    ap (records f 0) m ∙ records-split f 0 i (suc (n - suc i)) ∙ ap (λ (l : List ℕ). records f 0 i ++ l) (opened f i (n - suc i)) in
    rw e (append_assoc (records f 0 i) _ r ∙ ap (λ (l : List ℕ). records f 0 i ++ l) (append_assoc (f i) (records f (suc i) (n - suc i)) r))

module _ (f : ℕ → List ℕ) (twelve : Twelve f) (n : ℕ) (r : List ℕ) where
  pub drop-record : (i : ℕ) → i < n → drop (12 * i) (records f 0 n ++ r) ≡ f i ++ (records f (suc i) (n - suc i) ++ r)
  drop-record i h = rw (records-at f n i r h) (drop_at (records f 0 i) _ (12 * i) (length-records f twelve 0 i))

  pub span-record : (i : ℕ) → i < n → span (records f 0 n ++ r) (12 * i) 12 ≡ f i
  span-record i h = rw (drop-record i h) (take_at (f i) _ 12 (twelve i))

  pub drop-records : drop (12 * n) (records f 0 n ++ r) ≡ r
  drop-records = drop_at (records f 0 n) r (12 * n) (length-records f twelve 0 n)

-- ---- bytes put into the middle part of three

pub put-middle : (a b c : List ℕ) (at i : ℕ) (bs : List ℕ) → length a + i ≡ at → i + length bs ≤ length b → put (a ++ (b ++ c)) at bs ≡ a ++ (put b i bs ++ c)
unfolding put
put-middle a b c at i bs e h =
    let e' : at + length bs ≡ length a + (i + length bs) = omega arith in
    rw (e', ← e, take-append-add a (b ++ c) i, drop-append-add a (b ++ c) (i + length bs), take-append-le i b c (omega arith), drop-append-le (i + length bs) b c h)
    (append_assoc a (take i b) _ ∙ ap (λ (l : List ℕ). a ++ l) (sym (append_assoc (take i b) (bs ++ drop (i + length bs) b) c ∙ ap (λ (l : List ℕ). take i b ++ l) (append_assoc bs (drop (i + length bs) b) c))))

put_whole : (b bs : List ℕ) → length b ≡ length bs → put b 0 bs ≡ bs
unfolding put
put_whole b bs e = rw (zero-add (length bs), ← e, drop-length b) (append-nil bs)

-- ---- a loop that writes the records one by one: those below k are the new ones

abbrev pub up_to : (ℕ → List ℕ) → (ℕ → List ℕ) → ℕ → ℕ → List ℕ
up_to new old k j = cond (ltb j k) (new j) (old j)

module _ (new old : ℕ → List ℕ) where
  pub up_to-start : (n : ℕ) → records (up_to new old 0) 0 n ≡ records old 0 n
  up_to-start n = records-ext (up_to new old 0) old 0 n (λ i h. rw (le-ltb (0 + i) 0 (omega arith)))

  pub up_to-end : (n : ℕ) → records (up_to new old n) 0 n ≡ records new 0 n
  up_to-end n = records-ext (up_to new old n) new 0 n (λ i h. rw (lt-ltb (0 + i) n (omega arith)))

  pub up_to-twelve : Twelve new → Twelve old → (k : ℕ) → Twelve (up_to new old k)
  up_to-twelve a b k j = go (ltb j k)
    where
      go : (t : Bool) → length (cond t (new j) (old j)) ≡ 12
      go true = a j
      go false = b j

  -- one turn: record k is put
  pub up_to-next : Twelve new → Twelve old → (n k : ℕ) (r : List ℕ) → k < n →
      put (records (up_to new old k) 0 n ++ r) (12 * k) (new k) ≡ records (up_to new old (k + 1)) 0 n ++ r
  up_to-next a b n k r h =
      let f : ℕ → List ℕ = up_to new old k in
      let g : ℕ → List ℕ = up_to new old (k + 1) in
      let l : length (records f 0 k) + 0 ≡ 12 * k = omega (arith, length-records f (up_to-twelve a b k) 0 k) in
      let s : records f 0 k ≡ records g 0 k = records-ext f g 0 k (λ i m. rw (lt-ltb (0 + i) k (omega arith), lt-ltb (0 + i) (k + 1) (omega arith))) in
      let t : records f (suc k) (n - suc k) ≡ records g (suc k) (n - suc k) =
      records-ext f g (suc k) (n - suc k) (λ i m. rw (le-ltb (suc k + i) k (omega arith), le-ltb (suc k + i) (k + 1) (omega arith))) in
      let e : g k ≡ new k = rw (lt-ltb k (k + 1) (omega arith)) in
      rw (records-at f n k r h, records-at g n k r h, put-middle (records f 0 k) (f k) _ (12 * k) 0 (new k) l (omega (arith, a k, up_to-twelve a b k k)), put_whole (f k) (new k) (up_to-twelve a b k k ∙ sym (a k)), s, t, e)
