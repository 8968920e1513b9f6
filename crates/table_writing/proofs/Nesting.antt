-- The nesting of a valid table: which entry follows one in its directory, and which directory an entry is nested in.
-- Assumes nothing.
use mathlib.Core.Path.{◌≡◌, refl}
use mathlib.Core.Logic.{◌⊎◌, inl, inr, ⊎_elim}
use mathlib.Core.Bool.{Bool, true, false, cond}
use mathlib.Core.List.{List}
use Prim.Native.Nat.{ℕ, zero, suc, ◌+◌, ◌-◌, ◌≤◌, ◌<◌}
use native.Mathlib.Omega.{arith}
use borrow.Author.Tests.{eq-eqb, lt-ltb, eqb-true, eqb-false, ltb-true}
use lib.ListN.{get_or}
use lib.Dec.{eqb, ltb}
use Rattle.tree.specs.Table.{empty_root, kind, size_or_next, count, node_with, node_at, nodes_of, is_enclosing, parent_below, parent_of}
use Rattle.table_writing.specs.Inner.Valid.{IsValid}
use Rattle.table_writing.specs.Inner.Flat.{after_in}
use Rattle.tree.proofs.Laws.Accepted.{get_d-nodes_from}
use Rattle.refusal.specs.Laws.Tests.{lt-or-eq-or-gt}

-- by the cases of a test
by : (b : Bool) (x y z : ℕ) → (b ≡ true → x ≡ z) → (b ≡ false → y ≡ z) → cond b x y ≡ z
by true x y z f g = f refl
by false x y z f g = g refl

cases : (b : Bool) (x y : ℕ) → ((b ≡ true) × (cond b x y ≡ x)) ⊎ ((b ≡ false) × (cond b x y ≡ y))
cases true x y = inl (refl, refl)
cases false x y = inr (refl, refl)

both : (a b : Bool) → cond a b false ≡ true → (a ≡ true) × (b ≡ true)
both true true e = (refl, refl)
both true false e = let z : ◌≡◌ {A = ℕ} 0 1 = cc in absurd (omega arith)
both false b e = let z : ◌≡◌ {A = ℕ} 0 1 = cc in absurd (omega arith)

-- ---- the entries as a list

pub count-is : (tab : List ℕ) (n : ℕ) → IsValid tab n → count tab ≡ n
unfolding count
count-is tab n v = omega (arith, v.reach, v.some)

pub node_at_lem : (tab : List ℕ) (n i : ℕ) → IsValid tab n → 0 < i → i < n → get_or (nodes_of tab) i empty_root ≡ node_at tab n i
unfolding nodes_of
node_at_lem tab n zero v p h = absurd (omega arith)
node_at_lem tab n (suc i) v p h =
    let e : 1 + i ≡ suc i = omega arith in
    rw (count-is tab n v) (rw e at (get_d-nodes_from tab n 1 (n - 1) i (omega arith)))

is_enclosing-with : (t : ℕ) (nm : List ℕ) (a b k : ℕ) → t ≤ 1 → is_enclosing (node_with t nm a b) k ≡ cond (eqb t 1) (ltb k b) false
is_enclosing-with zero nm a b k h = refl
is_enclosing-with (suc zero) nm a b k h = refl
is_enclosing-with (suc (suc t)) nm a b k h = absurd (omega arith)

pub is_enclosing-at : (tab : List ℕ) (n i k : ℕ) → IsValid tab n → i < n → is_enclosing (get_or (nodes_of tab) i empty_root) k ≡ cond (eqb (kind tab i) 1) (ltb k (size_or_next tab i)) false
unfolding nodes_of node_at
is_enclosing-at tab n zero k v h = rw (eq-eqb (kind tab 0) 1 v.root, count-is tab n v, v.reach)
is_enclosing-at tab n (suc i) k v h =
    rw (node_at_lem tab n (suc i) v (omega arith) h) (is_enclosing-with (kind tab (suc i)) _ _ (size_or_next tab (suc i)) k (v.kinds (suc i) h))

-- ---- the entry after c is a directory's "next" or the number after c

pub after-cases : (tab : List ℕ) (c : ℕ) → ((kind tab c ≡ 1) × (after_in tab c ≡ size_or_next tab c)) ⊎ ((kind tab c ≡ 1 → ⊥) × (after_in tab c ≡ c + 1))
after-cases tab c = ⊎_elim (λ p. inl (eqb-true _ _ p.0, p.1)) (λ p. inr (eqb-false _ _ p.0, p.1)) (cases (eqb (kind tab c) 1) (size_or_next tab c) (c + 1))

pub after-later : (tab : List ℕ) (n c : ℕ) → IsValid tab n → c < n → c < after_in tab c
after-later tab n c v h = ⊎_elim (λ p. omega (arith, p.1, (v.nested c h p.0).later)) (λ p. omega (arith, p.1)) (after-cases tab c)

pub after-within : (tab : List ℕ) (n k c : ℕ) → IsValid tab n → k < n → kind tab k ≡ 1 → k < c → c < size_or_next tab k → after_in tab c ≤ size_or_next tab k
after-within tab n k c v h d p q =
    ⊎_elim (λ w. omega (arith, w.1, (v.nested k h d).inner c p q w.0)) (λ w. omega (arith, w.1)) (after-cases tab c)

-- every directory between k and c ends at c or before it
abbrev pub Closed : List ℕ → ℕ → ℕ → Type 0
Closed tab k c = (j : ℕ) → k < j → j < c → kind tab j ≡ 1 → size_or_next tab j ≤ c

pub closed_none : (tab : List ℕ) (k : ℕ) → Closed tab k (k + 1)
closed_none tab k j p q d = omega arith

pub closed-more : (tab : List ℕ) (n k c : ℕ) → IsValid tab n → c < n → Closed tab k c → Closed tab k (after_in tab c)
closed-more tab n k c v h f j p q d =
    ⊎_elim
    (λ w.
    let s = v.nested c h w.0 in
    let l = s.later in
    ⊎_elim
    (λ (x : j < c). omega (arith, w.1, f j p x d))
    (⊎_elim (λ (e : j ≡ c). rw (e, w.1) (omega arith)) (λ (x : c < j). rw w.1 (s.inner j x (omega (arith, w.1)) d)))
    (lt-or-eq-or-gt j c))
    (λ w.
    ⊎_elim
    (λ (x : j < c). omega (arith, w.1, f j p x d))
    (⊎_elim (λ (e : j ≡ c). absurd (w.0 (rw e at d))) (λ (x : c < j). omega (arith, w.1)))
    (lt-or-eq-or-gt j c))
    (after-cases tab c)

-- d is the nearest directory that reaches past k
module _ (tab : List ℕ) (n k d : ℕ) (v : IsValid tab n) (kn : k < n) (dir : kind tab d ≡ 1) (past : k < size_or_next tab d) (f : Closed tab d k) where
  parent_in : (i : ℕ) → d < i → i ≤ k → parent_below (nodes_of tab) k i ≡ d
  unfolding parent_below
  parent_in zero p q = omega arith
  parent_in (suc j) p q =
      ⊎_elim
      (λ (x : j < d). omega arith)
      (⊎_elim
      (λ (e : j ≡ d).
      let d' : d < n = omega arith in
      rw (e, is_enclosing-at tab n d k v d', eq-eqb (kind tab d) 1 dir, lt-ltb k (size_or_next tab d) past))
      (λ (x : d < j).
      let ih : parent_below (nodes_of tab) k j ≡ d = parent_in j x (omega arith) in
      let h : j < n = omega arith in
      by (is_enclosing (get_or (nodes_of tab) j empty_root) k) j (parent_below (nodes_of tab) k j) d
      (λ e.
      let t = both (eqb (kind tab j) 1) (ltb k (size_or_next tab j)) (rw (is_enclosing-at tab n j k v h) at e) in
      omega (arith, ltb-true k (size_or_next tab j) t.1, f j x (omega arith) (eqb-true (kind tab j) 1 t.0)))
      (λ e. ih)))
      (lt-or-eq-or-gt j d)

  pub parent_is : d < k → parent_of (nodes_of tab) k ≡ d
  unfolding parent_of
  parent_is h = parent_in k h (omega arith)
