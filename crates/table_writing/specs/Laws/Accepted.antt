-- A table that is accepted has what the writers ask for. Assumes nothing.
use Rattle.std.specs.Prelude.{Ok}
use Rattle.std.specs.Prelude.{ℕ, zero, suc, ◌+◌, ◌-◌, ◌*◌, ◌≤◌, ◌<◌, ◌≡◌, refl, Bool, true, false, cond, not, ◌&&◌, List, [], ◌∷◌, length, get_or, drop, leb, ltb, eqb}
use Rattle.std.proofs.Common.{sym, ◌∙◌, ⊎_elim, arith, ltb-false, leb-true, leb-false, le-leb, get_or-drop}
use Rattle.std.proofs.lemmas.Bool.{eqb-false}
use Rattle.refusal.specs.Laws.Tests.{lt-or-le}
use Rattle.refusal.specs.declared.Refusal.TheVariants.{EntryPastTable, UnrecognizedKind, RootIsNotDirectory, MissingNullTerminator, LimitOrMemory, InvalidNextIndex, InvalidNameOffset}
use Rattle.refusal.specs.Refusal.{refuse}
use Rattle.refusal.specs.Laws.Chains.{refuse-passed, first-passed}
use Rattle.tree.specs.Table.{Node, file, directory, name_of, kind, name_offset, size_or_next, count, first_text, name_at, node_at, nodes_from, entry_verdict, entries_verdict, is_unended, top, dirs_open_at, dirs_with, name_verdict, next_verdict, walk, check}
use Rattle.table_writing.specs.Inner.Valid.{name_size, Nests, IsValid}
use Rattle.tree.proofs.Laws.Accepted.{not-is_unended}
use Rattle.tree.proofs.Laws.Steps.{dirs_open_at-pop, shut_open}

-- ---- the first zero byte is not behind any zero byte

run-le : (l : List ℕ) (j : ℕ) → get_or l j 0 ≡ 0 → length (first_text l) ≤ j
run-le [] j e = omega arith
run-le (zero ∷ l) j e = omega arith
run-le (suc x ∷ l) zero e = omega (arith, e)
run-le (suc x ∷ l) (suc j) e = omega (arith, run-le l j e)

name-ends : (tab : List ℕ) (n k : ℕ) → 12 * n + name_offset tab k < length tab → get_or tab (length tab - 1) 0 ≡ 0 → 12 * n + name_offset tab k + name_size tab n k < length tab
unfolding name_size name_at
name-ends tab n k h e =
    let at : ℕ = 12 * n + name_offset tab k in
    let i : at + (length tab - 1 - at) ≡ length tab - 1 = omega arith in
    let z : get_or (drop at tab) (length tab - 1 - at) 0 ≡ 0 = get_or-drop at tab (length tab - 1 - at) 0 ∙ rw i e in
    omega (arith, run-le (drop at tab) (length tab - 1 - at) z)

-- ---- the entry tests

entries_at : (tab : List ℕ) (k m : ℕ) → entries_verdict tab k m ≡ Ok tt → (i : ℕ) → k ≤ i → i < k + m → (12 * i + 12 ≤ length tab) × (kind tab i ≤ 1)
unfolding entries_verdict entry_verdict
entries_at tab k zero e i p q = absurd (omega arith)
entries_at tab k (suc m) e i p q =
    let f = first-passed (entry_verdict tab k) (entries_verdict tab (suc k) m) e in
    let a = refuse-passed (ltb (length tab) (12 * k + 12)) EntryPastTable (refuse (ltb 1 (kind tab k)) UnrecognizedKind (Ok tt)) f.0 in
    let b = refuse-passed (ltb 1 (kind tab k)) UnrecognizedKind (Ok tt) a.1 in
    ⊎_elim (λ (h : k < i). entries_at tab (suc k) m f.1 i (omega arith) (omega arith))
    (λ (h : i ≤ k).
    let s : k ≡ i = omega arith in
    rw (sym s) (ltb-false (length tab) (12 * k + 12) a.0, ltb-false 1 (kind tab k) b.0))
    (lt-or-le k i)

-- ---- the walk

pub record Step (tab : List ℕ) (c : ℕ) (dirs : List ℕ) (k : ℕ) (x : Node) (xs : List Node) : Type 0 where
  pub name : name_offset tab k < length tab - 12 * c
  pub next : next_verdict c (dirs_open_at k dirs) k x ≡ Ok tt
  pub rest : walk tab c (dirs_with (dirs_open_at k dirs) x) (suc k) xs ≡ Ok tt

walk_step : (tab : List ℕ) (c : ℕ) (dirs : List ℕ) (k : ℕ) (x : Node) (xs : List Node) → walk tab c dirs k (x ∷ xs) ≡ Ok tt → Step tab c dirs k x xs
unfolding walk name_verdict
walk_step tab c dirs k x xs e =
    let a = first-passed (name_verdict tab c k (name_of x)) _ e in
    let b = first-passed (next_verdict c (dirs_open_at k dirs) k x) _ a.1 in
    let d = refuse-passed (leb (length tab - 12 * c) (name_offset tab k)) InvalidNameOffset _ a.0 in
    record { name = leb-false (length tab - 12 * c) (name_offset tab k) d.0; next = b.0; rest = b.1 }

-- what the tests of "next" say
next-says : (c : ℕ) (dirs : List ℕ) (k : ℕ) (nm : List ℕ) (next : ℕ) → next_verdict c dirs k (directory nm next) ≡ Ok tt → (k < next) × (next ≤ c) × (next ≤ top dirs)
unfolding next_verdict
next-says c dirs k nm next e =
    let a = refuse-passed (leb next k) InvalidNextIndex _ e in
    let b = refuse-passed (ltb c next) InvalidNextIndex _ a.1 in
    let d = refuse-passed (ltb (top dirs) next) InvalidNextIndex _ b.1 in
    (leb-false next k a.0, ltb-false c next b.0, ltb-false (top dirs) next d.0)

dirs_open_at-dirs_open_at : (k j : ℕ) (dirs : List ℕ) → k ≤ j → dirs_open_at j (dirs_open_at k dirs) ≡ dirs_open_at j dirs
unfolding dirs_open_at
dirs_open_at-dirs_open_at k j [] h = refl
dirs_open_at-dirs_open_at k j (n ∷ dirs) h = go (leb n k) refl (dirs_open_at-dirs_open_at k j dirs h)
  where
    go : (t : Bool) → leb n k ≡ t → dirs_open_at j (dirs_open_at k dirs) ≡ dirs_open_at j dirs → dirs_open_at j (cond t (dirs_open_at k dirs) (n ∷ dirs)) ≡ dirs_open_at j (n ∷ dirs)
    go true e ih = rw (le-leb n j (omega (arith, leb-true n k e))) ih
    go false e ih = refl

-- from entry k up to b, the innermost directory that is open ends at b or before it
abbrev Under : ℕ → ℕ → List ℕ → Type 0
Under b k dirs = (j : ℕ) → k ≤ j → j < b → top (dirs_open_at j dirs) ≤ b

under-step : (b c k : ℕ) (dirs : List ℕ) (x : Node) → next_verdict c (dirs_open_at k dirs) k x ≡ Ok tt → Under b k dirs → Under b (suc k) (dirs_with (dirs_open_at k dirs) x)
under-step b c k dirs (file nm offset size) e u j p q = rw (dirs_open_at-dirs_open_at k j dirs (omega arith)) (u j (omega arith) q)
under-step b c k dirs (directory nm next) e u j p q =
    ⊎_elim
    (λ (h : j < next).
    let s = next-says c (dirs_open_at k dirs) k nm next e in
    rw (shut_open j next (dirs_open_at k dirs) h) (omega (arith, s.2, u k (omega arith) (omega arith))))
    (λ (h : next ≤ j). rw (dirs_open_at-pop j next (dirs_open_at k dirs) h, dirs_open_at-dirs_open_at k j dirs (omega arith)) (u j (omega arith) q))
    (lt-or-le j next)

node-directory : (tab : List ℕ) (c k : ℕ) → kind tab k ≡ 1 → node_at tab c k ≡ directory (name_at tab c (name_offset tab k)) (size_or_next tab k)
unfolding node_at
node-directory tab c k h = rw h

module _ (tab : List ℕ) (c : ℕ) where
  step-at : (dirs : List ℕ) (k m : ℕ) → walk tab c dirs k (nodes_from tab c k (suc m)) ≡ Ok tt → Step tab c dirs k (node_at tab c k) (nodes_from tab c (suc k) m)
  unfolding nodes_from
  step-at dirs k m e = walk_step tab c dirs k (node_at tab c k) (nodes_from tab c (suc k) m) e

  says_at : (dirs : List ℕ) (k m : ℕ) → walk tab c dirs k (nodes_from tab c k (suc m)) ≡ Ok tt → kind tab k ≡ 1 → (k < size_or_next tab k) × (size_or_next tab k ≤ c) × (size_or_next tab k ≤ top (dirs_open_at k dirs))
  says_at dirs k m e h =
      next-says c (dirs_open_at k dirs) k (name_at tab c (name_offset tab k)) (size_or_next tab k) (rw (node-directory tab c k h) at (step-at dirs k m e).next)

  -- a directory that starts before b, which is the end of an open one, ends there or before
  bound : (b m k : ℕ) (dirs : List ℕ) → walk tab c dirs k (nodes_from tab c k m) ≡ Ok tt → Under b k dirs → (j : ℕ) → k ≤ j → j < k + m → j < b → kind tab j ≡ 1 → size_or_next tab j ≤ b
  bound b zero k dirs e u j p q r h = absurd (omega arith)
  bound b (suc m) k dirs e u j p q r h =
      let s = step-at dirs k m e in
      ⊎_elim
      (λ (l : k < j). bound b m (suc k) (dirs_with (dirs_open_at k dirs) (node_at tab c k)) s.rest (under-step b c k dirs (node_at tab c k) s.next u) j (omega arith) (omega arith) r h)
      (λ (l : j ≤ k).
      let i : j ≡ k = omega arith in
      let d = says_at dirs k m e (rw i at h) in
      rw i (omega (arith, d.2, u k (omega arith) (omega arith))))
      (lt-or-le k j)

  nests : (m k : ℕ) (dirs : List ℕ) → k + m ≡ c → walk tab c dirs k (nodes_from tab c k m) ≡ Ok tt → (i : ℕ) → k ≤ i → i < c → kind tab i ≡ 1 → Nests tab c i
  nests zero k dirs t e i p q h = absurd (omega arith)
  nests (suc m) k dirs t e i p q h =
      let s = step-at dirs k m e in
      ⊎_elim
      (λ (l : k < i). nests m (suc k) (dirs_with (dirs_open_at k dirs) (node_at tab c k)) (omega arith) s.rest i (omega arith) q h)
      (λ (l : i ≤ k).
      let z : k ≡ i = omega arith in
      let h' : kind tab k ≡ 1 = rw (sym z) at h in
      let d = says_at dirs k m e h' in
      let n : ℕ = size_or_next tab k in
      let w : walk tab c (n ∷ dirs_open_at k dirs) (suc k) (nodes_from tab c (suc k) m) ≡ Ok tt = rw (node-directory tab c k h') at s.rest in
      let r : Nests tab c k =
      record {
        later = d.0;
        within = d.1;
        inner = λ j x y g. bound n m (suc k) (n ∷ dirs_open_at k dirs) w (λ a o b. rw (shut_open a n (dirs_open_at k dirs) b) (omega arith)) j (omega arith) (omega (arith, d.1)) y g;
      } in
      rw z at r)
      (lt-or-le k i)

  names : (m k : ℕ) (dirs : List ℕ) → walk tab c dirs k (nodes_from tab c k m) ≡ Ok tt → (i : ℕ) → k ≤ i → i < k + m → name_offset tab i < length tab - 12 * c
  names zero k dirs e i p q = absurd (omega arith)
  names (suc m) k dirs e i p q =
      let s = step-at dirs k m e in
      ⊎_elim
      (λ (l : k < i). names m (suc k) (dirs_with (dirs_open_at k dirs) (node_at tab c k)) s.rest i (omega arith) (omega arith))
      (λ (l : i ≤ k). let z : k ≡ i = omega arith in rw z at s.name)
      (lt-or-le k i)

-- ---- the whole

ended : (a b : Bool) → a ≡ true → (a && not b) ≡ false → b ≡ true
ended true true h e = refl
ended true false h e = let z : ◌≡◌ {A = ℕ} 0 1 = cc in absurd (omega arith)
ended false b h e = let z : ◌≡◌ {A = ℕ} 0 1 = cc in absurd (omega arith)

-- the tests of `check`, as facts
pub record Tests (tab : List ℕ) : Type 0 where
  pub long : 12 ≤ length tab
  pub root : kind tab 0 ≡ 1
  pub few : count tab ≤ 16384
  pub entries : entries_verdict tab 1 (count tab - 1) ≡ Ok tt
  pub last : is_unended tab (count tab) ≡ false
  pub reach : 0 < size_or_next tab 0
  pub walked : walk tab (count tab) (count tab ∷ []) 1 (nodes_from tab (count tab) 1 (count tab - 1)) ≡ Ok tt

tests : (tab : List ℕ) (words : ℕ) → check tab words ≡ Ok tt → Tests tab
unfolding check
tests tab words e =
    let a = refuse-passed (ltb (length tab) 12) EntryPastTable _ e in
    let b = refuse-passed (ltb 1 (kind tab 0)) UnrecognizedKind _ a.1 in
    let d = refuse-passed (eqb (kind tab 0) 0) RootIsNotDirectory _ b.1 in
    let f = refuse-passed (ltb 16384 (count tab)) LimitOrMemory _ d.1 in
    let g = first-passed (entries_verdict tab 1 (count tab - 1)) _ f.1 in
    let h = refuse-passed (is_unended tab (count tab)) MissingNullTerminator _ g.1 in
    let i = refuse-passed (ltb 1048576 (length tab - 12 * count tab)) LimitOrMemory _ h.1 in
    let j = refuse-passed (ltb words (4 * (count tab + 2))) LimitOrMemory _ i.1 in
    let k = refuse-passed (leb (size_or_next tab 0) 0) InvalidNextIndex _ j.1 in
    let one : kind tab 0 ≤ 1 = ltb-false 1 (kind tab 0) b.0 in
    record {
      long = ltb-false (length tab) 12 a.0;
      root = not-zero (kind tab 0) one (eqb-false (kind tab 0) 0 d.0);
      few = ltb-false 16384 (count tab) f.0;
      entries = g.0;
      last = h.0;
      reach = leb-false (size_or_next tab 0) 0 k.0;
      walked = k.1;
    }
  where
    not-zero : (n : ℕ) → n ≤ 1 → (n ≡ 0 → ⊥) → n ≡ 1
    not-zero zero p f = absurd (f refl)
    not-zero (suc zero) p f = refl
    not-zero (suc (suc n)) p f = absurd (omega arith)

counted : (tab : List ℕ) → 0 < size_or_next tab 0 → size_or_next tab 0 ≡ count tab
unfolding count
counted tab h = omega arith

root-nests : (tab : List ℕ) → size_or_next tab 0 ≡ count tab → 0 < count tab → walk tab (count tab) (count tab ∷ []) 1 (nodes_from tab (count tab) 1 (count tab - 1)) ≡ Ok tt → Nests tab (count tab) 0
root-nests tab r some w =
    record {
      later = omega arith;
      within = omega arith;
      inner = λ j x y g. rw r
          (bound tab (count tab) (count tab) (count tab - 1) 1 (count tab ∷ []) w (λ a o b. rw (shut_open a (count tab) [] b) (omega arith)) j (omega arith) (omega arith) (omega arith) g);
    }

-- acceptance gives all of it
pub accepted-valid : (tab : List ℕ) (words : ℕ) → check tab words ≡ Ok tt → IsValid tab (count tab)
accepted-valid tab words e =
    let t = tests tab words e in
    let n : ℕ = count tab in
    let r : size_or_next tab 0 ≡ n = counted tab t.reach in
    let some : 0 < n = omega (arith, t.reach) in
    let each : (i : ℕ) → 1 ≤ i → i < n → (12 * i + 12 ≤ length tab) × (kind tab i ≤ 1) = λ i p q. entries_at tab 1 (n - 1) t.entries i p (omega arith) in
    record {
      some = some;
      few = t.few;
      whole = ⊎_elim (λ (h : 1 < n). omega (arith, (each (n - 1) (omega arith) (omega arith)).0)) (λ (h : n ≤ 1). omega (arith, t.long)) (lt-or-le 1 n);
      root = t.root;
      reach = r;
      kinds = λ i p. ⊎_elim (λ (h : 0 < i). (each i (omega arith) p).1) (λ (h : i ≤ 0). let z : 0 ≡ i = omega arith in rw (sym z) (omega (arith, t.root))) (lt-or-le 0 i);
      nested = λ i p h. ⊎_elim (λ (q : 0 < i). nests tab n (n - 1) 1 (n ∷ []) (omega arith) t.walked i (omega arith) p h) (λ (q : i ≤ 0). let z : 0 ≡ i = omega arith in rw (sym z) (root-nests tab r some t.walked)) (lt-or-le 0 i);
      named = λ i p q.
          let o = names tab n (n - 1) 1 (n ∷ []) t.walked i (omega arith) (omega arith) in
          name-ends tab n i (omega arith) (not-is_unended tab n t.last (omega arith));
    }
