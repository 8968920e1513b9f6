-- What acceptance gives: the entries of an accepted table are a well-formed tree within the limits, and every place that its entries
-- name lies in the table. Assumes nothing.
use Rattle.std.specs.Prelude.{Ok}
use Rattle.std.specs.Prelude.{ℕ, zero, suc, ◌+◌, ◌-◌, ◌*◌, ◌^◌, ◌<◌, ◌≤◌, ◌≡◌, refl, Bool, true, false, not, ◌&&◌, List, [], ◌∷◌, length, get_or, leb, ltb, eqb}
use Rattle.std.proofs.Common.{ap, ◌∙◌, arith, add-zero, ltb-false, leb-false, lt-ltb, eqb-true, le-leb}
use Rattle.std.proofs.lemmas.Bool.{eqb-false, not-false}
use Rattle.endian.specs.Bytes.{AllBytes}
use Rattle.endian.specs.Laws.Stored.{be32-small}
use Rattle.refusal.specs.declared.Refusal.TheVariants.{EntryPastTable, UnrecognizedKind, RootIsNotDirectory, MissingNullTerminator, LimitOrMemory, InvalidNextIndex}
use Rattle.refusal.specs.Laws.Chains.{refuse-passed, first-passed}
use Rattle.tree.specs.Table.{Node, file, directory, name_of, empty_root, is_plain, is_safe, kind, name_offset, offset_or_parent, size_or_next, count, name_at, node_with, node_at, nodes_from, nodes_of, entry_verdict, entries_verdict, is_unended, top, dirs_open_at, dirs_with, name_verdict, next_verdict, walk, check, is_shallow_entry, is_shallow_from, is_shallow}
use Rattle.tree.specs.Inner.Accepted.{IsAccepted}
use Rattle.tree.specs.Inner.WellFormed.{IsGoodName, IsGoodEntry, IsSound}
use Rattle.refusal.specs.Laws.Tests.{and_both}
use Rattle.tree.proofs.Laws.Texts.{name-ends}

-- ---- each test

name-passed : (tab : List ℕ) (c k : ℕ) (nm : List ℕ) → name_verdict tab c k nm ≡ Ok tt → (name_offset tab k < length tab - 12 * c) × IsGoodName nm
unfolding name_verdict
name-passed tab c k nm e = go (leb (length tab - 12 * c) (name_offset tab k)) refl (is_plain nm) refl (is_safe nm) refl
  where
    go : (a : Bool) → leb (length tab - 12 * c) (name_offset tab k) ≡ a → (p : Bool) → is_plain nm ≡ p → (s : Bool) → is_safe nm ≡ s → (name_offset tab k < length tab - 12 * c) × IsGoodName nm
    go true a≡ p p≡ s s≡ = let e' = simp a≡ at e in let z : ◌≡◌ {A = ℕ} 0 1 = cc in absurd (omega arith)
    go false a≡ true p≡ true s≡ = (leb-false _ _ a≡, (p≡, s≡))
    go false a≡ true p≡ false s≡ = let e' = simp (a≡, p≡, s≡) at e in let z : ◌≡◌ {A = ℕ} 0 1 = cc in absurd (omega arith)
    go false a≡ false p≡ true s≡ = let e' = simp (a≡, p≡, s≡) at e in let z : ◌≡◌ {A = ℕ} 0 1 = cc in absurd (omega arith)
    go false a≡ false p≡ false s≡ = let e' = simp (a≡, p≡, s≡) at e in let z : ◌≡◌ {A = ℕ} 0 1 = cc in absurd (omega arith)

next-passed : (c k : ℕ) (dirs : List ℕ) (kd : ℕ) (nm : List ℕ) (a b : ℕ) → a < 2 ^ 32 → b < 2 ^ 32 →
    next_verdict c dirs k (node_with kd nm a b) ≡ Ok tt → IsGoodEntry c dirs k (node_with kd nm a b)
unfolding next_verdict
next-passed c k dirs zero nm a b ha hb e = (ha, hb)
next-passed c k dirs (suc kd) nm a next ha hb e =
    let e₁ = refuse-passed (leb next k) InvalidNextIndex _ e in
    let e₂ = refuse-passed (ltb c next) InvalidNextIndex _ e₁.1 in
    let e₃ = refuse-passed (ltb (top dirs) next) InvalidNextIndex _ e₂.1 in
    (leb-false _ _ e₁.0, ltb-false _ _ e₂.0, ltb-false _ _ e₃.0)

depth-passed : (c k : ℕ) (dirs : List ℕ) (x : Node) → next_verdict c dirs k x ≡ Ok tt → is_shallow_entry dirs x ≡ true
unfolding next_verdict
depth-passed c k dirs (file nm offset size) e = refl
depth-passed c k dirs (directory nm next) e =
    let e₁ = refuse-passed (leb next k) InvalidNextIndex _ e in
    let e₂ = refuse-passed (ltb c next) InvalidNextIndex _ e₁.1 in
    let e₃ = refuse-passed (ltb (top dirs) next) InvalidNextIndex _ e₂.1 in
    let e₄ = refuse-passed (ltb 64 (length dirs)) LimitOrMemory _ e₃.1 in
    le-leb (length dirs) 64 (ltb-false _ _ e₄.0)

entry-passed : (tab : List ℕ) (k : ℕ) → entry_verdict tab k ≡ Ok tt → (12 * k + 12 ≤ length tab) × (kind tab k ≤ 1)
unfolding entry_verdict
entry-passed tab k e =
    let e₁ = refuse-passed (ltb (length tab) (12 * k + 12)) EntryPastTable _ e in
    let e₂ = refuse-passed (ltb 1 (kind tab k)) UnrecognizedKind _ e₁.1 in
    (ltb-false _ _ e₁.0, ltb-false _ _ e₂.0)

-- ---- along the entries

entries-passed : (tab : List ℕ) (k n : ℕ) → entries_verdict tab k n ≡ Ok tt → (i : ℕ) → i < n → (12 * (k + i) + 12 ≤ length tab) × (kind tab (k + i) ≤ 1)
unfolding entries_verdict
entries-passed tab k zero e i h = absurd (omega arith)
entries-passed tab k (suc n) e zero h = rw (add-zero k) (entry-passed tab k (first-passed (entry_verdict tab k) _ e).0)
entries-passed tab k (suc n) e (suc i) h =
    let m : k + suc i ≡ suc k + i = omega arith in
    rw m (entries-passed tab (suc k) n (first-passed (entry_verdict tab k) _ e).1 i (omega arith))

walk-offset : (tab : List ℕ) (c k : ℕ) (dirs : List ℕ) (xs : List Node) → walk tab c dirs k xs ≡ Ok tt → (i : ℕ) → i < length xs → name_offset tab (k + i) < length tab - 12 * c
unfolding walk
walk-offset tab c k dirs [] e i h = absurd (omega arith)
walk-offset tab c k dirs (x ∷ xs) e zero h = rw (add-zero k) (name-passed tab c k (name_of x) (first-passed (name_verdict tab c k (name_of x)) _ e).0).0
walk-offset tab c k dirs (x ∷ xs) e (suc i) h =
    let e₁ = first-passed (name_verdict tab c k (name_of x)) _ e in
    let e₂ = first-passed (next_verdict c (dirs_open_at k dirs) k x) _ e₁.1 in
    let m : k + suc i ≡ suc k + i = omega arith in
    rw m (walk-offset tab c (suc k) (dirs_with (dirs_open_at k dirs) x) xs e₂.1 i (omega arith))

walk-is_shallow : (tab : List ℕ) (c k : ℕ) (dirs : List ℕ) (xs : List Node) → walk tab c dirs k xs ≡ Ok tt → is_shallow_from dirs k xs ≡ true
unfolding walk is_shallow_from
walk-is_shallow tab c k dirs [] e = refl
walk-is_shallow tab c k dirs (x ∷ xs) e =
    let e₁ = first-passed (name_verdict tab c k (name_of x)) _ e in
    let e₂ = first-passed (next_verdict c (dirs_open_at k dirs) k x) _ e₁.1 in
    and_both (is_shallow_entry (dirs_open_at k dirs) x) _ (depth-passed c k (dirs_open_at k dirs) x e₂.0) (walk-is_shallow tab c (suc k) (dirs_with (dirs_open_at k dirs) x) xs e₂.1)

walk-sound : (tab : List ℕ) → AllBytes tab → (c k n : ℕ) (dirs : List ℕ) → walk tab c dirs k (nodes_from tab c k n) ≡ Ok tt → IsSound c dirs k (nodes_from tab c k n)
unfolding nodes_from walk node_at
walk-sound tab bytes c k zero dirs e = tt
walk-sound tab bytes c k (suc n) dirs e =
    let e₁ = first-passed _ _ e in
    let e₂ = first-passed _ _ e₁.1 in (
      (name-passed tab c k _ e₁.0).1,
      next-passed c k (dirs_open_at k dirs) (kind tab k) _ (offset_or_parent tab k) (size_or_next tab k) (be32-small tab _ bytes) (be32-small tab _ bytes) e₂.0,
      walk-sound tab bytes c (suc k) n _ e₂.1,
    )

pub length-nodes_from : (tab : List ℕ) (c k n : ℕ) → length (nodes_from tab c k n) ≡ n
unfolding nodes_from
length-nodes_from tab c k zero = refl
length-nodes_from tab c k (suc n) = ap suc (length-nodes_from tab c (suc k) n)

pub length-nodes_of : (tab : List ℕ) → length (nodes_of tab) ≡ count tab
unfolding nodes_of count
length-nodes_of tab = omega (arith, length-nodes_from tab (count tab) 1 (count tab - 1))

pub get_d-nodes_from : (tab : List ℕ) (c k n i : ℕ) → i < n → get_or (nodes_from tab c k n) i empty_root ≡ node_at tab c (k + i)
unfolding nodes_from
get_d-nodes_from tab c k zero i h = absurd (omega arith)
get_d-nodes_from tab c k (suc n) zero h = rw add-zero
get_d-nodes_from tab c k (suc n) (suc i) h =
    let m : k + suc i ≡ suc k + i = omega arith in
    rw m (get_d-nodes_from tab c (suc k) n i (omega arith))

-- entry k, past the root
pub get_d-nodes_of : (tab : List ℕ) (k : ℕ) → 0 < k → k < count tab → get_or (nodes_of tab) k empty_root ≡ node_at tab (count tab) k
unfolding nodes_of
get_d-nodes_of tab zero h l = absurd (omega arith)
get_d-nodes_of tab (suc i) h l = get_d-nodes_from tab (count tab) 1 (count tab - 1) i (omega arith) ∙ ap (node_at tab (count tab)) (omega arith)

-- ---- the whole

pub not-is_unended : (tab : List ℕ) (c : ℕ) → is_unended tab c ≡ false → 12 * c < length tab → get_or tab (length tab - 1) 0 ≡ 0
unfolding is_unended
not-is_unended tab c e h =
    let e' : (true && not (eqb (get_or tab (length tab - 1) 0) 0)) ≡ false = rw (lt-ltb (12 * c) (length tab) h) at e in
    eqb-true _ _ (not-false (eqb (get_or tab (length tab - 1) 0) 0) e')

pub accepted : (tab : List ℕ) (words : ℕ) → AllBytes tab → check tab words ≡ Ok tt → IsAccepted tab words
unfolding check nodes_of count is_shallow
accepted tab words bytes e =
    let c : ℕ = count tab in
    let e₁ = refuse-passed (ltb (length tab) 12) EntryPastTable _ e in
    let e₂ = refuse-passed (ltb 1 (kind tab 0)) UnrecognizedKind _ e₁.1 in
    let e₃ = refuse-passed (eqb (kind tab 0) 0) RootIsNotDirectory _ e₂.1 in
    let e₄ = refuse-passed (ltb 16384 c) LimitOrMemory _ e₃.1 in
    let e₅ = first-passed (entries_verdict tab 1 (c - 1)) _ e₄.1 in
    let e₆ = refuse-passed (is_unended tab c) MissingNullTerminator _ e₅.1 in
    let e₇ = refuse-passed (ltb 1048576 (length tab - 12 * c)) LimitOrMemory _ e₆.1 in
    let e₈ = refuse-passed (ltb words (4 * (c + 2))) LimitOrMemory _ e₇.1 in
    let e₉ = refuse-passed (leb (size_or_next tab 0) 0) InvalidNextIndex _ e₈.1 in
    let len : length (nodes_of tab) ≡ c = length-nodes_of tab in
    let long : 12 ≤ length tab = ltb-false _ _ e₁.0 in
    let most : kind tab 0 ≤ 1 = ltb-false _ _ e₂.0 in
    let one : kind tab 0 ≡ 1 = go (kind tab 0) most (eqb-false (kind tab 0) 0 e₃.0) in
    let each = entries-passed tab 1 (c - 1) e₅.0 in
    let end : 12 * c < length tab → get_or tab (length tab - 1) 0 ≡ 0 = not-is_unended tab c e₆.0 in
    let off = walk-offset tab c 1 (c ∷ []) (nodes_from tab c 1 (c - 1)) e₉.1 in
    let here : (k : ℕ) → 0 < k → k < c → 12 * c + name_offset tab k < length tab =
    λ k h l. let m : 1 + (k - 1) ≡ k = omega arith in omega (arith, rw m at (off (k - 1) (rw (length-nodes_from tab c 1 (c - 1)) (omega arith)))) in
    let ends : (k : ℕ) → 0 < k → k < c → (12 * c + name_offset tab k + length (name_at tab c (name_offset tab k)) < length tab) × (get_or tab (12 * c + name_offset tab k + length (name_at tab c (name_offset tab k))) 0 ≡ 0) =
    λ k h l. name-ends tab c (name_offset tab k) (here k h l) (end (omega (arith, here k h l))) in
    record {
      well = record { root = rw len; sound = rw len (walk-sound tab bytes c 1 (c - 1) (c ∷ []) e₉.1) };
      depth = rw len (walk-is_shallow tab c 1 (c ∷ []) (nodes_from tab c 1 (c - 1)) e₉.1);
      root-kind = one;
      root-next = omega (arith, leb-false (size_or_next tab 0) 0 e₉.0);
      few = ltb-false _ _ e₄.0;
      room = ltb-false _ _ e₈.0;
      fits = within c long (λ i h. (each i h).0);
      kinds = kinds c (rw one (omega arith)) (λ i h. (each i h).1);
      texts = ltb-false _ _ e₇.0;
      ended = end;
      offsets = here;
      names = λ k h l. (ends k h l).0;
      zeros = λ k h l. (ends k h l).1;
    }
  where
    within : (c : ℕ) → 12 ≤ length tab → ((i : ℕ) → i < c - 1 → 12 * (1 + i) + 12 ≤ length tab) → 12 * c ≤ length tab
    within zero h f = omega arith
    within (suc zero) h f = omega arith
    within (suc (suc n)) h f = omega (arith, f n (omega arith))

    kinds : (c : ℕ) → kind tab 0 ≤ 1 → ((i : ℕ) → i < c - 1 → kind tab (1 + i) ≤ 1) → (k : ℕ) → k < c → kind tab k ≤ 1
    kinds c h f zero l = h
    kinds c h f (suc k) l = let m : 1 + k ≡ suc k = omega arith in rw m at (f k (omega arith))

    go : (n : ℕ) → n ≤ 1 → (n ≡ 0 → ⊥) → n ≡ 1
    go zero h f = absurd (f refl)
    go (suc zero) h f = refl
    go (suc (suc n)) h f = absurd (omega arith)

pub name_of-node_with : (n : ℕ) (nm : List ℕ) (a b : ℕ) → name_of (node_with n nm a b) ≡ nm
name_of-node_with zero nm a b = refl
name_of-node_with (suc n) nm a b = refl

pub name_of-node_at : (tab : List ℕ) (c k : ℕ) → name_of (node_at tab c k) ≡ name_at tab c (name_offset tab k)
unfolding node_at
name_of-node_at tab c k = name_of-node_with (kind tab k) _ _ _
