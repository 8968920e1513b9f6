-- Tables that differ in unread bytes at most read alike: to the same entries, and with the same verdict. Assumes nothing.
use Rattle.std.specs.Prelude.{ℕ, zero, suc, ◌+◌, ◌-◌, ◌*◌, ◌/◌, ◌%◌, ◌<◌, ◌≤◌, ◌≡◌, ◌⊎◌, Bool, true, false, not, ◌&&◌, List, [], ◌∷◌, length, get_or, drop, ltb, leb, eqb}
use Rattle.std.proofs.Math.Path.{refl, ap}
use Rattle.std.proofs.Common.{sym, ◌∙◌, ⊎_elim, inl, inr, arith, length-drop, ext_get_or, get_or-drop, ltb-true, lt-ltb, leb-true, le-leb}
use Rattle.std.proofs.lemmas.Bool.{eqb-false, not-true, ne_eqb}
use Rattle.endian.specs.Laws.Stored.{be24-same, be32-same}
use Rattle.refusal.specs.Laws.Tests.{and_left, and_right, and_both, or_cases, or_left, or_right, is_false}
use Rattle.tree.specs.Table.{Node, kind, name_offset, offset_or_parent, size_or_next, count, name_at, node_with, node_at, nodes_from, nodes_of, entry_verdict, entries_verdict, is_unended, dirs_open_at, dirs_with, name_verdict, walk, check}
use Rattle.same_table.specs.Unread.{is_unread}

-- byte i is the root's name offset's, or a stored parent's
abbrev pub IsUnread : List ℕ → ℕ → Type 0
IsUnread tab i = ((1 ≤ i) × (i ≤ 3)) ⊎ ((i < 12 * count tab) × (kind tab (i / 12) ≡ 0 → ⊥) × (4 ≤ i % 12) × (i % 12 ≤ 7))

module _ (tab : List ℕ) (i : ℕ) where
  -- the tests, one by one
  abbrev in-name : Bool
  in-name = leb 1 i && leb i 3

  abbrev in-entry : Bool
  in-entry = ltb i (12 * count tab)

  abbrev of-directory : Bool
  of-directory = not (eqb (kind tab (i / 12)) 0)

  abbrev in-field : Bool
  in-field = leb 4 (i % 12) && leb (i % 12) 7

  pub unread-is : is_unread tab i ≡ true → IsUnread tab i
  unread-is u =
      ⊎_elim (λ h. inl (leb-true 1 i (and_left (leb 1 i) (leb i 3) h), leb-true i 3 (and_right (leb 1 i) (leb i 3) h))) (λ h. inr (go h))
      (or_cases in-name ((in-entry && of-directory) && in-field) u)
    where
      go : ((in-entry && of-directory) && in-field) ≡ true → (i < 12 * count tab) × (kind tab (i / 12) ≡ 0 → ⊥) × (4 ≤ i % 12) × (i % 12 ≤ 7)
      go h =
          let e = and_left (in-entry && of-directory) in-field h in
          let f = and_right (in-entry && of-directory) in-field h in (
            ltb-true i (12 * count tab) (and_left in-entry of-directory e),
            eqb-false (kind tab (i / 12)) 0 (not-true (eqb (kind tab (i / 12)) 0) (and_right in-entry of-directory e)),
            leb-true 4 (i % 12) (and_left (leb 4 (i % 12)) (leb (i % 12) 7) f),
            leb-true (i % 12) 7 (and_right (leb 4 (i % 12)) (leb (i % 12) 7) f),
          )

  pub is-unread : IsUnread tab i → is_unread tab i ≡ true
  is-unread u =
      ⊎_elim (λ h. or_left in-name ((in-entry && of-directory) && in-field) (and_both (leb 1 i) (leb i 3) (le-leb 1 i h.0) (le-leb i 3 h.1)))
      (λ h. or_right in-name ((in-entry && of-directory) && in-field)
      (and_both (in-entry && of-directory) in-field (and_both in-entry of-directory (lt-ltb i (12 * count tab) h.0) (rw (ne_eqb (kind tab (i / 12)) 0 h.1)))
      (and_both (leb 4 (i % 12)) (leb (i % 12) 7) (le-leb 4 (i % 12) h.2) (le-leb (i % 12) 7 h.3)))) u

-- tables with the same entries, as their fields are read
pub record SameEntries (tab tab' : List ℕ) : Type 0 where
  pub len : length tab' ≡ length tab
  pub kinds : (k : ℕ) → k < count tab → kind tab' k ≡ kind tab k
  pub names : (k : ℕ) → 0 < k → k < count tab → name_offset tab' k ≡ name_offset tab k
  pub nexts : (k : ℕ) → k < count tab → size_or_next tab' k ≡ size_or_next tab k
  pub offsets : (k : ℕ) → 0 < k → k < count tab → kind tab k ≡ 0 → offset_or_parent tab' k ≡ offset_or_parent tab k
  pub texts : (i : ℕ) → 12 * count tab ≤ i → get_or tab' i 0 ≡ get_or tab i 0

pub some : (tab : List ℕ) → 0 < count tab
unfolding count
some tab = omega arith

-- LAW: what differs in unread bytes at most has the same entries
module _ (tab tab' : List ℕ) (len : length tab' ≡ length tab) (same : (i : ℕ) → is_unread tab i ≡ false → get_or tab' i 0 ≡ get_or tab i 0) where
  read : (i : ℕ) → (IsUnread tab i → ⊥) → get_or tab' i 0 ≡ get_or tab i 0
  read i h = same i (is_false (is_unread tab i) (λ u. h (unread-is tab i u)))

  of-file : (k i : ℕ) → i < 4 → kind tab k ≡ 0 → (kind tab ((12 * k + 4 + i) / 12) ≡ 0 → ⊥) → ⊥
  of-file k i l e h = let q : (12 * k + 4 + i) / 12 ≡ k = omega arith in h (rw q e)

  pub entries-of : SameEntries tab tab'
  entries-of = record {
    len = len;
    kinds = λ k h. read (12 * k) (λ u. ⊎_elim (λ a. omega (arith, a.0, a.1)) (λ a. omega (arith, a.2)) u);
    names = λ k z h. be24-same tab' tab (12 * k + 1) (λ i l. read (12 * k + 1 + i) (λ u. ⊎_elim (λ a. omega (arith, a.1)) (λ a. omega (arith, a.2)) u));
    nexts = λ k h. be32-same tab' tab (12 * k + 8) (λ i l. read (12 * k + 8 + i) (λ u. ⊎_elim (λ a. omega (arith, a.1)) (λ a. omega (arith, a.3)) u));
    offsets = λ k z h e. be32-same tab' tab (12 * k + 4) (λ i l. read (12 * k + 4 + i) (λ u. ⊎_elim (λ a. omega (arith, a.1)) (λ a. of-file k i l e a.1) u));
    texts = λ i h. read i (λ u. ⊎_elim (λ a. omega (arith, a.1, some tab)) (λ a. omega (arith, a.0)) u);
  }

-- ---- read alike

module _ (tab tab' : List ℕ) (s : SameEntries tab tab') where
  abbrev c : ℕ
  c = count tab

  count_same : count tab' ≡ count tab
  count_same = go (s.nexts 0 (some tab))
    where
      go : size_or_next tab' 0 ≡ size_or_next tab 0 → count tab' ≡ count tab
      go e = unfold count in rw e

  drop-same : (n : ℕ) → 12 * c ≤ n → drop n tab' ≡ drop n tab
  drop-same n h = ext_get_or 0 (drop n tab') (drop n tab) (simp (length-drop, s.len)) (λ i l. get_or-drop n tab' i 0 ∙ s.texts (n + i) (omega arith) ∙ sym (get_or-drop n tab i 0))

  names_same : (o : ℕ) → name_at tab' c o ≡ name_at tab c o
  unfolding name_at
  names_same o = rw (drop-same (12 * c + o) (omega arith))

  node-same : (k : ℕ) → 0 < k → k < c → node_at tab' c k ≡ node_at tab c k
  unfolding node_at
  node-same k z h = rw (s.kinds k h, s.names k z h, names_same (name_offset tab k), s.nexts k h) (go (kind tab k) refl)
    where
      go : (n : ℕ) → kind tab k ≡ n → node_with n (name_at tab c (name_offset tab k)) (offset_or_parent tab' k) (size_or_next tab k) ≡ node_with n (name_at tab c (name_offset tab k)) (offset_or_parent tab k) (size_or_next tab k)
      go zero e = rw (s.offsets k z h e)
      go (suc n) e = refl

  from-same : (k n : ℕ) → 0 < k → k + n ≤ c → nodes_from tab' c k n ≡ nodes_from tab c k n
  unfolding nodes_from
  from-same k zero z h = refl
  from-same k (suc n) z h = rw (node-same k z (omega arith), from-same (suc k) n (omega arith) (omega arith))

  -- LAW: the same entries
  pub entries-same : nodes_of tab' ≡ nodes_of tab
  unfolding nodes_of
  entries-same = rw (count_same, from-same 1 (c - 1) (omega arith) (omega (arith, some tab)))

  each_same : (k n : ℕ) → k + n ≤ c → entries_verdict tab' k n ≡ entries_verdict tab k n
  unfolding entries_verdict entry_verdict
  each_same k zero h = refl
  each_same k (suc n) h = rw (s.len, s.kinds k (omega arith), each_same (suc k) n (omega arith))

  unended-same : is_unended tab' c ≡ is_unended tab c
  unfolding is_unended
  unended-same = rw s.len (go (ltb (12 * c) (length tab)) refl)
    where
      go : (b : Bool) → ltb (12 * c) (length tab) ≡ b → (b && not (eqb (get_or tab' (length tab - 1) 0) 0)) ≡ (b && not (eqb (get_or tab (length tab - 1) 0) 0))
      go true e = rw (s.texts (length tab - 1) (omega (arith, ltb-true (12 * c) (length tab) e)))
      go false e = refl

  walk_same : (dirs : List ℕ) (k : ℕ) (xs : List Node) → 0 < k → k + length xs ≤ c → walk tab' c dirs k xs ≡ walk tab c dirs k xs
  unfolding walk name_verdict
  walk_same dirs k [] z h = refl
  walk_same dirs k (x ∷ xs) z h = rw (s.len, s.names k z (omega arith), walk_same (dirs_with (dirs_open_at k dirs) x) (suc k) xs (omega arith) (omega arith))

  from-length : (k n : ℕ) → length (nodes_from tab c k n) ≡ n
  unfolding nodes_from
  from-length k zero = refl
  from-length k (suc n) = ap suc (from-length (suc k) n)

  -- LAW: and the same verdict
  pub check-same : (words : ℕ) → check tab' words ≡ check tab words
  unfolding check
  check-same words =
      rw (
        s.len,
        s.kinds 0 (some tab),
        count_same,
        each_same 1 (c - 1) (omega (arith, some tab)),
        unended-same,
        s.nexts 0 (some tab),
        from-same 1 (c - 1) (omega arith) (omega (arith, some tab)),
        walk_same (c ∷ []) 1 (nodes_from tab c 1 (c - 1)) (omega arith) (omega (arith, some tab, from-length 1 (c - 1))),
      )
