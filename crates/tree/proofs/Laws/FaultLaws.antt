-- An entry is named just where the tests of an entry refuse the table, and it is refused for the table's own cause. Assumes nothing.
use Prim.Native.Nat.{ℕ, zero, suc, ◌+◌, ◌-◌, ◌*◌}
use native.Mathlib.Omega.{arith}
use Rattle.std.specs.Prelude.{◌≡◌, refl, ◌⊎◌, Bool, true, false, not, ◌||◌, List, [], ◌∷◌, length, Option, None, Some, is_some, is_err, Ok, Err, if◌then◌else◌, ◌==◌, nat_lt, nat_le}
use Rattle.std.proofs.Common.{sym, ap, ◌∙◌, ⊎_elim}
use Rattle.std.proofs.lemmas.Bool.{lt-ltb, lt-leb, ne_eqb}
use mathlib.Core.Logic.{inl, inr}
use Rattle.refusal.specs.declared.Refusal.{Refusal}
use Rattle.refusal.specs.declared.Refusal.TheVariants.{EntryPastTable, UnrecognizedKind, RootIsNotDirectory, MissingNullTerminator, LimitOrMemory, InvalidNextIndex}
use Rattle.refusal.specs.Refusal.{Verdict, refuse, first}
use Rattle.tree.specs.Table.{Node, name_of, kind, size_or_next, count, node_at, nodes_from, entry_verdict, entries_verdict, is_unended, dirs_open_at, dirs_with, name_verdict, next_verdict, walk, check}
use Rattle.tree.specs.Faults.{first_refused, walk_refused, is_refused_before_entries, is_refused_behind_entries, refused_entry}
use Rattle.tree.proofs.Laws.Steps.{walk_entry}

-- LAW: for its place or its kind
pub refused-named : (tab : List ℕ) (k n : ℕ) → is_some (first_refused tab k n) ≡ is_err (entries_verdict tab k n)
unfolding first_refused entries_verdict
refused-named tab k zero = refl
refused-named tab k (suc n) = go (refused-named tab (suc k) n) (entry_verdict tab k)
  where
    go : is_some (first_refused tab (suc k) n) ≡ is_err (entries_verdict tab (suc k) n) → (v : Verdict) → is_some (if is_err v then Some k else first_refused tab (suc k) n) ≡ is_err (first v (entries_verdict tab (suc k) n))
    go later (Ok _) = later
    go later (Err c) = refl

-- LAW: and by the cause that it is refused for
pub refused-cause : (tab : List ℕ) (k n j : ℕ) → first_refused tab k n ≡ Some j → entries_verdict tab k n ≡ entry_verdict tab j
unfolding first_refused entries_verdict
refused-cause tab k zero j h = cc
refused-cause tab k (suc n) j h = go (refused-cause tab (suc k) n j) (entry_verdict tab k) refl h
  where
    go : (first_refused tab (suc k) n ≡ Some j → entries_verdict tab (suc k) n ≡ entry_verdict tab j) → (v : Verdict) → entry_verdict tab k ≡ v → (if is_err v then Some k else first_refused tab (suc k) n) ≡ Some j → first v (entries_verdict tab (suc k) n) ≡ entry_verdict tab j
    go later (Ok _) e q = later q
    go later (Err c) e q = let same : k ≡ j = cc in rw (← same, e)

-- LAW: in the walk
pub walk-named : (tab : List ℕ) (c : ℕ) (dirs : List ℕ) (k : ℕ) (xs : List Node) → is_some (walk_refused tab c dirs k xs) ≡ is_err (walk tab c dirs k xs)
unfolding walk_refused walk
walk-named tab c dirs k [] = refl
walk-named tab c dirs k (x ∷ xs) = go (walk-named tab c (dirs_with (dirs_open_at k dirs) x) (suc k) xs) (name_verdict tab c k (name_of x)) (next_verdict c (dirs_open_at k dirs) k x)
  where
    go : is_some (walk_refused tab c (dirs_with (dirs_open_at k dirs) x) (suc k) xs) ≡ is_err (walk tab c (dirs_with (dirs_open_at k dirs) x) (suc k) xs) → (a b : Verdict) → is_some (if is_err (first a b) then Some k else walk_refused tab c (dirs_with (dirs_open_at k dirs) x) (suc k) xs) ≡ is_err (first a (first b (walk tab c (dirs_with (dirs_open_at k dirs) x) (suc k) xs)))
    go later (Ok _) (Ok _) = later
    go later (Ok _) (Err r) = refl
    go later (Err r) b = refl

-- the directories that the walk keeps behind entry k, and behind the first m of entries k and on
abbrev dirs_next : List ℕ → ℕ → List ℕ → ℕ → List ℕ
dirs_next tab c dirs k = dirs_with (dirs_open_at k dirs) (node_at tab c k)

abbrev pub dirs_behind : List ℕ → ℕ → List ℕ → ℕ → ℕ → List ℕ
dirs_behind tab c dirs k zero = dirs
dirs_behind tab c dirs k (suc m) = dirs_behind tab c (dirs_next tab c dirs k) (suc k) m

-- LAW: and by the cause that it is refused for there
pub walk-cause : (tab : List ℕ) (c : ℕ) (dirs : List ℕ) (k n j : ℕ) → walk_refused tab c dirs k (nodes_from tab c k n) ≡ Some j →
    (m : ℕ) × (j ≡ k + m) × (walk tab c dirs k (nodes_from tab c k n) ≡ walk_entry tab c (dirs_behind tab c dirs k m) j (node_at tab c j))
unfolding walk_refused walk nodes_from
walk-cause tab c dirs k zero j h = cc
walk-cause tab c dirs k (suc n) j h =
    go (walk_refused tab c (dirs_next tab c dirs k) (suc k) (nodes_from tab c (suc k) n)) (walk tab c (dirs_next tab c dirs k) (suc k) (nodes_from tab c (suc k) n))
    (walk-cause tab c (dirs_next tab c dirs k) (suc k) n j) (name_verdict tab c k (name_of (node_at tab c k))) refl (next_verdict c (dirs_open_at k dirs) k (node_at tab c k)) refl h
  where
    go : (named : Option ℕ) (rest : Verdict) → (named ≡ Some j → (m : ℕ) × (j ≡ suc k + m) × (rest ≡ walk_entry tab c (dirs_behind tab c (dirs_next tab c dirs k) (suc k) m) j (node_at tab c j))) →
        (a : Verdict) → name_verdict tab c k (name_of (node_at tab c k)) ≡ a → (b : Verdict) → next_verdict c (dirs_open_at k dirs) k (node_at tab c k) ≡ b →
        (if is_err (first a b) then Some k else named) ≡ Some j → (m : ℕ) × (j ≡ k + m) × (first a (first b rest) ≡ walk_entry tab c (dirs_behind tab c dirs k m) j (node_at tab c j))
    go named rest later (Ok _) d (Ok _) e q = let l = later q in (suc l.0, omega (arith, l.1), l.2)
    go named rest later (Ok _) d (Err r) e q = let same : k ≡ j = cc in (0, omega arith, rw (← same, d, e))
    go named rest later (Err r) d b e q = let same : k ≡ j = cc in (0, omega arith, rw (← same, d))

-- ---- the whole of `check`: its tests of the root, of each entry, of the whole table, and the walk

abbrev pub root_verdict : List ℕ → Verdict
root_verdict tab =
    refuse (nat_lt (length tab) 12) EntryPastTable
    (refuse (nat_lt 1 (kind tab 0)) UnrecognizedKind
    (refuse (kind tab 0 == 0) RootIsNotDirectory
    (refuse (nat_lt 16384 (count tab)) LimitOrMemory (Ok tt))))

abbrev pub whole_verdict : List ℕ → ℕ → Verdict
whole_verdict tab words =
    refuse (is_unended tab (count tab)) MissingNullTerminator
    (refuse (nat_lt 1048576 (length tab - 12 * count tab)) LimitOrMemory
    (refuse (nat_lt words (4 * (count tab + 2))) LimitOrMemory
    (refuse (nat_le (size_or_next tab 0) 0) InvalidNextIndex (Ok tt))))

-- four tests, each with its cause
module _ (e f g h : Refusal) where
  four-then : (a b c d : Bool) (later : Verdict) → refuse a e (refuse b f (refuse c g (refuse d h later))) ≡ first (refuse a e (refuse b f (refuse c g (refuse d h (Ok tt))))) later
  four-then true b c d later = refl
  four-then false true c d later = refl
  four-then false false true d later = refl
  four-then false false false true later = refl
  four-then false false false false later = refl

  four-refuse : (a b c d : Bool) → (a || (b || (c || d))) ≡ is_err (refuse a e (refuse b f (refuse c g (refuse d h (Ok tt)))))
  four-refuse true b c d = refl
  four-refuse false true c d = refl
  four-refuse false false true d = refl
  four-refuse false false false true = refl
  four-refuse false false false false = refl

kinds : (a d : Bool) (n : ℕ) → (a || (not (n == 1) || d)) ≡ (a || (nat_lt 1 n || (n == 0 || d)))
kinds a d zero = refl
kinds a d (suc zero) = refl
kinds a d (suc (suc n)) = rw (ne_eqb (suc (suc n)) 1 (λ e. absurd (omega arith)), lt-ltb 1 (suc (suc n)) (omega arith))

none_left : (n : ℕ) → (n == 0) ≡ nat_le n 0
none_left zero = refl
none_left (suc n) = rw (ne_eqb (suc n) 0 (λ e. absurd (omega arith)), lt-leb (suc n) 0 (omega arith))

-- LAW: `check` makes these tests, in this order
pub check-in-stages : (tab : List ℕ) (words : ℕ) →
    check tab words ≡ first (root_verdict tab) (first (entries_verdict tab 1 (count tab - 1)) (first (whole_verdict tab words) (walk tab (count tab) (count tab ∷ []) 1 (nodes_from tab (count tab) 1 (count tab - 1)))))
unfolding check
check-in-stages tab words =
    four-then EntryPastTable UnrecognizedKind RootIsNotDirectory LimitOrMemory (nat_lt (length tab) 12) (nat_lt 1 (kind tab 0)) (kind tab 0 == 0) (nat_lt 16384 (count tab)) _ ∙
    ap (λ (v : Verdict). first (root_verdict tab) (first (entries_verdict tab 1 (count tab - 1)) v))
    (four-then MissingNullTerminator LimitOrMemory LimitOrMemory InvalidNextIndex (is_unended tab (count tab)) (nat_lt 1048576 (length tab - 12 * count tab)) (nat_lt words (4 * (count tab + 2))) (nat_le (size_or_next tab 0) 0) _)

-- LAW: and no entry is looked for where those of the root refuse, nor in the walk where those of the whole do
pub root-tests : (tab : List ℕ) → is_refused_before_entries tab ≡ is_err (root_verdict tab)
root-tests tab =
    kinds (nat_lt (length tab) 12) (nat_lt 16384 (count tab)) (kind tab 0) ∙
    four-refuse EntryPastTable UnrecognizedKind RootIsNotDirectory LimitOrMemory (nat_lt (length tab) 12) (nat_lt 1 (kind tab 0)) (kind tab 0 == 0) (nat_lt 16384 (count tab))

pub whole-tests : (tab : List ℕ) (words : ℕ) → is_refused_behind_entries tab (count tab) words ≡ is_err (whole_verdict tab words)
whole-tests tab words =
    rw (none_left (size_or_next tab 0))
    (four-refuse MissingNullTerminator LimitOrMemory LimitOrMemory InvalidNextIndex (is_unended tab (count tab)) (nat_lt 1048576 (length tab - 12 * count tab)) (nat_lt words (4 * (count tab + 2))) (nat_le (size_or_next tab 0) 0))

-- the entry of four groups of tests: x is that of the second, y of the last
abbrev named_of : Verdict → Verdict → Verdict → Option ℕ → Option ℕ → Option ℕ
named_of r e w x y = if is_err r then None else if is_err e then x else if is_err w then None else y

named-in : (r e w v : Verdict) (x y : Option ℕ) (j : ℕ) → is_some y ≡ is_err v → named_of r e w x y ≡ Some j →
    (is_err (first r (first e (first w v))) ≡ true) × (((x ≡ Some j) × (first r (first e (first w v)) ≡ e)) ⊎ ((y ≡ Some j) × (first r (first e (first w v)) ≡ v)))
named-in (Err c) e w v x y j s h = cc
named-in (Ok _) (Err c) w v x y j s h = (refl, inl (h, refl))
named-in (Ok _) (Ok _) (Err c) v x y j s h = cc
named-in (Ok _) (Ok _) (Ok _) (Err c) x y j s h = (refl, inr (h, refl))
named-in (Ok _) (Ok _) (Ok _) (Ok _) x y j s h = cc

none-in : (r e w v : Verdict) (x y : Option ℕ) → is_some x ≡ is_err e → is_some y ≡ is_err v → named_of r e w x y ≡ None → first r (first e (first w v)) ≡ first r w
none-in (Err c) e w v x y s t h = refl
none-in (Ok _) (Err c) w v x y s t h = cc
none-in (Ok _) (Ok _) (Err c) v x y s t h = refl
none-in (Ok _) (Ok _) (Ok _) (Err c) x y s t h = cc
none-in (Ok _) (Ok _) (Ok _) (Ok _) x y s t h = refl

refused-in-stages : (tab : List ℕ) (words : ℕ) →
    refused_entry tab words ≡ named_of (root_verdict tab) (entries_verdict tab 1 (count tab - 1)) (whole_verdict tab words) (first_refused tab 1 (count tab - 1)) (walk_refused tab (count tab) (count tab ∷ []) 1 (nodes_from tab (count tab) 1 (count tab - 1)))
unfolding refused_entry
refused-in-stages tab words =
    ap (λ (b : Bool). if b then None else if is_err (entries_verdict tab 1 (count tab - 1)) then first_refused tab 1 (count tab - 1) else if is_refused_behind_entries tab (count tab) words then None else walk_refused tab (count tab) (count tab ∷ []) 1 (nodes_from tab (count tab) 1 (count tab - 1))) (root-tests tab) ∙
    ap (λ (b : Bool). if is_err (root_verdict tab) then None else if is_err (entries_verdict tab 1 (count tab - 1)) then first_refused tab 1 (count tab - 1) else if b then None else walk_refused tab (count tab) (count tab ∷ []) 1 (nodes_from tab (count tab) 1 (count tab - 1))) (whole-tests tab words)

-- LAW: where entry j is named, `check` refuses the table, by the tests of entry j's place and kind or by those that the walk makes of it
pub named-refused : (tab : List ℕ) (words j : ℕ) → refused_entry tab words ≡ Some j →
    (is_err (check tab words) ≡ true) × ((check tab words ≡ entry_verdict tab j) ⊎
    ((m : ℕ) × (j ≡ 1 + m) × (check tab words ≡ walk_entry tab (count tab) (dirs_behind tab (count tab) (count tab ∷ []) 1 m) j (node_at tab (count tab) j))))
named-refused tab words j h =
    let told = named-in (root_verdict tab) (entries_verdict tab 1 (count tab - 1)) (whole_verdict tab words) _ _ _ j (walk-named tab (count tab) (count tab ∷ []) 1 (nodes_from tab (count tab) 1 (count tab - 1))) (sym (refused-in-stages tab words) ∙ h) in
    rw (check-in-stages tab words) (
      told.0,
      ⊎_elim (λ p. inl (p.1 ∙ refused-cause tab 1 (count tab - 1) j p.0))
          (λ p. let w = walk-cause tab (count tab) (count tab ∷ []) 1 (count tab - 1) j p.0 in inr (w.0, w.1, p.1 ∙ w.2)) told.1,
    )

-- LAW: where none is, no entry's tests refuse it: its verdict is the root's, or else that of the whole table
pub none-named : (tab : List ℕ) (words : ℕ) → refused_entry tab words ≡ None → check tab words ≡ first (root_verdict tab) (whole_verdict tab words)
none-named tab words h =
    check-in-stages tab words ∙
    none-in (root_verdict tab) (entries_verdict tab 1 (count tab - 1)) (whole_verdict tab words) _ _ _
    (refused-named tab 1 (count tab - 1)) (walk-named tab (count tab) (count tab ∷ []) 1 (nodes_from tab (count tab) 1 (count tab - 1))) (sym (refused-in-stages tab words) ∙ h)

either-refuses : (r w : Verdict) → is_err (first r w) ≡ (is_err r || is_err w)
either-refuses (Err c) w = refl
either-refuses (Ok _) w = refl

-- LAW: and it is refused just where one of the two guards holds
pub none-guarded : (tab : List ℕ) (words : ℕ) → refused_entry tab words ≡ None → is_err (check tab words) ≡ (is_refused_before_entries tab || is_refused_behind_entries tab (count tab) words)
none-guarded tab words h =
    ap (λ (v : Verdict). is_err v) (none-named tab words h) ∙ either-refuses (root_verdict tab) (whole_verdict tab words) ∙
    ap (λ (b : Bool). b || is_err (whole_verdict tab words)) (sym (root-tests tab)) ∙
    ap (λ (b : Bool). is_refused_before_entries tab || b) (sym (whole-tests tab words))
