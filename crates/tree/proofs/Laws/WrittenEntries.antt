-- The entries of a written table read one by one, and the walk over them. Assumes nothing.
use Rattle.std.specs.Prelude.{Ok}
use Prim.Native.Nat.{ℕ, suc, ◌+◌, ◌-◌, ◌*◌, ◌^◌, ◌<◌, ◌≤◌}
use Rattle.std.specs.Prelude.{◌≡◌, Bool, true, false, not, ◌&&◌, get_or, leb, ltb, eqb}
use Rattle.std.proofs.Math.Path.{refl}
use Rattle.std.proofs.Common.{sym, ap, ◌∙◌, add-zero, arith, length-drop, get_or-drop, drop-drop, get_or-append-add}
use mathlib.Core.List.{List, [], ◌∷◌, ◌++◌, tail, append_assoc}
use borrow.Author.Tests.{ltb-true, leb-true, leb-false, lt-ltb, le-ltb, lt-leb}
use Rattle.std.proofs.Math.ListN.{length, drop, length-append}
use Rattle.std.proofs.Math.Seq.{drop-append-add}
use Rattle.endian.specs.Bytes.{be24, be32}
use Rattle.endian.specs.Laws.Stored.{be32-drop, be24-drop, be24-value, be32-value}
use Rattle.refusal.specs.declared.Refusal.TheVariants.{LimitOrMemory}
use Rattle.refusal.specs.Refusal.{refuse, first}
use Rattle.tree.specs.Table.{Node, file, directory, name_of, is_plain, kind, name_offset, offset_or_parent, size_or_next, name_at, node_at, nodes_from, entry_verdict, entries_verdict, is_unended, top, dirs_open_at, dirs_with, name_verdict, next_verdict, walk, node_bytes, parent_of, entries_bytes, texts_of, encode, is_shallow_entry, is_shallow_from}
use Rattle.tree.specs.Inner.WellFormed.{IsGoodEntry, IsSound}
use Rattle.tree.proofs.Laws.Texts.{first_text-name}
use Rattle.tree.proofs.Laws.UnitLaws.{is_plain-bytes}

-- ---- lengths

pub length-node_bytes : (p o : ℕ) (x : Node) → length (node_bytes p o x) ≡ 12
length-node_bytes p o (file nm offset size) = refl
length-node_bytes p o (directory nm next) = refl

pub length-entries_bytes : (nodes : List Node) (k o : ℕ) (xs : List Node) → length (entries_bytes nodes k o xs) ≡ 12 * length xs
unfolding entries_bytes
length-entries_bytes nodes k o [] = refl
length-entries_bytes nodes k o (x ∷ xs) =
    let ih : (o' : ℕ) → length (entries_bytes nodes (suc k) o' xs) ≡ 12 * length xs = λ o'. length-entries_bytes nodes (suc k) o' xs in
    simp (length-append, length-node_bytes, ih) (omega arith)

pub length-encode : (nodes : List Node) → length (encode nodes) ≡ 12 * length nodes + length (texts_of (tail nodes))
unfolding encode texts_of
length-encode [] = refl
length-encode (r ∷ xs) =
    omega (arith, length-append (node_bytes 0 0 r) (entries_bytes (r ∷ xs) 1 0 xs ++ texts_of xs), length-node_bytes 0 0 r, length-append (entries_bytes (r ∷ xs) 1 0 xs) (texts_of xs), length-entries_bytes (r ∷ xs) 1 0 xs)

-- ---- an entry read where the table from there on is known

module _ (tab : List ℕ) (k : ℕ) (l : List ℕ) (e : drop (12 * k) tab ≡ l) where
  pub kind-is : kind tab k ≡ get_or l 0 0
  kind-is = rw (← e) (rw (get_or-drop, add-zero))

  pub name_offset-is : name_offset tab k ≡ be24 l 1
  name_offset-is = rw (← e) (sym (be24-drop (12 * k) tab 1))

  pub word-is : (i : ℕ) → be32 tab (12 * k + i) ≡ be32 l i
  word-is i = rw (← e) (sym (be32-drop (12 * k) tab i))

kind-most : (tab : List ℕ) (k p o : ℕ) (x : Node) (r : List ℕ) → drop (12 * k) tab ≡ node_bytes p o x ++ r → kind tab k ≤ 1
kind-most tab k p o (file nm offset size) r e = omega (arith, kind-is tab k _ e)
kind-most tab k p o (directory nm next) r e = omega (arith, kind-is tab k _ e)

-- entry k of the table holds x, whose name starts at o
record Holds (tab : List ℕ) (c k o : ℕ) (x : Node) : Type 0 where
  off : name_offset tab k ≡ o
  node : node_at tab c k ≡ x

holds : (tab : List ℕ) (c k p o : ℕ) (x : Node) (r s dirs : List ℕ) →
    drop (12 * k) tab ≡ node_bytes p o x ++ r →
    drop (12 * c + o) tab ≡ name_of x ++ (0 ∷ s) →
    o < 2 ^ 24 → c < 2 ^ 32 → is_plain (name_of x) ≡ true → IsGoodEntry c dirs k x → Holds tab c k o x
unfolding node_at name_at be24 be32
holds tab c k p o (file nm offset size) r s dirs e t ho hc pl g =
    let ko : kind tab k ≡ 0 = kind-is tab k _ e in
    let oo : name_offset tab k ≡ o = name_offset-is tab k _ e ∙ be24-value o ho in
    let ao : offset_or_parent tab k ≡ offset = word-is tab k _ e 4 ∙ be32-value offset g.0 in
    let bo : size_or_next tab k ≡ size = word-is tab k _ e 8 ∙ be32-value size g.1 in
    record { off = oo; node = rw (ko, oo, ao, bo, t) (ap (λ (l : List ℕ). file l offset size) (first_text-name nm s (is_plain-bytes nm pl))) }
holds tab c k p o (directory nm next) r s dirs e t ho hc pl g =
    let ko : kind tab k ≡ 1 = kind-is tab k _ e in
    let oo : name_offset tab k ≡ o = name_offset-is tab k _ e ∙ be24-value o ho in
    let bo : size_or_next tab k ≡ next = word-is tab k _ e 8 ∙ be32-value next (omega arith) in
    record { off = oo; node = rw (ko, oo, bo, t) (ap (λ (l : List ℕ). directory l next) (first_text-name nm s (is_plain-bytes nm pl))) }

-- past the front: what follows where p bytes more are dropped
pub drop_past : (n m : ℕ) (tab p q : List ℕ) → drop n tab ≡ p ++ q → n + length p ≡ m → drop m tab ≡ q
drop_past n m tab p q e h = rw (← h, ← drop-drop (length p) n tab, e) (rw (← add-zero (length p)) (drop-append-add p q 0))

pub length-of-drop : (n : ℕ) (tab p : List ℕ) → drop n tab ≡ p → length tab - n ≡ length p
length-of-drop n tab p e = sym (length-drop n tab) ∙ ap length e

-- ---- along the entries

module _ (nodes : List Node) (tab : List ℕ) where
  -- the entry, and the entries after it
  entry_next : (k o : ℕ) (x : Node) (xs : List Node) (r : List ℕ) → drop (12 * k) tab ≡ entries_bytes nodes k o (x ∷ xs) ++ r →
      (drop (12 * k) tab ≡ node_bytes (parent_of nodes k) o x ++ (entries_bytes nodes (suc k) (o + suc (length (name_of x))) xs ++ r)) ×
      (drop (12 * suc k) tab ≡ entries_bytes nodes (suc k) (o + suc (length (name_of x))) xs ++ r) ×
      (12 * k + 12 ≤ length tab)
  unfolding entries_bytes
  entry_next k o x xs r e =
      let b : List ℕ = node_bytes (parent_of nodes k) o x in
      let q : List ℕ = entries_bytes nodes (suc k) (o + suc (length (name_of x))) xs ++ r in
      let e₁ : drop (12 * k) tab ≡ b ++ q = e ∙ append_assoc b _ r in
      let l : length b ≡ 12 = length-node_bytes (parent_of nodes k) o x in
      let n : length tab - 12 * k ≡ length b + length q = length-of-drop (12 * k) tab (b ++ q) e₁ ∙ length-append b q in
      (e₁, drop_past (12 * k) (12 * suc k) tab b q e₁ (omega arith), omega arith)

  pub entries-accepted : (k o : ℕ) (xs : List Node) (r : List ℕ) → drop (12 * k) tab ≡ entries_bytes nodes k o xs ++ r → entries_verdict tab k (length xs) ≡ Ok tt
  unfolding entries_verdict entry_verdict
  entries-accepted k o [] r e = refl
  entries-accepted k o (x ∷ xs) r e =
      let f = entry_next k o x xs r e in
      simp (le-ltb (length tab) (12 * k + 12) f.2, le-ltb 1 (kind tab k) (kind-most tab k _ o x _ f.0), entries-accepted (suc k) (o + suc (length (name_of x))) xs r f.1)

-- the entries of the table from k on hold xs, their names inside the texts
abbrev pub Reads : List ℕ → ℕ → ℕ → List Node → Type 0
Reads tab c k [] = Unit {0}
Reads tab c k (x ∷ xs) = (name_offset tab k < length tab - 12 * c) × (node_at tab c k ≡ x) × Reads tab c (suc k) xs

pub reads : (nodes : List Node) (tab : List ℕ) (c k o : ℕ) (dirs r : List ℕ) (xs : List Node) →
    drop (12 * k) tab ≡ entries_bytes nodes k o xs ++ r →
    drop (12 * c + o) tab ≡ texts_of xs →
    o + length (texts_of xs) ≤ 2 ^ 24 → c < 2 ^ 32 → IsSound c dirs k xs → Reads tab c k xs
unfolding texts_of
reads nodes tab c k o dirs r [] e t ho hc g = tt
reads nodes tab c k o dirs r (x ∷ xs) e t ho hc g =
    let o' : ℕ = o + suc (length (name_of x)) in
    let f = entry_next nodes tab k o x xs r e in
    let tlen : length tab - (12 * c + o) ≡ length (name_of x) + suc (length (texts_of xs)) = length-of-drop (12 * c + o) tab _ t ∙ length-append (name_of x) _ in
    let ho₁ : o + (length (name_of x) + suc (length (texts_of xs))) ≤ 2 ^ 24 = rw length-append at ho in
    let h : Holds tab c k o x = holds tab c k (parent_of nodes k) o x _ _ (dirs_open_at k dirs) f.0 t (omega arith) hc g.0.0 g.1 in (
      omega (arith, h.off),
      h.node,
      reads nodes tab c (suc k) o' (dirs_with (dirs_open_at k dirs) x) r xs f.1
          (drop_past (12 * c + o) (12 * c + o') tab (name_of x ++ (0 ∷ [])) (texts_of xs) (t ∙ sym (append_assoc (name_of x) (0 ∷ []) (texts_of xs))) (omega (arith, length-append (name_of x) (0 ∷ []))))
          (omega arith) hc g.2,
    )

pub reads-nodes : (tab : List ℕ) (c k : ℕ) (xs : List Node) → Reads tab c k xs → nodes_from tab c k (length xs) ≡ xs
unfolding nodes_from
reads-nodes tab c k [] r = refl
reads-nodes tab c k (x ∷ xs) r = rw (r.1, reads-nodes tab c (suc k) xs r.2)

-- ---- the walk: only the depth is left to be judged

next-depth : (c k : ℕ) (dirs : List ℕ) (x : Node) → IsGoodEntry c dirs k x → next_verdict c dirs k x ≡ refuse (not (is_shallow_entry dirs x)) LimitOrMemory (Ok tt)
unfolding next_verdict
next-depth c k dirs (file nm offset size) g = refl
next-depth c k dirs (directory nm next) g = simp (lt-leb next k g.0, le-ltb c next g.1, le-ltb (top dirs) next g.2) (go (leb (length dirs) 64) refl)
  where
    go : (t : Bool) → leb (length dirs) 64 ≡ t → refuse (ltb 64 (length dirs)) LimitOrMemory (Ok tt) ≡ refuse (not t) LimitOrMemory (Ok tt)
    go true e = rw (le-ltb 64 (length dirs) (leb-true (length dirs) 64 e))
    go false e = rw (lt-ltb 64 (length dirs) (leb-false (length dirs) 64 e))

both-depths : (a b : Bool) → first (refuse (not a) LimitOrMemory (Ok tt)) (refuse (not b) LimitOrMemory (Ok tt)) ≡ refuse (not (a && b)) LimitOrMemory (Ok tt)
both-depths true b = refl
both-depths false b = refl

pub reads-walk : (tab : List ℕ) (c k : ℕ) (dirs : List ℕ) (xs : List Node) → Reads tab c k xs → IsSound c dirs k xs →
    walk tab c dirs k xs ≡ refuse (not (is_shallow_from dirs k xs)) LimitOrMemory (Ok tt)
unfolding walk name_verdict is_shallow_from
reads-walk tab c k dirs [] r g = refl
reads-walk tab c k dirs (x ∷ xs) r g =
    simp (lt-leb (length tab - 12 * c) (name_offset tab k) r.0, g.0.0, g.0.1, next-depth c k (dirs_open_at k dirs) x g.1, reads-walk tab c (suc k) (dirs_with (dirs_open_at k dirs) x) xs r.2 g.2)
    (both-depths (is_shallow_entry (dirs_open_at k dirs) x) (is_shallow_from (dirs_with (dirs_open_at k dirs) x) (suc k) xs))

-- ---- the last byte

pub last-append : (p q : List ℕ) → 0 < length q → get_or (p ++ q) (length (p ++ q) - 1) 0 ≡ get_or q (length q - 1) 0
last-append p q h =
    let e : length (p ++ q) - 1 ≡ length p + (length q - 1) = omega (arith, length-append p q) in
    rw e (get_or-append-add p q (length q - 1) 0)

last-zero : (t : List ℕ) → get_or t (length t - 1) 0 ≡ 0 → get_or (0 ∷ t) (suc (length t) - 1) 0 ≡ 0
last-zero [] h = refl
last-zero (y ∷ t) h =
    let e : suc (suc (length t)) - 1 ≡ suc (suc (length t) - 1) = omega arith in
    rw e h

pub last-text : (xs : List Node) → get_or (texts_of xs) (length (texts_of xs) - 1) 0 ≡ 0
unfolding texts_of
last-text [] = refl
last-text (x ∷ xs) = last-append (name_of x) (0 ∷ texts_of xs) (omega arith) ∙ last-zero (texts_of xs) (last-text xs)

pub not-is_unended : (tab : List ℕ) (c : ℕ) → (12 * c < length tab → get_or tab (length tab - 1) 0 ≡ 0) → is_unended tab c ≡ false
unfolding is_unended
not-is_unended tab c h = go (ltb (12 * c) (length tab)) refl
  where
    go : (t : Bool) → ltb (12 * c) (length tab) ≡ t → (t && not (eqb (get_or tab (length tab - 1) 0) 0)) ≡ false
    go true e = rw (h (ltb-true _ _ e))
    go false e = refl
