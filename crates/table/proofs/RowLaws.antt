-- The rows of the entries, written one behind the other; the parent of an entry by the parents of those before it. Assumes nothing.
use Prim.Native.Nat.{ℕ, zero, suc, ◌+◌, ◌-◌, ◌*◌, ◌<◌, ◌≤◌}
use mathlib.Core.Path.{◌≡◌, refl, sym, ap, ◌∙◌}
use mathlib.Core.Logic.{◌⊎◌, inl, inr, ⊎_elim}
use mathlib.Core.Bool.{Bool, true, false, cond}
use mathlib.Core.List.{List, [], ◌∷◌, ◌++◌, append_assoc}
use native.Mathlib.Omega.{arith}
use native.Mathlib.Numerals.{add-one}
use borrow.Author.Tests.{lt-ltb, le-ltb}
use lib.ListN.{length, get_or, drop, set, length-append, get_or-append}
use mir.Val.{bool_byte}
use lib.Seq.{get_or-append-add, take-append_seam, drop-append-add, drop-drop}
use Rattle.endian.specs.Bytes.{put}
use Rattle.endian.specs.Laws.Stored.{length-put, put-sets, put_in, put-none}
use Rattle.refusal.specs.Laws.Tests.{lt-or-le}
use Rattle.tree.specs.Table.{Node, file, directory, name_of, empty_root, count, nodes_of, is_enclosing, parent_below, parent_of}
use Rattle.tree.specs.Lookup.{is_directory, next_of}
use Rattle.tree.proofs.Laws.Nesting.{parent-here, parent-lower, parent-before}
use Rattle.table.specs.Rows.{row_with, image_place, entry_row, rows_below, list_with_rows}
use Rattle.table.specs.Inner.ParentsIn.{HasParents}
use Rattle.table.specs.Inner.Fields.{offset_of, size_or_next_of}
use Rattle.table.proofs.Nodes.{parent-whole}
use Rattle.table.proofs.ChildLaws.{parent-last}
use Rattle.tree.proofs.Laws.InsertedList.{is_enclosing-is}

-- ---- six words stored

pub stores-6 : (s : List ℕ) (at a b c d e f : ℕ) → at + 6 ≤ length s →
    set (set (set (set (set (set s at a) (at + 1) b) (at + 2) c) (at + 3) d) (at + 4) e) (at + 5) f ≡ put s at (a ∷ b ∷ c ∷ d ∷ e ∷ f ∷ [])
stores-6 s at a b c d e f h =
    let o : at + 1 ≡ suc at = omega arith in
    let p : at + 2 ≡ suc (suc at) = omega arith in
    let q : at + 3 ≡ suc (suc (suc at)) = omega arith in
    let r : at + 4 ≡ suc (suc (suc (suc at))) = omega arith in
    let t : at + 5 ≡ suc (suc (suc (suc (suc at)))) = omega arith in
    rw (o, p, q, r, t) (put-sets s at (a ∷ b ∷ c ∷ d ∷ e ∷ f ∷ []) h)

-- ---- a row by the entry's kind

with-node : (parent place : ℕ) (x : Node) → row_with parent place x ≡ bool_byte (is_directory x) ∷ parent ∷ offset_of x ∷ size_or_next_of x ∷ place ∷ length (name_of x) ∷ []
with-node parent place (file nm offset size) = refl
with-node parent place (directory nm next) = refl

pub row-is : (base : ℕ) (tab : List ℕ) (k : ℕ) → let x = get_or (nodes_of tab) k empty_root in
    entry_row base tab k ≡ bool_byte (is_directory x) ∷ parent_of (nodes_of tab) k ∷ offset_of x ∷ size_or_next_of x ∷ image_place base tab k ∷ length (name_of x) ∷ []
unfolding entry_row
row-is base tab k = with-node (parent_of (nodes_of tab) k) (image_place base tab k) (get_or (nodes_of tab) k empty_root)

-- ---- rows one behind the other

row-six : (p o : ℕ) (x : Node) → (length (row_with p o x) ≡ 6) × (get_or (row_with p o x) 1 0 ≡ p)
row-six p o (file nm offset size) = (refl, refl)
row-six p o (directory nm next) = (refl, refl)

length-row : (base : ℕ) (tab : List ℕ) (k : ℕ) → length (entry_row base tab k) ≡ 6
unfolding entry_row
length-row base tab k = (row-six _ _ (get_or (nodes_of tab) k empty_root)).0

row-parent : (base : ℕ) (tab : List ℕ) (k : ℕ) → get_or (entry_row base tab k) 1 0 ≡ parent_of (nodes_of tab) k
unfolding entry_row
row-parent base tab k = (row-six _ _ (get_or (nodes_of tab) k empty_root)).1

pub length-rows : (base : ℕ) (tab : List ℕ) (k : ℕ) → length (rows_below base tab k) ≡ 6 * k
unfolding rows_below
length-rows base tab zero = refl
length-rows base tab (suc k) = omega (arith, length-append (rows_below base tab k) (entry_row base tab k), length-row base tab k, length-rows base tab k)

rows-parent : (base : ℕ) (tab : List ℕ) (k i : ℕ) → i < k → get_or (rows_below base tab k) (6 * i + 1) 0 ≡ parent_of (nodes_of tab) i
unfolding rows_below
rows-parent base tab zero i h = absurd (omega arith)
rows-parent base tab (suc k) i h = ⊎_elim (λ l. get_or-append (rows_below base tab k) (entry_row base tab k) 0 (6 * i + 1) (omega (arith, length-rows base tab k)) ∙ rows-parent base tab k i l) (λ l. last (omega arith)) (lt-or-le i k)
  where
    last : i ≡ k → get_or (rows_below base tab k ++ entry_row base tab k) (6 * i + 1) 0 ≡ parent_of (nodes_of tab) i
    last e = rw (e, ← length-rows base tab k) (get_or-append-add (rows_below base tab k) (entry_row base tab k) 1 0 ∙ row-parent base tab k)

put-behind : (s bs cs : List ℕ) (n : ℕ) → length bs ≡ n → n + length cs ≤ length s → put (put s 0 bs) n cs ≡ put s 0 (bs ++ cs)
unfolding put
put-behind s bs cs n e h =
    let z : 0 + length bs ≡ length bs = omega arith in
    let m : 0 + length (bs ++ cs) ≡ length bs + length cs = omega (arith, length-append bs cs) in
    rw (← e, z, m, take-append_seam bs (drop (length bs) s), drop-append-add bs (drop (length bs) s) (length cs), drop-drop (length cs) (length bs) s) (sym (append_assoc bs cs _))

-- the list with the rows of the entries below k
pub record Listing (base : ℕ) (tab list₀ list : List ℕ) (k : ℕ) : Type 0 where
  pub at_most : k ≤ count tab
  pub long : length list ≡ length list₀
  pub is : list ≡ put list₀ 0 (rows_below base tab k)

pub listing_start : (base : ℕ) (tab list : List ℕ) → Listing base tab list list 0
unfolding rows_below
listing_start base tab list = record { at_most = omega arith; long = refl; is = sym (put-none list 0) }

module _ (base : ℕ) (tab list₀ list : List ℕ) (k : ℕ) (room : 6 * count tab ≤ length list₀) (l : Listing base tab list₀ list k) where
  pub listing-parents : HasParents tab k list
  listing-parents = record { at = found }
    where
      found : (i : ℕ) → i < k → get_or list (6 * i + 1) 0 ≡ parent_of (nodes_of tab) i
      found i h =
          let n : 0 + (6 * i + 1) ≡ 6 * i + 1 = omega arith in
          let p = put_in list₀ 0 (rows_below base tab k) (omega (arith, length-rows base tab k, l.at_most)) (6 * i + 1) (omega (arith, length-rows base tab k)) in
          rw l.is ((rw n at p) ∙ rows-parent base tab k i h)

  pub listing-turn : k < count tab → (list' : List ℕ) → list' ≡ put list (6 * k) (entry_row base tab k) → Listing base tab list₀ list' (k + 1)
  unfolding rows_below
  listing-turn h list' e =
      record {
        at_most = omega arith;
        long = ap length e ∙ length-put list (6 * k) (entry_row base tab k) (omega (arith, length-row base tab k, l.long)) ∙ l.long;
        is = e ∙ rw (l.is, add-one k) (put-behind list₀ (rows_below base tab k) (entry_row base tab k) (6 * k) (length-rows base tab k) (omega (arith, length-row base tab k)));
      }

  pub listing-end : count tab ≤ k → list ≡ list_with_rows base tab list₀
  unfolding list_with_rows
  listing-end h =
      let e : k ≡ count tab = omega (arith, l.at_most) in
      rw (le-ltb (length list₀) (6 * count tab) room) (l.is ∙ rw e)

-- ---- the parent by the parents before

below-skip : (nodes : List Node) (k q i : ℕ) → q ≤ i → ((j : ℕ) → q ≤ j → j < i → next_of (get_or nodes j empty_root) ≤ k) → parent_below nodes k i ≡ parent_below nodes k q
below-skip nodes k q zero h f = let e : q ≡ 0 = omega arith in rw e
below-skip nodes k q (suc i) h f = ⊎_elim (λ l. parent-lower nodes k i (closed i (f i l (omega arith))) ∙ below-skip nodes k q i l (λ j a b. f j a (omega arith))) (λ l. let e : q ≡ suc i = omega arith in rw e) (le-or-eq q i h)
  where
    closed : (j : ℕ) → next_of (get_or nodes j empty_root) ≤ k → is_enclosing (get_or nodes j empty_root) k ≡ false
    closed j l = is_enclosing-is (get_or nodes j empty_root) k ∙ le-ltb k (next_of (get_or nodes j empty_root)) l

    le-or-eq : (q i : ℕ) → q ≤ suc i → (q ≤ i) ⊎ (i < q)
    le-or-eq q i h = ⊎_elim (λ l. inr l) (λ l. inl l) (lt-or-le i q)

module _ (nodes : List Node) (k p : ℕ) where
  pub climb-start : 0 < k → p ≡ k - 1 → parent_of nodes k ≡ parent_below nodes k (p + 1)
  climb-start h e = let n : k ≡ p + 1 = omega arith in parent-whole nodes k ∙ ap (parent_below nodes k) n

  pub climb-found : k < next_of (get_or nodes p empty_root) → parent_below nodes k (p + 1) ≡ p
  climb-found h = rw (add-one p) (parent-here nodes k p (is_enclosing-is (get_or nodes p empty_root) k ∙ lt-ltb k (next_of (get_or nodes p empty_root)) h))

  pub climb-turn : 0 < p → p < k → next_of (get_or nodes p empty_root) ≤ k → parent_below nodes k (p + 1) ≡ parent_below nodes k (parent_of nodes p + 1)
  climb-turn z l h =
      below-skip nodes k (parent_of nodes p + 1) (p + 1) (omega (arith, parent-before nodes p z))
      (λ j a b. ⊎_elim (λ q. omega (arith, parent-last nodes p (parent_of nodes p) j refl (omega arith) q)) (λ q. let e : j ≡ p = omega arith in rw e h) (lt-or-le j p))

  pub climb-end : p ≡ 0 → parent_below nodes k (p + 1) ≡ 0
  unfolding parent_below
  climb-end e = let n : p + 1 ≡ 1 = omega arith in rw n (go (is_enclosing (get_or nodes 0 empty_root) k))
    where
      go : (t : Bool) → ◌≡◌ {A = ℕ} (cond t 0 0) 0
      go true = refl
      go false = refl
