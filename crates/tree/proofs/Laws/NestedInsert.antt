-- An entry put in as the last child of a directory: directories still nest. Assumes nothing.
use Rattle.std.specs.Prelude.{ℕ, zero, suc, ◌+◌, ◌-◌, ◌<◌, ◌≤◌, min, ◌≡◌, refl, Bool, true, false, cond, List, length, get_or, leb, ltb}
use Rattle.std.proofs.Common.{sym, ◌∙◌, ⊎_elim, arith, ltb-true, leb-true, leb-false, le-leb, le-ltb}
use Rattle.std.proofs.lemmas.Bool.{lt-leb}
use Rattle.refusal.specs.Laws.Tests.{lt-or-le}
use Rattle.tree.specs.Table.{Node, file, directory, empty_root, is_enclosing}
use Rattle.tree.specs.Lookup.{is_directory, next_of}
use Rattle.tree.specs.Insert.{raised_next, node_before, node_after, insert_at}
use Rattle.tree.proofs.Laws.Nesting.{Inside}
use Rattle.tree.proofs.Laws.InsertedList.{IsNested, is_enclosing-is, Fresh, raised_next-min, q≤n, p<q, length_inserted, inserted-before, inserted-at, inserted-after}
use Rattle.tree.proofs.Laws.InsertedParents.{later_same, new-ended, between, encl-before, encl-after}

-- ---- directories still nest

next_of-node_before-cases : (p k : ℕ) (x : Node) → next_of (node_before p k x) ≡ cond (leb k p) (raised_next p (next_of x)) (next_of x)
unfolding raised_next
next_of-node_before-cases p k (directory nm n) = refl
next_of-node_before-cases p k (file nm a b) = go (leb k p)
  where
    go : (t : Bool) → ◌≡◌ {A = ℕ} 0 (cond t (cond (ltb p 0) 1 0) 0)
    go true = rw (le-ltb p 0 (omega arith))
    go false = refl

-- the raised next in one sum
pub next_of-node_before : (p k : ℕ) (x : Node) → k ≤ p → next_of (node_before p k x) ≡ next_of x + min 1 (next_of x - p)
next_of-node_before p k x h = next_of-node_before-cases p k x ∙ rw (le-leb k p h) (raised_next-min p (next_of x))

pub next_of-node_before-same : (p k : ℕ) (x : Node) → p < k → next_of (node_before p k x) ≡ next_of x
next_of-node_before-same p k x h = next_of-node_before-cases p k x ∙ rw (lt-leb k p h)

pub next_of-node_after : (x : Node) → 0 < next_of x → next_of (node_after x) ≡ suc (next_of x)
next_of-node_after (file nm a b) h = absurd (omega arith)
next_of-node_after (directory nm n) h = refl

next_of-node_after-most : (x : Node) → next_of (node_after x) ≤ suc (next_of x)
next_of-node_after-most (file nm a b) = omega arith
next_of-node_after-most (directory nm n) = omega arith

pub is_directory-node_before : (p k : ℕ) (x : Node) → is_directory (node_before p k x) ≡ is_directory x
is_directory-node_before p k (file nm a b) = refl
is_directory-node_before p k (directory nm n) = refl

pub is_later : (x : Node) → is_directory (node_after x) ≡ is_directory x
is_later (file nm a b) = refl
is_later (directory nm n) = refl

new-next : (q : ℕ) (x : Node) → Fresh q x → is_directory x ≡ true → next_of x ≡ suc q
new-next q (file nm a b) f d = let z : ◌≡◌ {A = ℕ} 0 1 = cc in absurd (omega arith)
new-next q (directory nm n) f d = f

pub new-most : (q : ℕ) (x : Node) → Fresh q x → next_of x ≤ suc q
new-most q (file nm a b) f = omega arith
new-most q (directory nm n) f = omega arith

-- a next that may have been raised by one
next_of-node_before-grows : (p k : ℕ) (x : Node) → (next_of x ≤ next_of (node_before p k x)) × (next_of (node_before p k x) ≤ suc (next_of x))
next_of-node_before-grows p k x = go (leb k p) refl
  where
    go : (t : Bool) → leb k p ≡ t → (next_of x ≤ next_of (node_before p k x)) × (next_of (node_before p k x) ≤ suc (next_of x))
    go true e = (omega (arith, next_of-node_before p k x (leb-true k p e)), omega (arith, next_of-node_before p k x (leb-true k p e)))
    go false e = (omega (arith, next_of-node_before-same p k x (leb-false k p e)), omega (arith, next_of-node_before-same p k x (leb-false k p e)))

-- a number of the new list is that of an earlier entry, of the new one, or of a later one
pub data Place (q k : ℕ) : Type 0 where
  before : k < q → Place q k
  here : k ≡ q → Place q k
  after : (j : ℕ) → k ≡ suc j → q ≤ j → Place q k

pub place : (q k : ℕ) → Place q k
place q zero = ⊎_elim (λ (h : 0 < q). before h) (λ (h : q ≤ 0). here (omega arith)) (lt-or-le 0 q)
place q (suc j) = ⊎_elim (λ (h : j < q). ⊎_elim (λ (l : suc j < q). before l) (λ (l : q ≤ suc j). here (omega arith)) (lt-or-le (suc j) q)) (λ (h : q ≤ j). after j refl h) (lt-or-le j q)

module _ (nodes : List Node) (p q : ℕ) (nm : List ℕ) (new : Node) (w : IsNested nodes) (dir : get_or nodes p empty_root ≡ directory nm q) (p<n : p < length nodes) (fresh : Fresh q new) where
  abbrev N : List Node
  N = insert_at p new nodes

  len : length N ≡ suc (length nodes)
  len = length_inserted nodes p q nm new w dir p<n

  q≤ : q ≤ length nodes
  q≤ = q≤n nodes p q nm new w dir p<n

  p< : p < q
  p< = p<q nodes p q nm new w dir p<n

  nested-bounds : (k : ℕ) → Place q k → k < length N → is_directory (get_or N k empty_root) ≡ true → (k < next_of (get_or N k empty_root)) × (next_of (get_or N k empty_root) ≤ length N)
  nested-bounds k (before l) h d =
      let e : get_or N k empty_root ≡ node_before p k (get_or nodes k empty_root) = inserted-before nodes p q nm new w dir p<n k l in
      let x : Node = get_or nodes k empty_root in
      let b = w.bounds k (omega (arith, q≤)) (sym (is_directory-node_before p k x) ∙ rw e at d) in
      let g = next_of-node_before-grows p k x in
      rw (e, len) (omega arith, omega arith)
  nested-bounds k (here k≡) h d =
      let e : get_or N k empty_root ≡ new = rw k≡ (inserted-at nodes p q nm new w dir p<n) in
      let n : next_of new ≡ suc q = new-next q new fresh (rw e at d) in
      rw (e, len) (omega arith, omega (arith, q≤))
  nested-bounds k (after j k≡ l) h d =
      let j< : j < length nodes = omega (arith, len) in
      let e : get_or N k empty_root ≡ node_after (get_or nodes j empty_root) = rw k≡ (inserted-after nodes p q nm new w dir p<n j l j<) in
      let x : Node = get_or nodes j empty_root in
      let b = w.bounds j j< (sym (is_later x) ∙ rw e at d) in
      let n : next_of (node_after x) ≡ suc (next_of x) = next_of-node_after x (omega arith) in
      rw (e, len) (omega arith, omega arith)

  reaches : (d k : ℕ) → is_enclosing (get_or N d empty_root) k ≡ true → k < next_of (get_or N d empty_root)
  reaches d k e = ltb-true k _ (sym (is_enclosing-is (get_or N d empty_root) k) ∙ e)

  reached : (d k : ℕ) → is_enclosing (get_or nodes d empty_root) k ≡ true → k < next_of (get_or nodes d empty_root)
  reached d k e = ltb-true k _ (sym (is_enclosing-is (get_or nodes d empty_root) k) ∙ e)

  -- the new tree's directories around entry j + 1, behind the new one
  later-inside : (d j : ℕ) → Place q d → d < suc j → q ≤ j → j < length nodes → is_enclosing (get_or N d empty_root) (suc j) ≡ true → suc (next_of (get_or nodes j empty_root)) ≤ next_of (get_or N d empty_root)
  later-inside d j (before l) h m j< e =
      let r : is_enclosing (get_or nodes d empty_root) j ≡ true = sym (encl-after nodes p q nm new w dir p<n j m d l) ∙ e in
      let f : next_of (get_or nodes j empty_root) ≤ next_of (get_or nodes d empty_root) = w.inside d j (omega arith, r) j< in
      let y : Node = get_or nodes d empty_root in
      let g : j < next_of y = reached d j r in
      rw (inserted-before nodes p q nm new w dir p<n d l) (go y g f (λ b. between nodes p q nm new w dir p<n d b l) (leb d p) refl)
    where
      go : (y : Node) → j < next_of y → next_of (get_or nodes j empty_root) ≤ next_of y → (p < d → next_of y ≤ q) → (t : Bool) → leb d p ≡ t → suc (next_of (get_or nodes j empty_root)) ≤ next_of (node_before p d y)
      go y g f b true a = omega (arith, next_of-node_before p d y (leb-true d p a), p<q nodes p q nm new w dir p<n)
      go y g f b false a = absurd (omega (arith, b (leb-false d p a)))
  later-inside d j (here d≡) h m j< e =
      let z : true ≡ false = sym e ∙ rw (d≡, inserted-at nodes p q nm new w dir p<n) (new-ended q j new fresh m) in
      let n : ◌≡◌ {A = ℕ} 0 1 = cc in
      absurd (omega arith)
  later-inside d j (after i d≡ l) h m j< e =
      let i< : i < length nodes = omega arith in
      let d' : get_or N d empty_root ≡ node_after (get_or nodes i empty_root) = rw d≡ (inserted-after nodes p q nm new w dir p<n i l i<) in
      let r : is_enclosing (get_or nodes i empty_root) j ≡ true = sym (later_same j (get_or nodes i empty_root)) ∙ rw d' at e in
      let f : next_of (get_or nodes j empty_root) ≤ next_of (get_or nodes i empty_root) = w.inside i j (omega arith, r) j< in
      let g : j < next_of (get_or nodes i empty_root) = reached i j r in
      let n : next_of (node_after (get_or nodes i empty_root)) ≡ suc (next_of (get_or nodes i empty_root)) = next_of-node_after (get_or nodes i empty_root) (omega arith) in
      rw d' (omega arith)

  nested-inside : (d k : ℕ) → Place q k → Inside N d k → k < length N → next_of (get_or N k empty_root) ≤ next_of (get_or N d empty_root)
  nested-inside d k (before l) i h =
      let d< : d < q = omega (arith, i.0) in
      let r : is_enclosing (get_or nodes d empty_root) k ≡ true = sym (encl-before nodes p q nm new w dir p<n k l d i.0) ∙ i.1 in
      let f : next_of (get_or nodes k empty_root) ≤ next_of (get_or nodes d empty_root) = w.inside d k (i.0, r) (omega (arith, q≤)) in
      rw (inserted-before nodes p q nm new w dir p<n k l, inserted-before nodes p q nm new w dir p<n d d<) (go (leb k p) refl (get_or nodes d empty_root) (get_or nodes k empty_root) f i.0)
    where
      go : (t : Bool) → leb k p ≡ t → (y x : Node) → next_of x ≤ next_of y → d < k → next_of (node_before p k x) ≤ next_of (node_before p d y)
      go true a y x f b = let c : k ≤ p = leb-true k p a in omega (arith, next_of-node_before p k x c, next_of-node_before p d y (omega arith))
      go false a y x f b = omega (arith, next_of-node_before-same p k x (leb-false k p a), (next_of-node_before-grows p d y).0)
  nested-inside d k (here k≡) i h =
      let r : k < next_of (get_or N d empty_root) = reaches d k i.1 in
      let e : get_or N k empty_root ≡ new = rw k≡ (inserted-at nodes p q nm new w dir p<n) in
      let n : next_of new ≤ suc q = new-most q new fresh in
      rw e (omega arith)
  nested-inside d k (after j k≡ l) i h =
      let j< : j < length nodes = omega (arith, len) in
      let e : get_or N k empty_root ≡ node_after (get_or nodes j empty_root) = rw k≡ (inserted-after nodes p q nm new w dir p<n j l j<) in
      let f : suc (next_of (get_or nodes j empty_root)) ≤ next_of (get_or N d empty_root) = later-inside d j (place q d) (omega (arith, i.0)) l j< (rw k≡ at i.1) in
      rw e (omega (arith, next_of-node_after-most (get_or nodes j empty_root)))

  pub nested-insert : IsNested N
  nested-insert = record { bounds = λ k h d. nested-bounds k (place q k) h d; inside = λ d k i h. nested-inside d k (place q k) i h }
