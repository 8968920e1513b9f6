-- The walk over a tree with an entry put in: what the stack of open directories is at each of them. Assumes nothing.
use Prim.Native.Nat.{ℕ, zero, suc, ◌+◌, ◌<◌, ◌≤◌}
use Rattle.std.specs.Prelude.{◌≡◌, refl, Bool, true, false, cond, ◌&&◌, length, get_or, leb}
use Rattle.std.proofs.Common.{sym, ◌∙◌, leb-true, le-leb, length-append}
use Rattle.std.proofs.Math.Path.{ap}
use mathlib.Core.List.{List, [], ◌∷◌, ◌++◌, map}
use native.Mathlib.Omega.{arith}
use Rattle.std.proofs.lemmas.Bool.{lt-leb}
use Rattle.std.proofs.lemmas.List.{length-map}
use Rattle.tree.specs.Table.{Node, file, directory, name_of, empty_root, top, dirs_open_at, dirs_with, is_shallow_entry, is_shallow_from}
use Rattle.tree.specs.Inner.WellFormed.{IsGoodName, IsGoodEntry, IsSound}
use Rattle.tree.specs.Insert.{raised_next, node_before, node_after, splice}
use Rattle.tree.proofs.Laws.Steps.{shut_open, dirs_open_at-pop}
pub use Rattle.tree.proofs.Laws.InsertedList.{Fresh, raised_next-min, number_after_insert-min, name_of-node_before, name_of-node_after}
use Rattle.tree.proofs.Laws.OpenDirectories.{open_at}
use Rattle.refusal.specs.Laws.Tests.{and-swap}

-- a directory at depth d is not too deep
abbrev pub depth_ok : ℕ → Node → Bool
depth_ok d (file nm offset size) = true
depth_ok d (directory nm next) = leb d 64

-- ---- `raised_next` and `dirs_open_at`

leb-iff : (a b c d : ℕ) → (a ≤ b → c ≤ d) → (c ≤ d → a ≤ b) → leb a b ≡ leb c d
leb-iff a b c d f g = go (leb a b) refl
  where
    go : (t : Bool) → leb a b ≡ t → t ≡ leb c d
    go true e = sym (le-leb c d (f (leb-true a b e)))
    go false e = sym (go' (leb c d) refl)
      where
        go' : (u : Bool) → leb c d ≡ u → u ≡ false
        go' true h = sym (le-leb a b (g (leb-true c d h))) ∙ e
        go' false h = refl

-- a stack whose numbers change so that the same ones are shut
dirs_open_at-map : (f : ℕ → ℕ) (k k' : ℕ) → ((n : ℕ) → leb (f n) k' ≡ leb n k) → (dirs : List ℕ) → dirs_open_at k' (map f dirs) ≡ map f (dirs_open_at k dirs)
unfolding dirs_open_at
dirs_open_at-map f k k' h [] = refl
dirs_open_at-map f k k' h (n ∷ dirs) = rw (h n) (go (leb n k) (dirs_open_at-map f k k' h dirs))
  where
    go : (t : Bool) → dirs_open_at k' (map f dirs) ≡ map f (dirs_open_at k dirs) → cond t (dirs_open_at k' (map f dirs)) (f n ∷ map f dirs) ≡ map f (cond t (dirs_open_at k dirs) (n ∷ dirs))
    go true ih = ih
    go false ih = refl

-- what is shut on top of a stack is passed over
abbrev AllLe : ℕ → List ℕ → Type 0
AllLe q [] = Unit {0}
AllLe q (n ∷ dirs) = (n ≤ q) × AllLe q dirs

dirs_open_at-past : (k : ℕ) (ds r : List ℕ) → AllLe k ds → dirs_open_at k (ds ++ r) ≡ dirs_open_at k r
unfolding dirs_open_at
dirs_open_at-past k [] r h = refl
dirs_open_at-past k (n ∷ ds) r h = rw (le-leb n k h.0) (dirs_open_at-past k ds r h.1)

-- what stays open keeps all below it
dirs_open_at-keep : (k : ℕ) (ds : List ℕ) (n : ℕ) (r : List ℕ) → k < n → dirs_open_at k (ds ++ (n ∷ r)) ≡ dirs_open_at k ds ++ (n ∷ r)
unfolding dirs_open_at
dirs_open_at-keep k [] n r h = rw (lt-leb n k h)
dirs_open_at-keep k (m ∷ ds) n r h = go (leb m k) (dirs_open_at-keep k ds n r h)
  where
    go : (t : Bool) → dirs_open_at k (ds ++ (n ∷ r)) ≡ dirs_open_at k ds ++ (n ∷ r) →
        cond t (dirs_open_at k (ds ++ (n ∷ r))) (m ∷ (ds ++ (n ∷ r))) ≡ cond t (dirs_open_at k ds) (m ∷ ds) ++ (n ∷ r)
    go true ih = ih
    go false ih = refl

dirs_with-append : (s r : List ℕ) (x : Node) → dirs_with (s ++ r) x ≡ dirs_with s x ++ r
dirs_with-append s r (file nm offset size) = refl
dirs_with-append s r (directory nm next) = refl

top-AllLe : (q : ℕ) (ds up : List ℕ) → AllLe q ds → top (ds ++ (q ∷ up)) ≤ q
top-AllLe q [] up h = omega arith
top-AllLe q (d ∷ ds) up h = h.0

dirs_with-AllLe : (c q k : ℕ) (ds up : List ℕ) (x : Node) → AllLe q ds → IsGoodEntry c (ds ++ (q ∷ up)) k x → AllLe q (dirs_with ds x)
dirs_with-AllLe c q k ds up (file nm offset size) h g = h
dirs_with-AllLe c q k ds up (directory nm next) h g = (omega (arith, top-AllLe q ds up h), h)

dirs_open_at-AllLe : (q k : ℕ) (ds : List ℕ) → AllLe q ds → AllLe q (dirs_open_at k ds)
unfolding dirs_open_at
dirs_open_at-AllLe q k [] h = tt
dirs_open_at-AllLe q k (n ∷ ds) h = go (leb n k) (dirs_open_at-AllLe q k ds h.1)
  where
    go : (t : Bool) → AllLe q (dirs_open_at k ds) → AllLe q (cond t (dirs_open_at k ds) (n ∷ ds))
    go true ih = ih
    go false ih = h

module _ (p : ℕ) where
  before-dirs_open_at : (k : ℕ) (dirs : List ℕ) → k ≤ p → dirs_open_at k (map (raised_next p) dirs) ≡ map (raised_next p) (dirs_open_at k dirs)
  before-dirs_open_at k dirs h =
      dirs_open_at-map (raised_next p) k k (λ n. leb-iff (raised_next p n) k n k (λ e. omega (arith, raised_next-min p n)) (λ e. omega (arith, raised_next-min p n))) dirs

  after-dirs_open_at : (k : ℕ) (dirs : List ℕ) → p < k → dirs_open_at (suc k) (map (raised_next p) dirs) ≡ map (raised_next p) (dirs_open_at k dirs)
  after-dirs_open_at k dirs h =
      dirs_open_at-map (raised_next p) k (suc k) (λ n. leb-iff (raised_next p n) (suc k) n k (λ e. omega (arith, raised_next-min p n)) (λ e. omega (arith, raised_next-min p n))) dirs

  raised_next-top : (n : ℕ) (s : List ℕ) → 0 < n → n ≤ top s → raised_next p n ≤ top (map (raised_next p) s)
  raised_next-top n [] h e = absurd (omega arith)
  raised_next-top n (m ∷ s) h e = omega (arith, raised_next-min p n, raised_next-min p m)

  -- ---- an entry up to p
  good-before : (c k : ℕ) (s : List ℕ) (x : Node) → k ≤ p → IsGoodEntry c s k x → IsGoodEntry (suc c) (map (raised_next p) s) k (node_before p k x)
  good-before c k s (file nm offset size) h g = g
  good-before c k s (directory nm next) h g =
      rw (le-leb k p h) (omega (arith, raised_next-min p next), omega (arith, raised_next-min p next), raised_next-top next s (omega arith) g.2)

  dirs_with-before : (k : ℕ) (s : List ℕ) (x : Node) → k ≤ p → dirs_with (map (raised_next p) s) (node_before p k x) ≡ map (raised_next p) (dirs_with s x)
  dirs_with-before k s (file nm offset size) h = refl
  dirs_with-before k s (directory nm next) h = rw (le-leb k p h)

  -- ---- an entry after the new one
  good-after : (c k : ℕ) (s : List ℕ) (x : Node) → p < k → IsGoodEntry c s k x → IsGoodEntry (suc c) (map (raised_next p) s) (suc k) (node_after x)
  good-after c k s (file nm offset size) h g = g
  good-after c k s (directory nm next) h g =
      (omega arith, omega arith, omega (arith, raised_next-min p next, raised_next-top next s (omega arith) g.2))

  dirs_with-after : (c k : ℕ) (s t : List ℕ) (x : Node) → p < k → IsGoodEntry c t k x → dirs_with (map (raised_next p) s) (node_after x) ≡ map (raised_next p) (dirs_with s x)
  dirs_with-after c k s t (file nm offset size) h g = refl
  dirs_with-after c k s t (directory nm next) h g = ap (λ (n : ℕ). n ∷ map (raised_next p) s) (omega (arith, raised_next-min p next))

  -- the same depth
  same_length : (s s' : List ℕ) (x : Node) → length s' ≡ length s → (is_shallow_entry s' (node_after x) ≡ is_shallow_entry s x) × ((k : ℕ) → is_shallow_entry s' (node_before p k x) ≡ is_shallow_entry s x)
  same_length s s' (file nm offset size) e = (refl, λ k. refl)
  same_length s s' (directory nm next) e = (rw e, λ k. rw e)

  dirs_with-between : (k : ℕ) (s : List ℕ) (x : Node) → p < k → dirs_with s (node_before p k x) ≡ dirs_with s x
  dirs_with-between k s (file nm offset size) h = refl
  dirs_with-between k s (directory nm next) h = rw (lt-leb k p h)

  sound-after : (c k : ℕ) (dirs dirs' : List ℕ) (xs : List Node) → p < k → dirs_open_at (suc k) dirs' ≡ map (raised_next p) (dirs_open_at k dirs) → IsSound c dirs k xs →
      IsSound (suc c) dirs' (suc k) (map node_after xs) × (is_shallow_from dirs' (suc k) (map node_after xs) ≡ is_shallow_from dirs k xs)
  unfolding is_shallow_from
  sound-after c k dirs dirs' [] h e g = (tt, refl)
  sound-after c k dirs dirs' (x ∷ xs) h e g =
      let ih = sound-after c (suc k) (dirs_with (dirs_open_at k dirs) x) (map (raised_next p) (dirs_with (dirs_open_at k dirs) x)) xs (omega arith) (after-dirs_open_at (suc k) _ (omega arith)) g.2 in
      rw (e, name_of-node_after x, dirs_with-after c k (dirs_open_at k dirs) (dirs_open_at k dirs) x h g.1, ih.1, (same_length (dirs_open_at k dirs) (map (raised_next p) (dirs_open_at k dirs)) x (length-map (dirs_open_at k dirs) (raised_next p))).0)
      ((g.0, good-after c k (dirs_open_at k dirs) x h g.1, ih.0), refl)

  -- ---- an entry between p and the new one
  module _ (c q : ℕ) (new : Node) (up : List ℕ) (p<q : p < q) (q≤c : q ≤ c) (named : IsGoodName (name_of new)) (fresh : Fresh q new) where
    good_new : (new' : Node) → Fresh q new' → IsGoodEntry (suc c) (suc q ∷ map (raised_next p) up) q new'
    good_new (file nm offset size) f = f
    good_new (directory nm next) f = (omega arith, omega arith, omega arith)

    shut-top : dirs_open_at q (q ∷ up) ≡ dirs_open_at q up
    shut-top = dirs_open_at-pop q q up (omega arith)

    shut-new : (new' : Node) → Fresh q new' → dirs_open_at (suc q) (dirs_with (suc q ∷ map (raised_next p) up) new') ≡ dirs_open_at (suc q) (map (raised_next p) up)
    shut-new (file nm offset size) f = dirs_open_at-pop (suc q) (suc q) _ (omega arith)
    shut-new (directory nm next) f = dirs_open_at-pop (suc q) next _ (omega arith) ∙ dirs_open_at-pop (suc q) (suc q) _ (omega arith)

    top-between : (n : ℕ) (ds : List ℕ) → n ≤ top (ds ++ (q ∷ up)) → n ≤ top (ds ++ (suc q ∷ map (raised_next p) up))
    top-between n [] h = omega arith
    top-between n (d ∷ ds) h = h

    good-between : (k : ℕ) (ds : List ℕ) (x : Node) → p < k → IsGoodEntry c (ds ++ (q ∷ up)) k x →
        IsGoodEntry (suc c) (ds ++ (suc q ∷ map (raised_next p) up)) k (node_before p k x)
    good-between k ds (file nm offset size) h g = g
    good-between k ds (directory nm next) h g = rw (lt-leb k p h) (g.0, omega arith, top-between next ds g.2)

    length-between : (ds : List ℕ) → length (ds ++ (suc q ∷ map (raised_next p) up)) ≡ length (ds ++ (q ∷ up))
    length-between ds = simp (length-append, length-map)

    depth-new : (new' : Node) → is_shallow_entry (suc q ∷ map (raised_next p) up) new' ≡ depth_ok (suc (length up)) new'
    depth-new (file nm offset size) = refl
    depth-new (directory nm next) = rw (length-map up (raised_next p))

    pub sound-between : (j k : ℕ) (ds : List ℕ) (xs : List Node) → k + j ≡ q → p < k → k + length xs ≡ c → AllLe q ds →
        IsSound c (ds ++ (q ∷ up)) k xs → IsSound (suc c) (ds ++ (suc q ∷ map (raised_next p) up)) k (splice p new k j xs) ×
        (is_shallow_from (ds ++ (suc q ∷ map (raised_next p) up)) k (splice p new k j xs) ≡ (depth_ok (suc (length up)) new && is_shallow_from (ds ++ (q ∷ up)) k xs))
    unfolding splice is_shallow_from
    sound-between zero k ds xs e h l d g =
        let k≡q : k ≡ q = omega arith in
        let s : dirs_open_at q (ds ++ (suc q ∷ map (raised_next p) up)) ≡ suc q ∷ map (raised_next p) up = dirs_open_at-past q ds _ d ∙ shut_open q (suc q) _ (omega arith) in
        let g' : IsSound c (ds ++ (q ∷ up)) q xs = rw k≡q at g in
        let f = sound-after c q (ds ++ (q ∷ up)) (dirs_with (suc q ∷ map (raised_next p) up) new) xs p<q (shut-new new fresh ∙ after-dirs_open_at q up p<q ∙ ap (map (raised_next p)) (sym (dirs_open_at-past q ds _ d ∙ shut-top))) g' in
        rw (k≡q, s, depth-new new, f.1) ((named, good_new new fresh, f.0), refl)
    sound-between (suc j) k ds [] e h l d g = absurd (omega arith)
    sound-between (suc j) k ds (x ∷ xs) e h l d g =
        let s = dirs_open_at-keep k ds q up (omega arith) in
        let s' = dirs_open_at-keep k ds (suc q) (map (raised_next p) up) (omega arith) in
        let g₁ : IsGoodEntry c (dirs_open_at k ds ++ (q ∷ up)) k x = rw s at g.1 in
        let g₂ : IsSound c (dirs_with (dirs_open_at k ds ++ (q ∷ up)) x) (suc k) xs = rw s at g.2 in
        let ih = sound-between j (suc k) (dirs_with (dirs_open_at k ds) x) xs (omega arith) (omega arith) (omega arith) (dirs_with-AllLe c q k (dirs_open_at k ds) up x (dirs_open_at-AllLe q k ds d) g₁) (rw dirs_with-append at g₂) in
        rw (
          s,
          s',
          name_of-node_before p k x,
          dirs_with-between k (dirs_open_at k ds ++ (suc q ∷ map (raised_next p) up)) x h,
          dirs_with-append (dirs_open_at k ds) (suc q ∷ map (raised_next p) up) x,
          dirs_with-append (dirs_open_at k ds) (q ∷ up) x,
          ih.1,
          (same_length (dirs_open_at k ds ++ (q ∷ up)) (dirs_open_at k ds ++ (suc q ∷ map (raised_next p) up)) x (length-between (dirs_open_at k ds))).1 k,
        )
        ((g.0, good-between k (dirs_open_at k ds) x h g₁, ih.0), and-swap (is_shallow_entry (dirs_open_at k ds ++ (q ∷ up)) x) (depth_ok (suc (length up)) new) _)

  -- ---- the entries up to p
  module _ (c q : ℕ) (nm : List ℕ) (new : Node) (p<q : p < q) (q≤c : q ≤ c) (named : IsGoodName (name_of new)) (fresh : Fresh q new) where
    pub sound-before : (i j k : ℕ) (dirs : List ℕ) (xs : List Node) → k + i ≡ p → k + j ≡ q → k + length xs ≡ c →
        get_or xs i empty_root ≡ directory nm q → i < length xs → IsSound c dirs k xs →
        IsSound (suc c) (map (raised_next p) dirs) k (splice p new k j xs) ×
        (is_shallow_from (map (raised_next p) dirs) k (splice p new k j xs) ≡ (depth_ok (suc (length (open_at dirs k xs i))) new && is_shallow_from dirs k xs))
    unfolding splice open_at is_shallow_from
    sound-before i zero k dirs xs e₁ e₂ l x h g = absurd (omega arith)
    sound-before i (suc j) k dirs [] e₁ e₂ l x h g = absurd (omega arith)
    sound-before zero (suc j) k dirs (y ∷ xs) e₁ e₂ l x h g =
        let b : raised_next p q ≡ suc q = omega (arith, raised_next-min p q) in
        let g₂ : IsSound c (q ∷ dirs_open_at k dirs) (suc k) xs = rw x at g.2 in
        let f = sound-between c q new (dirs_open_at k dirs) p<q q≤c named fresh j (suc k) [] xs (omega arith) (omega arith) (omega arith) tt g₂ in
        rw (before-dirs_open_at k dirs (omega arith), name_of-node_before p k y, (same_length (dirs_open_at k dirs) (map (raised_next p) (dirs_open_at k dirs)) y (length-map (dirs_open_at k dirs) (raised_next p))).1 k, dirs_with-before k (dirs_open_at k dirs) y (omega arith)) (
          (g.0, good-before c k (dirs_open_at k dirs) y (omega arith) g.1, rw (x, b) f.0),
          rw (x, b, f.1) (and-swap (is_shallow_entry (dirs_open_at k dirs) (directory nm q)) (depth_ok (suc (length (dirs_open_at k dirs))) new) _),
        )
    sound-before (suc i) (suc j) k dirs (y ∷ xs) e₁ e₂ l x h g =
        let ih = sound-before i j (suc k) (dirs_with (dirs_open_at k dirs) y) xs (omega arith) (omega arith) (omega arith) x (omega arith) g.2 in
        rw (before-dirs_open_at k dirs (omega arith), name_of-node_before p k y, (same_length (dirs_open_at k dirs) (map (raised_next p) (dirs_open_at k dirs)) y (length-map (dirs_open_at k dirs) (raised_next p))).1 k, dirs_with-before k (dirs_open_at k dirs) y (omega arith), ih.1) (
          (g.0, good-before c k (dirs_open_at k dirs) y (omega arith) g.1, ih.0),
          and-swap (is_shallow_entry (dirs_open_at k dirs) y) (depth_ok (suc (length (open_at (dirs_with (dirs_open_at k dirs) y) (suc k) xs i))) new) _,
        )
