-- The tree so far on the way of make-directories: old entries shifted, new ones marked, and one directory more. Assumes nothing.
use Rattle.std.specs.Prelude.{Ok, Err}
use Rattle.std.specs.Prelude.{ℕ, zero, suc, ◌-◌, ◌<◌, ◌≤◌, ◌≡◌, refl, ◌⊎◌, Bool, true, false, cond, not, ◌||◌, List, [], ◌∷◌, length, get_or, ltb, eqb}
use Rattle.std.proofs.Common.{sym, ap, ◌∙◌, inl, inr, ⊎_elim, arith, lt-ltb, le-ltb, eqb-true, eq-eqb, ne_eqb}
use Rattle.std.proofs.lemmas.Bool.{eqb-false}
use Rattle.endian.specs.Bytes.{are_same_bytes}
use Rattle.endian.specs.Laws.Stored.{same-eq}
use Rattle.refusal.specs.Laws.Tests.{lt-or-le, or_left}
use Rattle.refusal.specs.declared.Refusal.{Refusal}
use Rattle.refusal.specs.declared.Refusal.TheVariants.{NotFound}
use Rattle.tree.specs.Table.{Node, directory, empty_root, is_plain, is_safe, parent_of}
use Rattle.tree.specs.Lookup.{is_directory, child_of}
use Rattle.tree.specs.Insert.{insert_at, empty_directory, number_after_insert}
use Rattle.tree.proofs.Laws.InsertedList.{IsNested, number_after_insert-min, length_inserted, inserted-at}
use Rattle.tree.proofs.Laws.NestedInsert.{nested-insert}
use Rattle.tree.proofs.Laws.Children.{child-is}
use Rattle.tree.proofs.Laws.ChildInsert.{moved, number_after_insert-low, number_after_insert-high, kept-kind, child-moved, child-kept, child-new, child-other, child-empty}

-- ---- the tree so far: an old entry k has the number φ k, and ν tells the new ones

-- what is found under a name that no old entry has: nothing, or a directory made for that name
abbrev pub Where : List Node → (ℕ → Bool) → Bool → ℕ → List ℕ → Type 0
Where M ν bad d c = (child_of M d c ≡ Err NotFound) ⊎ ((j : ℕ) × (child_of M d c ≡ Ok j) × (ν j ≡ true) × (is_safe c ≡ true) × (is_plain c ≡ false → bad ≡ true))

pub record Grown (nodes M : List Node) (φ : ℕ → ℕ) (ν : ℕ → Bool) (bad : Bool) : Type 0 where
  pub first : IsNested nodes
  pub nested : IsNested M
  pub low : (k : ℕ) → k < length nodes → φ k < length M
  pub mono : (i j : ℕ) → i < j → φ i < φ j
  pub kinds : (k : ℕ) → k < length nodes → is_directory (get_or M (φ k) empty_root) ≡ is_directory (get_or nodes k empty_root)
  pub old : (d : ℕ) (c : List ℕ) (j : ℕ) → d < length nodes → child_of nodes d c ≡ Ok j → child_of M (φ d) c ≡ Ok (φ j)
  pub missing : (d : ℕ) (c : List ℕ) (r : Refusal) → d < length nodes → child_of nodes d c ≡ Err r → Where M ν bad (φ d) c
  pub dirs : (j : ℕ) → j < length M → ν j ≡ true → is_directory (get_or M j empty_root) ≡ true
  pub below : (j : ℕ) → j < length M → ν j ≡ true → (c : List ℕ) → Where M ν bad j c

-- the walk's place: its trail goes up the new levels, then the old parents to the start
abbrev pub Trail : List Node → ℕ → (ℕ → ℕ) → List ℕ → ℕ → Type 0
Trail nodes start φ [] k = k ≡ start
Trail nodes start φ (j ∷ trail) k = (j ≡ φ (parent_of nodes k)) × (parent_of nodes k < k) × Trail nodes start φ trail (parent_of nodes k)

abbrev pub State : List Node → ℕ → (ℕ → ℕ) → (ℕ → Bool) → ℕ → List ℕ → ℕ → ℕ → Type 0
State nodes start φ ν zero trail m k = (m ≡ φ k) × (k < length nodes) × Trail nodes start φ trail k
State nodes start φ ν (suc level) [] m k = ⊥
State nodes start φ ν (suc level) (j ∷ trail) m k = (ν m ≡ true) × (j < m) × State nodes start φ ν level trail j k

pub trail-from : (nodes : List Node) (start : ℕ) (φ : ℕ → ℕ) (trail : List ℕ) (k : ℕ) → Trail nodes start φ trail k → start ≤ k
trail-from nodes start φ [] k t = omega arith
trail-from nodes start φ (j ∷ trail) k t = omega (arith, trail-from nodes start φ trail (parent_of nodes k) t.2)

-- ---- one directory more, at q

abbrev back : ℕ → ℕ → ℕ
back q j = cond (ltb q j) (j - 1) j

abbrev pub marked : ℕ → (ℕ → Bool) → ℕ → Bool
marked q ν j = cond (eqb j q) true (ν (back q j))

pub marked-new : (q : ℕ) (ν : ℕ → Bool) → marked q ν q ≡ true
marked-new q ν = rw (eq-eqb q q refl)

marked-old : (q : ℕ) (ν : ℕ → Bool) (i : ℕ) → marked q ν (number_after_insert q i) ≡ ν i
marked-old q ν i = ⊎_elim (λ (h : i < q). rw (number_after_insert-low q i h, ne_eqb i q (λ e. omega arith), le-ltb q i (omega arith)))
    (λ (h : q ≤ i). let e : suc i - 1 ≡ i = omega arith in rw (number_after_insert-high q i h, ne_eqb (suc i) q (λ e. omega arith), lt-ltb q (suc i) (omega arith), e)) (lt-or-le i q)

-- each number is the new one's or an old entry's
unshift : (q j : ℕ) → (j ≡ q) ⊎ ((i : ℕ) × (number_after_insert q i ≡ j))
unshift q zero = ⊎_elim (λ (h : 0 < q). inr (0, number_after_insert-low q 0 h)) (λ (h : q ≤ 0). inl (omega arith)) (lt-or-le 0 q)
unshift q (suc j) = ⊎_elim (λ (h : j < q). ⊎_elim (λ (l : suc j < q). inr (suc j, number_after_insert-low q (suc j) l)) (λ (l : q ≤ suc j). inl (omega arith)) (lt-or-le (suc j) q)) (λ (h : q ≤ j). inr (j, number_after_insert-high q j h)) (lt-or-le j q)

pub or-not : (a b : Bool) → b ≡ false → (a || not b) ≡ true
or-not true b e = refl
or-not false b e = rw e

pub or_same : (a b : Bool) → (b ≡ false → a ≡ true) → (a || not b) ≡ a
or_same true b f = refl
or_same false true f = refl
or_same false false f = sym (f refl)

module _ (nodes M : List Node) (φ : ℕ → ℕ) (ν : ℕ → Bool) (bad : Bool) (g : Grown nodes M φ ν bad)
    (p : ℕ) (nm : List ℕ) (q : ℕ) (dir : get_or M p empty_root ≡ directory nm q) (p<n : p < length M) (c : List ℕ) (ok : is_safe c ≡ true) (gone : child_of M p c ≡ Err NotFound) where
  abbrev new : Node
  new = empty_directory c q

  abbrev M' : List Node
  M' = insert_at p new M

  abbrev bad' : Bool
  bad' = bad || not (is_plain c)

  pub q≤ : (p < q) × (q ≤ length M)
  q≤ = rw dir at (g.nested.bounds p p<n (rw dir))

  pub len : length M' ≡ suc (length M)
  len = length_inserted M p q nm new g.nested dir p<n

  where-moved : (d : ℕ) → d < length M → (name : List ℕ) → Where M ν bad d name → Where M' (marked q ν) bad' (number_after_insert q d) name
  where-moved d h name s = go (eqb d p) refl s
    where
      same : d ≡ p → Where M ν bad d name → Where M' (marked q ν) bad' (number_after_insert q d) name
      same e (inl f) =
          let f' : child_of M p name ≡ Err NotFound = rw e at f in
          let s : number_after_insert q p ≡ p = number_after_insert-low q p q≤.0 in
          rw (e, s) (named (are_same_bytes c name) refl f')
        where
          named : (t : Bool) → are_same_bytes c name ≡ t → child_of M p name ≡ Err NotFound → Where M' (marked q ν) bad' p name
          named true u f =
              let n : c ≡ name = same-eq c name u in
              rw (← n) (inr (q, child-new M p q nm new g.nested dir p<n refl NotFound gone, marked-new q ν, ok, λ z. or-not bad (is_plain c) z))
          named false u f = inl (child-other M p q nm new g.nested dir p<n refl name NotFound f u)
      same e (inr (j, f, v, s, b)) =
          let f' : child_of M p name ≡ Ok j = rw e at f in
          let l : j < q = rw dir at (child-is M p name j f').before in
          let k : number_after_insert q j ≡ j = number_after_insert-low q j l in
          let s' : number_after_insert q p ≡ p = number_after_insert-low q p q≤.0 in
          rw (e, s') (inr (j, child-kept M p q nm new g.nested dir p<n refl name j f', rw k at (marked-old q ν j ∙ v), s, λ z. or_left bad _ (b z)))

      other : (d ≡ p → ⊥) → Where M ν bad d name → Where M' (marked q ν) bad' (number_after_insert q d) name
      other n (inl f) = inl (child-moved M p q nm new g.nested dir p<n refl d h name n ∙ ap (moved q) f)
      other n (inr (j, f, v, s, b)) =
          inr (number_after_insert q j, child-moved M p q nm new g.nested dir p<n refl d h name n ∙ ap (moved q) f, marked-old q ν j ∙ v, s, λ z. or_left bad _ (b z))

      go : (t : Bool) → eqb d p ≡ t → Where M ν bad d name → Where M' (marked q ν) bad' (number_after_insert q d) name
      go true e s = same (eqb-true d p e) s
      go false e s = other (eqb-false d p e) s

  found-moved : (d : ℕ) → d < length M → (name : List ℕ) (j : ℕ) → child_of M d name ≡ Ok j → child_of M' (number_after_insert q d) name ≡ Ok (number_after_insert q j)
  found-moved d h name j f = go (eqb d p) refl
    where
      go : (t : Bool) → eqb d p ≡ t → child_of M' (number_after_insert q d) name ≡ Ok (number_after_insert q j)
      go true e =
          let d≡ : d ≡ p = eqb-true d p e in
          let f' : child_of M p name ≡ Ok j = rw d≡ at f in
          let l : j < q = rw dir at (child-is M p name j f').before in
          rw (d≡, number_after_insert-low q p q≤.0, number_after_insert-low q j l) (child-kept M p q nm new g.nested dir p<n refl name j f')
      go false e = child-moved M p q nm new g.nested dir p<n refl d h name (eqb-false d p e) ∙ ap (moved q) f

  pub grown-more : Grown nodes M' (λ k. number_after_insert q (φ k)) (marked q ν) bad'
  grown-more = record {
    first = g.first;
    nested = nested-insert M p q nm new g.nested dir p<n refl;
    low = λ k h. omega (arith, len, g.low k h, number_after_insert-min q (φ k));
    mono = λ i j h. omega (arith, g.mono i j h, number_after_insert-min q (φ i), number_after_insert-min q (φ j));
    kinds = λ k h. kept-kind M p q nm new g.nested dir p<n refl (φ k) (g.low k h) ∙ g.kinds k h;
    old = λ d name j h e. found-moved (φ d) (g.low d h) name (φ j) (g.old d name j h e);
    missing = λ d name r h e. where-moved (φ d) (g.low d h) name (g.missing d name r h e);
    dirs = λ j h v. new-dir j h v (unshift q j);
    below = λ j h v name. new-below j h v name (unshift q j);
  }
    where
      new-dir : (j : ℕ) → j < length M' → marked q ν j ≡ true → (j ≡ q) ⊎ ((i : ℕ) × (number_after_insert q i ≡ j)) → is_directory (get_or M' j empty_root) ≡ true
      new-dir j h v (inl e) = rw (e, inserted-at M p q nm new g.nested dir p<n)
      new-dir j h v (inr (i, e)) =
          let i< : i < length M = omega (arith, len, number_after_insert-min q i, q≤.1) in
          let v' : ν i ≡ true = sym (marked-old q ν i) ∙ rw (← e) at v in
          rw e at (kept-kind M p q nm new g.nested dir p<n refl i i< ∙ g.dirs i i< v')

      new-below : (j : ℕ) → j < length M' → marked q ν j ≡ true → (name : List ℕ) → (j ≡ q) ⊎ ((i : ℕ) × (number_after_insert q i ≡ j)) → Where M' (marked q ν) bad' j name
      new-below j h v name (inl e) = rw e (inl (child-empty M p q nm new g.nested dir p<n refl name))
      new-below j h v name (inr (i, e)) =
          let i< : i < length M = omega (arith, len, number_after_insert-min q i, q≤.1) in
          let v' : ν i ≡ true = sym (marked-old q ν i) ∙ rw (← e) at v in
          rw e at (where-moved i i< name (g.below i i< v' name))

  -- the place of the walk, whose trail stands before q
  trail_more : (start : ℕ) (trail : List ℕ) (k : ℕ) → φ k < q → Trail nodes start φ trail k → Trail nodes start (λ k. number_after_insert q (φ k)) trail k
  trail_more start [] k h t = t
  trail_more start (j ∷ trail) k h t =
      let l : φ (parent_of nodes k) < q = omega (arith, g.mono (parent_of nodes k) k t.1) in
      (t.0 ∙ sym (number_after_insert-low q (φ (parent_of nodes k)) l), t.1, trail_more start trail (parent_of nodes k) l t.2)

  pub state-more : (start level : ℕ) (trail : List ℕ) (m k : ℕ) → m < q → State nodes start φ ν level trail m k → State nodes start (λ k. number_after_insert q (φ k)) (marked q ν) level trail m k
  state-more start zero trail m k h s =
      let l : φ k < q = omega (arith, s.0) in
      (s.0 ∙ sym (number_after_insert-low q (φ k) l), s.1, trail_more start trail k l s.2)
  state-more start (suc level) [] m k h s = s
  state-more start (suc level) (j ∷ trail) m k h s =
      let e : number_after_insert q m ≡ m = number_after_insert-low q m h in
      (rw e at (marked-old q ν m ∙ s.0), s.1, state-more start level trail j k (omega (arith, s.1)) s.2)
