-- Make-directories' troubles found with no memory: below the old tree only the number of new levels counts, since each directory there is
-- one that the walk made. Assumes nothing.
use Rattle.std.specs.Prelude.{Result, Ok, Err}
use Rattle.refusal.specs.declared.Refusal.{Refusal}
use Rattle.std.specs.Prelude.{ℕ, zero, suc, ◌<◌, ◌≤◌, ◌≡◌, refl, Bool, true, false, cond, not, ◌||◌, List, [], ◌∷◌, length, get_or, eqb}
use Rattle.std.proofs.Common.{sym, ap, ◌∙◌, inl, inr, arith, eq-eqb, ne_eqb}
use Rattle.refusal.specs.declared.Refusal.TheVariants.{InvalidNameByte, UnsafeName, ExpectedDirectory, NotFound}
use Rattle.refusal.specs.Refusal.{refuse}
use Rattle.tree.specs.Table.{Node, directory, empty_root, is_plain, is_safe, parent_of}
use Rattle.tree.proofs.Laws.Renumbered.{directory-is}
use Rattle.tree.specs.Lookup.{is_directory, next_of, is_staying, is_going_back, child_of}
use Rattle.tree.specs.Insert.{insert_at, empty_directory, number_after_insert}
use Rattle.tree.proofs.Laws.InsertedList.{IsNested}
use Rattle.tree.proofs.Laws.Children.{Child, child-is, child-missing}
use Rattle.edit_rules.specs.Edits.{new_number, stopped, made, made_step_back, if_found, make}
use Rattle.edit_rules.specs.Inner.Troubles.{if_child, trouble_of, made_verdict}
use Rattle.edit_rules.proofs.Laws.Making.{Where, Grown, Trail, State, trail-from, marked, marked-new, or_same, q≤, len, grown-more, state-more}

-- ---- the two walks agree

abbrev Same : List Node → ℕ → List (List ℕ) → Type 0
Same nodes start cs = (M : List Node) (φ : ℕ → ℕ) (ν : ℕ → Bool) (bad : Bool) (level : ℕ) (trail : List ℕ) (m k : ℕ) → Grown nodes M φ ν bad →
    State nodes start φ ν level trail m k → m < length M → made_verdict (make M trail m bad cs) ≡ trouble_of nodes start k level bad cs

module _ (nodes : List Node) (start : ℕ) (c : List ℕ) (cs : List (List ℕ)) (ih : Same nodes start cs) (M : List Node) (φ : ℕ → ℕ) (ν : ℕ → Bool) (bad : Bool) (trail : List ℕ) (m k : ℕ)
    (g : Grown nodes M φ ν bad) (m<n : m < length M) (dir : is_directory (get_or M m empty_root) ≡ true) where
  -- a name that no old entry has
  dive : (level : ℕ) → State nodes start φ ν level trail m k → Where M ν bad m c →
      made_verdict (if_found (child_of M m c) (λ j. make M (m ∷ trail) j bad cs) (cond (is_safe c) (make (insert_at m (empty_directory c (new_number M m)) M) (m ∷ trail) (new_number M m) (bad || not (is_plain c)) cs) (stopped UnsafeName))) ≡
      cond (is_safe c) (trouble_of nodes start k (suc level) (bad || not (is_plain c)) cs) (Err UnsafeName)
  dive level s (inl e) = rw e (go (is_safe c) refl (directory-is (get_or M m empty_root) dir))
    where
      go : (t : Bool) → is_safe c ≡ t → (nm : List ℕ) × (get_or M m empty_root ≡ directory nm (new_number M m)) →
          made_verdict (cond t (make (insert_at m (empty_directory c (new_number M m)) M) (m ∷ trail) (new_number M m) (bad || not (is_plain c)) cs) (stopped UnsafeName)) ≡
          cond t (trouble_of nodes start k (suc level) (bad || not (is_plain c)) cs) (Err UnsafeName)
      go true ok (nm, d) =
          let q : ℕ = new_number M m in
          let b : (m < q) × (q ≤ length M) = q≤ nodes M φ ν bad g m nm q d m<n c ok e in
          ih (insert_at m (empty_directory c q) M) (λ i. number_after_insert q (φ i)) (marked q ν) (bad || not (is_plain c)) (suc level) (m ∷ trail) q k (grown-more nodes M φ ν bad g m nm q d m<n c ok e)
          (marked-new q ν, b.0, state-more nodes M φ ν bad g m nm q d m<n c ok e start level trail m k b.0 s) (omega (arith, len nodes M φ ν bad g m nm q d m<n c ok e))
      go false ok d = refl
  dive level s (inr (j, e, v, ok, b)) =
      let x : Child M m c j = child-is M m c j e in
      let n : next_of (get_or M m empty_root) ≤ length M = (g.nested.bounds m m<n dir).1 in
      rw (e, ok, or_same bad (is_plain c) b) (ih M φ ν bad (suc level) (m ∷ trail) j k g (v, x.after, s) (omega (arith, x.before)))

  -- ---- in the old tree
  module _ (s : State nodes start φ ν zero trail m k) where
    back-old : made_verdict (made_step_back trail (λ j rest. make M rest j bad cs)) ≡ cond (eqb k start) (Err NotFound) (trouble_of nodes start (parent_of nodes k) zero bad cs)
    back-old = go trail s.2
      where
        go : (t : List ℕ) → Trail nodes start φ t k → made_verdict (made_step_back t (λ j rest. make M rest j bad cs)) ≡ cond (eqb k start) (Err NotFound) (trouble_of nodes start (parent_of nodes k) zero bad cs)
        go [] t = rw (eq-eqb k start t)
        go (j ∷ rest) t =
            let l : start ≤ parent_of nodes k = trail-from nodes start φ rest (parent_of nodes k) t.2 in
            let p< : parent_of nodes k < length nodes = omega (arith, s.1, t.1) in
            rw (ne_eqb k start (λ e. omega (arith, t.1))) (ih M φ ν bad zero rest j (parent_of nodes k) g (t.0, p<, t.2) (rw t.0 (g.low (parent_of nodes k) p<)))

    child-old : made_verdict (if_found (child_of M m c) (λ j. make M (m ∷ trail) j bad cs) (cond (is_safe c) (make (insert_at m (empty_directory c (new_number M m)) M) (m ∷ trail) (new_number M m) (bad || not (is_plain c)) cs) (stopped UnsafeName))) ≡
        if_child (child_of nodes k c) (λ j. trouble_of nodes start j zero bad cs) (cond (is_safe c) (trouble_of nodes start k 1 (bad || not (is_plain c)) cs) (Err UnsafeName))
    child-old = go (child_of nodes k c) refl
      where
        go : (a : Result ℕ Refusal) → child_of nodes k c ≡ a →
            made_verdict (if_found (child_of M m c) (λ j. make M (m ∷ trail) j bad cs) (cond (is_safe c) (make (insert_at m (empty_directory c (new_number M m)) M) (m ∷ trail) (new_number M m) (bad || not (is_plain c)) cs) (stopped UnsafeName))) ≡
            if_child a (λ j. trouble_of nodes start j zero bad cs) (cond (is_safe c) (trouble_of nodes start k 1 (bad || not (is_plain c)) cs) (Err UnsafeName))
        go (Ok j) e =
            let x : Child nodes k c j = child-is nodes k c j e in
            let f : child_of M m c ≡ Ok (φ j) = rw s.0 (g.old k c j s.1 e) in
            let y : Child M m c (φ j) = child-is M m c (φ j) f in
            let n : next_of (get_or M m empty_root) ≤ length M = (g.nested.bounds m m<n dir).1 in
            let d : is_directory (get_or nodes k empty_root) ≡ true = sym (g.kinds k s.1) ∙ (rw s.0 at dir) in
            let o : next_of (get_or nodes k empty_root) ≤ length nodes = (g.first.bounds k s.1 d).1 in
            rw f (ih M φ ν bad zero (m ∷ trail) (φ j) j g (refl, omega (arith, x.before), rw x.parent (s.0, x.after, s.2)) (omega (arith, y.before)))
        go (Err r) e = dive zero s (rw s.0 (g.missing k c r s.1 e))

same : (nodes : List Node) (start : ℕ) (cs : List (List ℕ)) → Same nodes start cs
unfolding make trouble_of
same nodes start [] M φ ν bad zero trail m k g s h =
    let e : is_directory (get_or M m empty_root) ≡ is_directory (get_or nodes k empty_root) = rw s.0 (g.kinds k s.1) in
    rw e (go (is_directory (get_or nodes k empty_root)))
  where
    go : (t : Bool) → made_verdict (cond t (made M m bad) (stopped ExpectedDirectory)) ≡ cond t (refuse bad InvalidNameByte (Ok tt)) (Err ExpectedDirectory)
    go true = refl
    go false = refl
same nodes start [] M φ ν bad (suc level) [] m k g s h = absurd s
same nodes start [] M φ ν bad (suc level) (j ∷ trail) m k g s h = rw (g.dirs m h s.0)
same nodes start (c ∷ cs) M φ ν bad zero trail m k g s h =
    let e : is_directory (get_or M m empty_root) ≡ is_directory (get_or nodes k empty_root) = rw s.0 (g.kinds k s.1) in
    rw (← e) (go (is_directory (get_or M m empty_root)) refl (is_staying c) (is_going_back c) (same nodes start cs))
  where
    go : (t : Bool) → is_directory (get_or M m empty_root) ≡ t → (u v : Bool) → Same nodes start cs →
        made_verdict (cond t (cond u (make M trail m bad cs) (cond v (made_step_back trail (λ j rest. make M rest j bad cs))
        (if_found (child_of M m c) (λ j. make M (m ∷ trail) j bad cs) (cond (is_safe c) (make (insert_at m (empty_directory c (new_number M m)) M) (m ∷ trail) (new_number M m) (bad || not (is_plain c)) cs) (stopped UnsafeName))))) (stopped ExpectedDirectory)) ≡
        cond t (cond u (trouble_of nodes start k zero bad cs) (cond v (cond (eqb k start) (Err NotFound) (trouble_of nodes start (parent_of nodes k) zero bad cs))
        (if_child (child_of nodes k c) (λ j. trouble_of nodes start j zero bad cs) (cond (is_safe c) (trouble_of nodes start k 1 (bad || not (is_plain c)) cs) (Err UnsafeName))))) (Err ExpectedDirectory)
    go false d u v ih = refl
    go true d true v ih = ih M φ ν bad zero trail m k g s h
    go true d false true ih = back-old nodes start c cs ih M φ ν bad trail m k g h d s
    go true d false false ih = child-old nodes start c cs ih M φ ν bad trail m k g h d s
same nodes start (c ∷ cs) M φ ν bad (suc level) [] m k g s h = absurd s
same nodes start (c ∷ cs) M φ ν bad (suc level) (j ∷ trail) m k g s h = rw (g.dirs m h s.0) (go (is_staying c) (is_going_back c) (same nodes start cs))
  where
    go : (u v : Bool) → Same nodes start cs →
        made_verdict (cond u (make M (j ∷ trail) m bad cs) (cond v (make M trail j bad cs)
        (if_found (child_of M m c) (λ i. make M (m ∷ j ∷ trail) i bad cs) (cond (is_safe c) (make (insert_at m (empty_directory c (new_number M m)) M) (m ∷ j ∷ trail) (new_number M m) (bad || not (is_plain c)) cs) (stopped UnsafeName))))) ≡
        cond u (trouble_of nodes start k (suc level) bad cs) (cond v (trouble_of nodes start k level bad cs)
        (cond (is_safe c) (trouble_of nodes start k (suc (suc level)) (bad || not (is_plain c)) cs) (Err UnsafeName)))
    go true v ih = ih M φ ν bad (suc level) (j ∷ trail) m k g s h
    go false true ih = ih M φ ν bad level trail j k g s.2 (omega (arith, s.1))
    go false false ih = dive nodes start c cs ih M φ ν bad (j ∷ trail) m k g h (g.dirs m h s.0) (suc level) s (g.below m h s.0 c)

pub make-trouble : (nodes : List Node) (start : ℕ) (cs : List (List ℕ)) → IsNested nodes → start < length nodes → made_verdict (make nodes [] start false cs) ≡ trouble_of nodes start start 0 false cs
make-trouble nodes start cs n h = same nodes start cs nodes (λ k. k) (λ j. false) false 0 [] start start none_yet (refl, h, refl) h
  where
    never : false ≡ true → ⊥
    never e = let z : ◌≡◌ {A = ℕ} 0 1 = cc in omega arith

    none_yet : Grown nodes nodes (λ k. k) (λ j. false) false
    none_yet = record {
      first = n;
      nested = n;
      low = λ k l. l;
      mono = λ i j l. l;
      kinds = λ k l. refl;
      old = λ d c j l e. e;
      missing = λ d c r l e. inl (e ∙ ap Err (child-missing nodes d c r e).0);
      dirs = λ j l v. absurd (never v);
      below = λ j l v c. absurd (never v);
    }
