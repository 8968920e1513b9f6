-- How many shapes there are: those that begin with given entries are as many as a product, of a number for
-- what is left of each directory that is open; so the first entry behind the root gives the recurrence.
-- Assumes nothing.
use Rattle.std.specs.Prelude.{ℕ, zero, suc, ◌+◌, ◌-◌, ◌*◌, ◌<◌, ◌≤◌, ◌≡◌, refl, get_or}
use Rattle.std.specs.Prelude.{List, [], ◌∷◌, ◌++◌, length, map, sum}
use Rattle.std.specs.List.{range_with_len, sum_by}
use Rattle.std.proofs.Common.{sym, ap, ◌∙◌, arith, ⊎_elim, length-append, add-mul, mul_assoc, one-mul, mul-one, add_assoc, add-zero, one-add}
use Rattle.std.proofs.lemmas.Bool.{cases_lt}
use Rattle.std.proofs.lemmas.List.{get_or_past, get_or_append_left}
use Rattle.std.proofs.Math.Seq.{get_or-append_seam}
use Rattle.std.proofs.lemmas.List.Concat.{length-flat_map}
use Rattle.std.proofs.lemmas.List.Sums.{sum_by-cons}
use Rattle.tree.specs.Table.{Node, empty_root, parent_below, parent_of}
use Rattle.tree.specs.Lookup.{next_of}
use Rattle.tree.proofs.Laws.Nesting.{ended, parent-lower, below-lt}
use Rattle.small_tables.specs.declared.shape.Entry.{Entry}
use Rattle.small_tables.specs.declared.shape.Entry.TheVariants.{File, Directory}
use Rattle.small_tables.specs.Shapes.{tree_of, tree_from, are_nexts_allowed, each_list, shapes}
use Rattle.small_tables.specs.Inner.Ends.{next_in}
use Rattle.small_tables.specs.Inner.Begun.{shapes_with, largest_next, IsBegun}
use Rattle.small_tables.specs.Theorem.{number_behind_root, Numbers}
use Rattle.small_tables.proofs.Laws.Entries.{length-tree_of, tree-at, next-at, parent-there, parent-further}
use Rattle.small_tables.proofs.Laws.Begun.{begun-root, root-begun, begun-whole, begun-step, file-begun, directory-begun, below-same, snoc-length}

-- ---- the parent's next, with one entry more

-- no parent is behind the entries
below-past : (nodes : List Node) (k i : ℕ) → length nodes ≤ i → parent_below nodes k i ≡ parent_below nodes k (length nodes)
below-past nodes k zero h = ap (parent_below nodes k) (omega arith)
below-past nodes k (suc i) h = ⊎_elim (λ l. lower l (below-past nodes k i (omega arith))) (λ l. ap (parent_below nodes k) (omega arith)) (cases_lt (length nodes) (suc i))
  where
    lower : length nodes < suc i → parent_below nodes k i ≡ parent_below nodes k (length nodes) → parent_below nodes k (suc i) ≡ parent_below nodes k (length nodes)
    lower l ih =
        let none : next_of (get_or nodes i empty_root) ≤ k = rw (get_or_past nodes i empty_root (omega arith)) (omega arith) in
        parent-lower nodes k i (ended k (get_or nodes i empty_root) none) ∙ ih

-- of an entry j behind x
module _ (p : List Entry) (x : Entry) (j : ℕ) (some : 0 < length p) (h : length p < j) where
  abbrev more : List Entry
  more = p ++ (x ∷ [])

  abbrev last : ℕ
  last = length p

  there : last < length more
  there = omega (arith, snoc-length p x)

  here : get_or more last File ≡ x
  here = get_or-append_seam p x [] File

  before : (i : ℕ) → i < last → get_or (tree_of more) i empty_root ≡ get_or (tree_of p) i empty_root
  before i l = tree-at more i (omega (arith, there)) ∙ rw (get_or_append_left p (x ∷ []) File i l) (sym (tree-at p i l))

  search : parent_of (tree_of more) j ≡ parent_below (tree_of more) j (suc last)
  unfolding parent_of
  search =
      let long : length (tree_of more) ≡ suc last = length-tree_of more ∙ snoc-length p x in
      below-past (tree_of more) j j (omega arith) ∙ ap (parent_below (tree_of more) j) long

  -- x is its parent, or its parent is what it was
  next-inside : j < next_in x → largest_next more j ≡ next_in x
  next-inside l = rw (search, parent-there more last j there (rw here l), next-at more last there, here)

  next-outside : next_in x ≤ j → largest_next more j ≡ largest_next p j
  unfolding parent_of
  next-outside l =
      let long : length (tree_of p) ≡ last = length-tree_of p in
      let past = below-past (tree_of p) j j (omega arith) ∙ ap (parent_below (tree_of p) j) long in
      let lower = parent-further more last j there (rw here l) ∙ below-same (tree_of more) (tree_of p) j last before in
      rw (search, lower, past) (ap next_of (before (parent_below (tree_of p) j last) (below-lt (tree_of p) j last some)))

-- ---- the directories that are open

-- of the directories among p that entry k may be in, the innermost ends at d, the ones around it at ds
abbrev Ends : ℕ → List Entry → ℕ → List ℕ → Type 0
Ends n p k [] = k ≡ n
Ends n p k (d ∷ ds) = (k ≤ d) × ((j : ℕ) → k ≤ j → j < d → largest_next p j ≡ d) × Ends n p d ds

-- of a number for what is left of each
abbrev product : ℕ → List ℕ → ℕ
product k [] = 1
product k (d ∷ ds) = number_behind_root (d - k) * product d ds

module _ (n : ℕ) (p : List Entry) where
  ends-most : (k : ℕ) (ds : List ℕ) → Ends n p k ds → k ≤ n
  ends-most k [] e = omega arith
  ends-most k (d ∷ ds) e = let h : d ≤ n = ends-most d ds e.2 in omega (arith, e.0)

  -- with one entry more, which ends before k
  ends-more : (x : Entry) (k : ℕ) (ds : List ℕ) → 0 < length p → length p < k → next_in x ≤ k → Ends n p k ds →
      Ends n (p ++ (x ∷ [])) k ds
  ends-more x k [] some h l e = e
  ends-more x k (d ∷ ds) some h l e = (
    e.0,
    λ j a b. next-outside p x j some (omega arith) (omega arith) ∙ e.1 j a b,
    ends-more x d ds some (omega (arith, e.0)) (omega (arith, e.0)) e.2,
  )

  -- and with a directory more
  ends-directory : (next d : ℕ) (ds : List ℕ) → 0 < length p → length p < next → next ≤ d → Ends n p (length p) (d ∷ ds) →
      Ends n (p ++ (Directory next ∷ [])) (suc (length p)) (next ∷ d ∷ ds)
  ends-directory next d ds some h l e = (
    omega arith,
    λ j a b. next-inside p (Directory next) j some (omega arith) b,
    ends-more (Directory next) next (d ∷ ds) some h (omega arith) (l, λ j a b. e.1 j (omega arith) b, e.2),
  )

-- there are as many as that product
abbrev AsMany : ℕ → List Entry → List ℕ → Type 0
AsMany n p ds = IsBegun n p → Ends n p (length p) ds → length (shapes_with n p) ≡ product (length p) ds

-- ---- the recurrence

number-none : number_behind_root 0 ≡ 1
unfolding shapes each_list are_nexts_allowed tree_of tree_from
number-none = refl

abbrev by_first : ℕ → ℕ
by_first m = number_behind_root m + sum (map (λ i. number_behind_root i * number_behind_root (m - i)) (range_with_len 0 (suc m)))

sum-scaled : (f g : ℕ → ℕ) (w a b c : ℕ) → ((i : ℕ) → i < c → f (a + i) ≡ g (b + i) * w) →
    sum_by f (range_with_len a c) ≡ sum (map g (range_with_len b c)) * w
sum-scaled f g w a b zero h = omega arith
sum-scaled f g w a b (suc c) h =
    let first : f a ≡ g b * w = rw (add-zero a, add-zero b) at (h 0 (omega arith)) in
    let further = λ (i : ℕ) (l : i < c). rw (← one-add i, ← add_assoc a 1 i, ← add_assoc b 1 i) at (h (suc i) (omega arith)) in
    let others = sum-scaled f g w (a + 1) (b + 1) c further in
    sum_by-cons f a (range_with_len (a + 1) c)
    ∙ rw (first, others, ← add-mul (g b) (sum (map g (range_with_len (b + 1) c))) w)
    (ap (λ (t : ℕ). t * w) (sym (sum_by-cons (λ x. x) (g b) (map g (range_with_len (b + 1) c)))))

-- where the innermost directory goes on, and the product is right with one entry more
module _ (n : ℕ) (p : List Entry) (begun : IsBegun n p) (m d : ℕ) (ds : List ℕ) (d≡ : d ≡ length p + suc m)
    (ends : Ends n p (length p) (d ∷ ds))
    (longer : (q : List Entry) (es : List ℕ) → length q ≡ suc (length p) → AsMany n q es) where
  inside : length p < n
  inside = let h : d ≤ n = ends-most n p d ds ends.2 in omega arith

  end-is : largest_next p (length p) ≡ d
  end-is = ends.1 (length p) (omega arith) (omega arith)

  files : length (shapes_with n (p ++ (File ∷ []))) ≡ number_behind_root m * product d ds
  files =
      let q : List Entry = p ++ (File ∷ []) in
      let left : d - suc (length p) ≡ m = omega arith in
      longer q (d ∷ ds) (snoc-length p File) (file-begun n p begun inside)
      (rw (snoc-length p File) (ends-more n p File (suc (length p)) (d ∷ ds) begun.some (omega arith) (omega arith) (omega arith, λ j a b. ends.1 j (omega arith) b, ends.2)))
      ∙ rw (snoc-length p File, left)

  directories : (i : ℕ) → i < suc m →
      length (shapes_with n (p ++ (Directory (suc (length p) + i) ∷ [])))
      ≡ number_behind_root (0 + i) * number_behind_root (m - (0 + i)) * product d ds
  directories i h =
      let next : ℕ = suc (length p) + i in
      let q : List Entry = p ++ (Directory next ∷ []) in
      let most : next ≤ largest_next p (length p) = omega (arith, end-is) in
      let in-it : suc (length p) + i - suc (length p) ≡ 0 + i = omega arith in
      let behind-it : d - (suc (length p) + i) ≡ m - (0 + i) = omega arith in
      longer q (next ∷ d ∷ ds) (snoc-length p (Directory next)) (directory-begun n p next begun inside (omega arith) most)
      (rw (snoc-length p (Directory next)) (ends-directory n p next d ds begun.some (omega arith) (omega arith) ends))
      ∙ rw (snoc-length p (Directory next), in-it, behind-it) (sym (mul_assoc (number_behind_root (0 + i)) (number_behind_root (m - (0 + i))) (product d ds)))

  by-next : length (shapes_with n p) ≡ by_first m * product d ds
  by-next =
      let left : d - length p ≡ suc m = omega arith in
      let behind = λ (next : ℕ). shapes_with n (p ++ (Directory next ∷ [])) in
      ap length (begun-step n p begun inside)
      ∙ rw (end-is, left, length-append, length-flat_map behind, files)
      (rw (sum-scaled (λ next. length (behind next)) (λ i. number_behind_root i * number_behind_root (m - i)) (product d ds) (suc (length p)) 0 (suc m) directories)
      (sym (add-mul (number_behind_root m) (sum (map (λ i. number_behind_root i * number_behind_root (m - i)) (range_with_len 0 (suc m)))) (product d ds))))

ends-whole : (n : ℕ) (p : List Entry) (ds : List ℕ) → Ends n p n ds → product n ds ≡ 1
ends-whole n p [] e = refl
ends-whole n p (d ∷ ds) e =
    let d≡ : d ≡ n = omega (arith, e.0, ends-most n p d ds e.2) in
    let none : n - n ≡ 0 = omega arith in
    rw (d≡, none, number-none, ends-whole n p ds (rw d≡ at e.2))

-- with m entries to come
module _ (b n : ℕ) (recurs : (m : ℕ) → m < b → number_behind_root (suc m) ≡ by_first m) where
  abbrev With : ℕ → Type 0
  With m = (p : List Entry) (ds : List ℕ) → m ≤ b → length p + m ≡ n → AsMany n p ds

  number-with : (m : ℕ) → With m
  number-with zero p ds h l begun e =
      let whole : length p ≡ n = omega arith in
      ap length (begun-whole n p begun whole) ∙ rw whole (sym (ends-whole n p ds (rw whole at e)))
  number-with (suc m) p ds h l begun e = go (number-with m) ds e
    where
      -- the innermost directory goes on, or it ended right before
      on : With m → (d : ℕ) (es : List ℕ) → Ends n p (length p) (d ∷ es) → length p < d → length (shapes_with n p) ≡ product (length p) (d ∷ es)
      on ih d es e c =
          let k : ℕ = d - suc (length p) in
          let left : d - length p ≡ suc k = omega arith in
          let most : d ≤ n = ends-most n p d es e.2 in
          by-next n p begun k d es (omega arith) e (λ q gs longer. ih q gs (omega arith) (omega arith))
          ∙ rw left (ap (λ (t : ℕ). t * product d es) (sym (recurs k (omega arith))))

      over : (d : ℕ) (es : List ℕ) → (Ends n p (length p) es → length (shapes_with n p) ≡ product (length p) es) →
          Ends n p (length p) (d ∷ es) → d ≤ length p → length (shapes_with n p) ≡ product (length p) (d ∷ es)
      over d es ih e c =
          let d≡ : d ≡ length p = omega (arith, e.0) in
          let none : length p - length p ≡ 0 = omega arith in
          ih (rw d≡ at e.2) ∙ rw (d≡, none, number-none, one-mul)

      go : With m → (es : List ℕ) → Ends n p (length p) es → length (shapes_with n p) ≡ product (length p) es
      go ih [] e = absurd (omega arith)
      go ih (d ∷ es) e = ⊎_elim (on ih d es e) (over d es (go ih es) e) (cases_lt (length p) d)

root-ends : (n : ℕ) → 0 < n → Ends n (Directory n ∷ []) 1 (n ∷ [])
unfolding parent_of tree_of tree_from
root-ends n h = (h, next, refl)
  where
    next : (j : ℕ) → 1 ≤ j → j < n → largest_next (Directory n ∷ []) j ≡ n
    next j a b = rw (below-past (tree_of (Directory n ∷ [])) j j a, parent-there (Directory n ∷ []) 0 j (omega arith) b)

numbers-below : (b m : ℕ) → m < b → number_behind_root (suc m) ≡ by_first m
numbers-below zero m h = absurd (omega arith)
numbers-below (suc b) m h = ⊎_elim (numbers-below b m) (λ l. last (λ k below. numbers-below b k (omega arith))) (cases_lt m b)
  where
    last : ((k : ℕ) → k < m → number_behind_root (suc k) ≡ by_first k) → number_behind_root (suc m) ≡ by_first m
    last below =
        let n : ℕ = suc (suc m) in
        ap length (sym (begun-root n (omega arith)))
        ∙ by-next n (Directory n ∷ []) (root-begun n (omega arith)) m n [] (omega arith) (root-ends n (omega arith))
        (λ q es longer. number-with m n below m q es (omega arith) (omega arith))
        ∙ mul-one (by_first m)

pub numbers : Numbers
numbers =
    let at = λ (m : ℕ). numbers-below (suc m) m (omega arith) in
    let one : number_behind_root 1 ≡ 2 = at 0 ∙ rw number-none in
    let two : number_behind_root 2 ≡ 6 = at 1 ∙ rw (number-none, one) in
    let three : number_behind_root 3 ≡ 22 = at 2 ∙ rw (number-none, one, two) in
    let four : number_behind_root 4 ≡ 90 = at 3 ∙ rw (number-none, one, two, three) in
    let five : number_behind_root 5 ≡ 394 = at 4 ∙ rw (number-none, one, two, three, four) in
    let six : number_behind_root 6 ≡ 1806 = at 5 ∙ rw (number-none, one, two, three, four, five) in
    let seven : number_behind_root 7 ≡ 8558 = at 6 ∙ rw (number-none, one, two, three, four, five, six) in
    (number-none, at, one, two, three, four, five, six, seven)
