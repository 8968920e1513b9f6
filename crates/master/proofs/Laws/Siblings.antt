-- Entries of one directory of a new tree differ in their names: of one kind they would have one path, and a file beside a directory would be
-- used as one. Assumes nothing.
use Rattle.std.specs.Prelude.{ℕ, zero, suc, ◌<◌, ◌≤◌, ◌≡◌, refl, true, false, List, [], ◌∷◌, ◌++◌, length, get_or}
use Rattle.std.proofs.Common.{sym, ap, ◌∙◌, ⊎_elim, arith, length-append}
use Rattle.std.proofs.lemmas.Bool.{false≢true}
use Rattle.std.proofs.lemmas.List.{append_assoc, append-nil}
use Rattle.refusal.specs.Laws.Tests.{lt-or-le, lt-or-eq-or-gt}
use Rattle.tree.specs.Table.{Node, file, directory, name_of, empty_root, parent_of}
use Rattle.tree.specs.Lookup.{is_directory}
use Rattle.listing.specs.Lines.{ending, path_of}
use Rattle.listing.proofs.Paths.{path-step}
use Rattle.wish_list.specs.Paths.{is_below}
use Rattle.wish_list.specs.Tree.{Wish, wishes, tree_from, tree}
use Rattle.wish_list.proofs.Order.{below-itself}
use Rattle.wish_list.proofs.Laws.NameTexts.{wishes-named}
use Rattle.wish_list.proofs.Laws.AcceptedPaths.{HaveAllPassed}
use Rattle.master.proofs.Entries.{entry_paths}
use Rattle.master.proofs.Laws.NewPaths.{entries-paths-length, path_of-tree}
use Rattle.master.proofs.Laws.Order.{Begins, begins-test, begins-self, begins-trans, below-not_behind}
use Rattle.master.proofs.Laws.OrderEntries.{rise-at, unused-at, entries-rise, paths-rise}
use Rattle.master.proofs.Laws.FoundEntries.{IsFor, entry-for}

module _ (paths : List (List ℕ)) (sizes offsets : List ℕ) (passed : HaveAllPassed [] paths) where
  abbrev ws : List Wish
  ws = wishes paths sizes offsets

  abbrev nodes : List Node
  nodes = tree ws

  abbrev xs : List Node
  xs = tree_from 1 [] ws

  abbrev texts : List (List ℕ)
  texts = entry_paths [] ws

  -- ---- entry n + 1 of the tree

  pub node-past_root : (n : ℕ) → get_or nodes (suc n) empty_root ≡ get_or xs n empty_root
  unfolding tree
  node-past_root n = refl

  pub length-past_root : length nodes ≡ suc (length xs)
  unfolding tree
  length-past_root = refl

  texts-past_root : length texts ≡ length xs
  texts-past_root = omega (arith, entries-paths-length ws, length-past_root)

  pub text-past_root : (n : ℕ) → n < length xs → path_of nodes (suc n) ≡ 0x2F ∷ get_or texts n []
  text-past_root n h = path_of-tree ws n (wishes-named paths sizes offsets) (omega (arith, texts-past_root))

  pub texts-rise : (i j : ℕ) → i < j → j < length xs → is_below (get_or texts i []) (get_or texts j []) ≡ true
  texts-rise i j h l = rise-at [] texts i j (entries-rise paths sizes offsets passed) h (omega (arith, texts-past_root))

  one-text : (i j : ℕ) → i < length xs → j < length xs → get_or texts i [] ≡ get_or texts j [] → i ≡ j
  one-text i j h l e =
      ⊎_elim (λ (b : i < j). absurd (false≢true (sym (below-itself (get_or texts j [])) ∙ rw e at (texts-rise i j b l))))
      (λ b. ⊎_elim (λ (e : i ≡ j). e) (λ (b : j < i). absurd (false≢true (sym (below-itself (get_or texts j [])) ∙ rw e at (texts-rise j i b h)))) b) (lt-or-eq-or-gt i j)

  -- ---- a file and a directory

  -- the text of entry n is the front of a path of the list
  on-path : (n : ℕ) (g : IsFor xs texts paths 1 n) → Begins (get_or paths g.file []) (get_or texts n [])
  on-path n g =
      ⊎_elim (λ (b : n < g.entry). (g.around n (omega arith) b).on)
      (λ (b : g.entry ≤ n). let n≡ : n ≡ g.entry = omega (arith, g.behind) in ([], rw n≡ (sym (g.text) ∙ sym (append-nil (get_or texts g.entry [])))))
      (lt-or-le n g.entry)

  -- and that of a file is the path
  own-path : (n : ℕ) (g : IsFor xs texts paths 1 n) → is_directory (get_or xs n empty_root) ≡ false → get_or texts n [] ≡ get_or paths g.file []
  own-path n g leaf =
      ⊎_elim (λ (b : n < g.entry). absurd (false≢true (sym leaf ∙ (g.around n (omega arith) b).directory)))
      (λ (b : g.entry ≤ n). let n≡ : n ≡ g.entry = omega (arith, g.behind) in rw n≡ g.text)
      (lt-or-le n g.entry)

  -- no path of the list goes on behind another with a `/`
  none-used : (i j : ℕ) → i < length paths → j < length paths → Begins (get_or paths j []) (get_or paths i [] ++ (0x2F ∷ [])) → ⊥
  none-used i j h l b =
      ⊎_elim (λ (c : i < j). false≢true (sym (unused-at [] paths i j passed c l) ∙ begins-test (get_or paths j []) (get_or paths i [] ++ (0x2F ∷ [])) b))
      (λ c. ⊎_elim (λ (e : i ≡ j). same e) (λ (c : j < i). false≢true (sym (below-not_behind (get_or paths i []) (get_or paths j []) behind) ∙ rise-at [] paths j i (paths-rise paths passed) c h)) c)
      (lt-or-eq-or-gt i j)
    where
      behind : Begins (get_or paths j []) (get_or paths i [])
      behind = begins-trans (get_or paths j []) (get_or paths i [] ++ (0x2F ∷ [])) (get_or paths i []) b (begins-self (get_or paths i []) (0x2F ∷ []))

      same : i ≡ j → ⊥
      same e =
          let f : get_or paths j [] ≡ (get_or paths j [] ++ (0x2F ∷ [])) ++ b.0 = rw e at b.1 in
          omega (arith, ap length f, length-append (get_or paths j [] ++ (0x2F ∷ [])) b.0, length-append (get_or paths j []) (0x2F ∷ []))

  no-both : (i j : ℕ) → i < length xs → j < length xs → is_directory (get_or xs i empty_root) ≡ false → get_or texts j [] ≡ get_or texts i [] ++ (0x2F ∷ []) → ⊥
  no-both i j h l leaf e =
      let f = entry-for 1 [] paths sizes offsets i h in
      let g = entry-for 1 [] paths sizes offsets j l in
      none-used f.file g.file f.listed g.listed (rw (e, own-path i f leaf) at (on-path j g))

  -- ---- siblings

  text-ends : (i j : ℕ) → i < length xs → j < length xs → path_of nodes (suc j) ≡ path_of nodes (suc i) ++ (0x2F ∷ []) → get_or texts j [] ≡ get_or texts i [] ++ (0x2F ∷ [])
  text-ends i j h l u = cc (rw (text-past_root i h, text-past_root j l) at u)

  -- entries i + 1 and j + 1, whose paths are one but for the `/` at a directory's end
  alike : (i j : ℕ) (front : List ℕ) (x y : Node) → i < length xs → j < length xs → get_or nodes (suc i) empty_root ≡ x → get_or nodes (suc j) empty_root ≡ y →
      path_of nodes (suc i) ≡ front ++ ending x → path_of nodes (suc j) ≡ front ++ ending y → i ≡ j
  alike i j front (file a b c) (file d e f) h l x≡ y≡ p q =
      let t : get_or texts i [] ≡ get_or texts j [] = cc (text-past_root i h, text-past_root j l) in
      one-text i j h l t
  alike i j front (directory a b) (directory c d) h l x≡ y≡ p q =
      let t : get_or texts i [] ≡ get_or texts j [] = cc (text-past_root i h, text-past_root j l) in
      one-text i j h l t
  alike i j front (file a b c) (directory d e) h l x≡ y≡ p q =
      let u : path_of nodes (suc j) ≡ path_of nodes (suc i) ++ (0x2F ∷ []) = rw (p, append-nil front) q in
      let t : get_or texts j [] ≡ get_or texts i [] ++ (0x2F ∷ []) = text-ends i j h l u in
      absurd (no-both i j h l (ap is_directory (sym (node-past_root i) ∙ x≡)) t)
  alike i j front (directory a b) (file c d e) h l x≡ y≡ p q =
      let u : path_of nodes (suc i) ≡ path_of nodes (suc j) ++ (0x2F ∷ []) = rw (q, append-nil front) p in
      let t : get_or texts i [] ≡ get_or texts j [] ++ (0x2F ∷ []) = text-ends j i l h u in
      absurd (no-both j i l h (ap is_directory (sym (node-past_root j) ∙ y≡)) t)

  -- LAW: entries of one directory differ in their names
  pub siblings-differ : (j k : ℕ) → 0 < j → j < length nodes → 0 < k → k < length nodes → parent_of nodes j ≡ parent_of nodes k →
      name_of (get_or nodes j empty_root) ≡ name_of (get_or nodes k empty_root) → j ≡ k
  siblings-differ zero k hj lj hk lk p n = absurd (omega arith)
  siblings-differ (suc j) zero hj lj hk lk p n = absurd (omega arith)
  siblings-differ (suc j) (suc k) hj lj hk lk p n =
      ap suc (alike j k (path_of nodes (parent_of nodes (suc j)) ++ name_of (get_or nodes (suc j) empty_root)) (get_or nodes (suc j) empty_root) (get_or nodes (suc k) empty_root)
      (omega (arith, length-past_root)) (omega (arith, length-past_root)) refl refl
      (path-step nodes (suc j) hj ∙ sym (append_assoc (path_of nodes (parent_of nodes (suc j))) (name_of (get_or nodes (suc j) empty_root)) (ending (get_or nodes (suc j) empty_root))))
      (path-step nodes (suc k) hk ∙ rw (p, n) (sym (append_assoc (path_of nodes (parent_of nodes (suc k))) (name_of (get_or nodes (suc k) empty_root)) (ending (get_or nodes (suc k) empty_root))))))
