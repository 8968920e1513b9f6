-- Each entry of a new tree is there for a file: it is that file, or a directory on its path that ends behind it; and each file has its entry.
-- Assumes nothing.
use Rattle.std.specs.Prelude.{ℕ, zero, suc, ◌+◌, ◌-◌, ◌<◌, ◌≤◌, ◌≡◌, refl, true, false, List, [], ◌∷◌, ◌++◌, length, drop, get_or}
use Rattle.std.proofs.Common.{sym, ap, ◌∙◌, ⊎_elim, arith, length-append, length-drop}
use Rattle.std.proofs.lemmas.List.{get_or_append_left, get_or-append-add}
use Rattle.refusal.specs.Laws.Tests.{lt-or-le}
use Rattle.tree.specs.Table.{Node, file, directory, empty_root}
use Rattle.tree.specs.Lookup.{is_directory, next_of}
use Rattle.wish_list.specs.Paths.{names_of}
use Rattle.wish_list.specs.Tree.{Wish, wishes, common, added, below, entries_from, entries_with, tree_from}
use Rattle.wish_list.proofs.Laws.Below.{common-less, added-least, length-entries_with}
use Rattle.wish_list.proofs.Laws.NameTexts.{names_of-named}
use Rattle.master.proofs.Entries.{front_of, paths_below, paths_with, entry_paths}
use Rattle.master.proofs.Laws.NewPaths.{length-paths_with}
use Rattle.master.proofs.Laws.NewPathsFiles.{join-names_of, front-join}
use Rattle.master.proofs.Laws.Order.{Begins}
use Rattle.master.proofs.Laws.OrderNames.{joined, joined-behind}
use mathlib.Core.List.{tail}

-- ---- the entries of one file: the last is the file, the others are directories around it

-- entry j is a directory on `path` that reaches past entry f
pub record IsAround (x : Node) (text path : List ℕ) (f : ℕ) : Type 0 where
  pub directory : is_directory x ≡ true
  pub past : f < next_of x
  pub on : Begins path text

-- the last entry is a file at k + l
pub record IsChain (xs : List Node) (texts : List (List ℕ)) (path : List ℕ) (offset size k l : ℕ) : Type 0 where
  pub name : List ℕ
  pub node : get_or xs l empty_root ≡ file name offset size
  pub text : get_or texts l [] ≡ path
  pub around : (j : ℕ) → j < l → IsAround (get_or xs j empty_root) (get_or texts j []) path (k + l)

chain-below : (k n l : ℕ) (front : List ℕ) (names : List (List ℕ)) (w : Wish) (ws : List Wish) → length names ≡ suc l →
    IsChain (entries_from k n names w ws) (paths_below front names) (front ++ joined names) w.offset w.size k l
unfolding entries_from paths_below
chain-below k n l front [] w ws e = absurd (omega arith)
chain-below k n zero front (name ∷ []) w ws e = record { name = name; node = refl; text = refl; around = λ j h. absurd (omega arith) }
chain-below k n (suc l) front (name ∷ []) w ws e = absurd (omega arith)
chain-below k n zero front (name ∷ next ∷ names) w ws e = absurd (omega arith)
chain-below k n (suc l) front (name ∷ next ∷ names) w ws e =
    let text : List ℕ = front ++ (name ++ (0x2F ∷ [])) in
    let c = chain-below (suc k) (suc n) l text (next ∷ names) w ws (omega arith) in
    let path≡ : text ++ joined (next ∷ names) ≡ front ++ joined (name ∷ next ∷ names) = joined-behind front name next names in
    record { name = c.name; node = c.node; text = c.text ∙ path≡; around = step text path≡ c }
  where
    step : (text : List ℕ) → text ++ joined (next ∷ names) ≡ front ++ joined (name ∷ next ∷ names) →
        IsChain (entries_from (suc k) (suc n) (next ∷ names) w ws) (paths_below text (next ∷ names)) (text ++ joined (next ∷ names)) w.offset w.size (suc k) l →
        (j : ℕ) → j < suc l →
        IsAround (get_or (directory name (k + length (name ∷ next ∷ names) + below (suc n) w.names ws) ∷ entries_from (suc k) (suc n) (next ∷ names) w ws) j empty_root)
        (get_or (text ∷ paths_below text (next ∷ names)) j []) (front ++ joined (name ∷ next ∷ names)) (k + suc l)
    step text p c zero h = record { directory = refl; past = omega arith; on = (joined (next ∷ names), sym p) }
    step text p c (suc j) h =
        let a = c.around j (omega arith) in
        let f : suc k + l ≡ k + suc l = omega arith in
        record { directory = a.directory; past = omega (arith, a.past); on = rw (← p) a.on }

-- ---- and behind the files before it

chain-with : (k : ℕ) (before : List (List ℕ)) (path : List ℕ) (w : Wish) (ws : List Wish) (l : ℕ) → w.names ≡ names_of path → added before w.names ≡ suc l →
    IsChain (entries_with k before w ws) (paths_with before w.names) path w.offset w.size k l
chain-with k before path w ws l e a =
    let n : ℕ = common before w.names in
    let h : n < length w.names = common-less before w.names (rw e (names_of-named path)) in
    let path≡ : front_of n w.names ++ joined (drop n w.names) ≡ path = front-join n w.names h ∙ ap joined e ∙ join-names_of path in
    rw path≡ at (chain-below k n l (front_of n w.names) (drop n w.names) w ws (omega (arith, length-drop n w.names)))

-- what entry n of these is there for: file number `file` of the list, whose own entry is `entry`
pub record IsFor (xs : List Node) (texts paths : List (List ℕ)) (k n : ℕ) : Type 0 where
  pub file : ℕ
  pub listed : file < length paths
  pub entry : ℕ
  pub behind : n ≤ entry
  pub within : entry < length xs
  pub leaf : is_directory (get_or xs entry empty_root) ≡ false
  pub text : get_or texts entry [] ≡ get_or paths file []
  pub around : (j : ℕ) → n ≤ j → j < entry → IsAround (get_or xs j empty_root) (get_or texts j []) (get_or paths file []) (k + entry)

-- the entry of file i of the list
pub record IsEntryOf (xs : List Node) (texts : List (List ℕ)) (path : List ℕ) (offset size : ℕ) : Type 0 where
  pub entry : ℕ
  pub within : entry < length xs
  pub name : List ℕ
  pub node : get_or xs entry empty_root ≡ file name offset size
  pub text : get_or texts entry [] ≡ path

behind-at : {A : Type 0} (xs ys : List A) (a i : ℕ) (d : A) → length xs ≡ a → get_or (xs ++ ys) (a + i) d ≡ get_or ys i d
behind-at xs ys a i d e = rw (← e) (get_or-append-add xs ys i d)

first-at : {A : Type 0} (xs ys : List A) (a i : ℕ) (d : A) → length xs ≡ a → i < a → get_or (xs ++ ys) i d ≡ get_or xs i d
first-at xs ys a i d e h = get_or_append_left xs ys d i (omega arith)

-- the first file's entries xs with their paths, and those behind them
module _ (xs ys : List Node) (texts more : List (List ℕ)) (path : List ℕ) (paths : List (List ℕ)) (offset size k l : ℕ) (lx : length xs ≡ suc l) (lt : length texts ≡ suc l) where
  for-first : IsChain xs texts path offset size k l → (n : ℕ) → n < suc l → IsFor (xs ++ ys) (texts ++ more) (path ∷ paths) k n
  for-first c n h = record {
    file = 0;
    listed = omega arith;
    entry = l;
    behind = omega arith;
    within = omega (arith, length-append xs ys);
    leaf = rw (first-at xs ys (suc l) l empty_root lx (omega arith), c.node) refl;
    text = first-at texts more (suc l) l [] lt (omega arith) ∙ c.text;
    around = λ j a b. rw (first-at xs ys (suc l) j empty_root lx (omega arith), first-at texts more (suc l) j [] lt (omega arith)) (c.around j b);
  }

  for-behind : (n m k' : ℕ) → n ≡ suc l + m → k' ≡ k + suc l → IsFor ys more paths k' m → IsFor (xs ++ ys) (texts ++ more) (path ∷ paths) k n
  for-behind n m k' n≡ k≡ g = record {
    file = suc g.file;
    listed = omega (arith, g.listed);
    entry = suc l + g.entry;
    behind = omega (arith, g.behind);
    within = omega (arith, length-append xs ys, g.within);
    leaf = rw (behind-at xs ys (suc l) g.entry empty_root lx) g.leaf;
    text = behind-at texts more (suc l) g.entry [] lt ∙ g.text;
    around = λ j a b. step j (j - suc l) (omega arith) (g.around (j - suc l) (omega arith) (omega arith));
  }
    where
      step : (j i : ℕ) → j ≡ suc l + i → IsAround (get_or ys i empty_root) (get_or more i []) (get_or paths g.file []) (k' + g.entry) →
          IsAround (get_or (xs ++ ys) j empty_root) (get_or (texts ++ more) j []) (get_or paths g.file []) (k + (suc l + g.entry))
      step j i j≡ a =
          let f : k' + g.entry ≡ k + (suc l + g.entry) = omega arith in
          rw (j≡, behind-at xs ys (suc l) i empty_root lx, behind-at texts more (suc l) i [] lt, ← f) a

  entry-first : IsChain xs texts path offset size k l → IsEntryOf (xs ++ ys) (texts ++ more) path offset size
  entry-first c = record {
    entry = l;
    within = omega (arith, length-append xs ys);
    name = c.name;
    node = first-at xs ys (suc l) l empty_root lx (omega arith) ∙ c.node;
    text = first-at texts more (suc l) l [] lt (omega arith) ∙ c.text;
  }

  entry-behind : (p : List ℕ) (o s : ℕ) → IsEntryOf ys more p o s → IsEntryOf (xs ++ ys) (texts ++ more) p o s
  entry-behind p o s g = record {
    entry = suc l + g.entry;
    within = omega (arith, length-append xs ys, g.within);
    name = g.name;
    node = behind-at xs ys (suc l) g.entry empty_root lx ∙ g.node;
    text = behind-at texts more (suc l) g.entry [] lt ∙ g.text;
  }

get_or-tail : (xs : List ℕ) (i : ℕ) → get_or (tail xs) i 0 ≡ get_or xs (suc i) 0
get_or-tail [] i = refl
get_or-tail (x ∷ xs) i = refl

-- the entries of a first file, and those of the files behind it
module _ (k : ℕ) (before : List (List ℕ)) (path : List ℕ) (paths : List (List ℕ)) (sizes offsets : List ℕ) where
  abbrev ws : List Wish
  ws = wishes paths (tail sizes) (tail offsets)

  abbrev w : Wish
  w = record { names = names_of path; offset = get_or offsets 0 0; size = get_or sizes 0 0 }

  abbrev l : ℕ
  l = added before (names_of path) - 1

  abbrev next : ℕ
  next = k + added before (names_of path)

  abbrev xs : List Node
  xs = entries_with k before w ws

  abbrev ys : List Node
  ys = tree_from next (names_of path) ws

  abbrev texts : List (List ℕ)
  texts = paths_with before (names_of path)

  abbrev more : List (List ℕ)
  more = entry_paths (names_of path) ws

  a≡ : added before (names_of path) ≡ suc l
  a≡ = omega (arith, added-least before (names_of path) (names_of-named path))

  lx : length xs ≡ suc l
  lx = length-entries_with k before w ws ∙ a≡

  lt : length texts ≡ suc l
  lt = length-paths_with before (names_of path) ∙ a≡

  chain : IsChain xs texts path (get_or offsets 0 0) (get_or sizes 0 0) k l
  chain = chain-with k before path w ws l refl a≡

  entry-for-step : (n : ℕ) → n < length (xs ++ ys) → ((m : ℕ) → m < length ys → IsFor ys more paths next m) → IsFor (xs ++ ys) (texts ++ more) (path ∷ paths) k n
  entry-for-step n h ih =
      ⊎_elim (λ (b : n < suc l). for-first xs ys texts more path paths (get_or offsets 0 0) (get_or sizes 0 0) k l lx lt chain n b)
      (λ (b : suc l ≤ n). for-behind xs ys texts more path paths (get_or offsets 0 0) (get_or sizes 0 0) k l lx lt n (n - suc l) next (omega arith) (omega (arith, a≡))
      (ih (n - suc l) (omega (arith, length-append xs ys, lx))))
      (lt-or-le n (suc l))

  entry-of-step : (i : ℕ) → i < suc (length paths) → ((j : ℕ) → j < length paths → IsEntryOf ys more (get_or paths j []) (get_or (tail offsets) j 0) (get_or (tail sizes) j 0)) →
      IsEntryOf (xs ++ ys) (texts ++ more) (get_or (path ∷ paths) i []) (get_or offsets i 0) (get_or sizes i 0)
  entry-of-step zero h ih = entry-first xs ys texts more path paths (get_or offsets 0 0) (get_or sizes 0 0) k l lx lt chain
  entry-of-step (suc j) h ih =
      entry-behind xs ys texts more path paths (get_or offsets 0 0) (get_or sizes 0 0) k l lx lt (get_or paths j []) (get_or offsets (suc j) 0) (get_or sizes (suc j) 0)
      (rw (get_or-tail offsets j, get_or-tail sizes j) at (ih j (omega arith)))

-- LAW: each entry is there for a file
pub entry-for : (k : ℕ) (before paths : List (List ℕ)) (sizes offsets : List ℕ) (n : ℕ) → n < length (tree_from k before (wishes paths sizes offsets)) →
    IsFor (tree_from k before (wishes paths sizes offsets)) (entry_paths before (wishes paths sizes offsets)) paths k n
unfolding tree_from entry_paths wishes
entry-for k before [] sizes offsets n h = absurd (omega arith)
entry-for k before (path ∷ paths) sizes offsets n h =
    entry-for-step k before path paths sizes offsets n h (λ m b. entry-for (k + added before (names_of path)) (names_of path) paths (tail sizes) (tail offsets) m b)

-- LAW: each file has its entry
pub entry-of : (k : ℕ) (before paths : List (List ℕ)) (sizes offsets : List ℕ) (i : ℕ) → i < length paths →
    IsEntryOf (tree_from k before (wishes paths sizes offsets)) (entry_paths before (wishes paths sizes offsets)) (get_or paths i []) (get_or offsets i 0) (get_or sizes i 0)
unfolding tree_from entry_paths wishes
entry-of k before [] sizes offsets i h = absurd (omega arith)
entry-of k before (path ∷ paths) sizes offsets i h =
    entry-of-step k before path paths sizes offsets i h (λ j b. entry-of (k + added before (names_of path)) (names_of path) paths (tail sizes) (tail offsets) j b)
