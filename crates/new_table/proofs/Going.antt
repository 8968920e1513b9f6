-- The loop that writes a draft, from the last path to the first. Assumes nothing.
use Rattle.std.specs.Prelude.{ℕ, zero, suc, ◌+◌, ◌-◌, ◌*◌, ◌^◌, ◌<◌, ◌≤◌, ◌≡◌, refl, true, List, [], ◌∷◌, ◌++◌, length, take, drop, get_or}
use Rattle.std.specs.List.{list_all}
use Rattle.std.proofs.Common.{sym, ap, ◌∙◌, ⊎_elim, arith, add-zero, get_or-drop, length-drop, length-append}
use Rattle.std.proofs.lemmas.List.{drop_all, nil_from_length}
use mathlib.Core.List.{tail}
use Rattle.refusal.specs.Laws.Tests.{lt-or-le}
use Rattle.tree.specs.Table.{Node, directory, node_bytes, texts_of}
use Rattle.tree.proofs.Laws.Writing.{texts-append}
use Rattle.wish_list.specs.Paths.{paths_in, names_of}
use Rattle.wish_list.specs.Tree.{Wish, wishes, common, added, below, entries_from, entries_with, tree_from, tree}
use Rattle.wish_list.proofs.Laws.Below.{common-less, below-in, below-out, length-entries_with, length-tree_from, length-tree}
use Rattle.wish_list.proofs.Laws.NameTexts.{names_of-named, texts_of-entries_from, length-name_texts, name_texts_total, texts-tree_from}
use Rattle.endian.specs.Bytes.{put}
use Rattle.wish_list.specs.Tree.{tree_of}
use Rattle.new_table.specs.Inner.Cuts.{IsPathBefore}
use Rattle.new_table.specs.Inner.Steps.{slashes, shared_bytes, own_part, entries_behind, texts_behind, is_shallow_path}
use Rattle.new_table.specs.Inner.Drafts.{entries_put, path_entries, draft_bytes, HasRoom}
use Rattle.new_table.proofs.Names.{length-names_of, Shares, shares, added-bytes}
use Rattle.new_table.proofs.Limits.{tree-entries, entries_behind-below, texts_behind-total, name_texts_total-names_of}
use Rattle.new_table.proofs.Drafting.{slashes-split}
use Rattle.new_table.proofs.Holding.{Holds, holds-none, holds-entries, holds-all}
use Rattle.new_table.proofs.Fronts.{At, rest-is, entries-most, texts-most, shallow-at, at-before, at-start}

-- a measured list of paths, within the limits
pub record Fitting (paths : List ℕ) (count size : ℕ) : Type 0 where
  pub counted : count ≡ suc (entries_behind [] (paths_in paths))
  pub sized : size ≡ 12 * count + texts_behind [] (paths_in paths)
  pub shallow : list_all is_shallow_path (paths_in paths) ≡ true
  pub small : size ≤ 2 ^ 24

-- the files behind a place
abbrev pub left : List ℕ → List ℕ → List ℕ → ℕ → ℕ → List Wish
left paths sizes offsets i end = wishes (paths_in (drop end paths)) (drop i sizes) (drop i offsets)

-- the files behind `end`, from the i-th on, are written; `ends` is for the path before them
pub record Going (paths sizes offsets : List ℕ) (count size i end : ℕ) (path ends : List ℕ) (entry text : ℕ) (bytes : List ℕ) : Type 0 where
  pub place : At paths end path
  pub number : i + length (paths_in (drop end paths)) ≡ length (paths_in paths)
  pub long : length ends ≡ 65
  pub sized : text + length (texts_of (tree_from entry (names_of path) (left paths sizes offsets i end))) ≡ size
  pub holds : Holds bytes count entry text (tree_from entry (names_of path) (left paths sizes offsets i end))
  pub ended : (j : ℕ) → 0 < j → j ≤ slashes path → get_or ends j 0 ≡ entry + below j (names_of path) (left paths sizes offsets i end)

-- none
pub going-none : (paths sizes offsets : List ℕ) (count size i : ℕ) (path ends bytes : List ℕ) → Fitting paths count size → size ≤ length bytes → i ≡ length (paths_in paths) → At paths (length paths) path →
    length ends ≡ 65 → ((j : ℕ) → j < 65 → get_or ends j 0 ≡ count) → Going paths sizes offsets count size i (length paths) path ends count size bytes
unfolding paths_in wishes tree_from texts_of below
going-none paths sizes offsets count size i path ends bytes f room n a long each =
    let d : drop (length paths) paths ≡ [] = drop_all (length paths) paths (omega arith) in
    record {
      place = a;
      number = rw d (omega arith);
      long = long;
      sized = rw d (omega arith);
      holds = rw d (holds-none bytes count size (omega (arith, f.sized)) room);
      ended = λ j p q. rw d (each j (omega (arith, shallow-at paths (length paths) path a f.shallow)) ∙ omega arith);
    }

module _ (paths sizes offsets : List ℕ) (count size i end : ℕ) (path ends : List ℕ) (entry text : ℕ) (bytes : List ℕ) (g : Going paths sizes offsets count size i end path ends entry text bytes) where
  entry-going : entry + entries_behind path (paths_in (drop end paths)) ≡ count
  entry-going =
      omega (arith, (g.holds).numbers, length-tree_from entry (names_of path) (left paths sizes offsets i end), entries_behind-below path (paths_in (drop end paths)) (drop i sizes) (drop i offsets))

  text-going : text + texts_behind path (paths_in (drop end paths)) ≡ size
  text-going =
      omega (arith, g.sized, texts-tree_from entry (names_of path) (left paths sizes offsets i end), texts_behind-total path (paths_in (drop end paths)) (drop i sizes) (drop i offsets))

-- ---- one path more

tail-drop : (n : ℕ) (s : List ℕ) → tail (drop n s) ≡ drop (suc n) s
tail-drop zero [] = refl
tail-drop zero (x ∷ s) = refl
tail-drop (suc n) [] = refl
tail-drop (suc n) (x ∷ s) = tail-drop n s

path_entries-from : (ends : List ℕ) (next k n : ℕ) (names : List (List ℕ)) (w : Wish) (ws : List Wish) → k + length names ≡ next → n + length names ≡ length w.names →
    ((j : ℕ) → n < j → j < length w.names → get_or ends j 0 ≡ next + below j w.names ws) → path_entries ends n names w.offset w.size ≡ entries_from k n names w ws
unfolding path_entries entries_from
path_entries-from ends next k n [] w ws e l f = refl
path_entries-from ends next k n (name ∷ []) w ws e l f = refl
path_entries-from ends next k n (name ∷ inner ∷ names) w ws e l f =
    let h : get_or ends (suc n) 0 ≡ k + length (name ∷ inner ∷ names) + below (suc n) w.names ws = f (suc n) (omega arith) (omega arith) ∙ ap (λ (m : ℕ). m + below (suc n) w.names ws) (sym e) in
    rw (h, path_entries-from ends next (suc k) (suc n) (inner ∷ names) w ws (omega arith) (omega arith) (λ j a b. f j (omega arith) b)) refl

module _
    (paths sizes offsets : List ℕ) (count size i end : ℕ) (path ends : List ℕ) (entry text : ℕ) (bytes : List ℕ)
    (f : Fitting paths count size) (g : Going paths sizes offsets count size i end path ends entry text bytes) (some : 0 < i) where
  end-some : 0 < end
  end-some =
      ⊎_elim (λ (h : 0 < end). h)
      (λ (h : end ≤ 0).
      let z : end ≡ 0 = omega arith in
      let n : i + length (paths_in paths) ≡ length (paths_in paths) = rw z at g.number in
      absurd (omega arith)) (lt-or-le 0 end)

  module _ (end' : ℕ) (before : List ℕ) (e : end' ≡ end - suc (length path)) (b : IsPathBefore paths end' before) where
    place-next : At paths end' before
    place-next = at-before paths end path g.place end-some end' before e b

    rest-next : paths_in (drop end' paths) ≡ path ∷ paths_in (drop end paths)
    rest-next = rw e (rest-is paths end path g.place end-some)

    pub shallow-before : slashes before ≤ 64
    shallow-before = shallow-at paths end' before place-next f.shallow

    pub shallow-path : slashes path ≤ 64
    shallow-path = shallow-at paths end path g.place f.shallow

    entries-left : suc (slashes (own_part before path)) + entries_behind path (paths_in (drop end paths)) ≤ entries_behind [] (paths_in paths)
    unfolding entries_behind
    entries-left = rw rest-next at (entries-most paths end' before place-next)

    texts-left : suc (length (own_part before path)) + texts_behind path (paths_in (drop end paths)) ≤ texts_behind [] (paths_in paths)
    unfolding texts_behind
    texts-left = rw rest-next at (texts-most paths end' before place-next)

    entry-is : entry + entries_behind path (paths_in (drop end paths)) ≡ count
    entry-is = entry-going paths sizes offsets count size i end path ends entry text bytes g

    text-is : text + texts_behind path (paths_in (drop end paths)) ≡ size
    text-is = text-going paths sizes offsets count size i end path ends entry text bytes g

    pub going-room : (r : ℕ) → r ≡ shared_bytes before path → HasRoom bytes (12 * count) entry text (suc (slashes (drop r path))) (suc (length (drop r path)))
    going-room r s =
        rw s record {
          entries = omega (arith, entry-is, entries-left, f.counted);
          records = omega (arith, entry-is);
          past = omega (arith, text-is, texts-left, f.sized);
          within = omega (arith, (g.holds).fits);
          small = omega (arith, text-is, f.small);
        }

    pub entry-most : entry ≤ count
    entry-most = omega (arith, entry-is)

    module _ (i' : ℕ) (one : i' + 1 ≡ i) where
      abbrev w : Wish
      w = record { names = names_of path; offset = get_or offsets i' 0; size = get_or sizes i' 0 }

      abbrev ws : List Wish
      ws = left paths sizes offsets i end

      left-next : left paths sizes offsets i' end' ≡ w ∷ ws
      unfolding wishes
      left-next =
          let s : suc i' ≡ i = omega arith in
          rw (rest-next, get_or-drop i' offsets 0 0, get_or-drop i' sizes 0 0, add-zero i', tail-drop i' sizes, tail-drop i' offsets, s) refl

      is-common : common (names_of before) (names_of path) ≡ slashes (take (shared_bytes before path) path)
      is-common =
          omega (arith, added-bytes before path, common-less (names_of before) (names_of path) (names_of-named path), length-names_of path, slashes-split (shared_bytes before path) path)

      -- the entries that this path brings
      abbrev xs : ℕ → List Node
      xs entry' = entries_with entry' (names_of before) w ws

      written-is : (entry' : ℕ) → entry' + suc (slashes (own_part before path)) ≡ entry →
          path_entries ends (slashes (take (shared_bytes before path) path)) (names_of (own_part before path)) (get_or offsets i' 0) (get_or sizes i' 0) ≡ xs entry'
      written-is entry' h =
          let s : Shares before path (shared_bytes before path) = shares before path in
          let l : length (names_of (own_part before path)) ≡ suc (slashes (own_part before path)) = length-names_of (own_part before path) in
          let m : length (names_of path) ≡ suc (slashes path) = length-names_of path in
          rw (s.rest, is-common)
          (path_entries-from ends entry entry' (slashes (take (shared_bytes before path) path)) (names_of (own_part before path)) w ws (omega arith) (omega (arith, slashes-split (shared_bytes before path) path))
          (λ j p q. g.ended j (omega arith) (omega arith)))

      length-xs : (entry' : ℕ) → length (xs entry') ≡ suc (slashes (own_part before path))
      length-xs entry' = length-entries_with entry' (names_of before) w ws ∙ added-bytes before path

      texts-xs : (entry' : ℕ) → length (texts_of (xs entry')) ≡ suc (length (own_part before path))
      texts-xs entry' =
          let s : Shares before path (shared_bytes before path) = shares before path in
          ap length (texts_of-entries_from entry' (common (names_of before) (names_of path)) (drop (common (names_of before) (names_of path)) (names_of path)) w ws)
          ∙ length-name_texts (drop (common (names_of before) (names_of path)) (names_of path)) ∙ ap name_texts_total s.rest ∙ name_texts_total-names_of (own_part before path)

      tree-next : (entry' : ℕ) → entry' + suc (slashes (own_part before path)) ≡ entry → tree_from entry' (names_of before) (w ∷ ws) ≡ xs entry' ++ tree_from entry (names_of path) ws
      unfolding tree_from
      tree-next entry' h =
          let k : entry' + added (names_of before) (names_of path) ≡ entry = omega (arith, added-bytes before path) in
          rw k refl

      texts-next : (entry' : ℕ) → length (texts_of (xs entry' ++ tree_from entry (names_of path) ws)) ≡ suc (length (own_part before path)) + length (texts_of (tree_from entry (names_of path) ws))
      texts-next entry' =
          omega (arith, ap length (texts-append (xs entry') (tree_from entry (names_of path) ws)), length-append (texts_of (xs entry')) (texts_of (tree_from entry (names_of path) ws)), texts-xs entry')

      pub going-more : (r entry' text' : ℕ) (ends' bytes' : List ℕ) → r ≡ shared_bytes before path → entry' + suc (slashes (drop r path)) ≡ entry → text' + suc (length path - r) ≡ text →
          bytes' ≡ entries_put (12 * count) entry' text' (path_entries ends (slashes (take r path)) (names_of (drop r path)) (get_or offsets i' 0) (get_or sizes i' 0)) bytes →
          length ends' ≡ 65 → ((j : ℕ) → slashes (take r path) + 1 ≤ j → j ≤ slashes before → get_or ends' j 0 ≡ entry') →
          ((j : ℕ) → j < slashes (take r path) + 1 → get_or ends' j 0 ≡ get_or ends j 0) →
          Going paths sizes offsets count size i' end' before ends' entry' text' bytes'
      going-more r entry' text' ends' bytes' s k t v long closed kept =
          let k₁ : entry' + suc (slashes (own_part before path)) ≡ entry = rw s at k in
          let o : length (own_part before path) ≡ length path - shared_bytes before path = length-drop (shared_bytes before path) path in
          let t₁ : text' + suc (length (own_part before path)) ≡ text = rw o (rw s at t) in
          let v₁ : bytes' ≡ entries_put (12 * count) entry' text' (xs entry') bytes = rw (← written-is entry' k₁) (rw s at v) in
          let c : slashes (take r path) ≡ common (names_of before) (names_of path) = rw s (sym is-common) in
          let p : 12 * count ≤ text' = omega (arith, text-is, texts-left, f.sized) in
          record {
            place = place-next;
            number = rw rest-next (omega (arith, g.number));
            long = long;
            sized = rw (left-next, tree-next entry' k₁, texts-next entry') (omega (arith, g.sized));
            holds = rw (left-next, tree-next entry' k₁, v₁)
                (holds-entries bytes count entry' entry text' text (xs entry') (tree_from entry (names_of path) ws) g.holds (omega (arith, length-xs entry')) (omega (arith, texts-xs entry')) p);
            ended = λ j a q. rw left-next
                (⊎_elim
                (λ (h : common (names_of before) (names_of path) < j). closed j (omega arith) q ∙ omega (arith, below-out j (names_of before) w ws h))
                (λ (h : j ≤ common (names_of before) (names_of path)).
                let m : j ≤ slashes path = omega (arith, slashes-split r path) in
                kept j (omega arith) ∙ g.ended j a m ∙ omega (arith, below-in j (names_of before) w ws h, added-bytes before path))
                (lt-or-le (common (names_of before) (names_of path)) j));
          }

-- ---- all of them

-- with no file before, as with one in the root
tree_from-first : (k : ℕ) (ws : List Wish) → tree_from k [] ws ≡ tree_from k ([] ∷ []) ws
unfolding tree_from common
tree_from-first k [] = refl
tree_from-first k (v ∷ vs) = refl

pub going-all : (paths sizes offsets : List ℕ) (count size i end : ℕ) (path ends : List ℕ) (entry text : ℕ) (bytes : List ℕ) → Fitting paths count size → Going paths sizes offsets count size i end path ends entry text bytes → i ≡ 0 →
    take size (put bytes 0 (node_bytes 0 0 (directory [] count))) ≡ draft_bytes (tree_of paths sizes offsets)
unfolding tree
going-all paths sizes offsets count size i end path ends entry text bytes f g z =
    let e : end ≡ 0 = at-start paths end path g.place (omega (arith, g.number)) in
    let p : path ≡ [] = nil_from_length path (((g.place).before).first e) in
    let n : entry + entries_behind [] (paths_in paths) ≡ count = rw (p, e) at (entry-going paths sizes offsets count size i end path ends entry text bytes g) in
    let t : text + texts_behind [] (paths_in paths) ≡ size = rw (p, e) at (text-going paths sizes offsets count size i end path ends entry text bytes g) in
    let one : entry ≡ 1 = omega (arith, f.counted) in
    let start : text ≡ 12 * count = omega (arith, f.sized) in
    let ws : List Wish = wishes (paths_in paths) sizes offsets in
    let h : Holds bytes count 1 (12 * count) (tree_from 1 ([] ∷ []) ws) = rw (p, e, z, one, start) at g.holds in
    let s : text + length (texts_of (tree_from 1 ([] ∷ []) ws)) ≡ size = rw (p, e, z, one) at g.sized in
    let c : count ≡ suc (below 0 [] ws) = omega (arith, f.counted, length-tree ws, tree-entries (paths_in paths) sizes offsets) in
    holds-all bytes count size (directory [] count) (tree_from 1 ([] ∷ []) ws) h (omega arith) ∙ rw (c, tree_from-first 1 ws) refl
