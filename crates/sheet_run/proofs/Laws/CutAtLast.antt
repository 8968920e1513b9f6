-- A path is its parent's path, a `/`, and a name without one; or it is a name of the root. Assumes nothing.
use Rattle.std.specs.Prelude.{ℕ, suc, ◌+◌, ◌-◌, ◌<◌, ◌≡◌, Ok, refl, Bool, true, false, cond, ◌||◌, List, [], ◌∷◌, ◌++◌, length, take, get_or}
use Rattle.std.specs.List.{list_any}
use Rattle.std.proofs.Common.{sym, ap, ◌∙◌, arith, length-append, take_at}
use Rattle.std.proofs.lemmas.List.Folds.{list_any-append}
use borrow.Author.Tests.{lt-ltb, eqb-true}
use Rattle.refusal.specs.Laws.Tests.{or_right}
use Rattle.tree.specs.Table.{Node, empty_root}
use Rattle.tree.specs.Lookup.{is_directory, components, components_of, follow, lookup}
use Rattle.tree.specs.Units.{units}
use Rattle.sheet_run.specs.Lines.{is_slash, name_in, parent_path}

-- ---- without a `/`: a name of the root

-- LAW
pub name_in-whole : (path : List ℕ) → list_any is_slash path ≡ false → name_in path ≡ path
unfolding name_in
name_in-whole [] none = refl
name_in-whole (b ∷ path) none = rw none refl

pub parent_path-none : (path : List ℕ) → list_any is_slash path ≡ false → parent_path path ≡ []
parent_path-none path none =
    let z : length path - length (name_in path) - 1 ≡ 0 = omega (arith, ap length (name_in-whole path none)) in
    ap (λ (n : ℕ). take n path) z

-- and its parent is the root
pub lookup-root : (nodes : List Node) → 0 < length nodes → is_directory (get_or nodes 0 empty_root) ≡ true → lookup nodes 0 [] ≡ Ok 0
unfolding lookup follow components components_of units
lookup-root nodes some root = rw (lt-ltb 0 (length nodes) some, root) refl

or-here : (t : Bool) → (t || false) ≡ true → t ≡ true
or-here true e = refl
or-here false e = e

-- ---- with a `/`: a path of a parent, a `/`, and a name without one

-- LAW
pub name_in-plain : (path : List ℕ) → list_any is_slash (name_in path) ≡ false
unfolding name_in
name_in-plain [] = refl
name_in-plain (b ∷ path) = go (list_any is_slash (b ∷ path)) refl (name_in-plain path)
  where
    go : (t : Bool) → list_any is_slash (b ∷ path) ≡ t → list_any is_slash (name_in path) ≡ false → list_any is_slash (cond t (name_in path) (b ∷ path)) ≡ false
    go true some ih = ih
    go false none ih = none

-- a `/` in front of a name without one
slash-some : (front name : List ℕ) → list_any is_slash (front ++ (0x2F ∷ name)) ≡ true
slash-some front name = rw list_any-append (or_right (list_any is_slash front) true refl)

name_in-behind : (front name : List ℕ) → list_any is_slash name ≡ false → name_in (front ++ (0x2F ∷ name)) ≡ name
unfolding name_in
name_in-behind [] name plain = name_in-whole name plain
name_in-behind (b ∷ front) name plain =
    rw (or_right (is_slash b) _ (slash-some front name)) (name_in-behind front name plain)

-- LAW: wherever a path is so put together, it is cut there
pub cut-there : (front name : List ℕ) → list_any is_slash name ≡ false → (parent_path (front ++ (0x2F ∷ name)) ≡ front) × (name_in (front ++ (0x2F ∷ name)) ≡ name)
cut-there front name plain =
    let e : name_in (front ++ (0x2F ∷ name)) ≡ name = name_in-behind front name plain in
    (take_at front (0x2F ∷ name) _ (omega (arith, ap length e, length-append front (0x2F ∷ name))), e)

-- what is in front of the last `/`
front-of : (path : List ℕ) → list_any is_slash path ≡ true → (front : List ℕ) × (path ≡ front ++ (0x2F ∷ name_in path))
unfolding name_in
front-of [] some = cc
front-of (b ∷ path) some = rw some (go (list_any is_slash path) refl (front-of path))
  where
    go : (t : Bool) → list_any is_slash path ≡ t → (t ≡ true → (front : List ℕ) × (path ≡ front ++ (0x2F ∷ name_in path))) → (front : List ℕ) × (b ∷ path ≡ front ++ (0x2F ∷ name_in path))
    go true later ih = let f = ih refl in (b ∷ f.0, ap (λ (l : List ℕ). b ∷ l) f.1)
    go false none ih =
        let here : b ≡ 0x2F = eqb-true b 0x2F (or-here (is_slash b) (rw none at some)) in
        ([], rw (name_in-whole path none, here) refl)

-- LAW: and each path with a `/` is
pub cut-at-last : (path : List ℕ) → list_any is_slash path ≡ true → path ≡ parent_path path ++ (0x2F ∷ name_in path)
cut-at-last path some =
    let f = front-of path some in
    let n : length path ≡ length f.0 + suc (length (name_in path)) = ap length f.1 ∙ length-append f.0 (0x2F ∷ name_in path) in
    let p : parent_path path ≡ f.0 =
    ap (λ (l : List ℕ). take (length path - length (name_in path) - 1) l) f.1 ∙ take_at f.0 (0x2F ∷ name_in path) _ (omega arith) in
    f.1 ∙ ap (λ (l : List ℕ). l ++ (0x2F ∷ name_in path)) (sym p)

-- ---- examples: `a/b/c`, `/x`, `a//x`; `\` does not cut, nor as the second byte of a character

abbrev Cuts : List ℕ → List ℕ → List ℕ → Type 0
Cuts path parent name = (parent_path path ≡ parent) × (name_in path ≡ name)

nested : Cuts (0x61 ∷ 0x2F ∷ 0x62 ∷ 0x2F ∷ 0x63 ∷ []) (0x61 ∷ 0x2F ∷ 0x62 ∷ []) (0x63 ∷ [])
unfolding name_in
nested = (refl, refl)

leading : Cuts (0x2F ∷ 0x78 ∷ []) [] (0x78 ∷ [])
unfolding name_in
leading = (refl, refl)

doubled : Cuts (0x61 ∷ 0x2F ∷ 0x2F ∷ 0x78 ∷ []) (0x61 ∷ 0x2F ∷ []) (0x78 ∷ [])
unfolding name_in
doubled = (refl, refl)

trailing : Cuts (0x61 ∷ 0x2F ∷ []) (0x61 ∷ []) []
unfolding name_in
trailing = (refl, refl)

backslash : Cuts (0x61 ∷ 0x5C ∷ 0x62 ∷ []) [] (0x61 ∷ 0x5C ∷ 0x62 ∷ [])
unfolding name_in
backslash = (refl, refl)

paired : Cuts (0x83 ∷ 0x5C ∷ []) [] (0x83 ∷ 0x5C ∷ [])
unfolding name_in
paired = (refl, refl)

-- `/` cuts behind any byte
behind-lead : Cuts (0x83 ∷ 0x2F ∷ 0x71 ∷ []) (0x83 ∷ []) (0x71 ∷ [])
unfolding name_in
behind-lead = (refl, refl)
