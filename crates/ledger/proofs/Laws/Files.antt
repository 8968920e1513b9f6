-- The files of a tree as regions, in the order of the entries: what an entry put in and a place changed do to them.
-- Assumes nothing.
use Prim.Native.Nat.{ℕ, zero, suc, ◌<◌}
use Rattle.std.specs.Prelude.{◌≡◌, false, length, get_or, set}
use Rattle.std.proofs.Math.Path.{refl}
use Rattle.std.proofs.Common.{ap, true≢false, arith}
use mathlib.Core.List.{List, [], ◌∷◌, map}
use Rattle.tree.specs.Table.{Node, file, directory, empty_root}
use Rattle.tree.specs.Lookup.{is_directory, next_of}
use Rattle.tree.specs.Insert.{node_after, splice, insert_at, node_at_place, set_place}
use Rattle.space.specs.declared.region.DiscRegion.{DiscRegion}
use Rattle.space.specs.Used.{nonempty_regions, used_regions, no_region}
use Rattle.executable.specs.Program.{program_behind}
use Rattle.opened.specs.Opening.{nodes_in, region_of}
use Rattle.ledger.specs.Inner.Files.{pick, files_of, file_names}
use Rattle.ledger.specs.Ledger.{node_without_place, files_before, put_in}

nonempty_regions-files : (xs : List Node) → nonempty_regions (map region_of xs) ≡ nonempty_regions (files_of xs)
unfolding nonempty_regions pick
nonempty_regions-files [] = refl
nonempty_regions-files (file nm offset size ∷ xs) = rw (nonempty_regions-files xs)
nonempty_regions-files (directory nm next ∷ xs) = nonempty_regions-files xs

-- LAW: the used regions of a tree are those of its files, whatever else is used
pub used-files : (t : ℕ) (p : DiscRegion) (xs : List Node) → used_regions t (p ∷ map region_of xs) ≡ used_regions t (p ∷ files_of xs)
unfolding nonempty_regions
used-files t p xs = rw (nonempty_regions-files xs)

-- the files of an image as regions, and what lies behind its table: the program, which is number 0, and the files
abbrev pub files_in : List ℕ → List DiscRegion
files_in image = files_of (nodes_in image)

abbrev pub places_in : List ℕ → List DiscRegion
places_in image = program_behind image ∷ files_in image

-- ---- an entry put in

module _ {A : Type 0} (g : List ℕ → ℕ → ℕ → A) where
  pick-later : (xs : List Node) → pick g (map node_after xs) ≡ pick g xs
  unfolding pick
  pick-later [] = refl
  pick-later (file nm offset size ∷ xs) = rw (pick-later xs)
  pick-later (directory nm next ∷ xs) = pick-later xs

  splice-directory : (p : ℕ) (nm : List ℕ) (n k j : ℕ) (xs : List Node) → pick g (splice p (directory nm n) k j xs) ≡ pick g xs
  unfolding splice pick
  splice-directory p nm n k zero xs = pick-later xs
  splice-directory p nm n k (suc j) [] = refl
  splice-directory p nm n k (suc j) (file nm' offset size ∷ xs) = rw (splice-directory p nm n (suc k) j xs)
  splice-directory p nm n k (suc j) (directory nm' next ∷ xs) = splice-directory p nm n (suc k) j xs

  splice-file : (p : ℕ) (nm : List ℕ) (a n k j : ℕ) (xs : List Node) → pick g (splice p (file nm a n) k j xs) ≡ put_in (files_before j xs) (g nm a n) (pick g xs)
  unfolding splice pick files_before put_in
  splice-file p nm a n k zero xs = rw (pick-later xs)
  splice-file p nm a n k (suc j) [] = refl
  splice-file p nm a n k (suc j) (file nm' offset size ∷ xs) = rw (splice-file p nm a n (suc k) j xs)
  splice-file p nm a n k (suc j) (directory nm' next ∷ xs) = splice-file p nm a n (suc k) j xs

  pub insert-directory : (p : ℕ) (nm : List ℕ) (n : ℕ) (nodes : List Node) → pick g (insert_at p (directory nm n) nodes) ≡ pick g nodes
  unfolding insert_at
  insert-directory p nm n nodes = splice-directory p nm n 0 (next_of (get_or nodes p empty_root)) nodes

  pub insert-file : (p : ℕ) (nm : List ℕ) (a n : ℕ) (nodes : List Node) → pick g (insert_at p (file nm a n) nodes) ≡ put_in (files_before (next_of (get_or nodes p empty_root)) nodes) (g nm a n) (pick g nodes)
  unfolding insert_at
  insert-file p nm a n nodes = splice-file p nm a n 0 (next_of (get_or nodes p empty_root)) nodes

-- an empty file put in uses no byte
pub nonempty_regions-put-in : (j a : ℕ) (fs : List DiscRegion) → nonempty_regions (put_in j (record { offset = a; size = 0 }) fs) ≡ nonempty_regions fs
unfolding nonempty_regions put_in
nonempty_regions-put-in zero a fs = refl
nonempty_regions-put-in (suc j) a [] = refl
nonempty_regions-put-in (suc j) a (x ∷ fs) = rw (nonempty_regions-put-in j a fs)

pub used-put-in : (t j a : ℕ) (p : DiscRegion) (fs : List DiscRegion) → used_regions t (p ∷ put_in j (record { offset = a; size = 0 }) fs) ≡ used_regions t (p ∷ fs)
unfolding nonempty_regions
used-put-in t j a p fs = rw (nonempty_regions-put-in j a fs)

-- ---- a file's place

files-set : (o n k : ℕ) (xs : List Node) → is_directory (get_or xs k empty_root) ≡ false →
    files_of (set xs k (node_at_place o n (get_or xs k empty_root))) ≡ set (files_of xs) (files_before k xs) (record { offset = o; size = n })
unfolding pick files_before
files-set o n k [] e = absurd (true≢false e)
files-set o n zero (file nm offset size ∷ xs) e = refl
files-set o n zero (directory nm next ∷ xs) e = absurd (true≢false e)
files-set o n (suc k) (file nm offset size ∷ xs) e = rw (files-set o n k xs e)
files-set o n (suc k) (directory nm next ∷ xs) e = files-set o n k xs e

pub files-set_place : (o n k : ℕ) (nodes : List Node) → is_directory (get_or nodes k empty_root) ≡ false →
    files_of (set_place k o n nodes) ≡ set (files_of nodes) (files_before k nodes) (record { offset = o; size = n })
unfolding set_place
files-set_place o n k nodes e = files-set o n k nodes e

-- file k's region stands at its number among the files
pub files-at : (k : ℕ) (xs : List Node) → is_directory (get_or xs k empty_root) ≡ false → get_or (files_of xs) (files_before k xs) no_region ≡ region_of (get_or xs k empty_root)
unfolding pick files_before
files-at k [] e = absurd (true≢false e)
files-at zero (file nm offset size ∷ xs) e = refl
files-at zero (directory nm next ∷ xs) e = absurd (true≢false e)
files-at (suc k) (file nm offset size ∷ xs) e = files-at k xs e
files-at (suc k) (directory nm next ∷ xs) e = files-at k xs e

pub files-count : (k : ℕ) (xs : List Node) → is_directory (get_or xs k empty_root) ≡ false → files_before k xs < length (files_of xs)
unfolding pick files_before
files-count k [] e = absurd (true≢false e)
files-count zero (file nm offset size ∷ xs) e = omega arith
files-count zero (directory nm next ∷ xs) e = absurd (true≢false e)
files-count (suc k) (file nm offset size ∷ xs) e = omega (arith, files-count k xs e)
files-count (suc k) (directory nm next ∷ xs) e = files-count k xs e

-- the entry of the f-th file
pub entry_of : (f : ℕ) (xs : List Node) → f < length (files_of xs) →
    (k : ℕ) × (files_before k xs ≡ f) × (get_or xs k empty_root ≡ file (get_or (file_names xs) f []) (get_or (files_of xs) f no_region).offset (get_or (files_of xs) f no_region).size)
unfolding pick files_before
entry_of f [] h = absurd (omega arith)
entry_of zero (file nm offset size ∷ xs) h = (0, refl, refl)
entry_of (suc f) (file nm offset size ∷ xs) h = let e = entry_of f xs (omega arith) in (suc e.0, ap suc e.1, e.2)
entry_of f (directory nm next ∷ xs) h = let e = entry_of f xs h in (suc e.0, e.1, e.2)

-- ---- names

pub names_at : (k : ℕ) (xs : List Node) (nm : List ℕ) (a n : ℕ) → get_or xs k empty_root ≡ file nm a n → (files_before k xs < length (file_names xs)) × (get_or (file_names xs) (files_before k xs) [] ≡ nm)
unfolding pick files_before
names_at k [] nm a n e = let z : ◌≡◌ {A = ℕ} 0 1 = cc in absurd (omega arith)
names_at zero (file nm' offset size ∷ xs) nm a n e = (omega arith, cc)
names_at zero (directory nm' next ∷ xs) nm a n e = let z : ◌≡◌ {A = ℕ} 0 1 = cc in absurd (omega arith)
names_at (suc k) (file nm' offset size ∷ xs) nm a n e = let t = names_at k xs nm a n e in (omega (arith, t.0), t.1)
names_at (suc k) (directory nm' next ∷ xs) nm a n e = names_at k xs nm a n e

names-set : (o n k : ℕ) (xs : List Node) → file_names (set xs k (node_at_place o n (get_or xs k empty_root))) ≡ file_names xs
unfolding pick
names-set o n k [] = refl
names-set o n zero (file nm offset size ∷ xs) = refl
names-set o n zero (directory nm next ∷ xs) = refl
names-set o n (suc k) (file nm offset size ∷ xs) = rw (names-set o n k xs)
names-set o n (suc k) (directory nm next ∷ xs) = names-set o n k xs

pub names-set_place : (o n k : ℕ) (nodes : List Node) → file_names (set_place k o n nodes) ≡ file_names nodes
unfolding set_place
names-set_place o n k nodes = names-set o n k nodes

pub names-node_without_place : (xs : List Node) → file_names (map node_without_place xs) ≡ file_names xs
unfolding pick
names-node_without_place [] = refl
names-node_without_place (file nm offset size ∷ xs) = rw (names-node_without_place xs)
names-node_without_place (directory nm next ∷ xs) = names-node_without_place xs
