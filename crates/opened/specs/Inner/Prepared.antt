-- What the calls work on once the image is open: its used regions, in order, in the working words. Assumes nothing: these are definitions.
use Rattle.std.specs.Prelude.{Result, Ok, Err}
use Rattle.refusal.specs.Refusal.{Verdict}
use Rattle.refusal.specs.declared.Refusal.{Refusal}
use Rattle.std.specs.Prelude.{ℕ, zero, suc, ◌+◌, ◌-◌, ◌≤◌, ◌≡◌, true, List, [], ◌∷◌, ◌++◌, length}
use Rattle.endian.specs.Bytes.{be32, AllBytes}
use Rattle.refusal.specs.Refusal.{first}
use Rattle.header.specs.Verdicts.{header_verdict, bounds_verdict, fst_offset, fst_size, disc_end}
use Rattle.header.specs.Laws.FieldTests.{GoodHeader, Bounded}
use Rattle.tree.specs.Table.{node_with, kind, offset_or_parent, size_or_next, count, check}
use Rattle.tree.specs.Inner.Accepted.{IsAccepted}
use Rattle.space.specs.declared.region.DiscRegion.{DiscRegion}
use Rattle.space.specs.Used.{nonempty_regions, used_regions}
use Rattle.space.specs.Layout.{are_disjoint_below}
use Rattle.space.specs.Free.{free_regions}
use Rattle.space.specs.Inner.Sort.{regions_in, SameSums}
use Rattle.space.specs.Inner.Words.{IsSortedDisjoint}
use Rattle.executable.specs.Program.{program_of, program_verdict}
use Rattle.opened.specs.Opening.{table_of, region_of, opening, used_in, free_space_of}

-- the tests before 24 and 14
abbrev pub verdict_before24 : List ℕ → ℕ → Verdict
verdict_before24 image words = first (header_verdict image) (first (bounds_verdict image) (check (table_of image) words))

-- the region of entry k, whatever its name
abbrev pub entry_region : List ℕ → ℕ → DiscRegion
entry_region tab k = region_of (node_with (kind tab k) [] (offset_or_parent tab k) (size_or_next tab k))

-- those of n entries from k on
unfoldable pub regions_from : List ℕ → ℕ → ℕ → List DiscRegion
regions_from tab k zero = []
regions_from tab k (suc n) = entry_region tab k ∷ regions_from tab (suc k) n

-- entry k's region stands after m others, unless it is empty
pub record AddedEntry (tab : List ℕ) (k : ℕ) (w w' : List ℕ) (m r : ℕ) : Type 0 where
  pub list : regions_in w' 0 r ≡ regions_in w 0 m ++ nonempty_regions (entry_region tab k ∷ [])
  pub bound : r ≤ m + 1

-- the regions of the entries from k on, those before k', stand after m others
pub record CollectedTo (tab : List ℕ) (k m : ℕ) (w w' : List ℕ) (k' m' : ℕ) : Type 0 where
  pub list : regions_in w' 0 m' ≡ regions_in w 0 m ++ nonempty_regions (regions_from tab k (k' - k))
  pub from : k ≤ k'
  pub bound : m' ≤ m + (k' - k)

-- the used regions of a table of n entries that ends at t, and of a program: its place among them is free
pub record CollectedUsed (tab : List ℕ) (n t : ℕ) (program : DiscRegion) (w : List ℕ) (m : ℕ) : Type 0 where
  pub turn : ℕ
  pub from : 1 ≤ turn
  pub to : turn ≤ n
  pub list : regions_in w 0 m ≡ used_regions t (regions_from tab 1 (turn - 1) ++ (program ∷ regions_from tab turn (n - turn)))
  pub bound : m ≤ n + 1

-- lists of regions that come to the same on a disc that ends at e
pub record SameUse (e : ℕ) (xs ys : List DiscRegion) : Type 0 where
  pub below : are_disjoint_below e xs ≡ are_disjoint_below e ys
  pub free : free_regions e xs ≡ free_regions e ys
  pub sums : SameSums xs ys

-- the used regions of the image stand in the words, in order: m of them
pub record UsedWords (image w : List ℕ) (m : ℕ) : Type 0 where
  pub sorted : IsSortedDisjoint w m (disc_end image)
  pub free : free_regions (disc_end image) (regions_in w 0 m) ≡ free_space_of image
  pub sums : SameSums (regions_in w 0 m) (used_in image)

-- ---- an open image

-- what the tests before 24 tell
pub record IsReadable (image : List ℕ) (words : ℕ) : Type 0 where
  pub header : GoodHeader image
  pub bounds : Bounded image
  pub size : length (table_of image) ≡ fst_size image
  pub root : 12 ≤ fst_size image
  pub table : IsAccepted (table_of image) words
  pub next : be32 image (fst_offset image + 8) ≡ count (table_of image)

-- what opening tells, where so many working words are lent
pub record IsOpenImage (image : List ℕ) (words : ℕ) : Type 0 where
  pub bytes : AllBytes image
  pub passed : opening image words ≡ Ok tt
  pub reads : IsReadable image words
  pub program : program_verdict (program_of image) ≡ Ok tt
  pub layout : are_disjoint_below (disc_end image) (used_in image) ≡ true

-- the image is open, with some number of words
pub record OpensImage (image : List ℕ) : Type 0 where
  pub words : ℕ
  pub known : IsOpenImage image words

-- it is open with these words, which hold the m used regions now
pub record IsOpen (image w : List ℕ) (m : ℕ) : Type 0 where
  pub known : IsOpenImage image (length w)
  pub used : UsedWords image w m

-- by the cases of the answer: the image is open, or opening refused it
abbrev pub Prepares : List ℕ → List ℕ → Result ℕ Refusal → Type 0
Prepares image w (Ok m) = IsOpen image w m
Prepares image w (Err c) = opening image (length w) ≡ Err c
