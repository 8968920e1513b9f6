-- What holds of every new master: its tree is the wish list, as a reader of the table sees it; 21 is due exactly where no place is left;
-- the image opens, shows what was wished for, and any list of edits may follow (RULES, A new master). Assumes nothing: these are
-- definitions.
use Rattle.std.specs.Prelude.{Ok, Err, ℕ, zero, suc, ◌^◌, ◌<◌, ◌≤◌, ◌≡◌, true, false, List, [], ◌∷◌, ◌++◌, length, nat_eq, slice_index, slice_index_or}
use mathlib.Core.List.{tail}
use Rattle.std.specs.List.{starts_with}
use Rattle.endian.specs.Bytes.{AllBytes}
use Rattle.refusal.specs.declared.Refusal.TheVariants.{NotEnoughSpace}
use Rattle.tree.specs.Table.{Node, file, directory, name_of, empty_root, parent_of}
use Rattle.tree.specs.Lookup.{is_directory, next_of, lookup}
use Rattle.opened.specs.Opening.{nodes_in, opening}
use Rattle.header.specs.Header.{header_of}
use Rattle.header.specs.Verdicts.{disc_end, table_end}
use Rattle.ledger.specs.Ledger.{first_ledger, ledger_after}
use Rattle.ledger.specs.Runs.{Call, image_after_all, reports_of, AllWithin}
use Rattle.ledger.specs.Theorem.{LedgerHolds}
use Rattle.listing.specs.Lines.{path_of}
use Rattle.wish_list.specs.Paths.{paths_in}
use Rattle.placement.specs.Placement.{offsets_of}
use Rattle.placement.specs.Places.{IsPlaced}
use Rattle.master.specs.Master.{Master, first_free, nodes_of_master, header_of_master, before_place, master_verdict, written_master}

-- numbers of 32 bits, and bytes
pub record IsPassable (m : Master) : Type 0 where
  pub game_code : length m.game_code ≡ 4
  pub code_bytes : AllBytes m.game_code
  pub end : m.disc_end < 2 ^ 32
  pub sizes : (i : ℕ) → slice_index m.sizes i < 2 ^ 32

-- a wish list that is accepted in some buffer
pub record IsGranted (m : Master) (room words bytes : ℕ) : Type 0 where
  pub passable : IsPassable m
  pub granted : master_verdict m room words bytes ≡ Ok tt

-- ---- the tree, as a reader of the table sees it

-- a file, by its path from the root and its size
pub record FileSeen : Type 0 where
  pub path : List ℕ
  pub size : ℕ

abbrev pub file_seen : List Node → ℕ → Node → List FileSeen
file_seen nodes k (file nm offset size) = record { path = path_of nodes k; size = size } ∷ []
file_seen nodes k (directory nm next) = []

-- the files among n entries from k on
unfoldable pub files_from : List Node → ℕ → ℕ → List FileSeen
files_from nodes k zero = []
files_from nodes k (suc n) = file_seen nodes k (slice_index_or nodes k empty_root) ++ files_from nodes (suc k) n

-- of a tree, in table order
abbrev pub files_in : List Node → List FileSeen
files_in nodes = files_from nodes 0 (length nodes)

-- the wish list: each path below the root, with its size
unfoldable pub files_wished : List (List ℕ) → List ℕ → List FileSeen
files_wished [] sizes = []
files_wished (path ∷ paths) sizes = record { path = 0x2F ∷ path; size = slice_index sizes 0 } ∷ files_wished paths (tail sizes)

-- file f is the first below directory d, and nothing but directories on its path stands between them
pub record IsFirstBelow (nodes : List Node) (d f : ℕ) : Type 0 where
  pub behind : d < f
  pub inside : f < next_of (slice_index_or nodes d empty_root)
  pub file : is_directory (slice_index_or nodes f empty_root) ≡ false
  pub between : (j : ℕ) → d ≤ j → j < f →
      (is_directory (slice_index_or nodes j empty_root) ≡ true) × (starts_with nat_eq (path_of nodes f) (path_of nodes j) ≡ true)
  -- no file before the directory has a path through it
  pub before : (j : ℕ) → j < d → is_directory (slice_index_or nodes j empty_root) ≡ false →
      starts_with nat_eq (path_of nodes j) (path_of nodes d) ≡ false

pub record IsWishTree (paths : List (List ℕ)) (sizes : List ℕ) (nodes : List Node) : Type 0 where
  -- path and size of each file, in table order, are the wish list
  pub files : files_in nodes ≡ files_wished paths sizes
  -- each directory is there for a file, and stands just before its first one
  pub directories : (d : ℕ) → 0 < d → d < length nodes → is_directory (slice_index_or nodes d empty_root) ≡ true →
      (f : ℕ) × IsFirstBelow nodes d f
  -- entries of one directory differ in their names
  pub siblings : (j k : ℕ) → 0 < j → j < length nodes → 0 < k → k < length nodes → parent_of nodes j ≡ parent_of nodes k →
      name_of (slice_index_or nodes j empty_root) ≡ name_of (slice_index_or nodes k empty_root) → j ≡ k

-- the path leads from the root to a file with that offset and size
pub record IsFound (nodes : List Node) (path : List ℕ) (offset size : ℕ) : Type 0 where
  pub entry : ℕ
  pub found : lookup nodes 0 path ≡ Ok entry
  pub name : List ℕ
  pub lies : slice_index_or nodes entry empty_root ≡ file name offset size

-- THEOREM
abbrev pub TreeIsWishList : Type 0
TreeIsWishList =
    (m : Master) (room words bytes : ℕ) → IsGranted m room words bytes →
    IsWishTree (paths_in m.paths) m.sizes (nodes_of_master m)

-- THEOREM
abbrev pub EachIsFound : Type 0
EachIsFound =
    (m : Master) (room words bytes : ℕ) → IsGranted m room words bytes → (i : ℕ) → i < length m.sizes →
    IsFound (nodes_of_master m) (slice_index_or (paths_in m.paths) i [])
    (slice_index (offsets_of (first_free m) m.sizes) i) (slice_index m.sizes i)

-- ---- 21

-- THEOREM: where nothing before it is due, 21 is due if and only if the files can be placed nowhere: whatever their offsets are
abbrev pub RefusedExactly : Type 0
RefusedExactly =
    (m : Master) (room words bytes : ℕ) → before_place m room words bytes ≡ Ok tt →
    (master_verdict m room words bytes ≡ Err NotEnoughSpace →
    (offsets : List ℕ) → IsPlaced (first_free m) m.disc_end m.sizes offsets → ⊥) ×
    (((offsets : List ℕ) → IsPlaced (first_free m) m.disc_end m.sizes offsets → ⊥) →
    master_verdict m room words bytes ≡ Err NotEnoughSpace)

-- ---- the image

-- of the new image, in a buffer that held `image`
pub record IsOpenedAs (m : Master) (words : ℕ) (image new : List ℕ) : Type 0 where
  -- it opens with the words that were lent, and shows the tree of the wish list
  pub opens : opening new words ≡ Ok tt
  pub tree : nodes_in new ≡ nodes_of_master m
  -- its header is the one that was wished for, and its table ends where the files may begin
  pub header : header_of new ≡ header_of_master m
  pub end : disc_end new ≡ m.disc_end
  pub table : table_end new ≡ first_free m
  -- the files lie apart, on clusters, behind the table
  pub placed : IsPlaced (first_free m) m.disc_end m.sizes (offsets_of (first_free m) m.sizes)
  -- every byte of a file is 0, and those behind the disc end are the buffer's
  pub zero : (i : ℕ) → first_free m ≤ i → i < m.disc_end → slice_index new i ≡ 0
  pub behind : (i : ℕ) → m.disc_end ≤ i → slice_index new i ≡ slice_index image i
  pub length : length new ≡ length image

-- THEOREM
abbrev pub NewMasterOpens : Type 0
NewMasterOpens =
    (m : Master) (image : List ℕ) (words bytes : ℕ) → IsGranted m (length image) words bytes →
    IsOpenedAs m words image (written_master m image)

-- THEOREM: any list of edits on a new master, as on any image that opens
abbrev pub AnyListFollows : Type 0
AnyListFollows =
    (m : Master) (image : List ℕ) (words bytes w : ℕ) (calls : List Call) →
    AllBytes image → IsGranted m (length image) words bytes → words ≤ w → AllWithin w calls →
    let new : List ℕ = written_master m image in
    LedgerHolds w new (image_after_all calls new) (ledger_after (reports_of calls new) (first_ledger new))
