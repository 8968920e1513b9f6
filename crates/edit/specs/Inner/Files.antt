-- A file and its place, as the edits of a place ask for them. Assumes nothing: these are definitions.
use Rattle.std.specs.Prelude.{Result, Ok, Err, ℕ, ◌<◌, ◌≡◌, false, min, List, length, slice_index_or}
use Rattle.refusal.specs.declared.Refusal.{Refusal}
use Rattle.refusal.specs.declared.Refusal.TheVariants.{ExpectedFile}
use Rattle.tree.specs.Table.{Node, empty_root}
use Rattle.tree.specs.Lookup.{is_directory}
use Rattle.tree.specs.declared.Entry.{Entry}
use Rattle.tree.specs.declared.Entry.TheVariants as entry
use Rattle.space.specs.declared.region.DiscRegion.{DiscRegion}
use Rattle.opened.specs.Opening.{region_of}
use Rattle.opened.specs.Inner.Disc.{Opened, Means}
use Rattle.edit.specs.declared.decision.Writing.{Writing}
use Rattle.edit.specs.declared.file.File.{File}

pub record IsFile (nodes : List Node) (k : ℕ) : Type 0 where
  pub inside : k < length nodes
  pub kind : is_directory (slice_index_or nodes k empty_root) ≡ false

-- entry k, where it is a file
abbrev pub file_with_number : List Node → ℕ → File
file_with_number nodes k = record { number = k; place = region_of (slice_index_or nodes k empty_root) }

abbrev pub file_from_entry : ℕ → Entry → Result File Refusal
file_from_entry k (entry.File f) = Ok (record { number = k; place = record { offset = f.offset; size = f.size } })
file_from_entry k (entry.Directory d) = Err ExpectedFile

-- a file of a disc that some image means
pub record IsFileOf (d : Opened) (f : File) : Type 0 where
  pub image : List ℕ
  pub means : Means image d
  pub is : IsFile d.disc.nodes f.number
  pub place : region_of (slice_index_or d.disc.nodes f.number empty_root) ≡ f.place

-- what a move writes besides the table: the smaller of both sizes is copied, and the old place is zeroed
abbrev pub relocation_of : DiscRegion → DiscRegion → Writing
relocation_of old new = record {
  old = old;
  place = new;
  kept = min old.size new.size;
  lost = record { offset = old.offset; size = old.size };
}
