-- A text in front of a buffer, if the buffer has room for it; and the text of a disc. Assumes nothing: these are definitions.
use Rattle.std.specs.Prelude.{Option, Some, None, Result, Ok, Err, ℕ, List, ◌++◌, length, ◌≡◌, if◌then◌else◌, nat_lt}
use Rattle.endian.specs.Bytes.{put}
use Rattle.refusal.specs.declared.Refusal.{Refusal}
use Rattle.refusal.specs.declared.Refusal.TheVariants.{LimitOrMemory}
use Rattle.space.specs.Used.{total_size}
use Rattle.opened.specs.Opening.{Disc, free_of}
use Rattle.listing.specs.Lines.{totals_line, lines_below, lines_of_regions}

-- how long it is, if there is room for it
abbrev pub size_or : ℕ → List ℕ → Option ℕ
size_or room bs = if nat_lt room (length bs) then None else Some (length bs)

-- how long it is, or 0
abbrev pub size_or_zero : ℕ → List ℕ → ℕ
size_or_zero room bs = if nat_lt room (length bs) then 0 else length bs

-- how long it is, or 9
abbrev pub listed_or : ℕ → List ℕ → Result ℕ Refusal
listed_or room bs = if nat_lt room (length bs) then Err LimitOrMemory else Ok (length bs)

-- the buffer with the text in front, or as it was
abbrev pub laid_or : List ℕ → List ℕ → List ℕ
laid_or text bs = if nat_lt (length text) (length bs) then text else put text 0 bs

-- bs laid in front of a buffer, if there is room for it: the length that is given, and the buffer afterwards
pub record IsLaid (text text' : List ℕ) (size : Option ℕ) (bs : List ℕ) : Type 0 where
  pub size_is : size ≡ size_or (length text) bs
  pub text_after : text' ≡ laid_or text bs

-- the lines of a disc
unfoldable pub disc_text : Disc → List ℕ
disc_text d = totals_line d.end (total_size d.used) ++ (lines_below d.nodes (length d.nodes) ++ lines_of_regions (free_of d))
