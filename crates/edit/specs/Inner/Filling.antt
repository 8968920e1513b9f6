-- What a fill decides on before it writes: what its resize decides on, with the clip. Assumes nothing: these are definitions.
use Rattle.std.specs.Prelude.{ℕ, ◌+◌, ◌<◌, ◌≤◌, ◌≡◌, ◌⊎◌, List, length}
use Rattle.endian.specs.Bytes.{AllBytes}
use Rattle.header.specs.Verdicts.{fst_offset, table_end}
use Rattle.edit.specs.declared.decision.Writing.{Writing}
use Rattle.edit.specs.declared.decision.Decision.{Decision}
use Rattle.edit.specs.declared.decision.Decision.TheVariants as decision
use Rattle.edit.specs.Inner.Decision.{Into}
use Rattle.edit.specs.declared.file.File.{File}

-- P of each clip of n bytes, of which the number alone is known
abbrev pub EachClip : ℕ → (List ℕ → Type 0) → Type 0
EachClip n P = (clip : List ℕ) → AllBytes clip → length clip ≡ n → P clip

-- nothing is copied
abbrev pub uncopied_writing : Writing → Writing
uncopied_writing w = record { old = w.old; place = w.place; kept = 0; lost = w.lost }

-- a resize's decision with the clip; where nothing is to be resized it goes where the file lies
abbrev pub with_clip : Decision → File → Decision
with_clip decision.Nothing f = decision.Clip f.number f.place.offset
with_clip (decision.Clip n x) f = decision.Clip f.number f.place.offset
with_clip (decision.Write n size w) f = decision.Write f.number size (uncopied_writing w)

-- a clip of n bytes may be written first: its place lies behind both tables and apart from what is zeroed, and it covers what would be copied;
-- nothing is asked where it has no byte
pub record IsClear (image : List ℕ) (size : ℕ) (w : Writing) (n : ℕ) : Type 0 where
  pub into : Into (length image) w.place.offset n
  pub old-table : 0 < n → table_end image ≤ w.place.offset
  pub new-table : 0 < n → fst_offset image + size ≤ w.place.offset
  pub covers : w.kept ≤ n
  pub apart : 0 < n → 0 < w.lost.size → (w.place.offset + n ≤ w.lost.offset) ⊎ (w.lost.offset + w.lost.size ≤ w.place.offset)
