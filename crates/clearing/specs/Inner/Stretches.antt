-- The runs in a stretch of the used regions. Assumes nothing: these are definitions.
use Rattle.std.specs.Prelude.{ℕ, ◌+◌, ◌-◌, ◌*◌, ◌^◌, ◌<◌, ◌≤◌, ◌≡◌, true, List, length, if◌then◌else◌, ◌==◌}
use Rattle.space.specs.declared.region.DiscRegion.{DiscRegion}
use Rattle.space.specs.Used.{no_region, end_of}
use Rattle.space.specs.Inner.Sort.{regions_in}
use Rattle.space.specs.Inner.Words.{AllNonempty, is_in_sequence}
use Rattle.clearing.specs.declared.stretch.Run.{Run}
use Rattle.clearing.specs.declared.stretch.Marks.{Marks}
use Rattle.clearing.specs.declared.stretch.Stretch.{Stretch}
use Rattle.clearing.specs.Inner.Marks.{Search, runs_behind, AreMarks}

-- the words hold regions in order, none of them empty, that end by e
pub record AreHeld (w : List ℕ) (i m e : ℕ) : Type 0 where
  pub held : 2 * m ≤ length w
  pub first : i ≤ m
  pub small : e < 2 ^ 32
  pub full : AllNonempty (regions_in w i (m - i))
  pub order : is_in_sequence 0 e (regions_in w i (m - i)) ≡ true

abbrev pub AreInStretch : Stretch → Type 0
AreInStretch s = AreHeld s.words.now s.from s.to s.limit

-- runs of n bytes that end by e, with no program
abbrev pub by_limit : ℕ → ℕ → Search
by_limit n e = record { size = n; disc_end = e; program = no_region }

abbrev pub runs_of : Stretch → ℕ → List Run
runs_of s n = runs_behind (by_limit n s.limit) (regions_in s.words.now s.from (s.to - s.from))

-- ---- the two marks

abbrev pub StandIn : Stretch → ℕ → Marks → Type 0
StandIn s n marks =
    AreMarks (by_limit n s.limit) marks.offset s.words.now s.to marks.to_end marks.to_start marks.between

-- both behind the next region
abbrev pub marks_past : Marks → DiscRegion → Marks
marks_past marks r =
    if marks.between == 0
    then record { offset = end_of r; to_end = marks.to_end + 1; to_start = marks.to_end + 1; between = 0 }
    else record { offset = end_of r; to_end = marks.to_end + 1; to_start = marks.to_start; between = marks.between - r.size }
