-- A move or a resize in three calls: the copy, the table, the zeros (RULES, In three calls). Each makes a part of what the single edit
-- writes. Assumes nothing: these are definitions.
use Rattle.std.specs.Prelude.{ℕ, Ok, List, length, nat_lt, if◌then◌else◌, is_err}
use Rattle.refusal.specs.declared.Refusal.TheVariants.{SpanNotFree}
use Rattle.refusal.specs.Refusal.{Verdict, refuse, first}
use Rattle.header.specs.Verdicts.{fst_offset, fst_size}
use Rattle.tree.specs.Table.{encode}
use Rattle.space.specs.declared.region.DiscRegion.{DiscRegion}
use Rattle.space.specs.Used.{no_region}
use Rattle.space.specs.MaxRegionSize.{max_region_size}
use Rattle.opened.specs.Opening.{opening, free_space_of, disc_of}
use Rattle.edit_rules.specs.Change.{image_with_table, copied_image, zeroed_image, Plan, refused, nothing, change, filled}
use Rattle.edit_rules.specs.Edits.{Edit, Account, plan_of, verdict_of}

-- ---- the parts of a plan. A move's or a resize's is none of a fill

-- where the copy goes
abbrev pub plan_copy : Plan → DiscRegion
plan_copy (refused v) = no_region
plan_copy nothing = no_region
plan_copy (change k c) = record { offset = c.place.offset; size = c.kept }
plan_copy (filled k clip p) = no_region

-- the image with the copy
abbrev pub plan_copied : Plan → List ℕ → List ℕ
plan_copied (refused v) image = image
plan_copied nothing image = image
plan_copied (change k c) image = copied_image c image
plan_copied (filled k clip p) image = image

-- the image with the new table over the one that it has, zeros over that one's lost tail, and the size in the header
abbrev pub plan_tabled : Plan → List ℕ → List ℕ
plan_tabled (refused v) image = image
plan_tabled nothing image = image
plan_tabled (change k c) image = image_with_table (fst_offset image) (fst_size image) (encode c.nodes) image
plan_tabled (filled k clip p) image = image

-- how long that table is, 0 where none is written
abbrev pub plan_table_size : Plan → ℕ
plan_table_size (refused v) = 0
plan_table_size nothing = 0
plan_table_size (change k c) = length (encode c.nodes)
plan_table_size (filled k clip p) = 0

-- what is left to be zeroed: offset and size 0 where there is nothing
abbrev pub plan_span : Plan → DiscRegion
plan_span (refused v) = no_region
plan_span nothing = no_region
plan_span (change k c) = if nat_lt 0 c.lost.size then c.lost else no_region
plan_span (filled k clip p) = no_region

-- ---- the images that the calls leave; the first two have the verdict of the single edit

unfoldable pub image_after_copy : Edit → Account → List ℕ → ℕ → ℕ → List ℕ
image_after_copy ed a image words bytes = if is_err (verdict_of ed a image words bytes) then image else plan_copied (plan_of ed (disc_of image)) image

unfoldable pub image_after_table : Edit → Account → List ℕ → ℕ → ℕ → List ℕ
image_after_table ed a image words bytes = if is_err (verdict_of ed a image words bytes) then image else plan_tabled (plan_of ed (disc_of image)) image

-- 29 where the span is not free to its end, which `max_region_size` says of 0 bytes there; an empty one may lie anywhere
unfoldable pub zero_verdict : List ℕ → ℕ → DiscRegion → Verdict
zero_verdict image words span =
    first (opening image words) (refuse (nat_lt (max_region_size span.offset 0 (free_space_of image)) span.size) SpanNotFree (Ok tt))

unfoldable pub image_after_zeros : List ℕ → ℕ → DiscRegion → List ℕ
image_after_zeros image words span = if is_err (zero_verdict image words span) then image else zeroed_image span image
