-- What the functions that collect the used regions promise. Assumes nothing: these are definitions.
use Rattle.std.specs.Prelude.{Option, None, Some, ℕ, ◌≤◌, ◌<◌, ◌≡◌, List}
use Rattle.tree.specs.Table.{kind, offset_or_parent, size_or_next}
use Rattle.space.specs.declared.region.DiscRegion.{DiscRegion}
use Rattle.space.specs.Inner.Words.{IsAdded}
use Rattle.opened.specs.Inner.Prepared.{AddedEntry, CollectedTo}
use Rattle.opened.specs.declared.regions.Collected.{Collected}

-- where the bytes of entry k stand: a file's offset and size, and none of a directory
abbrev pub IsRegionOf : List ℕ → ℕ → Option DiscRegion → Type 0
IsRegionOf tab k (Some region) = (kind tab k ≡ 0) × (region ≡ record { offset = offset_or_parent tab k; size = size_or_next tab k })
IsRegionOf tab k None = kind tab k ≡ 0 → ⊥

-- the number of an entry from k on and before `end`, if any
abbrev pub InTurn : ℕ → ℕ → Option (ℕ × DiscRegion) → Type 0
InTurn k end (Some found) = (k ≤ found.0) × (found.0 < end)
InTurn k end None = Unit {0}

-- one region more stands behind those that were there, unless it is empty; that of entry k; those of the entries from `from` up to `to`
abbrev pub AddsRegion : Collected → Collected → DiscRegion → Type 0
AddsRegion old new region = IsAdded old.words.now new.words.now old.count region.offset region.size new.count

abbrev pub AddsEntry : Collected → Collected → List ℕ → ℕ → Type 0
AddsEntry old new tab k = AddedEntry tab k old.words.now new.words.now old.count new.count

abbrev pub AddsEntries : Collected → Collected → List ℕ → ℕ → ℕ → Type 0
AddsEntries old new tab from to = CollectedTo tab from old.count old.words.now new.words.now to new.count
