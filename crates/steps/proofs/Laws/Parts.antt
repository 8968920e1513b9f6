-- Words of the laws: a place that is free in an image, images that differ in one place alone, and a change that can be made in three parts; and what they say
-- in the words of specs/Places. Assumes nothing.
use Rattle.std.specs.Prelude.{Ok, ℕ, ◌+◌, ◌≤◌, ◌≡◌, false, List, length, get_or}
use Rattle.std.proofs.Common.{⊎_elim, inl, inr}
use Rattle.endian.specs.Laws.Stored.{Outside}
use Rattle.refusal.specs.Laws.Tests.{lt-or-le, never_both}
use Rattle.header.specs.Verdicts.{table_end}
use Rattle.space.specs.declared.region.DiscRegion.{DiscRegion}
use Rattle.space.specs.Used.{is_inside}
use Rattle.space.specs.Laws.UsedLaws.{is_inside-in}
use Rattle.opened.specs.Opening.{nodes_in, opening}
use Rattle.edit_rules.specs.Change.{Change, written_image}
use Rattle.ledger.proofs.Laws.Written.{Safe}
use Rattle.ledger.proofs.Laws.Files.{places_in}
use Rattle.ledger.proofs.Laws.Apart.{Has, region}
use Rattle.steps.specs.Places.{DifferOnlyIn}

-- each byte of the place lies at the table end or behind it, and in neither the program nor a file
abbrev pub FreeAt : List ℕ → DiscRegion → Type 0
FreeAt image r = (i : ℕ) → Has r i → (table_end image ≤ i) × ((j : ℕ) → Has (region (places_in image) j) i → ⊥)

-- the images differ in that place at most
pub record OnlyIn (image image' : List ℕ) (r : DiscRegion) : Type 0 where
  pub len : length image' ≡ length image
  pub same : (i : ℕ) → (Has r i → ⊥) → get_or image' i 0 ≡ get_or image i 0

-- where a change puts the file's bytes
abbrev pub copy_place : Change → DiscRegion
copy_place c = record { offset = c.place.offset; size = c.kept }

-- the copy goes to a free place, apart from where it comes from, and what is zeroed is free afterwards
pub record Parts (w : ℕ) (c : Change) (image : List ℕ) : Type 0 where
  pub safe : Safe c image
  pub opens : opening (written_image c image) w ≡ Ok tt
  pub tree : nodes_in (written_image c image) ≡ c.nodes
  pub copy : FreeAt image (copy_place c)
  pub source : (i : ℕ) → Has (record { offset = c.old.offset; size = c.kept }) i → Has (copy_place c) i → ⊥
  pub lost : FreeAt (written_image c image) c.lost

-- ---- in the words of specs/Places

not_inside : (r : DiscRegion) (i : ℕ) → is_inside r i ≡ false → Has r i → ⊥
not_inside r i e h = never_both (is_inside r i) (is_inside-in r i h.0 h.1) e

pub outside_region : (at n i : ℕ) → is_inside (record { offset = at; size = n }) i ≡ false → Outside at n i
outside_region at n i e = ⊎_elim (λ a. inl a) (λ a. ⊎_elim (λ b. absurd (not_inside (record { offset = at; size = n }) i e (a, b))) (λ b. inr b) (lt-or-le i (at + n))) (lt-or-le i at)

pub differ-only : (image image' : List ℕ) (r : DiscRegion) → OnlyIn image image' r → DifferOnlyIn image image' r
differ-only image image' r d = record { len = d.len; same = λ i e. d.same i (not_inside r i e) }
