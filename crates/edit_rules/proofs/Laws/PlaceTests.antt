-- Where the stated maximum stands among the tests of a new table's place; what these say of it, if they pass; and that free bytes lie behind the
-- table. Assumes nothing.
use Rattle.std.specs.Prelude.{Ok, Err}
use Rattle.std.specs.Prelude.{ℕ, zero, suc, ◌+◌, ◌<◌, ◌≤◌, ◌≡◌, Bool, not, ◌&&◌, ◌⊎◌, List, [], ◌∷◌, ltb, length, get_or}
use Rattle.std.proofs.Math.Path.{refl}
use Rattle.std.proofs.Common.{sym, ◌∙◌, inl, inr, arith, ltb-false, lt-ltb, le-ltb}
use Rattle.std.proofs.Math.Bool.{true, false}
use Rattle.std.proofs.lemmas.Bool.{false≢true}
use Rattle.refusal.specs.declared.Refusal.TheVariants.{LimitOrMemory, NotEnoughSpace, TableAboveMaximum}
use Rattle.refusal.specs.Refusal.{refuse}
use Rattle.refusal.specs.Laws.Chains.{refuse-passed}
use Rattle.refusal.specs.Laws.Tests.{or-false}
use Rattle.header.specs.Verdicts.{fst_offset, fst_size, fst_max_size}
use Rattle.space.specs.declared.region.DiscRegion.{DiscRegion}
use Rattle.space.specs.Used.{is_used, used_regions, no_region}
use Rattle.space.specs.Free.{is_free_in}
use Rattle.space.specs.Laws.UsedLaws.{used-is}
use Rattle.space.specs.Laws.FreeLaws.{In}
use Rattle.space.specs.MaxRegionSize.{max_region_size}
use Rattle.opened.specs.Opening.{free_space_of, disc_of}
use Rattle.edit_rules.specs.Change.{is_above_maximum, room_verdict, place_verdict}

-- ---- the stated maximum

module _ (image : List ℕ) (room size : ℕ) (place : DiscRegion) where
  -- LAW: just before 21: a table above the maximum that the working bytes hold is 26, whatever room there is
  pub stated-first : size ≤ room → is_above_maximum (disc_of image) size ≡ true → place_verdict (disc_of image) room size place ≡ Err TableAboveMaximum
  unfolding place_verdict
  stated-first held above = rw (le-ltb room size held, above)

  -- LAW: where the maximum is 0, or the table no larger than it, the tests are those without it
  pub stated-apart : (fst_max_size image ≡ 0) ⊎ (size ≤ fst_max_size image) → place_verdict (disc_of image) room size place ≡ refuse (ltb room size) LimitOrMemory (room_verdict (disc_of image) size place)
  unfolding place_verdict
  stated-apart (inl none) = rw none
  stated-apart (inr within) = rw (le-ltb (fst_max_size image) size within) (go (ltb 0 (fst_max_size image)))
    where
      go : (b : Bool) → refuse (ltb room size) LimitOrMemory (refuse (b && false) TableAboveMaximum (room_verdict (disc_of image) size place)) ≡ refuse (ltb room size) LimitOrMemory (room_verdict (disc_of image) size place)
      go true = refl
      go false = refl

-- ---- tests that passed

pub record PlacePassed (image : List ℕ) (room size : ℕ) (place : DiscRegion) : Type 0 where
  pub held : size ≤ room
  pub within : 0 < fst_max_size image → size ≤ fst_max_size image
  pub grows : size ≤ max_region_size (fst_offset image) (fst_size image) (free_space_of image)
  pub before : 0 < place.size → fst_offset image + size ≤ place.offset

pub place-passed : (image : List ℕ) (room size : ℕ) (place : DiscRegion) → place_verdict (disc_of image) room size place ≡ Ok tt → PlacePassed image room size place
unfolding place_verdict
place-passed image room size place e =
    let a = refuse-passed (ltb room size) LimitOrMemory _ e in
    let b = refuse-passed (is_above_maximum (disc_of image) size) TableAboveMaximum _ a.1 in
    let c = refuse-passed (ltb (max_region_size (fst_offset image) (fst_size image) (free_space_of image)) size) NotEnoughSpace _ b.1 in
    let d = refuse-passed (ltb 0 place.size && ltb place.offset (fst_offset image + size)) NotEnoughSpace (Ok tt) c.1 in
    record {
      held = ltb-false room size a.0;
      within = λ z. ltb-false (fst_max_size image) size (rw (lt-ltb 0 (fst_max_size image) z) at b.0);
      grows = ltb-false _ size c.0;
      before = λ z. ltb-false place.offset (fst_offset image + size) (rw (lt-ltb 0 place.size z) at d.0);
    }

-- a region of a list, by its number
pub in-region : (fs : List DiscRegion) (r : ℕ) → r < length fs → In (get_or fs r no_region) fs
in-region [] r h = absurd (omega arith)
in-region (x ∷ fs) zero h = inl refl
in-region (x ∷ fs) (suc r) h = inr (in-region fs r (omega arith))

-- a free byte is behind the table, and none of what lies there
pub free-byte : (t : ℕ) (fs : List DiscRegion) (i : ℕ) → is_free_in (used_regions t fs) i ≡ true → (t ≤ i) × (is_used fs i ≡ false)
free-byte t fs i f = let o = or-false (ltb i t) (is_used fs i) (sym (used-is t fs i) ∙ not-true (is_used (used_regions t fs) i) f) in (ltb-false i t o.0, o.1)
  where
    not-true : (a : Bool) → not a ≡ true → a ≡ false
    not-true true e = absurd (false≢true e)
    not-true false e = refl
