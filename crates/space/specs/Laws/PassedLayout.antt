-- What a layout that passes 14 is, test by test: the table on the disc, each file behind it, no two files sharing a byte. Assumes nothing.
use Rattle.std.specs.Prelude.{ℕ, ◌<◌, ◌≤◌, ◌≡◌, true, ◌&&◌, List, leb}
use Rattle.std.proofs.Common.{sym, ◌∙◌, leb-true}
use Rattle.space.specs.declared.region.DiscRegion.{DiscRegion}
use Rattle.space.specs.Used.{used_regions}
use Rattle.space.specs.Layout.{are_pairwise_disjoint, are_disjoint_below}
use Rattle.refusal.specs.Laws.Tests.{and_left, and_right}
use Rattle.space.specs.Laws.UsedLaws.{files_within, are_disjoint-below-used}

-- ---- what 14 says, taken apart and put together

-- the used regions pass 14: the table ends by e, the files lie behind it, and no two share a byte
pub record Passes (t e : ℕ) (fs : List DiscRegion) : Type 0 where
  pub table : t ≤ e
  pub within : files_within t e fs ≡ true
  pub pairwise : are_pairwise_disjoint fs ≡ true

pub passes : (t e : ℕ) (fs : List DiscRegion) → 0 < t → are_disjoint_below e (used_regions t fs) ≡ true → Passes t e fs
passes t e fs z d =
    let c : (leb t e && (files_within t e fs && are_pairwise_disjoint fs)) ≡ true = sym (are_disjoint-below-used t e fs z) ∙ d in
    let r : (files_within t e fs && are_pairwise_disjoint fs) ≡ true = and_right (leb t e) (files_within t e fs && are_pairwise_disjoint fs) c in
    record {
      table = leb-true t e (and_left (leb t e) (files_within t e fs && are_pairwise_disjoint fs) c);
      within = and_left (files_within t e fs) (are_pairwise_disjoint fs) r;
      pairwise = and_right (files_within t e fs) (are_pairwise_disjoint fs) r;
    }
