-- LAW: the candidates are the runs that start where a used region ends, rising. Assumes nothing.
use Rattle.std.specs.Prelude.{ℕ, ◌≡◌, List, Contains}
use Rattle.refusal.specs.Laws.Tests.{and_left, and_both}
use Rattle.space.specs.declared.region.DiscRegion.{DiscRegion}
use Rattle.space.specs.Used.{end_of}
use Rattle.opened.specs.Opening.{used_in}
use Rattle.clearing.specs.Clearing.{occupancy_of, used_by, is_end_of_use, candidates}
use Rattle.clearing.specs.Theorem.{IsRun, EachCandidate}
use Rattle.clearing.proofs.Laws.Members.{in-contains, contains-in, rising-increasing}
use Rattle.clearing.proofs.Laws.CandidateBefore.{end-told, run-made}
use Rattle.clearing.proofs.Laws.Candidates.{candidate-in, in-candidates, candidates-run, candidates-rising}
use Rattle.clearing.proofs.Laws.Opened.{used-told, run-on, run-of}

module _ (image : List ℕ) (n x : ℕ) where
  -- a used region ends there
  told : Contains (candidates (occupancy_of image) n) x → IsRun image n x × ((r : DiscRegion) × Contains (used_in image) r × (end_of r ≡ x))
  told c =
      let i = contains-in (candidates (occupancy_of image) n) x c in
      let w = (end-told (occupancy_of image) x).0 (and_left (is_end_of_use (occupancy_of image) x) _ (in-candidates (occupancy_of image) n x i)) in
      (run-of image n x (candidates-run (occupancy_of image) n x i), (w.0, rw (used-told image) (in-contains (used_by (occupancy_of image)) w.0 w.1), w.2))

  tells : IsRun image n x × ((r : DiscRegion) × Contains (used_in image) r × (end_of r ≡ x)) → Contains (candidates (occupancy_of image) n) x
  tells h =
      let c : Contains (used_by (occupancy_of image)) h.1.0 = rw (used-told image) at h.1.1 in
      let e = (end-told (occupancy_of image) x).1 (h.1.0, contains-in (used_by (occupancy_of image)) h.1.0 c, h.1.2) in
      in-contains (candidates (occupancy_of image) n) x
      (candidate-in (occupancy_of image) n x (and_both (is_end_of_use (occupancy_of image) x) _ e (run-made (occupancy_of image) n x (run-on image n x h.0))))

pub each-candidate : EachCandidate
each-candidate image n = (rising-increasing (candidates (occupancy_of image) n) (candidates-rising (occupancy_of image) n), λ x. (told image n x, tells image n x))
