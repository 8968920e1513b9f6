-- The program's own region of an open disc is the one that the image says, or neither has a byte: so the same
-- runs spare both. Assumes nothing.
use Rattle.std.specs.Prelude.{ℕ, ◌+◌, ◌<◌, ◌≡◌, ◌⊎◌, true, List, [], ◌∷◌, length, map}
use Rattle.std.proofs.Common.{refl, sym, ap, ◌∙◌, inl, inr, ⊎_elim, arith}
use Rattle.refusal.specs.Laws.Tests.{lt-or-le}
use Rattle.header.specs.Verdicts.{fst_offset, fst_size, table_end}
use Rattle.tree.specs.Table.{nodes_of}
use Rattle.space.specs.declared.region.DiscRegion.{DiscRegion}
use Rattle.space.specs.Used.{nonempty_regions, used_regions}
use Rattle.space.specs.Layout.{are_disjoint}
use Rattle.space.specs.Inner.Sort.{regions_in, is_among}
use Rattle.space.specs.Laws.UsedLaws.{nonempty_regions-cons, nonempty_regions-empty}
use Rattle.space.specs.Laws.HoldsLaws.{is_among-first, holds_later, is_among-nonempty_regions}
use Rattle.space.specs.Laws.SortLaws.{same-regions}
use Rattle.executable.specs.Program.{program_behind}
use Rattle.opened.specs.Opening.{nodes_in, region_of, regions_behind_table, used_in, Disc, disc_of}
use Rattle.opened.specs.Inner.Disc.{Opened, disc_in, opened_in, Means}
use Rattle.opened.specs.Inner.Backed.{IsBacked}
use Rattle.opened.proofs.Discs.{sorted_backed, sums_backed}
use Rattle.opened.proofs.Laws.Meant.{end_meant, used_meant}
use Rattle.clearing.specs.Clearing.{occupancy_of, bytes_from}
use Rattle.clearing.specs.Inner.Marks.{runs_behind, candidate_runs}
use Rattle.clearing.proofs.Stretches.{none-touched}
use Rattle.clearing.proofs.Laws.Sound.{IsSound}
use Rattle.clearing.proofs.Laws.Opened.{open-sound, used-told}
use Rattle.clearing.proofs.Laws.InOrder.{AreInOrder, runs-told}

-- the same region, or neither has a byte
abbrev IsSameProgram : DiscRegion → DiscRegion → Type 0
IsSameProgram a b = (a ≡ b) ⊎ ((a.size ≡ 0) × (b.size ≡ 0))

longer : (x : DiscRegion) (xs ys : List DiscRegion) → x ∷ xs ≡ ys → xs ≡ ys → ⊥
longer x xs ys e f = absurd (omega (arith, ap length (e ∙ sym f)))

same-first : (x y : DiscRegion) (fs : List DiscRegion) → nonempty_regions (x ∷ fs) ≡ nonempty_regions (y ∷ fs) → IsSameProgram x y
same-first x y fs e =
    ⊎_elim (λ h. ⊎_elim (λ k. let f : x ∷ nonempty_regions fs ≡ y ∷ nonempty_regions fs = sym (nonempty_regions-cons x fs h) ∙ e ∙ nonempty_regions-cons y fs k in inl cc)
    (λ k. absurd (longer x (nonempty_regions fs) (nonempty_regions fs) (sym (nonempty_regions-cons x fs h) ∙ e ∙ nonempty_regions-empty y fs (omega arith)) refl)) (lt-or-le 0 y.size))
    (λ h. ⊎_elim (λ k. absurd (longer y (nonempty_regions fs) (nonempty_regions fs) (sym (nonempty_regions-cons y fs k) ∙ sym e ∙ nonempty_regions-empty x fs (omega arith)) refl))
    (λ k. inr (omega arith, omega arith)) (lt-or-le 0 y.size)) (lt-or-le 0 x.size)

same-behind : (t x y : DiscRegion) (fs : List DiscRegion) → 0 < t.size → nonempty_regions (t ∷ x ∷ fs) ≡ nonempty_regions (t ∷ y ∷ fs) → IsSameProgram x y
same-behind t x y fs h e =
    let f : t ∷ nonempty_regions (x ∷ fs) ≡ t ∷ nonempty_regions (y ∷ fs) = sym (nonempty_regions-cons t (x ∷ fs) h) ∙ e ∙ nonempty_regions-cons t (y ∷ fs) h in
    same-first x y fs cc

same-spared : (r a b : DiscRegion) → IsSameProgram a b → are_disjoint r a ≡ are_disjoint r b
same-spared r a b s = ⊎_elim (λ e. ap (are_disjoint r) e) (λ e. none-touched r a e.0 ∙ sym (none-touched r b e.1)) s

-- LAW: so the same runs are told
same-runs : (n e : ℕ) (a b : DiscRegion) (rs : List DiscRegion) → IsSameProgram a b →
    runs_behind (record { size = n; disc_end = e; program = a }) rs ≡ runs_behind (record { size = n; disc_end = e; program = b }) rs
unfolding runs_behind
same-runs n e a b [] s = refl
same-runs n e a b (r ∷ rs) s = rw (same-spared (bytes_from (r.offset + r.size) n) a b s, same-runs n e a b rs s)

module _ (header table : List ℕ) (own : DiscRegion) (w : List ℕ) (m : ℕ) (b : IsBacked header table own w m) (d : Opened) (v : opened_in header table own (length w) ≡ d) (image : List ℕ) (i : Means image d) where
  same-disc : disc_in header table own ≡ disc_of image
  same-disc = ap (λ (x : Opened). x.disc) v ∙ sym i.is

  sound : IsSound (occupancy_of image)
  sound = open-sound image d.words i.known

  same-own : IsSameProgram own (program_behind image)
  unfolding used_in regions_behind_table
  same-own =
      let s : fst_offset header ≡ fst_offset image = ap (λ (x : Disc). x.start) same-disc in
      let z : fst_size header ≡ fst_size image = ap (λ (x : Disc). x.table_size) same-disc in
      let ns : nodes_of table ≡ nodes_in image = ap (λ (x : Disc). x.nodes) same-disc in
      let u : used_regions (table_end image) (own ∷ map region_of (nodes_in image)) ≡ used_in image = rw (s, z, ns) at (ap (λ (x : Disc). x.used) same-disc) in
      same-behind (record { offset = 0; size = table_end image }) own (program_behind image) (map region_of (nodes_in image)) sound.table u

  in-order : (e : ℕ) → e ≡ d.disc.end → AreInOrder (occupancy_of image) (regions_in w 0 m)
  in-order e q =
      let o = sorted_backed header table own w m b d v e q in record {
        full = o.full;
        sequence = rw (end_meant image d i, ← q) o.sequence;
        same = rw (← used-told image, used_meant image d i) (sums_backed header table own w m b d v);
      }

  -- LAW: the runs behind the regions in the words are the image's candidates
  pub runs-backed : (n e : ℕ) → 0 < n → e ≡ d.disc.end → candidate_runs (occupancy_of image) n ≡ runs_behind (record { size = n; disc_end = e; program = own }) (regions_in w 0 m)
  runs-backed n e some q =
      sym (rw (q, ← end_meant image d i)
      (same-runs n (occupancy_of image).disc_end own (program_behind image) (regions_in w 0 m) same-own ∙ runs-told (occupancy_of image) sound (regions_in w 0 m) (in-order e q) n some))

-- the program is among the regions in the words
module _ (header table : List ℕ) (own : DiscRegion) (w : List ℕ) (m : ℕ) (b : IsBacked header table own w m) (d : Opened) (v : opened_in header table own (length w) ≡ d) where
  pub own-among : 0 < own.size → is_among own (regions_in w 0 m) ≡ true
  own-among some =
      same-regions (regions_in w 0 m) d.disc.used (sums_backed header table own w m b d v) own
      ∙ ap (λ (x : Opened). is_among own x.disc.used) (sym v)
      ∙ is_among-nonempty_regions own (record { offset = 0; size = table_end header } ∷ own ∷ map region_of (nodes_of table)) some (holds_later own (record { offset = 0; size = table_end header }) (own ∷ map region_of (nodes_of table)) (is_among-first own (map region_of (nodes_of table))))
