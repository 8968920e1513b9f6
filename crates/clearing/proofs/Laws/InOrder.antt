-- LAW: of the used regions in order, the runs behind them are the candidates, each with its cost.
-- Assumes nothing.
use Rattle.std.specs.Prelude.{ℕ, ◌+◌, ◌<◌, ◌≤◌, ◌≡◌, refl, ◌⊎◌, Bool, true, false, cond, not, ◌&&◌, List, [], ◌∷◌, map, filter, nat_lt}
use Rattle.std.proofs.Common.{sym, ap, ◌∙◌, inl, inr, ⊎_elim, arith, lt-ltb, le-ltb, le-leb}
use Rattle.refusal.specs.Laws.Tests.{lt-or-le, and_left, and_right, and_both, never_both}
use Rattle.space.specs.declared.region.DiscRegion.{DiscRegion}
use Rattle.space.specs.Used.{end_of, is_used, nonempty_regions, total_size}
use Rattle.space.specs.Layout.{are_disjoint, is_disjoint_from_all, are_pairwise_disjoint, are_disjoint_below}
use Rattle.space.specs.Inner.Sort.{is_among, sum_of, size_where, SameSums}
use Rattle.space.specs.Inner.Words.{AllNonempty, is_in_sequence}
use Rattle.space.specs.Laws.HoldsLaws.{is_among-cases, is_among-first, holds_later, is_among-none, is_among-uses, is_among-from}
use Rattle.space.specs.Laws.LayoutLaws.{from-all-free}
use Rattle.space.specs.Laws.LongestLaws.{sequence-first, sequence-rest}
use Rattle.space.specs.Laws.SizeLaws.{total_size-cons}
use Rattle.space.specs.Laws.SortLaws.{same_size, same-regions}
use Rattle.space.specs.Laws.UsedLaws.{is_inside-in, nonempty_regions-cons, nonempty_regions-empty, nonempty_regions-all}
use Rattle.clearing.specs.declared.stretch.Run.{Run}
use Rattle.clearing.specs.Clearing.{Occupancy, used_by, bytes_from, is_run, cost_of, is_end_of_use, candidates}
use Rattle.clearing.specs.Inner.Marks.{Search, has_room, started_size, run_behind, runs_behind}
use Rattle.clearing.proofs.Laws.Members.{In, among-in, in-among, IsRising, same-rising}
use Rattle.clearing.proofs.Laws.Sound.{IsSound, IsRunOn}
use Rattle.clearing.proofs.Laws.Touched.{touched_size, touched-apart, touched-some, touched-shared, apart-sides, shared}
use Rattle.clearing.proofs.Laws.CandidateBefore.{end-told, run-parts}
use Rattle.clearing.proofs.Laws.Candidates.{candidate-in, in-candidates, candidates-rising}

-- these are the used regions, in order
pub record AreInOrder (o : Occupancy) (rs : List DiscRegion) : Type 0 where
  pub full : AllNonempty rs
  pub sequence : is_in_sequence 0 o.disc_end rs ≡ true
  pub same : SameSums rs (used_by o)

-- n bytes on that disc
abbrev pub sought_on : Occupancy → ℕ → Search
sought_on o n = record { size = n; disc_end = o.disc_end; program = o.program }

abbrev pub run_at : Occupancy → ℕ → ℕ → Run
run_at o n x = record { offset = x; cost = cost_of o n x }

-- ---- what a run touches of regions

touched-summed : (r : DiscRegion) (xs : List DiscRegion) → size_where (λ f. not (are_disjoint r f)) xs ≡ touched_size r xs
unfolding sum_of
touched-summed r [] = unfold total_size in refl
touched-summed r (x ∷ xs) = go (are_disjoint r x) refl (touched-summed r xs)
  where
    go : (t : Bool) → are_disjoint r x ≡ t → size_where (λ f. not (are_disjoint r f)) xs ≡ touched_size r xs → cond (not t) x.size 0 + size_where (λ f. not (are_disjoint r f)) xs ≡ touched_size r (x ∷ xs)
    go true e h = omega (arith, h, touched-apart r x xs e)
    go false e h = omega (arith, h, touched-shared r x xs e)

-- their order does not matter
touched-same : (r : DiscRegion) (xs ys : List DiscRegion) → SameSums xs ys → touched_size r xs ≡ touched_size r ys
touched-same r xs ys same = sym (touched-summed r xs) ∙ same_size xs ys same (λ f. not (are_disjoint r f)) ∙ touched-summed r ys

-- and empty ones change nothing
touched-nonempty : (r : DiscRegion) (fs : List DiscRegion) → touched_size r (nonempty_regions fs) ≡ touched_size r fs
touched-nonempty r [] = unfold nonempty_regions in refl
touched-nonempty r (f ∷ fs) = go (are_disjoint r f) refl (touched-nonempty r fs)
  where
    go : (t : Bool) → are_disjoint r f ≡ t → touched_size r (nonempty_regions fs) ≡ touched_size r fs → touched_size r (nonempty_regions (f ∷ fs)) ≡ touched_size r (f ∷ fs)
    go true e ih =
        ⊎_elim (λ h. rw (nonempty_regions-cons f fs h) (touched-apart r f (nonempty_regions fs) e ∙ ih ∙ sym (touched-apart r f fs e)))
        (λ h. rw (nonempty_regions-empty f fs (omega arith)) (ih ∙ sym (touched-apart r f fs e))) (lt-or-le 0 f.size)
    go false e ih =
        rw (nonempty_regions-cons f fs (touched-some r f fs e)) (omega (arith, ih, touched-shared r f (nonempty_regions fs) e, touched-shared r f fs e))

module _ (y : ℕ) (q : DiscRegion) (qs : List DiscRegion) where
  -- one that starts before y, and one that does not
  pub started-more : q.offset < y → started_size y (q ∷ qs) ≡ q.size + started_size y qs
  unfolding started_size
  started-more h = rw (lt-ltb q.offset y h) (total_size-cons q (filter (λ r. nat_lt r.offset y) qs))

  pub started-less : y ≤ q.offset → started_size y (q ∷ qs) ≡ started_size y qs
  unfolding started_size
  started-less h = rw (le-ltb q.offset y h)

-- of regions from a on, in order, a run at or before a touches those that start before its end
touched-started : (n x a e : ℕ) (qs : List DiscRegion) → 0 < n → x ≤ a → AllNonempty qs → is_in_sequence a e qs ≡ true → touched_size (bytes_from x n) qs ≡ started_size (x + n) qs
touched-started n x a e [] some h f s = unfold started_size in refl
touched-started n x a e (q ∷ qs) some h f s =
    let l : a ≤ q.offset = sequence-first a e q qs s in
    let ih : touched_size (bytes_from x n) qs ≡ started_size (x + n) qs = touched-started n x (end_of q) e qs some (omega arith) f.1 (sequence-rest a e q qs s) in
    ⊎_elim (λ k. omega (arith, ih, touched-shared (bytes_from x n) q qs (shared n x q (omega (arith, f.0)) k f.0 some), started-more (x + n) q qs k))
    (λ k. omega (arith, ih, touched-apart (bytes_from x n) q qs (apart-sides n x q (inl k)), started-less (x + n) q qs k)) (lt-or-le q.offset (x + n))

-- ---- the ends of regions where a run starts

-- those of regions in order, where there is room
unfoldable starts : Search → List DiscRegion → List ℕ
starts t [] = []
starts t (r ∷ rs) = cond (has_room t (end_of r)) (end_of r ∷ starts t rs) (starts t rs)

in-starts : (t : Search) (rs : List DiscRegion) (y : ℕ) → In y (starts t rs) → (r : DiscRegion) × (is_among r rs ≡ true) × (end_of r ≡ y) × (has_room t y ≡ true)
unfolding starts
in-starts t [] y i = absurd i
in-starts t (r ∷ rs) y i = go (has_room t (end_of r)) refl i (in-starts t rs y)
  where
    later : (q : DiscRegion) × (is_among q rs ≡ true) × (end_of q ≡ y) × (has_room t y ≡ true) → (q : DiscRegion) × (is_among q (r ∷ rs) ≡ true) × (end_of q ≡ y) × (has_room t y ≡ true)
    later w = (w.0, holds_later w.0 r rs w.1, w.2, w.3)

    go : (b : Bool) → has_room t (end_of r) ≡ b → In y (cond b (end_of r ∷ starts t rs) (starts t rs)) → (In y (starts t rs) → (q : DiscRegion) × (is_among q rs ≡ true) × (end_of q ≡ y) × (has_room t y ≡ true)) →
        (q : DiscRegion) × (is_among q (r ∷ rs) ≡ true) × (end_of q ≡ y) × (has_room t y ≡ true)
    go true e (inl q) ih = (r, is_among-first r rs, sym q, rw q e)
    go true e (inr k) ih = later (ih k)
    go false e k ih = later (ih k)

starts-in : (t : Search) (r : DiscRegion) (rs : List DiscRegion) → is_among r rs ≡ true → has_room t (end_of r) ≡ true → In (end_of r) (starts t rs)
unfolding starts
starts-in t r [] h e = absurd (is_among-none r h)
starts-in t r (q ∷ rs) h e = go (has_room t (end_of q)) refl (is_among-cases r q rs h) (λ k. starts-in t r rs k e)
  where
    go : (b : Bool) → has_room t (end_of q) ≡ b → (q ≡ r) ⊎ (is_among r rs ≡ true) → (is_among r rs ≡ true → In (end_of r) (starts t rs)) → In (end_of r) (cond b (end_of q ∷ starts t rs) (starts t rs))
    go true k (inl c) ih = inl (ap end_of (sym c))
    go true k (inr c) ih = inr (ih c)
    go false k (inl c) ih = absurd (never_both (has_room t (end_of q)) (rw c e) k)
    go false k (inr c) ih = ih c

among-some : (r : DiscRegion) (xs : List DiscRegion) → AllNonempty xs → is_among r xs ≡ true → 0 < r.size
among-some r [] f h = absurd (is_among-none r h)
among-some r (x ∷ xs) f h = ⊎_elim (λ e. rw (← e) f.0) (λ k. among-some r xs f.1 k) (is_among-cases r x xs h)

starts-rising : (t : Search) (a e : ℕ) (rs : List DiscRegion) → AllNonempty rs → is_in_sequence a e rs ≡ true → IsRising (starts t rs)
unfolding starts
starts-rising t a e [] f s = tt
starts-rising t a e (r ∷ rs) f s = go (has_room t (end_of r)) (starts-rising t (end_of r) e rs f.1 (sequence-rest a e r rs s))
  where
    go : (b : Bool) → IsRising (starts t rs) → IsRising (cond b (end_of r ∷ starts t rs) (starts t rs))
    go true h = (λ y i. let w = in-starts t rs y i in omega (arith, is_among-from w.0 (end_of r) e rs (sequence-rest a e r rs s) w.1, among-some w.0 rs f.1 w.1, w.2), h)
    go false h = h

module _ (o : Occupancy) (s : IsSound o) (rs : List DiscRegion) (a : AreInOrder o rs) (n : ℕ) (some : 0 < n) where
  -- what a run costs is what it touches of the regions in order
  cost-in : (x : ℕ) → IsRunOn o n x → cost_of o n x ≡ touched_size (bytes_from x n) rs
  unfolding cost_of
  cost-in x r =
      sym (touched-same (bytes_from x n) rs (used_by o) a.same ∙ touched-nonempty (bytes_from x n) (record { offset = 0; size = o.table_end } ∷ o.program ∷ o.files)
      ∙ touched-apart (bytes_from x n) (record { offset = 0; size = o.table_end }) (o.program ∷ o.files) (apart-sides n x (record { offset = 0; size = o.table_end }) (inr (omega (arith, r.after))))
      ∙ touched-apart (bytes_from x n) o.program o.files r.spares)

  among-used : (r : DiscRegion) → is_among r rs ≡ true → is_among r (used_by o) ≡ true
  among-used r h = sym (same-regions rs (used_by o) a.same r) ∙ h

  -- none ends before the table does
  behind-table : (r : DiscRegion) → is_among r rs ≡ true → o.table_end ≤ end_of r
  unfolding are_disjoint_below are_pairwise_disjoint
  behind-table r h =
      let t : DiscRegion = record { offset = 0; size = o.table_end } in
      ⊎_elim (λ e. omega (arith, ap end_of e)) (λ k. ⊎_elim (λ l. absurd (never_both (is_used (nonempty_regions (o.program ∷ o.files)) r.offset) (is_among-uses r (nonempty_regions (o.program ∷ o.files)) r.offset k (is_inside-in r r.offset (omega arith) (omega (arith, among-some r (nonempty_regions (o.program ∷ o.files)) (nonempty_regions-all (o.program ∷ o.files)) k)))) (from-all-free t (nonempty_regions (o.program ∷ o.files)) r.offset apart (is_inside-in t r.offset (omega arith) (omega arith)))))
      (λ l. omega arith) (lt-or-le r.offset o.table_end)) (is_among-cases r t (nonempty_regions (o.program ∷ o.files)) (rw split at (among-used r h)))
    where
      split : used_by o ≡ record { offset = 0; size = o.table_end } ∷ nonempty_regions (o.program ∷ o.files)
      split = nonempty_regions-cons (record { offset = 0; size = o.table_end }) (o.program ∷ o.files) s.table

      apart : is_disjoint_from_all (record { offset = 0; size = o.table_end }) (nonempty_regions (o.program ∷ o.files)) ≡ true
      apart =
          let q = rw split at (and_left (are_pairwise_disjoint (used_by o)) _ s.apart) in
          and_left (is_disjoint_from_all (record { offset = 0; size = o.table_end }) (nonempty_regions (o.program ∷ o.files))) _ q

  -- so a run starts where there is room
  room-run : (r : DiscRegion) → is_among r rs ≡ true → is_run o n (end_of r) ≡ has_room (sought_on o n) (end_of r)
  room-run r h = rw (le-leb o.table_end (end_of r) (behind-table r h))

  starts-told : candidates o n ≡ starts (sought_on o n) rs
  starts-told = same-rising (candidates o n) (starts (sought_on o n) rs) (candidates-rising o n) (starts-rising (sought_on o n) 0 o.disc_end rs a.full a.sequence) there back
    where
      there : (y : ℕ) → In y (candidates o n) → In y (starts (sought_on o n) rs)
      there y i =
          let c = in-candidates o n y i in
          let w = (end-told o y).0 (and_left (is_end_of_use o y) (is_run o n y) c) in
          let q : end_of w.0 ≡ y = w.2 in
          let h : is_among w.0 rs ≡ true = same-regions rs (used_by o) a.same w.0 ∙ in-among w.0 (used_by o) w.1 in
          let e : is_run o n (end_of w.0) ≡ true = rw q (and_right (is_end_of_use o y) (is_run o n y) c) in
          rw q at (starts-in (sought_on o n) w.0 rs h (sym (room-run w.0 h) ∙ e))

      back : (y : ℕ) → In y (starts (sought_on o n) rs) → In y (candidates o n)
      back y i =
          let w = in-starts (sought_on o n) rs y i in
          let e : has_room (sought_on o n) (end_of w.0) ≡ true = rw w.2 w.3 in
          let c : (is_end_of_use o (end_of w.0) && is_run o n (end_of w.0)) ≡ true = and_both (is_end_of_use o (end_of w.0)) _ ((end-told o (end_of w.0)).1 (w.0, among-in w.0 (used_by o) (among-used w.0 w.1), refl)) (room-run w.0 w.1 ∙ e) in
          rw w.2 at (candidate-in o n (end_of w.0) c)

  -- behind b, a run touches of the regions those that are left
  costs-told : (b : ℕ) (qs : List DiscRegion) → AllNonempty qs → is_in_sequence b o.disc_end qs ≡ true → ((r : DiscRegion) → is_among r qs ≡ true → is_among r rs ≡ true) →
      ((x : ℕ) → b ≤ x → touched_size (bytes_from x n) rs ≡ touched_size (bytes_from x n) qs) → runs_behind (sought_on o n) qs ≡ map (run_at o n) (starts (sought_on o n) qs)
  unfolding runs_behind starts
  costs-told b [] f q sub same = refl
  costs-told b (r ∷ qs) f q sub same = go (has_room (sought_on o n) (end_of r)) refl (costs-told (end_of r) qs f.1 rest (λ x h. sub x (holds_later x r qs h)) behind)
    where
      rest : is_in_sequence (end_of r) o.disc_end qs ≡ true
      rest = sequence-rest b o.disc_end r qs q

      behind : (x : ℕ) → end_of r ≤ x → touched_size (bytes_from x n) rs ≡ touched_size (bytes_from x n) qs
      behind x h = same x (omega (arith, sequence-first b o.disc_end r qs q)) ∙ touched-apart (bytes_from x n) r qs (apart-sides n x r (inr h))

      cost : has_room (sought_on o n) (end_of r) ≡ true → started_size (end_of r + n) qs ≡ cost_of o n (end_of r)
      cost e =
          sym (cost-in (end_of r) (run-parts o n (end_of r) (room-run r (sub r (is_among-first r qs)) ∙ e)) ∙ behind (end_of r) (omega arith) ∙ touched-started n (end_of r) (end_of r) o.disc_end qs some (omega arith) f.1 rest)

      go : (t : Bool) → has_room (sought_on o n) (end_of r) ≡ t → runs_behind (sought_on o n) qs ≡ map (run_at o n) (starts (sought_on o n) qs) →
          cond t (run_behind (sought_on o n) r qs ∷ runs_behind (sought_on o n) qs) (runs_behind (sought_on o n) qs) ≡ map (run_at o n) (cond t (end_of r ∷ starts (sought_on o n) qs) (starts (sought_on o n) qs))
      go true e ih = rw (cost e, ih)
      go false e ih = ih

  -- LAW: the runs behind the regions are the candidates, with their costs
  pub runs-told : runs_behind (sought_on o n) rs ≡ map (run_at o n) (candidates o n)
  runs-told = rw starts-told (costs-told 0 rs a.full a.sequence (λ r h. h) (λ x h. refl))
