-- What is decided on, entered in the record, gives the totals of the image that the edit leaves. Assumes nothing.
use Rattle.std.specs.Prelude.{Result, Ok, Err, ℕ, ◌+◌, ◌-◌, ◌≤◌, ◌≡◌, refl, List, length}
use Rattle.refusal.specs.Refusal.{Verdict, first}
use Rattle.std.proofs.Common.{sym, ap, ◌∙◌, arith}
use Rattle.endian.specs.Bytes.{span}
use Rattle.endian.specs.Laws.Stored.{length-span}
use Rattle.refusal.specs.declared.Refusal.{Refusal}
use Rattle.header.specs.Verdicts.{fst_offset, fst_size, disc_end, table_end}
use Rattle.tree.specs.Table.{encode}
use Rattle.space.specs.declared.region.DiscRegion.{DiscRegion}
use Rattle.space.specs.Used.{used_regions, total_size, no_region}
use Rattle.space.specs.Free.{largest_size}
use Rattle.space.specs.Inner.Sort.{regions_in}
use Rattle.space.specs.Laws.TotalLaws.{total-used}
use Rattle.totals.specs.declared.Totals.{Totals}
use Rattle.totals.specs.declared.SpaceChange.{SpaceChange}
use Rattle.totals.specs.Totals.{totals_verdict}
use Rattle.space.specs.Inner.Scan.{longest_from, gone_of}
use Rattle.space.specs.Laws.LargestLaws.{largest-after}
use Rattle.totals.proofs.Laws.Same.{same-verdict, same-moved}
use Rattle.executable.specs.Program.{program_behind}
use Rattle.opened.specs.Opening.{nodes_in, regions_behind_table, used_in, used_of, free_space_of, Disc, disc_of}
use Rattle.opened.proofs.Laws.OpeningLaws.{used-regions}
use Rattle.opened.specs.Inner.Prepared.{IsOpenImage, IsOpen}
use Rattle.edit_rules.specs.Change.{Change, table_verdict, Plan, refused, nothing, change, filled}
use Rattle.edit_rules.specs.Edits.{Account, space_change, plan_verdict, totals_to}
use Rattle.ledger.proofs.Laws.Files.{places_in, used-files}
use Rattle.ledger.proofs.Laws.Opened.{opened}
use Rattle.ledger.proofs.Laws.Room as room-law
use Rattle.ledger.proofs.Laws.Layout.{LaidOut, Lays}
use Rattle.edit.specs.declared.decision.Writing.{Writing}
use Rattle.edit.specs.declared.decision.Decision.{Decision}
use Rattle.edit.specs.declared.decision.Decision.TheVariants as decision
use Rattle.edit.specs.Inner.Decision.{DecidedAs}
use Rattle.edit.specs.Inner.Accounting.{OnDisc, Accounted, account_with, settled_as, moved_by, change_as, account_of}

-- ---- by what lies behind the table

used-places : (image : List ℕ) → used_in image ≡ used_regions (table_end image) (places_in image)
unfolding used_in regions_behind_table
used-places image = used-files (table_end image) (program_behind image) (nodes_in image)

total-places : (image : List ℕ) → used_of image ≡ table_end image + total_size (places_in image)
unfolding used_of regions_behind_table
total-places image =
    sym (total-used (table_end image) (regions_behind_table image)) ∙ ap total_size (used-files (table_end image) (program_behind image) (nodes_in image)) ∙ total-used (table_end image) (places_in image)

-- used and free bytes fill the disc
abbrev pub IsFilled : List ℕ → Type 0
IsFilled image = used_of image + total_size (free_space_of image) ≡ disc_end image

module _ (image w : List ℕ) (m : ℕ) (o : IsOpen image w m) (image' : List ℕ) (size : ℕ) (old new : DiscRegion) (l : LaidOut image image' size old new) where
  -- LAW: what the table and the edited file gain and lose is the change of used bytes
  pub used-moves : (size + new.size) + used_of image ≡ (fst_size image + old.size) + used_of image'
  used-moves = omega (arith, total-places image, total-places image', l.start, l.table, l.places.total)

  -- LAW: the used regions in the words tell the largest free region of the new image
  largest-moves : longest_from (disc_end image) (gone_of old) new (fst_offset image + size) 0 (regions_in w 1 (m - 1)) ≡ largest_size (free_space_of image')
  largest-moves =
      let q = opened image (length w) o.known.passed o.known.bytes in
      let u = used-places image in
      let e : table_end image' ≡ fst_offset image + size = omega (arith, l.start, l.table) in
      largest-after w m (disc_end image) (table_end image) (fst_offset image + size) (places_in image) (places_in image') old new o.used.sorted (omega (arith, q.bounds.after-header))
      (λ r. rw (← u) (used-regions image w m o.used r)) (rw (← u) q.regions) l.held l.fits l.clear l.places
      ∙ rw (used-places image', e, l.end)

  -- LAW: and its free bytes are those of the new image
  free-moves : IsFilled image' → disc_end image + (fst_size image + old.size) - (used_of image + (size + new.size)) ≡ total_size (free_space_of image')
  free-moves f = omega (arith, used-moves, f, l.end)

  -- LAW: so the record moves to the totals of the new image
  pub moves : IsFilled image' → (a : Account) → moved_by a (change_as image (regions_in w 1 (m - 1)) size old new) ≡ moved_by a (space_change image image')
  moves f a =
      let x : SpaceChange = change_as image (regions_in w 1 (m - 1)) size old new in
      let y : SpaceChange = space_change image image' in
      let difference : x.after + y.before ≡ y.after + x.before = omega (arith, used-moves) in
      rw (same-verdict x y difference (free-moves f) largest-moves a.totals a.team, same-moved x y difference (free-moves f) largest-moves a.totals a.team)

-- ---- what is decided on

-- a passes the decision on with the new record, or refuses it with the old one
pub record IsEntered (v : Verdict) (d : Result Decision Refusal) (t t' : Totals) (a : Accounted) : Type 0 where
  pub passed : v ≡ Ok tt → a ≡ account_with d t'
  pub refused : (c : Refusal) → v ≡ Err c → a ≡ account_with (Err c) t

-- the table in the working bytes has the size that was decided on
table-size : (bytes table : List ℕ) (room size : ℕ) → length bytes ≡ room → size ≤ room → span bytes 0 size ≡ table → length table ≡ size
table-size bytes table room size long held e = ap length (sym e) ∙ length-span bytes 0 size (omega arith)

module _ (image w : List ℕ) (m room : ℕ) (bytes : List ℕ) (long : length bytes ≡ room) (a : Account) (o : IsOpen image w m) (image' : List ℕ) where
  -- the plan's tests, and then the record's
  abbrev pub tested : Plan → Verdict
  tested p = first (plan_verdict p (disc_of image) (length w) room) (totals_verdict a.totals a.team (space_change image image'))

  refused-entered : (p : Plan) (c : Refusal) → Err c ≡ plan_verdict p (disc_of image) (length w) room → IsEntered (tested p) (Err c) a.totals (totals_to a image image') (account_with (Err c) a.totals)
  refused-entered p c h =
      let e : tested p ≡ Err c = rw (← h) in
      record {
        passed = λ q. let y : Err c ≡ Ok tt = sym e ∙ q in let z : ◌≡◌ {A = ℕ} 0 1 = cc in absurd (omega arith);
        refused = λ x q. let y : Err c ≡ Err x = sym e ∙ q in cc;
      }

  moved-entered : (p : Plan) (d : Decision) (x : Accounted) → Ok tt ≡ plan_verdict p (disc_of image) (length w) room → x ≡ settled_as d (moved_by a (space_change image image')) →
      IsEntered (tested p) (Ok d) a.totals (totals_to a image image') x
  moved-entered p d x h e = record { passed = λ q. e ∙ go q; refused = λ c q. e ∙ stop c q }
    where
      last-is : tested p ≡ totals_verdict a.totals a.team (space_change image image')
      last-is = rw (← h)

      go : tested p ≡ Ok tt → settled_as d (moved_by a (space_change image image')) ≡ account_with (Ok d) (totals_to a image image')
      go q = rw (sym last-is ∙ q)

      stop : (c : Refusal) → tested p ≡ Err c → settled_as d (moved_by a (space_change image image')) ≡ account_with (Err c) a.totals
      stop c q = rw (sym last-is ∙ q)

  -- nothing is written but a clip
  none-entered : (p : Plan) (d : Decision) → Ok tt ≡ plan_verdict p (disc_of image) (length w) room → Lays nothing image image' → IsFilled image' →
      IsEntered (tested p) (Ok d) a.totals (totals_to a image image') (settled_as d (moved_by a (change_as image (regions_in w 1 (m - 1)) (fst_size image) no_region no_region)))
  none-entered p d h l f = moved-entered p d _ h (ap (settled_as d) (moves image w m o image' (fst_size image) no_region no_region l.0 f a))

  -- a table is
  write-entered : (p : Plan) (k : ℕ) (c : Change) (n size : ℕ) (x : Writing) → Ok tt ≡ plan_verdict p (disc_of image) (length w) room → Lays (change k c) image image' → IsFilled image' → length (encode c.nodes) ≡ size → c.old ≡ x.old → c.place ≡ x.place →
      IsEntered (tested p) (Ok (decision.Write n size x)) a.totals (totals_to a image image') (account_of image (regions_in w 1 (m - 1)) (Ok (decision.Write n size x)) a)
  write-entered p k c n size x h l f l₀ eo ep =
      let s : LaidOut image image' size x.old x.place = rw (l₀, eo, ep) at l in
      moved-entered p (decision.Write n size x) _ h (ap (settled_as (decision.Write n size x)) (moves image w m o image' size x.old x.place s f a))

  -- LAW: of what a plan comes to, whose layout the new image has, on a disc that it fills
  pub entered : (p : Plan) (clip : List ℕ) (d : Result Decision Refusal) → DecidedAs (plan_verdict p (disc_of image) (length w) room) p image room bytes clip d → (plan_verdict p (disc_of image) (length w) room ≡ Ok tt → Lays p image image' × IsFilled image') →
      IsEntered (tested p) d a.totals (totals_to a image image') (account_of image (regions_in w 1 (m - 1)) d a)
  entered p clip (Err c) h l = refused-entered p c h.answer
  entered (refused v) clip (Ok decision.Nothing) h l = absurd h.carries
  entered nothing clip (Ok decision.Nothing) h l = none-entered nothing decision.Nothing refl (l refl).0 (l refl).1
  entered (change k c) clip (Ok decision.Nothing) h l = absurd h.carries
  entered (filled k y p) clip (Ok decision.Nothing) h l = absurd h.carries
  entered (refused v) clip (Ok (decision.Clip n at)) h l = absurd h.carries
  entered nothing clip (Ok (decision.Clip n at)) h l = absurd h.carries
  entered (change k c) clip (Ok (decision.Clip n at)) h l = absurd h.carries
  entered (filled k y nothing) clip (Ok (decision.Clip n at)) h l = none-entered (filled k y nothing) (decision.Clip n at) refl (l refl).0 (l refl).1
  entered (filled k y (refused v)) clip (Ok (decision.Clip n at)) h l = absurd h.carries
  entered (filled k y (change j c)) clip (Ok (decision.Clip n at)) h l = absurd h.carries
  entered (filled k y (filled j z p)) clip (Ok (decision.Clip n at)) h l = absurd h.carries
  entered (refused v) clip (Ok (decision.Write n size x)) h l = absurd h.carries
  entered nothing clip (Ok (decision.Write n size x)) h l = absurd h.carries
  entered (change k c) clip (Ok (decision.Write n size x)) h l =
      let f = h.carries in
      write-entered (change k c) k c n size x h.answer (l (sym h.answer)).0 (l (sym h.answer)).1 (table-size bytes (encode c.nodes) room size long h.fits.1.table.held f.table) (ap (λ (y : Change). y.old) f.change)
      (ap (λ (y : Change). y.place) f.change)
  entered (filled k y (change j c)) clip (Ok (decision.Write n size x)) h l =
      let f = h.carries in
      write-entered (filled k y (change j c)) j c n size x h.answer (l (sym h.answer)).0 (l (sym h.answer)).1 (table-size bytes (encode c.nodes) room size long h.fits.1.table.held f.table) f.old f.place
  entered (filled k y nothing) clip (Ok (decision.Write n size x)) h l = absurd h.carries
  entered (filled k y (refused v)) clip (Ok (decision.Write n size x)) h l = absurd h.carries
  entered (filled k y (filled j z p)) clip (Ok (decision.Write n size x)) h l = absurd h.carries

-- LAW: a table that is to be written ends on the disc
module _ (d : Disc) (image : List ℕ) (words : ℕ) (known : IsOpenImage image words) (is : disc_of image ≡ d) (room : ℕ) (bytes clip : List ℕ) (long : length bytes ≡ room) where
  table-ends : (c : Change) (size : ℕ) → table_verdict c (disc_of image) words room ≡ Ok tt → size ≤ room → span bytes 0 size ≡ encode c.nodes → d.start + size ≤ d.end
  table-ends c size v held e =
      let start : fst_offset image ≡ d.start = ap (λ (x : Disc). x.start) is in
      let end : disc_end image ≡ d.end = ap (λ (x : Disc). x.end) is in
      rw (start, end, table-size bytes (encode c.nodes) room size long held e) at (room-law.room c image words room (opened image words known.passed known.bytes) v).end

  pub on-disc : (p : Plan) (r : Result Decision Refusal) → DecidedAs (plan_verdict p (disc_of image) words room) p image room bytes clip r → OnDisc d r
  on-disc p (Err c) h = tt
  on-disc p (Ok decision.Nothing) h = tt
  on-disc p (Ok (decision.Clip n at)) h = tt
  on-disc (refused v) (Ok (decision.Write n size w)) h = absurd h.carries
  on-disc nothing (Ok (decision.Write n size w)) h = absurd h.carries
  on-disc (change k c) (Ok (decision.Write n size w)) h = table-ends c size (sym h.answer) h.fits.1.table.held h.carries.table
  on-disc (filled k y (change j c)) (Ok (decision.Write n size w)) h = table-ends c size (sym h.answer) h.fits.1.table.held h.carries.table
  on-disc (filled k y nothing) (Ok (decision.Write n size w)) h = absurd h.carries
  on-disc (filled k y (refused v)) (Ok (decision.Write n size w)) h = absurd h.carries
  on-disc (filled k y (filled j z p)) (Ok (decision.Write n size w)) h = absurd h.carries
