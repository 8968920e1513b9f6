-- What holds at the start, along a list of calls, and what it comes to for the image at its end. Assumes nothing.
use Rattle.std.specs.Prelude.{Ok, is_err}
use Rattle.std.specs.Prelude.{ℕ, suc, ◌+◌, ◌-◌, ◌<◌, ◌≤◌, ◌≡◌, refl, true, false, cond, not, List, [], ◌∷◌, map, length, get_or, take}
use Rattle.std.proofs.Common.{sym, ap, ◌∙◌, ext_get_or, get_or-take, length-take-le}
use native.Mathlib.Omega.{arith}
use Rattle.endian.specs.Bytes.{span, AllBytes}
use Rattle.endian.specs.Laws.Stored.{get_d-span}
use Rattle.header.specs.Verdicts.{disc_end, table_end}
use Rattle.tree.specs.Table.{file, empty_root}
use Rattle.tree.specs.Lookup.{is_directory}
use Rattle.space.specs.declared.region.DiscRegion.{DiscRegion}
use Rattle.space.specs.Used.{is_inside, total_size}
use Rattle.space.specs.Layout.{are_pairwise_disjoint, are_below, are_disjoint_below}
use Rattle.refusal.specs.Laws.Tests.{and_left}
use Rattle.space.specs.Laws.FreeLaws.{region-ext}
use Rattle.space.specs.Laws.LayoutLaws.{is_inside-from, is_inside-to}
use Rattle.space.specs.Listing.{region_row, listing_of, list_after}
use Rattle.executable.specs.Program.{program_behind}
use Rattle.opened.specs.Opening.{nodes_in, region_of, regions_behind_table, used_in, used_of, free_space_of, opening}
use Rattle.opened.proofs.Laws.OpeningLaws.{disc-filled}
use Rattle.disc.specs.Calls.{totals_answer, free_answer, free_list, free_regions_answer, free_regions_list}
use Rattle.edit_rules.specs.Edits.{image_after, verdict_of}
use Rattle.ledger.specs.Ledger.{History, Ledger, files_before, new_history, history_of, first_ledger, ledger_with, ledger_after}
use Rattle.ledger.specs.Runs.{Call, image_after_all, reports_of, AllWithin}
use Rattle.edit_rules.proofs.Laws.Puts.{Fits, span-length}
use Rattle.ledger.specs.Inner.Files.{file_names}
use Rattle.ledger.proofs.Laws.Files.{files_in, names-node_without_place, files-at, files-count, entry_of}
use Rattle.ledger.proofs.Laws.Apart.{region, apart_of}
use Rattle.ledger.proofs.Laws.Histories.{True, trues-at, trues-length, starts}
use Rattle.ledger.proofs.Laws.Bare.{before-node_without_place}
use Rattle.ledger.proofs.Laws.Opened.{Opened, opened, more-words}
use Rattle.ledger.proofs.Laws.Kept.{Kept}
use Rattle.ledger.proofs.Laws.Steps.{step}
use Rattle.space.specs.Laws.SizeLaws.{total_size-cons}

-- a file's bytes are in the image
pub region-fits : (image : List ℕ) → Opened image → (k : ℕ) → Fits image (region (files_in image) k).offset (region (files_in image) k).size
region-fits image o k z =
    let r : DiscRegion = region (files_in image) k in
    omega (arith, o.bounds.image_holds, (o.places.lie (suc k) (r.offset + r.size - 1) (omega arith, omega arith)).1)

pub start : (image : List ℕ) (w₀ w : ℕ) → w₀ ≤ w → AllBytes image → opening image w₀ ≡ Ok tt → Kept w image (first_ledger image)
start image w₀ w h b e =
    record { bytes = b; opens = more-words image w₀ w h b e; shape = refl; trues = starts image (nodes_in image) (region-fits image (opened image w₀ e b)) }

pub along : (w : ℕ) (calls : List Call) (image : List ℕ) (l : Ledger) → AllWithin w calls → Kept w image l → Kept w (image_after_all calls image) (ledger_after (reports_of calls image) l)
unfolding image_after_all reports_of ledger_after
along w [] image l a k = k
along w (c ∷ calls) image l a k =
    along w calls (image_after c.edit c.account image c.words c.bytes) (cond (not (is_err (verdict_of c.edit c.account image c.words c.bytes))) (ledger_with c.edit l) l) a.2
    (step w image l k c.words c.bytes a.0 c.account c.edit a.1)

-- ---- what it comes to

module _ (w : ℕ) (image : List ℕ) (l : Ledger) (k : Kept w image l) where
  o : Opened image
  o = opened image w k.opens k.bytes

  pub no-byte-twice : (i j n : ℕ) → is_inside (region (used_in image) i) n ≡ true → is_inside (region (used_in image) j) n ≡ true → i ≡ j
  unfolding are_disjoint_below
  no-byte-twice i j n a b =
      apart_of (used_in image) (and_left (are_pairwise_disjoint (used_in image)) (are_below (disc_end image) (used_in image)) o.regions) i j n
      (is_inside-from (region (used_in image) i) n a, is_inside-to (region (used_in image) i) n a) (is_inside-from (region (used_in image) j) n b, is_inside-to (region (used_in image) j) n b)

  used-is : used_of image ≡ table_end image + (program_behind image).size + total_size (map region_of (nodes_in image))
  unfolding used_of regions_behind_table
  used-is = omega (arith, total_size-cons (program_behind image) (map region_of (nodes_in image)))

  pub sum : table_end image + (program_behind image).size + total_size (map region_of (nodes_in image)) + total_size (free_space_of image) ≡ disc_end image
  sum = rw (← used-is) (disc-filled image w k.bytes k.opens)

  pub used-reported : totals_answer image w ≡ Ok (record { disc_end = disc_end image; used = table_end image + (program_behind image).size + total_size (map region_of (nodes_in image)) })
  unfolding totals_answer
  used-reported = rw (k.opens, used-is)

  pub free-reported : (room : ℕ) → free_regions_answer image w room ≡ listing_of region_row (free_space_of image) room
  unfolding free_answer
  free-reported room = rw k.opens

  pub free-listed : (list : List ℕ) → free_regions_list image w list ≡ list_after region_row (free_space_of image) list
  unfolding free_list
  free-listed list = rw k.opens

  number : (n : ℕ) → files_before n l.nodes ≡ files_before n (nodes_in image)
  number n = rw (← k.shape) (before-node_without_place n (nodes_in image))

  -- the f-th file
  module _ (f : ℕ) (h : f < length (files_in image)) where
    file-true : True image (region (files_in image) f) (get_or l.histories f new_history)
    file-true = trues-at image (files_in image) l.histories f k.trues h

    first-bytes : span image (region (files_in image) f).offset (get_or l.histories f new_history).m ≡ take (get_or l.histories f new_history).m (get_or l.histories f new_history).bytes
    first-bytes =
        let m : ℕ = (get_or l.histories f new_history).m in
        let r : DiscRegion = region (files_in image) f in
        let t = file-true in
        let a : length (span image r.offset m) ≡ m = span-length image r.offset m (λ z. omega (arith, region-fits image o f (omega (arith, t.least)), t.least)) in
        let b : length (take m (get_or l.histories f new_history).bytes) ≡ m = length-take-le m (get_or l.histories f new_history).bytes t.known in
        ext_get_or 0 (span image r.offset m) (take m (get_or l.histories f new_history).bytes) (a ∙ sym b)
        (λ i d. let d' : i < m = rw a at d in get_d-span image r.offset m i d' ∙ t.same i d' ∙ sym (get_or-take m (get_or l.histories f new_history).bytes i 0 d'))

    all-bytes : (get_or l.histories f new_history).named ≡ false → span image (region (files_in image) f).offset (region (files_in image) f).size ≡ (get_or l.histories f new_history).bytes
    all-bytes z =
        let r : DiscRegion = region (files_in image) f in
        let t = file-true in
        let u = t.unnamed z in
        let a : length (span image r.offset r.size) ≡ r.size = span-length image r.offset r.size (region-fits image o f) in
        ext_get_or 0 (span image r.offset r.size) (get_or l.histories f new_history).bytes (a ∙ u.1 ∙ sym u.2)
        (λ i d. let d' : i < r.size = rw a at d in get_d-span image r.offset r.size i d' ∙ t.same i (omega (arith, u.1)))

  -- the entry of a file whose history and name are still those of one which began at r
  pub still-there : (f : ℕ) (r : DiscRegion) (nm bs : List ℕ) → f < length l.histories → get_or l.histories f new_history ≡ record { place = r.offset; bytes = bs; m = r.size; named = false } →
      get_or (file_names l.nodes) f [] ≡ nm →
      (n : ℕ) × (files_before n (nodes_in image) ≡ f) × (get_or (nodes_in image) n empty_root ≡ file nm r.offset r.size) × (span image r.offset r.size ≡ bs)
  still-there f r nm bs h e x =
      let i : f < length (files_in image) = rw (trues-length image (files_in image) l.histories k.trues) at h in
      let z : (get_or l.histories f new_history).named ≡ false = rw e in
      let u = (file-true f i).unnamed z in
      let q : region (files_in image) f ≡ r = region-ext (region (files_in image) f) r (u.0 ∙ rw e) (u.1 ∙ rw e) in
      let c : span image (region (files_in image) f).offset (region (files_in image) f).size ≡ bs = all-bytes f i z ∙ ap (λ (y : History). y.bytes) e in
      let y : get_or (file_names (nodes_in image)) f [] ≡ nm = ap (λ (ns : List (List ℕ)). get_or ns f []) (sym (names-node_without_place (nodes_in image)) ∙ ap file_names k.shape) ∙ x in
      let n = entry_of f (nodes_in image) i in
      (n.0, n.1, rw (q, y) at n.2, rw q at c)

  -- the file with entry number n
  module _ (n : ℕ) (nm : List ℕ) (offset size : ℕ) (e : get_or (nodes_in image) n empty_root ≡ file nm offset size) where
    is-file : is_directory (get_or (nodes_in image) n empty_root) ≡ false
    is-file = rw e

    here : region (files_in image) (files_before n (nodes_in image)) ≡ record { offset = offset; size = size }
    here = files-at n (nodes_in image) is-file ∙ rw e

    inb : files_before n (nodes_in image) < length (files_in image)
    inb = files-count n (nodes_in image) is-file

    pub entry-least : (history_of l n).m ≤ size
    entry-least = rw (number n) (rw here at (file-true (files_before n (nodes_in image)) inb).least)

    pub entry_known : (history_of l n).m ≤ length (history_of l n).bytes
    entry_known = rw (number n) (file-true (files_before n (nodes_in image)) inb).known

    pub entry_first : span image offset (history_of l n).m ≡ take (history_of l n).m (history_of l n).bytes
    entry_first = rw (number n) (rw here at (first-bytes (files_before n (nodes_in image)) inb))

    pub entry_place : (history_of l n).named ≡ false → (offset ≡ (history_of l n).place) × (size ≡ length (history_of l n).bytes) × (span image offset size ≡ (history_of l n).bytes)
    entry_place = rw (number n) (λ z.
        let u = rw here at ((file-true (files_before n (nodes_in image)) inb).unnamed z) in
        (u.0, u.1 ∙ sym u.2, rw here at (all-bytes (files_before n (nodes_in image)) inb z)))
