-- Images that differ in unread bytes of the table at most open alike: with any words, to the same disc. And bytes put behind the table of
-- both leave them so. Assumes nothing.
use Rattle.std.specs.Prelude.{Ok}
use Rattle.std.specs.Prelude.{ℕ, ◌+◌, ◌-◌, ◌*◌, ◌<◌, ◌≤◌, ◌≡◌, false, List, [], ◌∷◌, length, get_or, leb}
use Rattle.std.proofs.Common.{sym, ap, ◌∙◌, ⊎_elim, inl, inr, arith, leb-true}
use Rattle.std.proofs.Math.ListN.{get_or-eq_default}
use Rattle.endian.specs.Bytes.{put, be32, AllBytes}
use Rattle.endian.specs.Laws.Stored.{Outside, be32-same, put-before, put-after, put_in, put-none, length-span, get_d-span}
use Rattle.refusal.specs.Laws.Tests.{lt-or-le, and_left, and_right, and-false, is_false}
use Rattle.header.specs.Verdicts.{fst_offset, fst_size, fst_max_size, user_size, disc_size, disc_end}
use Rattle.header.specs.Laws.FieldTests.{GoodHeader, Bounded, bounds-same, header-passes}
use Rattle.tree.specs.Table.{count}
use Rattle.tree.proofs.Laws.Accepted.{accepted}
use Rattle.executable.specs.Program.{program_in}
use Rattle.opened.specs.Opening.{table_of, nodes_in, regions_behind_table, used_in, layout_verdict, free_space_of, used_of, opening, disc_of}
use Rattle.opened.proofs.Laws.OpeningLaws.{table-accepted, span-bytes}
use Rattle.edit_rules.proofs.Laws.Puts.{Fits, put-length}
use Rattle.ledger.proofs.Laws.Opened.{Opened, opened}
use Rattle.ledger.proofs.Laws.ProgramKept.{ProgramKept, program-spared}
use Rattle.same_table.specs.Unread.{is_unread, is_unread_in, DifferInUnread}
use Rattle.same_table.specs.Theorem.{OpenAlike}
use Rattle.same_table.proofs.Laws.SafeChange.{FitsBehind}
use Rattle.same_table.proofs.Laws.WrittenTable.{start-behind, size-behind, table-behind}
use Rattle.same_table.proofs.Laws.UnreadTable.{IsUnread, unread-is, SameEntries, some, entries-of, entries-same, check-same}

-- the images have tables with the same entries, and all else in common
pub record SameButUnread (image new : List ℕ) : Type 0 where
  pub len : length new ≡ length image
  pub same : (i : ℕ) → Outside (fst_offset image) (fst_size image) i → get_or new i 0 ≡ get_or image i 0
  pub table : SameEntries (table_of image) (table_of new)

-- ---- from the bytes

table-at : (s : List ℕ) (i : ℕ) → i < fst_size s → get_or (table_of s) i 0 ≡ get_or s (fst_offset s + i) 0
unfolding table_of
table-at s i l = get_d-span s (fst_offset s) (fst_size s) i l

module _ (image : List ℕ) (w : ℕ) (b : AllBytes image) (e : opening image w ≡ Ok tt) where
  o : Opened image
  o = opened image w e b

  pub table-fits : fst_offset image + fst_size image ≤ length image
  table-fits = omega (arith, o.bounds.table, o.bounds.image_holds)

  pub table-length : length (table_of image) ≡ fst_size image
  unfolding table_of
  table-length = length-span image (fst_offset image) (fst_size image) table-fits

  table-bytes : AllBytes (table_of image)
  unfolding table_of
  table-bytes = span-bytes image (fst_offset image) (fst_size image) b

  pub entries_fit : 12 * count (table_of image) ≤ fst_size image
  entries_fit = omega (arith, table-length, (accepted (table_of image) w table-bytes (table-accepted image w e)).fits)

  module _ (new : List ℕ) (d : DifferInUnread image new) where
    -- all outside the table is read
    else-read : (i : ℕ) → Outside (fst_offset image) (fst_size image) i → is_unread_in image i ≡ false
    else-read i h = is_false (is_unread_in image i) (λ u.
        let f : fst_offset image ≤ i = leb-true (fst_offset image) i (and_left (leb (fst_offset image) i) (is_unread (table_of image) (i - fst_offset image)) u) in
        let t : IsUnread (table_of image) (i - fst_offset image) = unread-is (table_of image) (i - fst_offset image) (and_right (leb (fst_offset image) i) (is_unread (table_of image) (i - fst_offset image)) u) in
        let n : i < fst_offset image + fst_size image = ⊎_elim (λ a. omega (arith, a.1, some (table_of image), entries_fit)) (λ a. omega (arith, a.0, entries_fit)) t in
        ⊎_elim (λ a. omega arith) (λ a. omega arith) h)

    table-read : (i : ℕ) → is_unread (table_of image) i ≡ false → is_unread_in image (fst_offset image + i) ≡ false
    table-read i h =
        let q : fst_offset image + i - fst_offset image ≡ i = omega arith in
        rw (q, h) (and-false (leb (fst_offset image) (fst_offset image + i)))

    else_same : (i : ℕ) → Outside (fst_offset image) (fst_size image) i → get_or new i 0 ≡ get_or image i 0
    else_same i h = d.same i (else-read i h)

    field_same : (at : ℕ) → at + 4 ≤ 0x440 → be32 new at ≡ be32 image at
    field_same at h = be32-same new image at (λ i l. else_same (at + i) (inl (omega (arith, o.bounds.after-header))))

    table-len : length (table_of new) ≡ length (table_of image)
    unfolding table_of
    table-len =
        let f : fst_offset new ≡ fst_offset image = field_same 0x424 (omega arith) in
        let n : fst_size new ≡ fst_size image = field_same 0x428 (omega arith) in
        rw (f, n) (length-span new (fst_offset image) (fst_size image) (rw d.len table-fits) ∙ sym (length-span image (fst_offset image) (fst_size image) table-fits))

    table_same : (i : ℕ) → is_unread (table_of image) i ≡ false → get_or (table_of new) i 0 ≡ get_or (table_of image) i 0
    table_same i h = ⊎_elim inner (λ l. get_or-eq_default (table_of new) 0 {n = i} (omega (arith, table-len, table-length)) ∙ sym (get_or-eq_default (table_of image) 0 {n = i} (omega (arith, table-length)))) (lt-or-le i (fst_size image))
      where
        inner : i < fst_size image → get_or (table_of new) i 0 ≡ get_or (table_of image) i 0
        inner l =
            let f : fst_offset new ≡ fst_offset image = field_same 0x424 (omega arith) in
            let n : fst_size new ≡ fst_size image = field_same 0x428 (omega arith) in
            table-at new i (rw n l) ∙ ap (λ (at : ℕ). get_or new (at + i) 0) f ∙ d.same (fst_offset image + i) (table-read i h) ∙ sym (table-at image i l)

    -- LAW: what differs in unread bytes at most has all else in common
    pub same-but-unread : SameButUnread image new
    same-but-unread = record { len = d.len; same = else_same; table = entries-of (table_of image) (table_of new) table-len table_same }

-- ---- what is read of both

low_same : (image new : List ℕ) → SameButUnread image new → (i : ℕ) → i < fst_offset image → get_or new i 0 ≡ get_or image i 0
low_same image new s i h = s.same i (inl h)

module _ (image new : List ℕ) (b : Bounded image) (s : SameButUnread image new) where
  field-same : (at : ℕ) → at + 4 ≤ 0x440 → be32 new at ≡ be32 image at
  field-same at h = be32-same new image at (λ i l. low_same image new s (at + i) (omega (arith, b.after-header)))

  pub start-same : fst_offset new ≡ fst_offset image
  start-same = field-same 0x424 (omega arith)

  pub size_same : fst_size new ≡ fst_size image
  size_same = field-same 0x428 (omega arith)

  user-same : user_size new ≡ user_size image
  user-same = field-same 0x434 (omega arith)

  disc-same : disc_size new ≡ disc_size image
  disc-same = field-same 0x438 (omega arith)

  end_same : disc_end new ≡ disc_end image
  end_same = rw (user-same, disc-same)

module _ (image new : List ℕ) (o : Opened image) (s : SameButUnread image new) where
  abbrev start : fst_offset new ≡ fst_offset image
  start = start-same image new o.bounds s

  abbrev size : fst_size new ≡ fst_size image
  size = size_same image new o.bounds s

  abbrev end : disc_end new ≡ disc_end image
  end = end_same image new o.bounds s

  max_same : fst_max_size new ≡ fst_max_size image
  max_same = field-same image new o.bounds s 0x42C (omega arith)

  program-same : ProgramKept image new
  program-same =
      program-spared image new o s.len (λ i h. low_same image new s i (omega (arith, o.bounds.after-header))) (λ i h g. low_same image new s i g) (λ i h. s.same i (inr (o.places.lie 0 i h).0))

  -- LAW: the same tree, as many bytes used, the same free regions
  pub tree-unread : nodes_in new ≡ nodes_in image
  unfolding nodes_in
  tree-unread = entries-same (table_of image) (table_of new) s.table

  used-same : used_in new ≡ used_in image
  unfolding used_in regions_behind_table program_in
  used-same = rw (tree-unread, start, size, program-same.program)

  pub used-unread : used_of new ≡ used_of image
  unfolding used_of regions_behind_table program_in
  used-unread = rw (tree-unread, start, size, program-same.program)

  pub free-unread : free_space_of new ≡ free_space_of image
  free-unread = rw (used-same, end)

  header-same : GoodHeader new
  header-same = record {
    whole = rw s.len o.header.whole;
    not-wii = λ z. o.header.not-wii (sym (field-same image new o.bounds s 0x18 (omega arith)) ∙ z);
    is-gcn = field-same image new o.bounds s 0x1C (omega arith) ∙ o.header.is-gcn;
  }

  -- LAW: opening's verdict, with any words
  pub opening-unread : (w : ℕ) → opening new w ≡ opening image w
  unfolding opening layout_verdict
  opening-unread w =
      rw (
        header-passes new header-same,
        header-passes image o.header,
        bounds-same image new s.len start size (user-same image new o.bounds s) (disc-same image new o.bounds s),
        check-same (table_of image) (table_of new) s.table w,
        program-same.program,
        used-same,
        end,
      )

  -- LAW: the same disc, on which every edit is decided
  pub disc-unread : disc_of new ≡ disc_of image
  disc-unread = rw (tree-unread, start, size, max_same, end, used-same)

  pub open-alike : OpenAlike image new
  open-alike = record { opens = opening-unread; disc = disc-unread }

-- ---- bytes put into both

pub put-alike : (s s' : List ℕ) (at : ℕ) (bs : List ℕ) → Fits s at (length bs) → length s' ≡ length s → (i : ℕ) → get_or s' i 0 ≡ get_or s i 0 → get_or (put s' at bs) i 0 ≡ get_or (put s at bs) i 0
put-alike s s' at [] h l i e = rw (put-none s at, put-none s' at) e
put-alike s s' at (b ∷ bs) h l i e =
    let f : at + length (b ∷ bs) ≤ length s = h (omega arith) in
    let f' : at + length (b ∷ bs) ≤ length s' = rw l f in
    ⊎_elim (λ u. put-before s' at (b ∷ bs) f' i u ∙ e ∙ sym (put-before s at (b ∷ bs) f i u))
    (λ u. ⊎_elim (λ v. inner f f' u v) (λ v. put-after s' at (b ∷ bs) f' i v ∙ e ∙ sym (put-after s at (b ∷ bs) f i v)) (lt-or-le i (at + length (b ∷ bs)))) (lt-or-le i at)
  where
    inner : at + length (b ∷ bs) ≤ length s → at + length (b ∷ bs) ≤ length s' → at ≤ i → i < at + length (b ∷ bs) → get_or (put s' at (b ∷ bs)) i 0 ≡ get_or (put s at (b ∷ bs)) i 0
    inner f f' u v =
        let q : at + (i - at) ≡ i = omega arith in
        ap (λ (n : ℕ). get_or (put s' at (b ∷ bs)) n 0) (sym q) ∙ put_in s' at (b ∷ bs) f' (i - at) (omega arith)
        ∙ sym (put_in s at (b ∷ bs) f (i - at) (omega arith)) ∙ ap (λ (n : ℕ). get_or (put s at (b ∷ bs)) n 0) q

-- behind the table, which stays
module _ (image new : List ℕ) (s : SameButUnread image new) (at : ℕ) (bs : List ℕ) (p : FitsBehind image at bs) where
  fits-new : FitsBehind new at bs
  fits-new = record {
    bounds = record {
      after-header = rw (start-same image new p.bounds s) p.bounds.after-header;
      small = rw (end_same image new p.bounds s) p.bounds.small;
      table = rw (start-same image new p.bounds s, size_same image new p.bounds s, end_same image new p.bounds s) p.bounds.table;
      image_holds = rw (end_same image new p.bounds s, s.len) p.bounds.image_holds;
    };
    behind = rw (start-same image new p.bounds s, size_same image new p.bounds s) p.behind;
    fits = rw s.len p.fits;
  }

  -- LAW: the images still have all in common but unread bytes
  pub put-unread : SameButUnread (put image at bs) (put new at bs)
  put-unread = record {
    len = put-length new at bs fits-new.fits ∙ s.len ∙ sym (put-length image at bs p.fits);
    same = λ i h. put-alike image new at bs p.fits s.len i (s.same i (rw (start-behind image at bs p, size-behind image at bs p) at h));
    table = rw (table-behind image at bs p, table-behind new at bs fits-new) s.table;
  }

module _ (image new : List ℕ) (d : DifferInUnread image new) (at : ℕ) (bs : List ℕ) (p : FitsBehind image at bs) where
  -- LAW: and differ in no others
  pub put-differ : DifferInUnread (put image at bs) (put new at bs)
  put-differ = record {
    len = put-length new at bs (rw d.len p.fits) ∙ d.len ∙ sym (put-length image at bs p.fits);
    same = λ i h. put-alike image new at bs p.fits d.len i (d.same i (rw (start-behind image at bs p, table-behind image at bs p) at h));
  }
