-- What stands in a table's unread bytes has no influence on an edit: the verdict and the record are the same, and where a table is written so is
-- the whole image. Assumes nothing.
use Rattle.std.specs.Prelude.{Result, Ok, Err, is_err}
use Rattle.std.specs.Prelude.{ℕ, ◌+◌, ◌-◌, ◌<◌, ◌≤◌, ◌≡◌, refl, Bool, true, false, cond, List, [], ◌∷◌, length, get_or, slice_index, replicate}
use Rattle.std.proofs.Common.{sym, ap, ◌∙◌, ⊎_elim, inl, inr, arith, true≢false, ext_get_or, length-append}
use Rattle.std.proofs.lemmas.List.{length-replicate}
use Rattle.endian.specs.Bytes.{put, span, AllBytes}
use Rattle.endian.specs.Laws.Stored.{Outside, length-put, put-before, put-after, put_in}
use Rattle.refusal.specs.declared.Refusal.{Refusal}
use Rattle.refusal.specs.Refusal.{Verdict, first}
use Rattle.refusal.specs.Laws.Tests.{lt-or-le}
use Rattle.header.specs.Verdicts.{fst_offset, fst_size}
use Rattle.tree.specs.Table.{encode}
use Rattle.totals.specs.Totals.{team_verdict, totals_verdict, moved_totals}
use Rattle.opened.specs.Opening.{nodes_in, free_space_of, used_of, opening, Disc, disc_of}
use Rattle.edit_rules.specs.Change.{Change, padded_table, image_with_table, copied_image, written_image, Plan, refused, nothing, change, filled}
use Rattle.edit_rules.specs.Edits.{Edit, Account, plan_of, plan_verdict, plan_image, plan_number, number_behind, space_change, counted_verdict, verdict_of, image_after, totals_after}
use Rattle.edit_rules.proofs.Laws.Accepted.{accepted}
use Rattle.edit_rules.proofs.Laws.Puts.{Fits, put-length, span-length}
use Rattle.ledger.specs.Ledger.{Ledger, first_ledger, ledger_with}
use Rattle.ledger.specs.Runs.{Call, image_after_all, totals_after_all, IsPassable, AllWithin}
use Rattle.ledger.specs.Lists.{answers_of}
use Rattle.ledger.proofs.Laws.Opened.{Opened, opened}
use Rattle.ledger.proofs.Laws.Kept.{Kept, opened-kept}
use Rattle.ledger.proofs.Laws.Sequence.{start}
use Rattle.ledger.proofs.Laws.Steps.{step-accepted, step}
use Rattle.steps.proofs.Laws.FreePlace.{span_same}
use Rattle.same_table.specs.Trees.{WritesNewTable}
use Rattle.same_table.specs.Unread.{DifferInUnread}
use Rattle.same_table.specs.Theorem.{EditAlike, NoInfluence, RunAlike, NoInfluenceAlong}
use Rattle.same_table.proofs.Laws.Tabled.{is_tabled, plan-tabled}
use Rattle.same_table.proofs.Laws.SafeChange.{SafeChange, clip_offset, IsSafePlan, safe-plan}
use Rattle.same_table.proofs.Laws.UnreadImage.{SameButUnread, same-but-unread, start-same, size_same, tree-unread, used-unread, free-unread, opening-unread, disc-unread, open-alike, put-alike, put-unread, put-differ}
use Rattle.same_table.proofs.Laws.UnreadFields.{parent-unread, name-unread}

same-differ : (image new : List ℕ) → new ≡ image → DifferInUnread image new
same-differ image new e = record { len = ap length e; same = λ i h. ap (λ (s : List ℕ). slice_index s i) e }

module _ (image new : List ℕ) (o : Opened image) (s : SameButUnread image new) where
  -- ---- a change: the copy comes from behind the table, and the new table covers the old one

  module _ (c : Change) (p : SafeChange c image) where
    abbrev tab : List ℕ
    tab = padded_table (encode c.nodes) (fst_size image)

    tab-length : length tab ≡ length (encode c.nodes) + (fst_size image - length (encode c.nodes))
    tab-length = length-append (encode c.nodes) (replicate (fst_size image - length (encode c.nodes)) 0) ∙ ap (λ (k : ℕ). length (encode c.nodes) + k) (length-replicate {A = ℕ} (fst_size image - length (encode c.nodes)) 0)

    source_fits : Fits image c.old.offset c.kept
    source_fits z = omega (arith, (p.safe.copied z).3, o.bounds.image_holds)

    copy-same : span new c.old.offset c.kept ≡ span image c.old.offset c.kept
    copy-same = span_same image new c.old.offset c.kept s.len source_fits (λ i h. s.same i (inr (omega (arith, p.source (omega arith), h.0))))

    copy-length : length (span image c.old.offset c.kept) ≡ c.kept
    copy-length = span-length image c.old.offset c.kept source_fits

    copy_fits : Fits image c.place.offset (length (span image c.old.offset c.kept))
    copy_fits h = let z : 0 < c.kept = rw copy-length at h in omega (arith, copy-length, (p.safe.copied z).2, o.bounds.image_holds)

    length-copied : length (copied_image c image) ≡ length image
    length-copied = put-length image c.place.offset (span image c.old.offset c.kept) copy_fits

    copied-length : length (copied_image c new) ≡ length (copied_image c image)
    copied-length = rw copy-same (put-length new c.place.offset (span image c.old.offset c.kept) (rw s.len copy_fits) ∙ s.len ∙ sym length-copied)

    copied-same : (i : ℕ) → Outside (fst_offset image) (fst_size image) i → get_or (copied_image c new) i 0 ≡ get_or (copied_image c image) i 0
    copied-same i h = rw copy-same (put-alike image new c.place.offset (span image c.old.offset c.kept) copy_fits s.len i (s.same i h))

    tab_fits : fst_offset image + length tab ≤ length (copied_image c image)
    tab_fits = rw length-copied (omega (arith, tab-length, p.safe.table, o.bounds.table, o.bounds.image_holds))

    tab_fits' : fst_offset image + length tab ≤ length (copied_image c new)
    tab_fits' = rw copied-length tab_fits

    covered : put (copied_image c new) (fst_offset image) tab ≡ put (copied_image c image) (fst_offset image) tab
    covered =
        ext_get_or 0 (put (copied_image c new) (fst_offset image) tab) (put (copied_image c image) (fst_offset image) tab)
        (length-put (copied_image c new) (fst_offset image) tab tab_fits' ∙ copied-length ∙ sym (length-put (copied_image c image) (fst_offset image) tab tab_fits))
        (λ i l. ⊎_elim (λ u. put-before (copied_image c new) (fst_offset image) tab tab_fits' i u ∙ copied-same i (inl u) ∙ sym (put-before (copied_image c image) (fst_offset image) tab tab_fits i u))
        (λ u. ⊎_elim (λ v. inner i u v)
        (λ v. put-after (copied_image c new) (fst_offset image) tab tab_fits' i v ∙ copied-same i (inr (omega (arith, tab-length))) ∙ sym (put-after (copied_image c image) (fst_offset image) tab tab_fits i v)) (lt-or-le i (fst_offset image + length tab))) (lt-or-le i (fst_offset image)))
      where
        inner : (i : ℕ) → fst_offset image ≤ i → i < fst_offset image + length tab → get_or (put (copied_image c new) (fst_offset image) tab) i 0 ≡ get_or (put (copied_image c image) (fst_offset image) tab) i 0
        inner i u v =
            let q : fst_offset image + (i - fst_offset image) ≡ i = omega arith in
            ap (λ (n : ℕ). get_or (put (copied_image c new) (fst_offset image) tab) n 0) (sym q) ∙ put_in (copied_image c new) (fst_offset image) tab tab_fits' (i - fst_offset image) (omega arith)
            ∙ sym (put_in (copied_image c image) (fst_offset image) tab tab_fits (i - fst_offset image) (omega arith)) ∙ ap (λ (n : ℕ). get_or (put (copied_image c image) (fst_offset image) tab) n 0) q

    -- LAW: the whole image is then the same, byte for byte
    written-unread : written_image c new ≡ written_image c image
    unfolding written_image image_with_table
    written-unread = rw (start-same image new o.bounds s, size_same image new o.bounds s, covered)

  -- ---- a plan

  tabled-unread : (p : Plan) → IsSafePlan image p → is_tabled p ≡ true → plan_image p new ≡ plan_image p image
  tabled-unread (refused v) q t = absurd (true≢false (sym t))
  tabled-unread nothing q t = absurd (true≢false (sym t))
  tabled-unread (change k c) q t = written-unread c q
  tabled-unread (filled k clip p) q t = rw (tree-unread image new o s, tabled-unread p q.0 t)

  -- where no table is written, nothing is but clips
  untabled-unread : (p : Plan) → IsSafePlan image p → is_tabled p ≡ false → SameButUnread (plan_image p image) (plan_image p new)
  untabled-unread (refused v) q t = s
  untabled-unread nothing q t = s
  untabled-unread (change k c) q t = absurd (true≢false t)
  untabled-unread (filled k clip p) q t = rw (tree-unread image new o s) (put-unread (plan_image p image) (plan_image p new) (untabled-unread p q.0 t) (clip_offset p image k) clip q.1)

  differ-still : DifferInUnread image new → (p : Plan) → IsSafePlan image p → is_tabled p ≡ false → DifferInUnread (plan_image p image) (plan_image p new)
  differ-still d (refused v) q t = d
  differ-still d nothing q t = d
  differ-still d (change k c) q t = absurd (true≢false t)
  differ-still d (filled k clip p) q t = rw (tree-unread image new o s) (put-differ (plan_image p image) (plan_image p new) (differ-still d p q.0 t) (clip_offset p image k) clip q.1)

  planned-differ : DifferInUnread image new → (p : Plan) → IsSafePlan image p → DifferInUnread (plan_image p image) (plan_image p new)
  planned-differ d p q = go (is_tabled p) refl
    where
      go : (b : Bool) → is_tabled p ≡ b → DifferInUnread (plan_image p image) (plan_image p new)
      go true t = same-differ (plan_image p image) (plan_image p new) (tabled-unread p q t)
      go false t = differ-still d p q t

  -- what the plan comes to of both
  record PlannedAlike (p : Plan) : Type 0 where
    used : used_of (plan_image p new) ≡ used_of (plan_image p image)
    free : free_space_of (plan_image p new) ≡ free_space_of (plan_image p image)

  planned-alike : (p : Plan) → IsSafePlan image p → Opened (plan_image p image) → PlannedAlike p
  planned-alike p q h = go (is_tabled p) refl
    where
      go : (b : Bool) → is_tabled p ≡ b → PlannedAlike p
      go true t = let e = tabled-unread p q t in record { used = ap used_of e; free = ap (λ (x : List ℕ). free_space_of x) e }
      go false t = let d = untabled-unread p q t in record { used = used-unread (plan_image p image) (plan_image p new) h d; free = free-unread (plan_image p image) (plan_image p new) h d }

-- ---- an edit

module _ (image : List ℕ) (w : ℕ) (b : AllBytes image) (e : opening image w ≡ Ok tt) (new : List ℕ) (d : DifferInUnread image new) where
  o : Opened image
  o = opened image w e b

  s : SameButUnread image new
  s = same-but-unread image w b e new d

  module _ (ed : Edit) (a : Account) (words bytes : ℕ) (h : IsPassable ed) where
    abbrev p : Plan
    p = plan_of ed (disc_of image)

    plan-same : plan_of ed (disc_of new) ≡ plan_of ed (disc_of image)
    plan-same = ap (plan_of ed) (disc-unread image new o s)

    own-same : plan_verdict p (disc_of new) words bytes ≡ plan_verdict p (disc_of image) words bytes
    own-same = ap (λ (x : Disc). plan_verdict p x words bytes) (disc-unread image new o s)

    -- if it opens with those words and passes the edit's own tests
    module _ (v : opening image words ≡ Ok tt) (u : plan_verdict p (disc_of image) words bytes ≡ Ok tt) where
      safe : IsSafePlan image p
      safe = safe-plan image words bytes b v ed h u

      after : Opened (plan_image p image)
      after =
          let l : words ≤ words = omega arith in
          opened-kept words (plan_image p image) (ledger_with ed (first_ledger image)) (step-accepted words image (first_ledger image) (start image words words l b v) words bytes l ed h u)

      space-same : space_change new (plan_image p new) ≡ space_change image (plan_image p image)
      space-same = let q = planned-alike image new o s p safe after in rw (used-unread image new o s, q.used, q.free)

    -- LAW: the verdict
    verdict-unread : verdict_of ed a new words bytes ≡ verdict_of ed a image words bytes
    unfolding verdict_of counted_verdict
    verdict-unread = rw (opening-unread image new o s words, plan-same, own-same) (opens (opening image words) refl)
      where
        counts : opening image words ≡ Ok tt → (v : Verdict) → plan_verdict p (disc_of image) words bytes ≡ v →
            first v (totals_verdict a.totals a.team (space_change new (plan_image p new))) ≡ first v (totals_verdict a.totals a.team (space_change image (plan_image p image)))
        counts q (Ok _) u = rw (space-same q u)
        counts q (Err c) u = refl

        opens : (v : Verdict) → opening image words ≡ v →
            first v (first (team_verdict a.team) (first (plan_verdict p (disc_of image) words bytes) (totals_verdict a.totals a.team (space_change new (plan_image p new)))))
            ≡ first v (first (team_verdict a.team) (first (plan_verdict p (disc_of image) words bytes) (totals_verdict a.totals a.team (space_change image (plan_image p image)))))
        opens (Ok _) q = ap (first (team_verdict a.team)) (counts q (plan_verdict p (disc_of image) words bytes) refl)
        opens (Err c) q = refl

    -- LAW: the record
    totals-unread : totals_after ed a new words bytes ≡ totals_after ed a image words bytes
    unfolding totals_after
    totals-unread = rw (verdict-unread, plan-same) (go (verdict_of ed a image words bytes) refl)
      where
        go : (v : Verdict) → verdict_of ed a image words bytes ≡ v → cond (is_err v) a.totals (moved_totals a.totals a.team (space_change new (plan_image p new))) ≡ cond (is_err v) a.totals (moved_totals a.totals a.team (space_change image (plan_image p image)))
        go (Ok _) q = let t = accepted ed a image words bytes q in rw (space-same t.opens t.own)
        go (Err c) q = refl

    -- LAW: the image, where a table is written
    written-same : verdict_of ed a image words bytes ≡ Ok tt → WritesNewTable (nodes_in image) ed → image_after ed a new words bytes ≡ image_after ed a image words bytes
    unfolding image_after
    written-same q t =
        let r = accepted ed a image words bytes q in
        rw (verdict-unread, q, plan-same) (tabled-unread image new o s p (safe r.opens r.own) (plan-tabled (disc_of image) words bytes ed t r.own))

    -- LAW: the image, whatever is written
    after-differ : DifferInUnread (image_after ed a image words bytes) (image_after ed a new words bytes)
    unfolding image_after
    after-differ = rw (verdict-unread, plan-same) (go (verdict_of ed a image words bytes) refl)
      where
        go : (v : Verdict) → verdict_of ed a image words bytes ≡ v → DifferInUnread (cond (is_err v) image (plan_image p image)) (cond (is_err v) new (plan_image p new))
        go (Ok _) q = let r = accepted ed a image words bytes q in planned-differ image new o s d p (safe r.opens r.own)
        go (Err c) q = d

    pub edit-alike : EditAlike ed a image new words bytes
    edit-alike = record { verdict = verdict-unread; totals = totals-unread; written = written-same; differ = after-differ }

-- THEOREM: what stands there has no influence
pub no-influence : NoInfluence
no-influence image w b e = record {
  opens = λ new d. open-alike image new (opened image w e b) (same-but-unread image w b e new d);
  edits = edit-alike image w b e;
  parent = parent-unread image w b e;
  root-name = name-unread image w b e;
}

-- ---- a list of calls

along-unread : (w : ℕ) (calls : List Call) (image new : List ℕ) (l : Ledger) → AllWithin w calls → Kept w image l → DifferInUnread image new → RunAlike calls image new
unfolding image_after_all answers_of totals_after_all
along-unread w [] image new l h k d = record { answers = refl; handed-on = λ t. refl; at-last = d }
along-unread w (c ∷ calls) image new l h k d =
    let e : EditAlike c.edit c.account image new c.words c.bytes = edit-alike image w k.bytes k.opens new d c.edit c.account c.words c.bytes h.1 in
    let r = along-unread w calls (image_after c.edit c.account image c.words c.bytes) (image_after c.edit c.account new c.words c.bytes) _ h.2 (step w image l k c.words c.bytes h.0 c.account c.edit h.1) e.differ in
    let p = ap (λ (x : Disc). number_behind (verdict_of c.edit c.account new c.words c.bytes) (plan_number (plan_of c.edit x))) (disc-unread image new (opened image w k.opens k.bytes) (same-but-unread image w k.bytes k.opens new d)) in
    record {
      answers = ap (λ (x : Result ℕ Refusal). x ∷ answers_of calls (image_after c.edit c.account new c.words c.bytes)) p ∙ rw (e.verdict, r.answers);
      handed-on = λ t. rw e.totals (r.handed-on (totals_after c.edit c.account image c.words c.bytes));
      at-last = r.at-last;
    }

-- THEOREM: nor along any list of them
pub no-influence-along : NoInfluenceAlong
no-influence-along image new w₀ w calls b e a d =
    along-unread (w₀ + w) calls image new (first_ledger image) (more calls a) (start image w₀ (w₀ + w) (omega arith) b e) d
  where
    more : (cs : List Call) → AllWithin w cs → AllWithin (w₀ + w) cs
    more [] h = tt
    more (c ∷ cs) h = (omega (arith, h.0), h.1, more cs h.2)
