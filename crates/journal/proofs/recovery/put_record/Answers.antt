use Rattle.std.proofs.Common.{◌≡◌, ◌≢◌, ◌≤◌, sym, ◌∙◌, ap, ℕ, ◌-◌, List, length, take, length-take-le, arith}
use Rattle.std.proofs.lemmas.Result.{on_ok_weaker}
use Rattle.endian.specs.Bytes.{span}
use Rattle.journal.specs.Disk.{Disk, with_record}
use Rattle.journal.specs.Journal.{is_open, applies, record_count, record_after}
use Rattle.journal.proofs.Carried.{carried-steps}
use Rattle.journal.proofs.OnDisk.{leaves_seen, comes_from_looks, leaves-carried, carried_behind, on_disk-record, if_ok_both}
use Rattle.journal.proofs.Recovered.{comes_from_same, record_after-some, putting_leaves, puts_record_refl}
use Rattle.journal.proofs.Drafts.{draft_none, draft_looks, draft_record, draft_on}
use Rattle.journal.proofs.recovery.put_record.Goals as goal

-- what is read is the whole of the journal's record
read_text : (desk journal text old : List ℕ) (count : ℕ) → count ≡ record_count journal → record_count journal ≢ 0 → count ≤ 4097 → 4096 ≤ length desk
    → text ≡ span journal 1266 (length (take (count - 1) desk)) → text ≡ record_after journal old
read_text desk journal text old count is some short room read =
    read ∙ ap (span journal 1266) (length-take-le (count - 1) desk (omega arith) ∙ ap (λ (n : ℕ). n - 1) is) ∙ sym (record_after-some journal old some)

pub returns-then-count-eq0-clause-any_moment : goal.returns-then-count-eq0-clause-any_moment
returns-then-count-eq0-clause-any_moment g c known = leaves_seen _ _ (c.requires.pending known).on_disk (comes_from_same _ _)

pub returns-in_err-read_journal-clause-any_moment : goal.returns-in_err-read_journal-clause-any_moment
returns-in_err-read_journal-clause-any_moment g c known = comes_from_looks _ _ _ (c.requires.pending known).on_disk c.read_journal.ensures.looks

pub returns-clause-any_moment : goal.returns-clause-any_moment
returns-clause-any_moment g c known =
    let p = c.requires.pending known in
    let count = c.record_count-count.ensures ∙ c.requires.same known in
    let some : record_count (g.F.Files.state c.args.files.now).seen.journal ≢ 0 = λ none. c.if-count-eq0.false (count ∙ none) in
    let whole = read_text _ _ _ (g.F.Files.state c.args.files.now).seen.record_text _ count some (omega (arith, c.requires.fits.short_record, c.record_count-count.ensures)) c.requires.room (c.in_ok-read_journal.ensures.bytes known) in
    leaves-carried _ (puts_record_refl _) _ _ _ p.on_disk (carried_behind _ _ _ _ c.read_journal.ensures.looks (carried-steps _ _ _ c.put_record.ensures.steps))
    (λ d. putting_leaves _ _ p.gate_open p.can_apply d _ (c.requires.copied known) (c.requires.done known) some whole)

pub returns-clause-stays : goal.returns-clause-stays
returns-clause-stays g c = on_ok_weaker c.put_record.result (λ durable known.
    let p = c.requires.pending known in
    let count = c.record_count-count.ensures ∙ c.requires.same known in
    let some : record_count (g.F.Files.state c.args.files.now).seen.journal ≢ 0 = λ none. c.if-count-eq0.false (count ∙ none) in
    let whole = read_text _ _ _ (g.F.Files.state c.args.files.now).seen.record_text _ count some (omega (arith, c.requires.fits.short_record, c.record_count-count.ensures)) c.requires.room (c.in_ok-read_journal.ensures.bytes known) in
    putting_leaves _ _ p.gate_open p.can_apply _ _ (c.requires.copied known) (c.requires.done known) some whole (carried_behind _ _ _ _ c.read_journal.ensures.looks (carried-steps _ _ _ c.put_record.ensures.steps)).part) c.put_record.ensures.durable

pub returns-clause-done : goal.returns-clause-done
returns-clause-done g c = on_ok_weaker c.put_record.result (λ written known.
    let old = (g.F.Files.state c.args.files.now).seen in
    let count = c.record_count-count.ensures ∙ c.requires.same known in
    let whole = read_text _ _ _ old.record_text _ count (λ none. c.if-count-eq0.false (count ∙ none)) (omega (arith, c.requires.fits.short_record, c.record_count-count.ensures)) c.requires.room (c.in_ok-read_journal.ensures.bytes known) in
    written known ∙ ap (λ (d : Disk). with_record d c.read_journal.new.bytes) c.read_journal.ensures.looks.seen ∙ ap (with_record old) whole) c.put_record.ensures.written

pub returns-clause-pending : goal.returns-clause-pending
returns-clause-pending g c = on_ok_weaker c.put_record.result (λ both known.
    let p = c.requires.pending known in
    let carried = carried_behind _ _ _ _ c.read_journal.ensures.looks (carried-steps _ _ _ c.put_record.ensures.steps) in
    record {
      on_disk = on_disk-record _ _ _ p.on_disk carried (λ d e puts. puts.image) (λ d e puts. puts.journal) (λ d left. both.1 d left ∙ sym (ap (λ (e : Disk). e.record_text) (both.0 known)));
      gate_open = ap is_open carried.part.journal ∙ p.gate_open;
      can_apply = (λ i. applies (carried.part.journal i) c.args.number (carried.part.image i)) ∙ p.can_apply;
    }) (if_ok_both _ _ c.put_record.result c.put_record.ensures.written c.put_record.ensures.durable)

pub returns-then-count-eq0-clause-keeps : goal.returns-then-count-eq0-clause-keeps
returns-then-count-eq0-clause-keeps g c = draft_none _

pub returns-in_err-read_journal-clause-keeps : goal.returns-in_err-read_journal-clause-keeps
returns-in_err-read_journal-clause-keeps g c = draft_looks _ _ c.read_journal.ensures.looks

pub returns-clause-keeps : goal.returns-clause-keeps
returns-clause-keeps g c = draft_on _ _ _ (draft_looks _ _ c.read_journal.ensures.looks) (draft_record _ _ _ c.put_record.ensures.steps)
