-- `noting::write_draft` meets its contract: head, parts, clip and sum stand one behind the other, and none on the gate.
use Rattle.std.proofs.Common.{◌≡◌, ℕ, ◌+◌, ◌-◌, List, ◌++◌, length, ◌∙◌, refl, ap, arith, length-append}
use Rattle.std.proofs.lemmas.Result.{on_ok_weaker}
use Rattle.endian.specs.Bytes.{span}
use Rattle.journal.specs.declared.noting.Places.{Places}
use Rattle.journal.specs.Disk.{Disk}
use Rattle.journal.specs.Journal.{sum_from}
use Rattle.journal.specs.Inner.Noted.{number_bytes, head_of, parts_of, summed}
use Rattle.journal.proofs.Brought.{journal-more}
use Rattle.journal.proofs.Behind.{keeps_gate-carried, keeps_gate_on}
use Rattle.journal.proofs.Noted.{length_head, clip_place, summed_noted}
use Rattle.journal.proofs.noting.write_draft.Goals as goal

pub returns-in_err-write_parts-clause-carried : goal.returns-in_err-write_parts-clause-carried
returns-in_err-write_parts-clause-carried g c = keeps_gate_on _ _ _ c.write_head.ensures.carried c.write_parts.ensures.carried

pub returns-in_err-note_clip-clause-carried : goal.returns-in_err-note_clip-clause-carried
returns-in_err-note_clip-clause-carried g c =
    let parts = keeps_gate_on _ _ _ c.write_head.ensures.carried c.write_parts.ensures.carried in
    let place = ap (λ (p : Places). p.clip) c.of-places.ensures in
    keeps_gate_on _ _ _ parts (keeps_gate-carried c.of-places.result.clip _ _ _ (omega arith) c.note_clip.ensures.carried)

pub returns-clause-carried : goal.returns-clause-carried
returns-clause-carried g c =
    let parts = keeps_gate_on _ _ _ c.write_head.ensures.carried c.write_parts.ensures.carried in
    let place = ap (λ (p : Places). p.clip) c.of-places.ensures in
    let clip = keeps_gate_on _ _ _ parts (keeps_gate-carried c.of-places.result.clip _ _ _ (omega arith) c.note_clip.ensures.carried) in
    keeps_gate_on _ _ _ clip c.note_sum.ensures.carried

pub returns-clause-done : goal.returns-clause-done
returns-clause-done g c =
    let d = c.args.draft.now in
    let old = g.F.Files.state c.args.files.now in
    let head = head_of d in
    let all = head ++ parts_of d in
    let long = length_head d c.requires.fits.header in
    let place = ap (λ (p : Places). p.clip) c.of-places.ensures ∙ clip_place d c.requires.fits.header in
    let clip = c.write_parts.ensures.carried.same_clip ∙ c.write_head.ensures.carried.same_clip in
    on_ok_weaker c.note_sum.result
    (λ noted known.
    let end : ℕ = c.of-places.result.clip + d.clip.len in
    let second = journal-more old.seen _ _ _ 1 1266 head (parts_of d) all (omega (arith, long)) refl refl (omega arith) (c.in_ok-write_head.ensures.done known) (c.in_ok-write_parts.ensures.done known) in
    let third = journal-more old.seen _ _ _ 1 c.of-places.result.clip all old.clip (all ++ old.clip) place refl refl (omega arith) second (rw clip at (c.in_ok-note_clip.ensures.done known)) in
    let ends : end ≡ 1 + length (all ++ old.clip) = omega (arith, place, c.requires.fits.clip_len, length-append all old.clip) in
    let seen = ap (λ (s : Disk). span s.journal 2 (end - 2)) third ∙ summed_noted d old.clip old.seen.journal (end - 2) c.requires.some (omega (arith, ends)) in
    let sum = ap (λ (bytes : List ℕ). number_bytes (sum_from 0 bytes)) seen in
    journal-more old.seen _ _ _ 1 end (all ++ old.clip) (number_bytes (sum_from 0 (summed d old.clip))) (all ++ old.clip ++ number_bytes (sum_from 0 (summed d old.clip)))
    ends refl refl (omega arith) third (rw sum at (noted known)))
    c.note_sum.ensures.done
