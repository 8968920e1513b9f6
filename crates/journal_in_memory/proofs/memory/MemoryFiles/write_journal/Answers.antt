use Rattle.std.proofs.Common.{◌≡◌, ◌≤◌, ◌+◌, max, ℕ, List, ◌++◌, length, take, drop, ◌∙◌, refl, arith, ap, length-append, length-drop, length-take-le}
use Rattle.std.proofs.lemmas.Result.{on_ok_weaker}
use Rattle.endian.specs.Bytes.{put}
use Rattle.journal.specs.Disk.{Disk, with_journal, TearsJournal}
use Rattle.journal.proofs.Torn.{put-torn_end, tears_journal-wider}
use Rattle.journal_in_memory.specs.declared.done.Event.TheVariants.{WroteJournal}
use Rattle.journal_in_memory.specs.Inner.Done.{LeftBy, disk_of}
use Rattle.journal_in_memory.proofs.Calls.{steps_one}
use Rattle.journal_in_memory.proofs.memory.MemoryFiles.write_journal.Goals as goal

-- a journal grows where bytes are put past its end
length-put_max : (s : List ℕ) (at : ℕ) (bs : List ℕ) → at ≤ length s → length (put s at bs) ≡ max (length s) (at + length bs)
unfolding put
length-put_max s at bs le = omega (arith, length-append (take at s) (bs ++ drop (at + length bs) s), length-append bs (drop (at + length bs) s), length-take-le at s le, length-drop (at + length bs) s)

pub returns-clause-written : goal.returns-clause-written
returns-clause-written g c = on_ok_weaker c.turn-turn.result
    (λ whole known. ap (with_journal (disk_of c.args.self.now.seen))
    (c.written.ensures ∙ ap (λ i. put i c.args.at c.part-told.result.now) c.deref.ensures.value ∙ ap (put c.args.self.now.seen.journal.items c.args.at) whole))
    c.part-told.ensures.whole

pub returns-clause-long : goal.returns-clause-long
returns-clause-long g c = on_ok_weaker c.turn-turn.result
    (λ whole. ap length (c.written.ensures ∙ ap (λ i. put i c.args.at c.part-told.result.now) c.deref.ensures.value ∙ ap (put c.args.self.now.seen.journal.items c.args.at) whole)
    ∙ length-put_max c.args.self.now.seen.journal.items c.args.at c.args.bytes.now c.requires)
    c.part-told.ensures.whole

pub returns-clause-steps : goal.returns-clause-steps
unfolding LeftBy
returns-clause-steps g c =
    let at = c.args.at in
    let told = c.part-told.result.now in
    let old = disk_of c.args.self.now.seen in
    let kept : length c.copy-kept.result.items ≡ length told = ap length c.copy-kept.ensures in
    let wider = λ (x y : Disk) (t : TearsJournal at (length told) x y).
    tears_journal-wider at (length told) at (length c.args.bytes.now) x y (omega arith) (omega (arith, c.part-told.ensures.within)) t in
    let is : c.written.result.items ≡ put old.journal at told = c.written.ensures ∙ ap (λ i. put i at told) c.deref.ensures.value in
    steps_one _ _ _ _ _ _ _ _ (WroteJournal at c.copy-kept.result) c.keep.ensures _
    (wider _ _ (record { image = refl; journal = rw is (put-torn_end old.journal at told c.requires); record_text = refl }))
    (λ o left. (_, left, rw kept (record { image = refl; journal = rw is (put-torn_end old.journal at told c.requires); record_text = refl })))
    (λ o d left. (left.0, left.1, wider _ _ (rw kept at left.2)))
