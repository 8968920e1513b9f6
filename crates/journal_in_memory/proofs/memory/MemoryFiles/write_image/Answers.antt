use Rattle.std.proofs.Common.{◌≡◌, ◌≤◌, ◌+◌, length, ◌∙◌, refl, arith, ap}
use Rattle.std.proofs.lemmas.Result.{on_ok_weaker}
use Rattle.endian.specs.Bytes.{put}
use Rattle.journal.specs.Disk.{Disk, with_image, TearsImage}
use Rattle.journal.proofs.Torn.{put-torn, tears_image-wider}
use Rattle.journal_in_memory.specs.declared.done.Event.TheVariants.{WroteImage}
use Rattle.journal_in_memory.specs.Inner.Done.{LeftBy, disk_of}
use Rattle.journal_in_memory.proofs.Calls.{steps_one}
use Rattle.journal_in_memory.proofs.memory.MemoryFiles.write_image.Goals as goal

pub returns-clause-written : goal.returns-clause-written
returns-clause-written g c = on_ok_weaker c.turn-turn.result
    (λ whole known. ap (with_image (disk_of c.args.self.now.seen))
    (c.written.ensures ∙ ap (λ i. put i c.args.at c.part-told.result.now) c.deref.ensures.value ∙ ap (put c.args.self.now.seen.image.items c.args.at) whole))
    c.part-told.ensures.whole

pub returns-clause-steps : goal.returns-clause-steps
unfolding LeftBy
returns-clause-steps g c =
    let at = c.args.at in
    let told = c.part-told.result.now in
    let old = disk_of c.args.self.now.seen in
    let kept : length c.copy-kept.result.items ≡ length told = ap length c.copy-kept.ensures in
    let fits : at + length told ≤ length old.image = omega (arith, c.requires, c.part-told.ensures.within) in
    let wider = λ (x y : Disk) (t : TearsImage at (length told) x y).
    tears_image-wider at (length told) at (length c.args.bytes.now) x y (omega arith) (omega (arith, c.part-told.ensures.within)) t in
    let is : c.written.result.items ≡ put old.image at told = c.written.ensures ∙ ap (λ i. put i at told) c.deref.ensures.value in
    steps_one _ _ _ _ _ _ _ _ (WroteImage at c.copy-kept.result) c.keep.ensures _
    (wider _ _ (record { image = rw is (put-torn old.image at told fits); journal = refl; record_text = refl }))
    (λ o left. (_, left, rw kept (record { image = rw is (put-torn old.image at told fits); journal = refl; record_text = refl })))
    (λ o d left. (left.0, left.1, wider _ _ (rw kept at left.2)))
