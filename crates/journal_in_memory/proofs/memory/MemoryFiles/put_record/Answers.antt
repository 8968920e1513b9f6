use Rattle.std.proofs.Common.{◌≡◌, inr, ap, ◌∙◌, refl, sym}
use Rattle.journal.specs.Disk.{Disk}
use Rattle.journal_in_memory.specs.declared.done.Event.TheVariants.{PutRecord}
use Rattle.journal_in_memory.specs.Inner.Done.{LeftBy}
use Rattle.journal_in_memory.proofs.Calls.{steps_one, left_last}
use Rattle.journal_in_memory.proofs.memory.MemoryFiles.put_record.Goals as goal

pub returns-clause-durable : goal.returns-clause-durable
unfolding LeftBy
returns-clause-durable g c =
    left_last _ _ _ (PutRecord c.copy-kept.result) c.keep.ensures
    (λ d. d.record_text ≡ c.args.text.now)
    (λ old d left. ap (λ (e : Disk). e.record_text) left.2 ∙ c.copy-kept.ensures)

pub returns-clause-steps : goal.returns-clause-steps
unfolding LeftBy
returns-clause-steps g c = steps_one _ _ _ _ _ _ _ _ (PutRecord c.copy-kept.result) c.keep.ensures _
    (record { image = refl; journal = refl; record_text = inr c.copy.ensures })
    (λ old left. (_, left, (λ i. record { image = c.args.self.now.seen.image.items; journal = c.args.self.now.seen.journal.items; record_text = (c.copy.ensures ∙ sym c.copy-kept.ensures) i })))
    (λ old d left. (left.0, left.1, rw left.2 (record { image = refl; journal = refl; record_text = inr c.copy-kept.ensures })))
