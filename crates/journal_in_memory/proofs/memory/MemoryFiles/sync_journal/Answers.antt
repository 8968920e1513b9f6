use Rattle.std.proofs.Common.{◌∙◌, sym}
use Rattle.journal_in_memory.specs.declared.done.Event.TheVariants.{SyncedJournal}
use Rattle.journal_in_memory.specs.Inner.Done.{LeftBy}
use Rattle.journal_in_memory.proofs.Calls.{looks_one, left_last}
use Rattle.journal_in_memory.proofs.memory.MemoryFiles.sync_journal.Goals as goal

pub returns-clause-durable : goal.returns-clause-durable
unfolding LeftBy
returns-clause-durable g c = left_last _ _ _ (SyncedJournal c.copy-kept.result) c.keep.ensures _ (λ old d left. left.1 ∙ c.copy-kept.ensures ∙ c.deref.ensures.value)

pub returns-clause-looks : goal.returns-clause-looks
unfolding LeftBy
returns-clause-looks g c = looks_one _ _ _ _ _ _ _ (SyncedJournal c.copy-kept.result) c.keep.ensures (λ old left. (left, sym (c.copy-kept.ensures ∙ c.deref.ensures.value))) (λ old d left. left.0)
