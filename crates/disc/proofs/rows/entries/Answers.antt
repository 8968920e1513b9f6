-- `disc::rows::entries` meets its contract: the disc's entries, behind opening's tests and the list's room.
use Rattle.std.proofs.Common.{refl, ◌∙◌}
use Rattle.std.proofs.lemmas.Result.{err_from_is_err_and}
use Rattle.refusal.specs.declared.Refusal.{Refusal}
use Rattle.opened.proofs.Laws.AnswerLaws.{not_asked}
use Rattle.disc.specs.Files.{entries_answer, entries_list}
use Rattle.disc.proofs.Asked.{rows_asked, listing_asked}
use Rattle.disc.proofs.rows.entries.Goals as goal

pub returns-in_err-disc-clause-list_after : goal.returns-in_err-disc-clause-list_after
unfolding entries_list
returns-in_err-disc-clause-list_after c =
    rw (← c.new-lent.ensures.memory) (not_asked (λ (x : Refusal). c.args.list.now) _ _ _ _ c.of_image.ensures _ c.in_err-disc.was)

pub returns-in_err-list_entries-clause-answer : goal.returns-in_err-list_entries-clause-answer
unfolding entries_answer
returns-in_err-list_entries-clause-answer c =
    let p = err_from_is_err_and c.from_residual-in_err-list_entries.result c.from_residual-in_err-list_entries.ensures.1 in
    rw (p.1, p.2, ← c.new-lent.ensures.memory) (listing_asked _ _ _ c.of_image.ensures _ c.in_ok-disc.was _ (c.new.ensures ∙ c.table.ensures.bytes) _ _ _ c.list_entries.ensures.value c.in_err-list_entries.was _ refl)

pub returns-in_err-list_entries-clause-list_after : goal.returns-in_err-list_entries-clause-list_after
unfolding entries_list
returns-in_err-list_entries-clause-list_after c =
    rw (← c.new-lent.ensures.memory) (rows_asked _ _ _ c.of_image.ensures _ c.in_ok-disc.was _ (c.new.ensures ∙ c.table.ensures.bytes) _ _ _ c.start.ensures c.list_entries.ensures.list_after)

pub returns-clause-answer : goal.returns-clause-answer
unfolding entries_answer
returns-clause-answer c =
    rw (← c.new-lent.ensures.memory) (listing_asked _ _ _ c.of_image.ensures _ c.in_ok-disc.was _ (c.new.ensures ∙ c.table.ensures.bytes) _ _ _ c.list_entries.ensures.value c.in_ok-list_entries.was _ c.told.ensures)

pub returns-clause-list_after : goal.returns-clause-list_after
unfolding entries_list
returns-clause-list_after c =
    rw (← c.new-lent.ensures.memory) (rows_asked _ _ _ c.of_image.ensures _ c.in_ok-disc.was _ (c.new.ensures ∙ c.table.ensures.bytes) _ _ _ c.start.ensures c.list_entries.ensures.list_after)
