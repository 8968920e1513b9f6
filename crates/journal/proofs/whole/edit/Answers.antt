-- `whole::edit` meets its contract: what is noted stays behind the gates until the edit is made.
use Rattle.std.proofs.Common.{◌≡◌, subst}
use Rattle.std.specs.Prelude.{Result, Ok, OnOk}
use Rattle.journal.proofs.Carried.{then_on}
use Rattle.journal.proofs.Drafts.{committed_tells}
use Rattle.journal.proofs.whole.edit.Goals as goal

at_ok : {T E P : Type 0} (r : Result T E) (x : T) → r ≡ Ok x → OnOk r P → P
at_ok {T} {E} {P} r x is = subst (λ (q : Result T E). OnOk q P) is

pub returns-clause-tells : goal.returns-clause-tells
returns-clause-tells g c known =
    let ok = c.in_ok-as_stopped.ensures.ok in
    let settled = at_ok _ _ ok c.note.ensures.settled known in
    let ready = at_ok _ _ ok c.note.ensures.ready known in
    let told = at_ok _ _ ok c.note.ensures.told known in
    then_on _ _ _ _ _ (c.note.ensures.tells known) (committed_tells _ _ _ _ settled ready told c.commit.ensures.keeps) (λ d tells. tells)
