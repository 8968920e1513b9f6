-- `noting::note` meets its contract: the gate stays closed, and behind it stands what the draft says.
use Rattle.std.proofs.lemmas.Result.{on_ok_weaker}
use Rattle.journal.specs.Inner.Noted.{KeepsGate}
use Rattle.journal.proofs.Behind.{leaves_before, leaves_untold, settled_behind}
use Rattle.journal.proofs.Noted.{noted_applies, noted_comes_to, noted_told}
use Rattle.journal.proofs.OnDisk.{carried_looks}
use Rattle.journal.proofs.noting.note.Goals as goal

pub returns-in_err-write_draft-clause-any_moment : goal.returns-in_err-write_draft-clause-any_moment
returns-in_err-write_draft-clause-any_moment g c = λ known. leaves_before c.args.draft.now.number _ _ (c.requires.settled known) c.write_draft.ensures.carried

pub returns-clause-any_moment : goal.returns-clause-any_moment
returns-clause-any_moment g c =
    λ known. leaves_before c.args.draft.now.number _ _ (c.requires.settled known) (carried_looks KeepsGate _ _ _ c.write_draft.ensures.carried c.sync_journal.ensures.looks)

pub returns-clause-settled : goal.returns-clause-settled
returns-clause-settled g c =
    on_ok_weaker c.sync_journal.result
    (λ only known. settled_behind _ _ _ (c.requires.settled known) c.write_draft.ensures.carried c.sync_journal.ensures.looks only)
    c.sync_journal.ensures.durable

pub returns-clause-ready : goal.returns-clause-ready
returns-clause-ready g c =
    let d = c.args.draft.now in
    let old = g.F.Files.state c.args.files.now in
    let done = c.in_ok-write_draft.ensures in
    on_ok_weaker c.sync_journal.result
    (λ _ known. noted_applies d old.clip old.seen _ _ c.sync_journal.ensures.looks.seen (done.done known) c.requires.some done.fit c.requires.fits (c.requires.owner known))
    c.sync_journal.ensures.durable

pub returns-clause-comes_to : goal.returns-clause-comes_to
returns-clause-comes_to g c =
    let d = c.args.draft.now in
    let old = g.F.Files.state c.args.files.now in
    let done = c.in_ok-write_draft.ensures in
    on_ok_weaker c.sync_journal.result
    (λ _ known. noted_comes_to d old.clip old.seen _ _ c.sync_journal.ensures.looks.seen (done.done known) c.requires.some done.fit c.requires.fits (c.requires.owner known))
    c.sync_journal.ensures.durable

pub returns-clause-told : goal.returns-clause-told
returns-clause-told g c =
    let d = c.args.draft.now in
    let old = g.F.Files.state c.args.files.now in
    let done = c.in_ok-write_draft.ensures in
    on_ok_weaker c.sync_journal.result
    (λ _ known. noted_told d old.clip old.seen _ _ c.sync_journal.ensures.looks.seen (done.done known) c.requires.some done.fit c.requires.fits (c.requires.owner known))
    c.sync_journal.ensures.durable

pub returns-in_err-write_draft-clause-tells : goal.returns-in_err-write_draft-clause-tells
returns-in_err-write_draft-clause-tells g c = λ known. leaves_untold _ _ _ (c.requires.settled known) c.write_draft.ensures.carried

pub returns-clause-tells : goal.returns-clause-tells
returns-clause-tells g c =
    λ known. leaves_untold _ _ _ (c.requires.settled known) (carried_looks KeepsGate _ _ _ c.write_draft.ensures.carried c.sync_journal.ensures.looks)
