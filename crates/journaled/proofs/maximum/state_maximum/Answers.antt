-- `maximum::state_maximum` meets its contract: only read, or read and then made.
use Rattle.std.proofs.Common.{List, ℕ}
use Rattle.std.proofs.lemmas.Result.{IfErr-weaker}
use Rattle.journal.specs.Disk.{Disk}
use Rattle.journal.specs.Journal.{kept_of}
use Rattle.journaled.specs.Edited.{kept_stated}
use Rattle.journaled.proofs.Settled.{if_err, read-before, read-leaves, read_then, read-then_before}
use Rattle.journaled.proofs.maximum.state_maximum.Goals as goal

pub returns-in_err-read-clause-any_moment : goal.returns-in_err-read-clause-any_moment
returns-in_err-read-clause-any_moment g c = λ known. read-leaves _ _ _ (c.requires.settled known) c.read_parts.ensures.read _

pub returns-in_err-read-clause-not_begun : goal.returns-in_err-read-clause-not_begun
returns-in_err-read-clause-not_begun g c = if_err c.from_residual.result _ (λ stopped begun known. read-before _ _ _ (c.requires.settled known) c.read_parts.ensures.read)

pub returns-in_default-clause-any_moment : goal.returns-in_default-clause-any_moment
returns-in_default-clause-any_moment g c = λ known. read-leaves _ _ _ (c.requires.settled known) c.read_parts.ensures.read _

pub returns-in-Err-clause-any_moment : goal.returns-in-Err-clause-any_moment
returns-in-Err-clause-any_moment g c = λ known. read-leaves _ _ _ (c.requires.settled known) c.read_parts.ensures.read _

pub returns-clause-any_moment : goal.returns-clause-any_moment
returns-clause-any_moment g c = λ known.
    read_then _ _ _ (c.requires.settled known) c.read_parts.ensures.read _ (λ (clip : List ℕ) (disk : Disk). kept_stated c.args.maximum (kept_of disk)) (c.state_opened.ensures.any_moment known)

pub returns-clause-not_begun : goal.returns-clause-not_begun
returns-clause-not_begun g c =
    IfErr-weaker c.state_opened.result _ _ (λ stopped before begun known. read-then_before _ _ _ (c.requires.settled known) c.read_parts.ensures.read _ (before begun known)) c.state_opened.ensures.not_begun
