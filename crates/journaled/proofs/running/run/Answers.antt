-- `running::run` meets its contract: only read, or read and then made.
use Rattle.std.proofs.Common.{List, ℕ, length}
use Rattle.std.proofs.lemmas.Result.{IfErr-weaker}
use Rattle.journal.specs.Disk.{Disk}
use Rattle.journal.specs.Journal.{kept_of}
use Rattle.journaled.specs.Edited.{turn_of, kept_edited}
use Rattle.journaled.proofs.Settled.{if_err, read-before, read-leaves, read_then, read-then_before}
use Rattle.journaled.proofs.running.run.Goals as goal

pub returns-in_err-read-clause-any_moment : goal.returns-in_err-read-clause-any_moment
returns-in_err-read-clause-any_moment g c = λ known. read-leaves _ _ _ (c.requires.settled known) c.read_parts.ensures.read _

pub returns-in_err-read-clause-not_begun : goal.returns-in_err-read-clause-not_begun
returns-in_err-read-clause-not_begun g c = if_err c.from_residual.result _ (λ stopped begun known. read-before _ _ _ (c.requires.settled known) c.read_parts.ensures.read)

pub returns-in_default-clause-any_moment : goal.returns-in_default-clause-any_moment
returns-in_default-clause-any_moment g c = λ known. read-leaves _ _ _ (c.requires.settled known) c.read_parts.ensures.read _

pub returns-clause-any_moment : goal.returns-clause-any_moment
returns-clause-any_moment g c = λ known.
    read_then _ _ _ (c.requires.settled known) c.read_parts.ensures.read _
    (λ (clip : List ℕ) (disk : Disk). kept_edited (turn_of c.args.order.now c.args.totals.now (length c.args.words.now) (length c.args.bytes.now) clip) (kept_of disk))
    (c.run_on.ensures.any_moment known)

pub returns-clause-not_begun : goal.returns-clause-not_begun
returns-clause-not_begun g c =
    IfErr-weaker c.run_on.result _ _ (λ stopped before begun known. read-then_before _ _ _ (c.requires.settled known) c.read_parts.ensures.read _ (before begun known)) c.run_on.ensures.not_begun
