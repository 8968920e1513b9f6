-- `running::run_on` meets its contract: what is decided on is refused, or made.
use Rattle.std.proofs.Common.{length, arith}
use Rattle.journaled.specs.Inner.Behind.{image_behind}
use Rattle.journaled.proofs.Accounts.{decided-can, known-refused, known-entered, known-carried, answered-done, answered_left}
use Rattle.journaled.proofs.Settled.{still-leaves}
use Rattle.journaled.proofs.running.run_on.Goals as goal

-- ---- refused

pub returns-in-Err-clause-answered : goal.returns-in-Err-clause-answered
returns-in-Err-clause-answered g c = λ known.
    let s = g.F.Files.state c.args.files.now in
    known-refused c.args.order.now c.args.totals.now c.decide.new.totals (length c.args.words.now) (length c.args.bytes.now) c.decide.new.bytes s.clip g.F.Files.known s.seen c.args.parts known c.in-Err.refusal c.in-Err.ensures

pub returns-in-Err-clause-any_moment : goal.returns-in-Err-clause-any_moment
returns-in-Err-clause-any_moment g c = λ known. still-leaves _ _ _ (c.requires.settled known)

-- ---- decided on

pub make_decided-requires-clause-can : goal.make_decided-requires-clause-can
make_decided-requires-clause-can g c =
    let s = g.F.Files.state c.args.files.now in
    decided-can c.args.order.now.request c.args.order.now.team (image_behind g.F.Files.known s.seen.image c.args.parts) (length c.args.words.now) (length c.args.bytes.now) c.decide.new.bytes s.clip c.args.totals.now
    c.decide.new.totals c.in-Ok.decision c.requires.parts.bytes c.requires.clip (omega arith) c.in-Ok.ensures

pub returns-in_err-answer-clause-any_moment : goal.returns-in_err-answer-clause-any_moment
returns-in_err-answer-clause-any_moment g c = λ known.
    let s = g.F.Files.state c.args.files.now in
    rw
    (← known-carried c.args.order.now c.args.totals.now c.decide.new.totals (length c.args.words.now) (length c.args.bytes.now) c.decide.new.bytes s.clip g.F.Files.known s.seen c.args.parts known c.in-Ok.decision c.in-Ok.ensures)
    (c.make_decided.ensures.any_moment known)

pub returns-in-Done-clause-answered : goal.returns-in-Done-clause-answered
returns-in-Done-clause-answered g c = λ known table.
    let s = g.F.Files.state c.args.files.now in
    answered-done c.args.order.now c.args.totals.now c.decide.new.totals (length c.args.words.now) (length c.args.bytes.now) c.decide.new.bytes s.clip c.in-Ok.decision s.seen _ table
    (known-entered c.args.order.now c.args.totals.now c.decide.new.totals (length c.args.words.now) (length c.args.bytes.now) c.decide.new.bytes s.clip g.F.Files.known s.seen c.args.parts known c.in-Ok.decision c.in-Ok.ensures)
    c.in_ok-answer.answer c.in-Done.field-0 c.in-Done.is (c.in_ok-answer.ensures.made known)

pub returns-in-Done-clause-any_moment : goal.returns-in-Done-clause-any_moment
returns-in-Done-clause-any_moment g c = λ known.
    let s = g.F.Files.state c.args.files.now in
    rw
    (← known-carried c.args.order.now c.args.totals.now c.decide.new.totals (length c.args.words.now) (length c.args.bytes.now) c.decide.new.bytes s.clip g.F.Files.known s.seen c.args.parts known c.in-Ok.decision c.in-Ok.ensures)
    (c.make_decided.ensures.any_moment known)

pub returns-in_default-clause-answered : goal.returns-in_default-clause-answered
returns-in_default-clause-answered g c = λ known table.
    let s = g.F.Files.state c.args.files.now in
    answered_left c.args.order.now c.args.totals.now c.decide.new.totals (length c.args.words.now) (length c.args.bytes.now) c.decide.new.bytes s.clip c.in-Ok.decision s.seen _ table
    (known-entered c.args.order.now c.args.totals.now c.decide.new.totals (length c.args.words.now) (length c.args.bytes.now) c.decide.new.bytes s.clip g.F.Files.known s.seen c.args.parts known c.in-Ok.decision c.in-Ok.ensures)
    c.in_ok-answer.answer (λ k is. c.in_default.not-Done k is) (c.in_ok-answer.ensures.made known)

pub returns-in_default-clause-any_moment : goal.returns-in_default-clause-any_moment
returns-in_default-clause-any_moment g c = λ known.
    let s = g.F.Files.state c.args.files.now in
    rw
    (← known-carried c.args.order.now c.args.totals.now c.decide.new.totals (length c.args.words.now) (length c.args.bytes.now) c.decide.new.bytes s.clip g.F.Files.known s.seen c.args.parts known c.in-Ok.decision c.in-Ok.ensures)
    (c.make_decided.ensures.any_moment known)
