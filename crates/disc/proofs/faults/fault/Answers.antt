-- `disc::faults::fault` meets its contract: nothing where the image opens, and else the cause with what it is about.
use Rattle.std.specs.Prelude.{Option, Some, None, length}
use Rattle.std.proofs.Common.{refl}
use Rattle.refusal.specs.declared.Refusal.{Refusal}
use Rattle.opened.specs.declared.faults.Fault.{Fault}
use Rattle.opened.specs.Faults.{about_of, fault_of}
use Rattle.opened.proofs.Laws.AnswerLaws.{asked, not_asked}
use Rattle.disc.proofs.faults.fault.Goals as goal

pub returns-in-Ok-clause-answer : goal.returns-in-Ok-clause-answer
unfolding fault_of
returns-in-Ok-clause-answer c =
    let f : Refusal → Option Fault = λ x. Some (record { cause = x; about = about_of c.args.image.now (length c.new-lent.result.memory.now) }) in
    rw (← c.new-lent.ensures.memory) (asked f None _ _ _ c.of_image.ensures _ c.in-Ok.is None (λ m. refl))

pub returns-clause-answer : goal.returns-clause-answer
unfolding fault_of
returns-clause-answer c =
    let f : Refusal → Option Fault = λ x. Some (record { cause = x; about = about_of c.args.image.now (length c.new-lent.result.memory.now) }) in
    rw (c.subject.ensures, ← c.new-lent.ensures.memory) (not_asked f None _ _ _ c.of_image.ensures _ c.in-Err.is)
