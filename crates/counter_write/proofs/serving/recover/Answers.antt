use Rattle.std.proofs.Common.{rules, ◌≢◌}
use Rattle.journal.specs.declared.recovery.Found.TheVariants.{Another}
use Rattle.counter_write.proofs.serving.recover.Goals as goal

pub returns : goal.returns
returns g c = λ goes_on.
    let no : c.in-Ok.found ≢ Another = search rules in
    record { settled = c.in-Ok.ensures.settled no; some = c.in-Ok.ensures.some no }
