use Rattle.counter_write.specs.Inner.Desk.{IsReady}
use Rattle.counter_write.proofs.serving.converse.Given as goal

abbrev pub invariant-loop : goal.invariant-loop
invariant-loop g l = IsReady g.F.Files.known (g.F.Files.state l.files)
