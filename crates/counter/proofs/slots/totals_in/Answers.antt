-- `counter::slots::totals_in` meets its contract: one team more, and all of them at the end.
use Rattle.std.proofs.Common.{rules, arith, refl, ◌≡◌, length}
use Rattle.counter.specs.Replies.{teams_at}
use Rattle.counter.proofs.Records.{read-turn, read-end, all-slots}
use Rattle.counter.proofs.slots.totals_in.Goals as goal

pub loop-k-init : goal.loop-k-init
unfolding teams_at
loop-k-init c = record { within = omega arith; filled = refl }

pub loop-k-preserved : goal.loop-k-preserved
loop-k-preserved c = read-turn _ _ _ _ _ c.loop-k.invariant (omega arith) c.team_at.ensures

pub returns-clause-written_back : goal.returns-clause-written_back
returns-clause-written_back c =
    let slots = c.args.slots.now in
    let room : length slots ≡ 66 = search rules in
    let read = read-end slots _ c.loop-k.team-items c.loop-k.k c.loop-k.invariant refl (omega arith) in
    rw read (all-slots slots room)
