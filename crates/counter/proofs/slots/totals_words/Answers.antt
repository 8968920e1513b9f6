-- `counter::slots::totals_words` meets its contract: one team more, and what was written is read back.
use Rattle.std.proofs.Common.{rules, arith, ◌≡◌, length}
use Rattle.counter.proofs.Records.{write-turn, write-end, read-back}
use Rattle.counter.proofs.slots.totals_words.Goals as goal

pub loop-k-preserved : goal.loop-k-preserved
loop-k-preserved c =
    let many : length c.args.totals.now.teams ≡ 16 = search rules in
    write-turn c.args.totals.now c.loop-k.k c.loop-k.slots _ _ _ c.loop-k.invariant (omega arith) many c.team_words.ensures c.put_words.ensures

pub returns-clause-words : goal.returns-clause-words
returns-clause-words c =
    let many : length c.args.totals.now.teams ≡ 16 = search rules in
    write-end c.args.totals.now c.loop-k.slots c.loop-k.k c.loop-k.invariant many (omega arith)

pub returns-clause-read_back : goal.returns-clause-read_back
returns-clause-read_back c =
    let many : length c.args.totals.now.teams ≡ 16 = search rules in
    rw (write-end c.args.totals.now c.loop-k.slots c.loop-k.k c.loop-k.invariant many (omega arith)) (read-back c.args.totals.now many)
