-- `Collected::add_entries` meets its contract. The invariant of its loop: the regions of the entries passed stand after those that were there.
use Rattle.std.proofs.Common.{◌≡◌, ◌+◌, ◌-◌, ◌≤◌, length}
use Rattle.opened.specs.Inner.Prepared.{CollectedTo}
use Rattle.opened.proofs.regions.Collected.add_entries.Given as goal

abbrev pub invariant-loop-k : goal.invariant-loop-k
invariant-loop-k l =
    (l.self.count ≤ l.initial.self.count + (l.k - l.from))
    × (length l.self.words.now ≡ length l.initial.self.words.now)
    × (l.self.words.ghost_name ≡ l.initial.self.words.ghost_name)
    × CollectedTo l.table l.from l.initial.self.count l.initial.self.words.now l.self.words.now l.k l.self.count
