-- `Entries::walk_refused` meets its contract. The invariant of its loop: what is left of the walk has the answer of the whole.
use Prim.Native.Nat.{◌*◌}
use mathlib.Core.Path.{◌≡◌}
use Rattle.table.proofs.Walking.{Sought}
use Rattle.table.proofs.acceptance.Entries.walk_refused.Given as goal

abbrev pub invariant-loop-k : goal.invariant-loop-k
invariant-loop-k l = record { sought : Sought l.self.table.now l.self.count l.dirs l.k; table : l.texts.table ≡ l.self.table.now; base : l.texts.base ≡ 12 * l.self.count }
