-- `Table::name_place` meets its contract: the name offset behind the entries, and the name ends in the table.
use native.Mathlib.Omega.{arith}
use mathlib.Core.Path.{◌≡◌}
use Rattle.tree.specs.Table.{name_place}
use Rattle.table.proofs.Nodes.{held, name-short}
use Rattle.table.proofs.NamePlaces.{place_is}
use Rattle.table.proofs.Ended.{name-there, name-ended}
use Prim.Native.Nat.{◌+◌, ◌*◌}
use Rattle.table.proofs.entries.Table.name_place.Goals as goal

pub returns-clause-ended : goal.returns-clause-ended
returns-clause-ended c =
    let T = c.args.self.now in
    let k = c.args.k in
    let h = rw c.self.view_is at c.self.invariant in
    let e : 12 * c.len.result + c.name_offset.result ≡ name_place T k = omega (arith, place_is T k (λ e. omega (arith, c.requires.not_root)), c.len.ensures.len, rw c.self.view_is at c.name_offset.ensures.value) in
    rw e (name-ended (held h) k c.requires.not_root c.requires.within)

pub returns-clause-short : goal.returns-clause-short
returns-clause-short c =
    let T = c.args.self.now in
    let k = c.args.k in
    let h = rw c.self.view_is at c.self.invariant in
    let e : 12 * c.len.result + c.name_offset.result ≡ name_place T k = omega (arith, place_is T k (λ e. omega (arith, c.requires.not_root)), c.len.ensures.len, rw c.self.view_is at c.name_offset.ensures.value) in
    rw (e, ← name-there T k c.requires.not_root c.requires.within) (name-short (held h) k c.requires.not_root c.requires.within)
