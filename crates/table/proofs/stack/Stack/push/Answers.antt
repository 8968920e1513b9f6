-- `Stack::push` meets its contract: the number goes behind the others, where there is room.
use native.Mathlib.Omega.{arith}
use mathlib.Core.Path.{◌∙◌, ap}
use Prim.Native.Nat.{◌<◌}
use lib.ListN.{length, length-set}
use Rattle.table.proofs.Walking.{length-open, open-dirs_with}
use Rattle.table.proofs.stack.Stack.push.Goals as goal

pub bounds-self-inside-self-inside : goal.bounds-self-inside-self-inside
bounds-self-inside-self-inside c =
    omega (arith, ap length c.self.view_is, length-open c.self.inside.words c.self.inside.depth, c.requires)

pub invariant_of-self : goal.invariant_of-self
invariant_of-self c =
    let s = c.self.inside in
    record { long = length-set _ _ _ ∙ c.self.invariant.long; fits = omega (arith, ap length c.self.view_is, length-open s.words s.depth, c.requires) }

pub returns : goal.returns
returns c =
    let s = c.self.inside in
    let r : s.depth < length s.words = omega (arith, ap length c.self.view_is, length-open s.words s.depth, c.requires, c.self.invariant.long) in
    rw (← c.self.view_is) (open-dirs_with s.words s.depth c.args.number r)
