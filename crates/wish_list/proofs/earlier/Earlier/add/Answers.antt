-- `wish_list::earlier::Earlier::add` meets its contract: what the last path says of the next one, and that the marks are right for that one.
use native.Mathlib.Omega.{arith}
use Rattle.wish_list.proofs.Order.{below-if_not_le, not_below-if_le, within-if_not_le}
use Rattle.wish_list.proofs.Keeping.{order_verdict-behind, order_verdict-around, order_verdict-passed, kept-with}
use Rattle.wish_list.proofs.earlier.Earlier.add.Goals as goal

pub returns-then-le-clause-verdict : goal.returns-then-le-clause-verdict
returns-then-le-clause-verdict c =
    let a = c.args in
    λ before k. order_verdict-behind before a.self.now.last.now a.path.now a.self.now.marks c.requires.some k
    (not_below-if_le a.path.now a.self.now.last.now c.le.result c.le.ensures c.if-le.true)

pub is_around-requires-clause-within : goal.is_around-requires-clause-within
is_around-requires-clause-within c =
    within-if_not_le c.args.path.now c.args.self.now.last.now c.le.result c.le.ensures c.if-le.false c.common_length-common.result c.common_length-common.ensures.value

pub returns-then-is_around-clause-verdict : goal.returns-then-is_around-clause-verdict
returns-then-is_around-clause-verdict c =
    let a = c.args in
    λ before k. order_verdict-around before a.self.now.last.now a.path.now a.self.now.marks c.requires.some k
    (below-if_not_le a.path.now a.self.now.last.now c.le.result c.le.ensures c.if-le.false)
    c.is_around.result c.common_length-common.result c.common_length-common.ensures.value c.is_around.ensures c.if-is_around.true

pub clear-requires-clause-ordered : goal.clear-requires-clause-ordered
clear-requires-clause-ordered c =
    omega (arith, within-if_not_le c.args.path.now c.args.self.now.last.now c.le.result c.le.ensures c.if-le.false c.common_length-common.result c.common_length-common.ensures.value)

pub returns-clause-verdict : goal.returns-clause-verdict
returns-clause-verdict c =
    let a = c.args in
    λ before k. order_verdict-passed before a.self.now.last.now a.path.now a.self.now.marks c.requires.some k
    (below-if_not_le a.path.now a.self.now.last.now c.le.result c.le.ensures c.if-le.false)
    c.is_around.result c.common_length-common.result c.common_length-common.ensures.value c.is_around.ensures c.if-is_around.false

pub returns-clause-kept : goal.returns-clause-kept
returns-clause-kept c =
    let a = c.args in
    let b = below-if_not_le a.path.now a.self.now.last.now c.le.result c.le.ensures c.if-le.false in
    λ before k. kept-with before a.self.now.last.now a.path.now a.self.now.marks c.requires.some k b
    (order_verdict-passed before a.self.now.last.now a.path.now a.self.now.marks c.requires.some k b c.is_around.result c.common_length-common.result c.common_length-common.ensures.value c.is_around.ensures c.if-is_around.false)
    c.common_length-common.result c.common_length-common.ensures.value c.clear.new.marks (omega arith)
    (λ n h. c.clear.ensures.kept n (omega arith))
    (λ n h l. c.clear.ensures.cleared n (omega arith) (omega arith))
