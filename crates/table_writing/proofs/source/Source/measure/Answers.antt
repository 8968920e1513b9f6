-- `Source::measure` meets its contract. The invariant: the entries before k are measured.
use native.Mathlib.Omega.{arith}
use Rattle.table_writing.proofs.Measuring.{measure-root, measure-next, measure-past, measure-whole, texts-past, texts-whole, name-length}
use Rattle.table_writing.proofs.source.Source.measure.Goals as goal

pub returns-then-texts-gt-TEXTS_LIMIT : goal.returns-then-texts-gt-TEXTS_LIMIT
returns-then-texts-gt-TEXTS_LIMIT c = texts-past _ _ c.in-Some.ensures c.if-texts-gt-TEXTS_LIMIT.true

pub returns-in-Some : goal.returns-in-Some
returns-in-Some c = texts-whole _ _ c.in-Some.ensures _ c.count-count.ensures.value c.if-texts-gt-TEXTS_LIMIT.false

pub loop-k-init : goal.loop-k-init
loop-k-init c =
    rw c.count-count.ensures.value (measure-root c.args.self.now _ _ c.count-count.ensures.valid (omega arith))

pub returns-then-size-k : goal.returns-then-size-k
returns-then-size-k c = search (measure-past, name-length)

pub loop-k-preserved : goal.loop-k-preserved
loop-k-preserved c =
    let l = c.loop-k in
    measure-next c.args.self.now _ l.size l.k l.invariant _ c.loop-k-test.true (name-length _ _ _ _ c.count-count.ensures.value c.name-name.ensures) _ (omega arith) (omega (arith, c.if-size-k.false))

pub returns : goal.returns
returns c = search measure-whole
