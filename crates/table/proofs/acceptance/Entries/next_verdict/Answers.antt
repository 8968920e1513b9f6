-- `Entries::next_verdict` meets its contract: each return by the tests that led there.
use native.Mathlib.Omega.{arith}
use borrow.Author.Tests.{lt-ltb, le-ltb, lt-leb, le-leb}
use Rattle.tree.specs.Table.{next_verdict, size_or_next, top}
use Rattle.table.proofs.Walking.{node-file, node-directory}
use lib.ListN.{length}
use borrow.Author.Rules.{rules}
use Rattle.table.proofs.acceptance.Entries.next_verdict.Goals as goal

pub returns-then-self-k-eq0 : goal.returns-then-self-k-eq0
unfolding next_verdict
returns-then-self-k-eq0 c = search (node-file, rules)

pub returns-then-next-k : goal.returns-then-next-k
unfolding next_verdict
returns-then-next-k c =
    let a = c.args in
    let n = size_or_next a.self.now.table.now a.k in
    rw (node-directory a.self.now.table.now a.self.now.count a.k c.if-self-k-eq0.false, le-leb n a.k (omega arith))

pub returns-then-self-next : goal.returns-then-self-next
unfolding next_verdict
returns-then-self-next c =
    let a = c.args in
    let n = size_or_next a.self.now.table.now a.k in
    rw (node-directory a.self.now.table.now a.self.now.count a.k c.if-self-k-eq0.false, lt-leb n a.k (omega arith), lt-ltb a.self.now.count n (omega arith))

pub returns-then-top-next : goal.returns-then-top-next
unfolding next_verdict
returns-then-top-next c =
    let a = c.args in
    let n = size_or_next a.self.now.table.now a.k in
    let t = top a.dirs.now in
    rw (node-directory a.self.now.table.now a.self.now.count a.k c.if-self-k-eq0.false, lt-leb n a.k (omega arith), le-ltb a.self.now.count n (omega arith), lt-ltb t n (omega arith))

pub returns-then-len-gt-DEPTH_LIMIT : goal.returns-then-len-gt-DEPTH_LIMIT
unfolding next_verdict
returns-then-len-gt-DEPTH_LIMIT c =
    let a = c.args in
    let n = size_or_next a.self.now.table.now a.k in
    let t = top a.dirs.now in
    rw (node-directory a.self.now.table.now a.self.now.count a.k c.if-self-k-eq0.false, lt-leb n a.k (omega arith), le-ltb a.self.now.count n (omega arith), le-ltb t n (omega arith), lt-ltb 64 (length a.dirs.now) (omega arith))

pub returns : goal.returns
unfolding next_verdict
returns c =
    let a = c.args in
    let n = size_or_next a.self.now.table.now a.k in
    let t = top a.dirs.now in
    rw (node-directory a.self.now.table.now a.self.now.count a.k c.if-self-k-eq0.false, lt-leb n a.k (omega arith), le-ltb a.self.now.count n (omega arith), le-ltb t n (omega arith), le-ltb 64 (length a.dirs.now) (omega arith))
