-- `Entries::texts_verdict` meets its contract: each return by the tests that led there.
use native.Mathlib.Omega.{arith}
use mathlib.Core.Path.{◌≡◌, sym, ◌∙◌}
use mathlib.Core.Bool.{true, false}
use Prim.Native.Nat.{◌+◌, ◌-◌, ◌*◌}
use borrow.Author.Tests.{lt-ltb, le-ltb, le-leb, lt-leb}
use lib.ListN.{length}
use Rattle.tree.specs.Table.{is_unended, size_or_next}
use Rattle.table.specs.Inner.Reading.{texts_verdict}
use Rattle.table.proofs.acceptance.Entries.texts_verdict.Goals as goal

pub returns-then-is_unended : goal.returns-then-is_unended
unfolding texts_verdict
returns-then-is_unended c =
    let a = c.args in
    let u : is_unended a.self.now.table.now a.self.now.count ≡ true = sym c.is_unended.ensures ∙ c.if-is_unended.true in
    rw u

pub returns-then-self-gt-TEXTS_LIMIT : goal.returns-then-self-gt-TEXTS_LIMIT
unfolding texts_verdict
returns-then-self-gt-TEXTS_LIMIT c =
    let a = c.args in
    let u : is_unended a.self.now.table.now a.self.now.count ≡ false = sym c.is_unended.ensures ∙ c.if-is_unended.false in
    rw (u, lt-ltb 1048576 (length a.self.now.table.now - 12 * a.self.now.count) (omega arith))

pub returns-then-words-self : goal.returns-then-words-self
unfolding texts_verdict
returns-then-words-self c =
    let a = c.args in
    let u : is_unended a.self.now.table.now a.self.now.count ≡ false = sym c.is_unended.ensures ∙ c.if-is_unended.false in
    rw (u, le-ltb 1048576 (length a.self.now.table.now - 12 * a.self.now.count) (omega arith), lt-ltb a.words (4 * (a.self.now.count + 2)) (omega arith))

pub returns-then-read_u32-eq0 : goal.returns-then-read_u32-eq0
unfolding texts_verdict
returns-then-read_u32-eq0 c =
    let a = c.args in
    let u : is_unended a.self.now.table.now a.self.now.count ≡ false = sym c.is_unended.ensures ∙ c.if-is_unended.false in
    rw (u, le-ltb 1048576 (length a.self.now.table.now - 12 * a.self.now.count) (omega arith), le-ltb a.words (4 * (a.self.now.count + 2)) (omega arith), le-leb (size_or_next a.self.now.table.now 0) 0 (omega arith))

pub returns : goal.returns
unfolding texts_verdict
returns c =
    let a = c.args in
    let u : is_unended a.self.now.table.now a.self.now.count ≡ false = sym c.is_unended.ensures ∙ c.if-is_unended.false in
    rw (u, le-ltb 1048576 (length a.self.now.table.now - 12 * a.self.now.count) (omega arith), le-ltb a.words (4 * (a.self.now.count + 2)) (omega arith), lt-leb (size_or_next a.self.now.table.now 0) 0 (omega arith)) c.walk.ensures
