-- `list::apply_all` meets its contract: each step of its loop is one turn more.
use Rattle.std.proofs.Common.{rules, arith, map, []}
use Rattle.std.proofs.lemmas.List.{length-map}
use Rattle.endian.specs.Bytes.{AllBytes}
use Rattle.edit.specs.Asked.{turn_of}
use Rattle.edit.proofs.Lists.{begun, turn, next, none-applied, none-holds, none-tells, none-share, all-applied, all-hold, all-tell, all-share}
use Rattle.edit.proofs.list.apply_all.Goals as goal

pub returns-then-answers-turns-clause-applied : goal.returns-then-answers-turns-clause-applied
returns-then-answers-turns-clause-applied c = none-applied (map turn_of c.args.turns.now) _ _ _ _ _ (rw length-map c.if-answers-turns.true) _ _ (search rules) (search rules)

pub returns-then-answers-turns-clause-ledger_holds : goal.returns-then-answers-turns-clause-ledger_holds
returns-then-answers-turns-clause-ledger_holds c =
    let b : AllBytes c.args.image.now = search rules in
    none-holds (map turn_of c.args.turns.now) _ _ _ c.args.totals.now _ (rw length-map c.if-answers-turns.true) [] [] b

pub returns-then-answers-turns-clause-record_tells : goal.returns-then-answers-turns-clause-record_tells
returns-then-answers-turns-clause-record_tells c =
    let b : AllBytes c.args.image.now = search rules in
    none-tells (map turn_of c.args.turns.now) _ _ _ c.args.totals.now _ (rw length-map c.if-answers-turns.true) [] [] b

pub returns-then-answers-turns-clause-shares_hold : goal.returns-then-answers-turns-clause-shares_hold
returns-then-answers-turns-clause-shares_hold c =
    let b : AllBytes c.args.image.now = search rules in
    none-share (map turn_of c.args.turns.now) _ _ _ c.args.totals.now _ (rw length-map c.if-answers-turns.true) [] [] b

pub loop-i-init : goal.loop-i-init
loop-i-init c =
    let b : AllBytes c.args.image.now = search rules in
    record { in_range = omega arith; underway = begun _ _ _ _ _ _ b; words = search rules; bytes = search rules }

pub loop-i-preserved : goal.loop-i-preserved
loop-i-preserved c =
    let k = c.loop-i.invariant in
    record {
      in_range = omega arith;
      underway = turn _ _ _ _ _ _ _ _ _ _ _ _ _ _ _ _ _ _ k.underway (omega arith) (next turn_of c.args.turns.now c.loop-i.i _ (omega arith)) k.words k.bytes c.run.ensures.edited c.run.ensures.passable;
      words = search rules;
      bytes = search rules;
    }

pub returns-clause-applied : goal.returns-clause-applied
returns-clause-applied c =
    let k = c.loop-i.invariant in
    all-applied (map turn_of c.args.turns.now) _ _ _ _ _ (rw length-map c.if-answers-turns.false) _ _ _ _ _ _ k.underway (rw length-map c.loop-i-test.false) (rw length-map k.in_range) (search rules) (search rules)

pub returns-clause-ledger_holds : goal.returns-clause-ledger_holds
returns-clause-ledger_holds c =
    let k = c.loop-i.invariant in
    let b : AllBytes c.args.image.now = search rules in
    all-hold (map turn_of c.args.turns.now) _ _ _ _ _ (rw length-map c.if-answers-turns.false) _ _ [] [] _ _ k.underway (rw length-map c.loop-i-test.false) (rw length-map k.in_range) b

pub returns-clause-record_tells : goal.returns-clause-record_tells
returns-clause-record_tells c =
    let k = c.loop-i.invariant in
    let b : AllBytes c.args.image.now = search rules in
    all-tell (map turn_of c.args.turns.now) _ _ _ _ _ (rw length-map c.if-answers-turns.false) _ _ [] [] _ _ k.underway (rw length-map c.loop-i-test.false) (rw length-map k.in_range) b

pub returns-clause-shares_hold : goal.returns-clause-shares_hold
returns-clause-shares_hold c =
    let k = c.loop-i.invariant in
    let b : AllBytes c.args.image.now = search rules in
    all-share (map turn_of c.args.turns.now) _ _ _ _ _ (rw length-map c.if-answers-turns.false) _ _ [] [] _ _ k.underway (rw length-map c.loop-i-test.false) (rw length-map k.in_range) b
