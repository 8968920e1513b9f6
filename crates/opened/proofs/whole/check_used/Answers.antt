-- `whole::check_used` meets its contract: an accepted table gives what `collect` and the test of the regions ask, and their answers join to opening's.
use Rattle.std.proofs.Common.{length, refl, ap, ◌∙◌, arith}
use Rattle.std.proofs.lemmas.Result.{err_from_is_err_and}
use Rattle.opened.proofs.Laws.OpeningLaws.{readable}
use Rattle.opened.proofs.Tests.{words-enough, used-words, end_fits, table-end-fits, regions-room, regions-full, left_open, left-refused}
use Rattle.tree.specs.Table.{count}
use Rattle.opened.proofs.Heads.{end_is, table_end_is}
use Rattle.opened.proofs.Opens.{table_is, opens_there}
use Rattle.opened.proofs.whole.check_used.Goals as goal

pub overflow_cast-end : goal.overflow_cast-end
overflow_cast-end g c =
    let k = readable g.image (length c.args.words.now) c.requires.0.bytes c.requires.1.0 in
    omega (arith, end_fits _ _ k.bounds (c.disc_end-end.ensures ∙ end_is _ _ _ c.requires.0.head))

pub new-table-requires : goal.new-table-requires
new-table-requires g c =
    opens_there _ _ c.requires.0.table_is _ (readable g.image (length c.args.words.now) c.requires.0.bytes c.requires.1.0) c.requires.1.0

pub overflow_cast-to : goal.overflow_cast-to
overflow_cast-to g c =
    let k = readable g.image (length c.args.words.now) c.requires.0.bytes c.requires.1.0 in
    omega (arith, table-end-fits _ _ k.bounds (c.table_end-to.ensures ∙ table_end_is _ _ _ c.requires.0.head))

pub collect-m-requires : goal.collect-m-requires
collect-m-requires g c =
    let k = readable g.image (length c.args.words.now) c.requires.0.bytes c.requires.1.0 in
    words-enough _ _ _ k (ap count (c.new-table.ensures ∙ table_is _ _ c.requires.0.table_is _ k))

pub check-requires : goal.check-requires
check-requires g c =
    let k = readable g.image (length c.args.words.now) c.requires.0.bytes c.requires.1.0 in
    let t = c.new-table.ensures ∙ table_is _ _ c.requires.0.table_is _ k in
    record {
      beside = omega (arith, c.collect-m.ensures.bound, c.len-count.ensures.len);
      room = regions-room _ _ _ _ _ k (c.len-count.ensures.len ∙ ap count t) (rw (← c.len-count.ensures.len) at c.collect-m.ensures.bound) c.collect-m.auto.words;
      nonempty = regions-full _ _ _ _ _ _ _ t (c.table_end-to.ensures ∙ table_end_is _ _ _ c.requires.0.head) (ap count t) c.requires.1.1.1 c.collect-m.ensures;
    }

pub returns : goal.returns
returns g c =
    let k = readable g.image (length c.args.words.now) c.requires.0.bytes c.requires.1.0 in
    let t = c.new-table.ensures ∙ table_is _ _ c.requires.0.table_is _ k in
    let h = c.requires.0.head in
    let used = used-words _ _ _ _ _ _ _ t (c.table_end-to.ensures ∙ table_end_is _ _ _ h) (ap count t) c.requires.1.1.1 c.collect-m.ensures in
    left_open _ _ _ _ _ _ _ _ c.requires.1.0 c.requires.1.1.0 used (c.disc_end-end.ensures ∙ end_is _ _ _ h) c.in_ok-check.ensures (c.check.auto.words ∙ c.collect-m.auto.words) c.requires.0.bytes refl

pub returns-in_err-check : goal.returns-in_err-check
returns-in_err-check g c =
    let k = readable g.image (length c.args.words.now) c.requires.0.bytes c.requires.1.0 in
    let t = c.new-table.ensures ∙ table_is _ _ c.requires.0.table_is _ k in
    let h = c.requires.0.head in
    let used = used-words _ _ _ _ _ _ _ t (c.table_end-to.ensures ∙ table_end_is _ _ _ h) (ap count t) c.requires.1.1.1 c.collect-m.ensures in
    let p = err_from_is_err_and c.from_residual.result c.from_residual.ensures.1 in
    rw (p.1, p.2) (left-refused _ _ _ _ _ _ _ _ c.requires.1.0 c.requires.1.1.0 used (c.disc_end-end.ensures ∙ end_is _ _ _ h) c.in_err-check.ensures (c.check.auto.words ∙ c.collect-m.auto.words) _ refl)
