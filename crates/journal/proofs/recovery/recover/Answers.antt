use Rattle.std.proofs.Common.{sym, ◌∙◌, ap}
use Rattle.journal.specs.Journal.{kept_of, applies}
use Rattle.journal.proofs.OnDisk.{comes_from_looks, comes_from_behind, on_disk-looks}
use Rattle.journal.proofs.Recovered.{recovered_another}
use Rattle.journal.proofs.Drafts.{draft_looks, draft_on}
use Rattle.journal.proofs.recovery.recover.Goals as goal

pub returns-then-not-branch-2-clause-done : goal.returns-then-not-branch-2-clause-done
returns-then-not-branch-2-clause-done g c known =
    let old = (g.F.Files.state c.args.files.now).seen in
    let seen = c.is_ours.ensures.looks.seen ∙ c.read_head.ensures.looks.seen in
    let cannot = sym (c.in_ok-is_ours.ensures.ours known) ∙ c.if-not-branch-2.true in
    ap kept_of seen ∙ sym (recovered_another c.args.number old ((λ i. applies ((sym c.read_head.ensures.looks.seen i).journal) c.args.number ((sym c.read_head.ensures.looks.seen i).image)) ∙ cannot))

pub returns-in_err-keep_closed-clause-any_moment : goal.returns-in_err-keep_closed-clause-any_moment
returns-in_err-keep_closed-clause-any_moment g c known = comes_from_behind _ _ _ _ (c.requires.on_disk known) c.read_head.ensures.looks (c.keep_closed.ensures.any_moment known _)

pub returns-then-not-branch-clause-any_moment : goal.returns-then-not-branch-clause-any_moment
returns-then-not-branch-clause-any_moment g c known = comes_from_behind _ _ _ _ (c.requires.on_disk known) c.read_head.ensures.looks (c.keep_closed.ensures.any_moment known _)

pub returns-in_err-is_ours-clause-any_moment : goal.returns-in_err-is_ours-clause-any_moment
returns-in_err-is_ours-clause-any_moment g c known =
    let read = on_disk-looks _ _ (c.requires.on_disk known) c.read_head.ensures.looks in
    comes_from_behind _ _ _ _ (c.requires.on_disk known) c.read_head.ensures.looks (comes_from_looks _ _ _ read c.is_ours.ensures.looks)

pub returns-then-not-branch-2-clause-any_moment : goal.returns-then-not-branch-2-clause-any_moment
returns-then-not-branch-2-clause-any_moment g c known =
    let read = on_disk-looks _ _ (c.requires.on_disk known) c.read_head.ensures.looks in
    comes_from_behind _ _ _ _ (c.requires.on_disk known) c.read_head.ensures.looks (comes_from_looks _ _ _ read c.is_ours.ensures.looks)

pub returns-in_err-finish-clause-any_moment : goal.returns-in_err-finish-clause-any_moment
returns-in_err-finish-clause-any_moment g c known =
    let read = on_disk-looks _ _ (c.requires.on_disk known) c.read_head.ensures.looks in
    comes_from_behind _ _ _ _ (c.requires.on_disk known) c.read_head.ensures.looks (comes_from_behind _ _ _ _ read c.is_ours.ensures.looks (c.finish.ensures.any_moment known))

pub returns-clause-any_moment : goal.returns-clause-any_moment
returns-clause-any_moment g c known =
    let read = on_disk-looks _ _ (c.requires.on_disk known) c.read_head.ensures.looks in
    comes_from_behind _ _ _ _ (c.requires.on_disk known) c.read_head.ensures.looks (comes_from_behind _ _ _ _ read c.is_ours.ensures.looks (c.finish.ensures.any_moment known))

pub returns-in_err-read_head-clause-keeps : goal.returns-in_err-read_head-clause-keeps
returns-in_err-read_head-clause-keeps g c = draft_looks _ _ c.read_head.ensures.looks

pub returns-in_err-keep_closed-clause-keeps : goal.returns-in_err-keep_closed-clause-keeps
returns-in_err-keep_closed-clause-keeps g c = draft_on _ _ _ (draft_looks _ _ c.read_head.ensures.looks) c.keep_closed.ensures.keeps

pub returns-then-not-branch-clause-keeps : goal.returns-then-not-branch-clause-keeps
returns-then-not-branch-clause-keeps g c = draft_on _ _ _ (draft_looks _ _ c.read_head.ensures.looks) c.keep_closed.ensures.keeps

pub returns-in_err-is_ours-clause-keeps : goal.returns-in_err-is_ours-clause-keeps
returns-in_err-is_ours-clause-keeps g c = draft_on _ _ _ (draft_looks _ _ c.read_head.ensures.looks) (draft_looks _ _ c.is_ours.ensures.looks)

pub returns-then-not-branch-2-clause-keeps : goal.returns-then-not-branch-2-clause-keeps
returns-then-not-branch-2-clause-keeps g c = draft_on _ _ _ (draft_looks _ _ c.read_head.ensures.looks) (draft_looks _ _ c.is_ours.ensures.looks)

pub returns-in_err-finish-clause-keeps : goal.returns-in_err-finish-clause-keeps
returns-in_err-finish-clause-keeps g c = draft_on _ _ _ (draft_on _ _ _ (draft_looks _ _ c.read_head.ensures.looks) (draft_looks _ _ c.is_ours.ensures.looks)) c.finish.ensures.keeps

pub returns-clause-keeps : goal.returns-clause-keeps
returns-clause-keeps g c = draft_on _ _ _ (draft_on _ _ _ (draft_looks _ _ c.read_head.ensures.looks) (draft_looks _ _ c.is_ours.ensures.looks)) c.finish.ensures.keeps
