use Rattle.std.proofs.Common.{◌≡◌, ◌∙◌, ap, subst, List}
use Rattle.std.proofs.lemmas.Result.{on_ok_weaker}
use Rattle.journal.specs.Disk.{Disk, State, with_image}
use Rattle.journal.specs.Journal.{is_open, after, writes_of}
use Rattle.journal.specs.Inner.Carried.{Carries, Loose}
use Rattle.journal.specs.declared.plan.Step.{Step}
use Rattle.journal.proofs.Loose.{loose_refl}
use Rattle.journal.proofs.OnDisk.{carried_looks, leaves-carried, on_disk-image}
use Rattle.journal.proofs.Recovered.{stepping_leaves, applies-stepping}
use Rattle.journal.proofs.Drafts.{draft_steps, draft_looks, draft_on}
use Rattle.journal.proofs.recovery.carry_out.Goals as goal

carries : (steps steps' : List Step) (old new : State) → steps ≡ steps' → Carries (Loose steps) old new → Carries (Loose steps') old new
carries steps steps' old new same = subst (λ (x : List Step). Carries (Loose x) old new) same

pub returns-in_err-apply-clause-any_moment : goal.returns-in_err-apply-clause-any_moment
returns-in_err-apply-clause-any_moment g c known =
    let p = c.requires.pending known in
    let carried = carries _ _ _ _ (c.steps.ensures ∙ c.requires.same known) c.apply.ensures.carried in
    leaves-carried _ (loose_refl _) _ _ _ p.on_disk carried (λ d. stepping_leaves _ _ p.gate_open p.can_apply d (c.requires.copied known))

pub returns-clause-any_moment : goal.returns-clause-any_moment
returns-clause-any_moment g c known =
    let p = c.requires.pending known in
    let carried = carried_looks _ _ _ _ (carries _ _ _ _ (c.steps.ensures ∙ c.requires.same known) c.apply.ensures.carried) c.sync_image.ensures.looks in
    leaves-carried _ (loose_refl _) _ _ _ p.on_disk carried (λ d. stepping_leaves _ _ p.gate_open p.can_apply d (c.requires.copied known))

pub returns-clause-stays : goal.returns-clause-stays
returns-clause-stays g c = on_ok_weaker c.sync_image.result (λ durable known.
    let p = c.requires.pending known in
    let carried = carried_looks _ _ _ _ (carries _ _ _ _ (c.steps.ensures ∙ c.requires.same known) c.apply.ensures.carried) c.sync_image.ensures.looks in
    stepping_leaves _ _ p.gate_open p.can_apply _ (c.requires.copied known) carried.part) c.sync_image.ensures.durable

pub returns-clause-pending : goal.returns-clause-pending
returns-clause-pending g c = on_ok_weaker c.sync_image.result (λ durable known.
    let p = c.requires.pending known in
    let carried = carries _ _ _ _ (c.steps.ensures ∙ c.requires.same known) c.apply.ensures.carried in
    let loose = (carried_looks _ _ _ _ carried c.sync_image.ensures.looks).part in
    record {
      on_disk = on_disk-image _ _ _ _ p.on_disk carried c.sync_image.ensures.looks (λ d e loose. loose.journal) (λ d e loose. loose.record_text) durable;
      gate_open = ap is_open loose.journal ∙ p.gate_open;
      can_apply = applies-stepping _ _ p.gate_open p.can_apply _ loose;
    }) c.sync_image.ensures.durable

pub returns-clause-done : goal.returns-clause-done
returns-clause-done g c = on_ok_weaker c.sync_image.result (λ durable known.
    let old = (g.F.Files.state c.args.files.now).seen in
    let with_steps : List Step → Disk = λ x. with_image old (after (writes_of old.journal x) old.image) in
    c.sync_image.ensures.looks.seen ∙ c.in_ok-apply.ensures.done known ∙ ap with_steps c.steps.ensures ∙ ap with_steps (c.requires.same known)) c.sync_image.ensures.durable

pub returns-in_err-apply-clause-keeps : goal.returns-in_err-apply-clause-keeps
returns-in_err-apply-clause-keeps g c = draft_steps _ _ _ c.apply.ensures.carried

pub returns-clause-keeps : goal.returns-clause-keeps
returns-clause-keeps g c = draft_on _ _ _ (draft_steps _ _ _ c.apply.ensures.carried) (draft_looks _ _ c.sync_image.ensures.looks)
