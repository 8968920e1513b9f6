use Rattle.std.proofs.Common.{◌≡◌, ◌∙◌, ap, subst, List, ℕ, length, take}
use Rattle.std.proofs.lemmas.Result.{on_ok_weaker}
use Rattle.journal.specs.Disk.{State, TearsImage, with_image}
use Rattle.journal.specs.Journal.{copying_in, is_open, copied}
use Rattle.journal.specs.Inner.Carried.{Carries}
use Rattle.journal.specs.declared.plan.Copying.{Copying}
use Rattle.journal.proofs.Heads.{head_of, copying_same}
use Rattle.journal.proofs.Torn.{tears_image_refl}
use Rattle.journal.proofs.OnDisk.{carried_looks, leaves-carried, on_disk-image}
use Rattle.journal.proofs.Recovered.{copying_leaves, applies-copying}
use Rattle.journal.proofs.Drafts.{draft_image, draft_looks, draft_on}
use Rattle.journal.proofs.recovery.copy_over.Goals as goal

-- the copy that a head says is its journal's
copy_is : (copy : Copying) (head journal : List ℕ) → copy ≡ copying_in head → head ≡ take 1266 journal → length head ≡ 1266 → copy ≡ copying_in journal
copy_is copy head journal by_head is long = by_head ∙ copying_same head journal (head_of head journal is long)

carries : (copy copy' : Copying) (old new : State) → copy ≡ copy' → Carries (TearsImage copy.to copy.len) old new → Carries (TearsImage copy'.to copy'.len) old new
carries copy copy' old new same = subst (λ (x : Copying). Carries (TearsImage x.to x.len) old new) same

pub returns-in_err-copy_image-clause-any_moment : goal.returns-in_err-copy_image-clause-any_moment
returns-in_err-copy_image-clause-any_moment g c known =
    let p = c.requires.pending known in
    let copy = copy_is _ _ _ c.copying.ensures (c.requires.same known) c.requires.head in
    leaves-carried _ (tears_image_refl _ _) _ _ _ p.on_disk (carries _ _ _ _ copy c.copy_image.ensures.carried) (λ d. copying_leaves _ _ p.gate_open p.can_apply d (c.requires.uncopied known))

pub returns-clause-any_moment : goal.returns-clause-any_moment
returns-clause-any_moment g c known =
    let p = c.requires.pending known in
    let copy = copy_is _ _ _ c.copying.ensures (c.requires.same known) c.requires.head in
    let carried = carried_looks _ _ _ _ (carries _ _ _ _ copy c.copy_image.ensures.carried) c.sync_image.ensures.looks in
    leaves-carried _ (tears_image_refl _ _) _ _ _ p.on_disk carried (λ d. copying_leaves _ _ p.gate_open p.can_apply d (c.requires.uncopied known))

pub returns-clause-stays : goal.returns-clause-stays
returns-clause-stays g c = on_ok_weaker c.sync_image.result (λ durable known.
    let p = c.requires.pending known in
    let copy = copy_is _ _ _ c.copying.ensures (c.requires.same known) c.requires.head in
    let carried = carried_looks _ _ _ _ (carries _ _ _ _ copy c.copy_image.ensures.carried) c.sync_image.ensures.looks in
    copying_leaves _ _ p.gate_open p.can_apply _ (c.requires.uncopied known) carried.part) c.sync_image.ensures.durable

pub returns-clause-pending : goal.returns-clause-pending
returns-clause-pending g c = on_ok_weaker c.sync_image.result (λ durable known.
    let p = c.requires.pending known in
    let copy = copy_is _ _ _ c.copying.ensures (c.requires.same known) c.requires.head in
    let carried = carries _ _ _ _ copy c.copy_image.ensures.carried in
    let torn = (carried_looks _ _ _ _ carried c.sync_image.ensures.looks).part in
    record {
      on_disk = on_disk-image _ _ _ _ p.on_disk carried c.sync_image.ensures.looks (λ d e torn. torn.journal) (λ d e torn. torn.record_text) durable;
      gate_open = ap is_open torn.journal ∙ p.gate_open;
      can_apply = applies-copying _ _ p.gate_open p.can_apply _ torn;
    }) c.sync_image.ensures.durable

pub returns-clause-done : goal.returns-clause-done
returns-clause-done g c = on_ok_weaker c.sync_image.result (λ durable known.
    let old = (g.F.Files.state c.args.files.now).seen in
    let copy = copy_is _ _ _ c.copying.ensures (c.requires.same known) c.requires.head in
    c.sync_image.ensures.looks.seen ∙ c.in_ok-copy_image.ensures.done known ∙ ap (λ (x : Copying). with_image old (copied x old.image)) copy) c.sync_image.ensures.durable

pub returns-in_err-copy_image-clause-keeps : goal.returns-in_err-copy_image-clause-keeps
returns-in_err-copy_image-clause-keeps g c = draft_image _ _ _ _ c.copy_image.ensures.carried

pub returns-clause-keeps : goal.returns-clause-keeps
returns-clause-keeps g c = draft_on _ _ _ (draft_image _ _ _ _ c.copy_image.ensures.carried) (draft_looks _ _ c.sync_image.ensures.looks)
