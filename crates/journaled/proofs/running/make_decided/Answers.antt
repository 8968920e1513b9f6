-- `running::make_decided` meets its contract: the text is too long, or the draft is made.
use Rattle.std.proofs.Common.{◌≡◌, List, ℕ, length, arith, sym, ◌∙◌, subst, length-take}
use Rattle.std.proofs.lemmas.Result.{IfOk-weaker}
use Rattle.journal.specs.Draft.{DraftFits, kept_after}
use Rattle.journal.specs.Journal.{kept_of, Kept}
use Rattle.journaled.specs.Inner.Behind.{image_behind}
use Rattle.journaled.specs.Inner.Drafted.{kept_carried}
use Rattle.journaled.proofs.Drafts.{IsOf, draft-fits, draft_headed, draft-carried, made-carried}
use Rattle.journaled.proofs.Settled.{still-leaves}
use Rattle.journaled.proofs.running.make_decided.Goals as goal

pub returns-in_default-clause-any_moment : goal.returns-in_default-clause-any_moment
returns-in_default-clause-any_moment g c = λ known. still-leaves _ _ _ (c.requires.settled known)

pub make-requires-clause-fits : goal.make-requires-clause-fits
make-requires-clause-fits g c =
    let clip : List ℕ = (g.F.Files.state c.args.files.now).clip in
    let image : List ℕ = image_behind g.F.Files.known (g.F.Files.state c.args.files.now).seen.image c.args.parts in
    let d = c.draft_of.ensures in
    let head = c.requires.parts.head in
    let h = draft_headed c.args.order.now c.args.totals.now c.args.decision c.draft_of.result c.args.bytes.now clip image c.args.parts.header.now c.args.parts.length head (rw c.blank_draft.ensures.header at d.drafted) in
    let of : IsOf image clip c.draft_of.result = record {
      image_len = d.rest.image_len ∙ c.blank_draft.ensures.image_len ∙ head.long_is;
      header = d.rest.header ∙ c.blank_draft.ensures.header ∙ head.start;
      clip_len = d.rest.clip_len ∙ c.blank_draft.ensures.clip_len ∙ c.clip_len-clip_len.ensures.len;
      short_note = rw (d.rest.note, c.blank_draft.ensures.note) c.requires.note;
      short_record = rw d.rest.record_text (omega (arith, length-take c.in-Some.len c.put_text.new.text, c.in-Some.ensures.fits));
    } in
    subst (λ (n : ℕ). DraftFits c.draft_of.result n (length clip)) (sym head.long_is ∙ c.requires.len)
    (draft-fits c.args.decision c.draft_of.result image c.args.bytes.now clip h c.requires.can of)

-- image and record once the draft is made
pub returns-clause-made : goal.returns-clause-made
returns-clause-made g c =
    let clip : List ℕ = (g.F.Files.state c.args.files.now).clip in
    let image : List ℕ = image_behind g.F.Files.known (g.F.Files.state c.args.files.now).seen.image c.args.parts in
    let kept : Kept = kept_of (g.F.Files.state c.args.files.now).seen in
    let d = c.draft_of.ensures in
    let h = draft_headed c.args.order.now c.args.totals.now c.args.decision c.draft_of.result c.args.bytes.now clip image c.args.parts.header.now c.args.parts.length c.requires.parts.head (rw c.blank_draft.ensures.header at d.drafted) in
    IfOk-weaker c.make.result _ _
    (λ answer made known.
    let e : kept_after c.draft_of.result clip kept ≡ kept_carried c.args.order.now c.args.totals.now c.args.decision c.args.bytes.now clip kept =
    draft-carried c.args.order.now c.args.totals.now c.args.decision c.draft_of.result c.args.bytes.now clip image kept (rw known) h c.requires.can d.rest.has_record
    (λ keeps. d.rest.record_text ∙ c.in-Some.ensures.put keeps) in
    made-carried c.args.order.now c.args.totals.now c.args.decision c.draft_of.result c.args.bytes.now clip c.number_of.result _ _ answer c.number_of.ensures e (made known))
    c.make.ensures.made

pub returns-clause-any_moment : goal.returns-clause-any_moment
returns-clause-any_moment g c = λ known.
    let clip : List ℕ = (g.F.Files.state c.args.files.now).clip in
    let image : List ℕ = image_behind g.F.Files.known (g.F.Files.state c.args.files.now).seen.image c.args.parts in
    let kept : Kept = kept_of (g.F.Files.state c.args.files.now).seen in
    let d = c.draft_of.ensures in
    let h = draft_headed c.args.order.now c.args.totals.now c.args.decision c.draft_of.result c.args.bytes.now clip image c.args.parts.header.now c.args.parts.length c.requires.parts.head (rw c.blank_draft.ensures.header at d.drafted) in
    let e : kept_after c.draft_of.result clip kept ≡ kept_carried c.args.order.now c.args.totals.now c.args.decision c.args.bytes.now clip kept =
    draft-carried c.args.order.now c.args.totals.now c.args.decision c.draft_of.result c.args.bytes.now clip image kept (rw known) h c.requires.can d.rest.has_record
    (λ keeps. d.rest.record_text ∙ c.in-Some.ensures.put keeps) in
    rw (← e, ← c.blank_draft.ensures.number, ← d.rest.number) (c.make.ensures.any_moment known)
