-- `maximum::state_opened` meets its contract: the draft of a word of the header is made.
use Rattle.std.proofs.Common.{◌≡◌, List, ℕ, length, arith, sym, ◌∙◌, subst}
use Rattle.std.proofs.lemmas.Result.{IfOk-weaker}
use Rattle.journal.specs.Draft.{DraftFits}
use Rattle.journaled.specs.Inner.Behind.{image_behind}
use Rattle.journaled.proofs.Drafts.{IsOf, word-fits, all_fit, maximum-kept, made-stated}
use Rattle.journaled.proofs.maximum.state_opened.Goals as goal

pub make-requires-clause-fits : goal.make-requires-clause-fits
make-requires-clause-fits g c =
    let s = g.F.Files.state c.args.files.now in
    let image : List ℕ = image_behind g.F.Files.known s.seen.image c.args.parts in
    let d = c.word_draft.ensures in
    let head = c.requires.parts.head in
    let clip_len : c.word_draft.result.clip.len ≡ length s.clip = d.rest.clip_len ∙ c.blank_draft-blank.ensures.clip_len ∙ c.clip_len-clip_len.ensures.len in
    let of : IsOf image s.clip c.word_draft.result = record {
      image_len = d.rest.image_len ∙ c.blank_draft-blank.ensures.image_len ∙ head.long_is;
      header = d.rest.header ∙ c.blank_draft-blank.ensures.header ∙ head.start;
      clip_len = clip_len;
      short_note = rw (d.rest.note, c.blank_draft-blank.ensures.note) c.requires.note;
      short_record = rw d.rest.record_text (omega (arith, c.blank_draft-blank.ensures.no_text));
    } in
    let fits = word-fits (length image) c.word_draft.result d.alone (clip_len ∙ c.requires.clip) (rw d.at (omega arith)) (rw (d.at, d.bytes, c.to_be_bytes-word.ensures) (omega arith)) (omega (arith, head.long_is, c.requires.long)) in
    subst (λ (n : ℕ). DraftFits c.word_draft.result n (length s.clip)) (sym head.long_is ∙ c.requires.len)
    (all_fit image s.clip c.word_draft.result fits of (omega (arith, c.requires.clip)) (omega (arith, head.long_is, c.requires.long)))

pub returns-clause-stated : goal.returns-clause-stated
returns-clause-stated g c =
    let d = c.word_draft.ensures in
    IfOk-weaker c.make.result _ _
    (λ answer made known words room opens.
    made-stated c.word_draft.result (g.F.Files.state c.args.files.now).clip c.args.maximum d.alone c.requires.clip d.at (d.bytes ∙ c.to_be_bytes-word.ensures) (d.rest.has_record ∙ c.blank_draft-blank.ensures.no_record) words room (g.F.Files.state c.args.files.now).seen (g.F.Files.state c.make.new.files).seen answer opens (made known))
    c.make.ensures.made

pub returns-clause-any_moment : goal.returns-clause-any_moment
returns-clause-any_moment g c = λ known.
    let d = c.word_draft.ensures in
    rw (
      ← maximum-kept c.word_draft.result (g.F.Files.state c.args.files.now).clip c.args.maximum d.alone c.requires.clip d.at (d.bytes ∙ c.to_be_bytes-word.ensures) (d.rest.has_record ∙ c.blank_draft-blank.ensures.no_record) _,
      ← c.blank_draft-blank.ensures.number,
      ← d.rest.number,
    )
    (c.make.ensures.any_moment known)
