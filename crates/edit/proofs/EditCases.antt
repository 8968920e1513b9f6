-- What an edit decides on, on the disc that opened, is entered in the record as any edit's decision is. Assumes nothing.
use Rattle.std.specs.Prelude.{Result, Ok, ℕ, ◌≡◌, List, [], length}
use Rattle.std.proofs.Common.{sym, subst}
use Rattle.refusal.specs.declared.Refusal.{Refusal}
use Rattle.refusal.specs.Refusal.{Verdict, first}
use Rattle.totals.specs.Totals.{team_verdict, numbered_team}
use Rattle.totals.specs.declared.Totals.{Totals}
use Rattle.opened.specs.Opening.{opening, Disc, disc_of}
use Rattle.edit_rules.specs.Edits as edits
use Rattle.edit_rules.specs.Edits.{Account, account, plan_behind, plan_of, plan_verdict}
use Rattle.opened.specs.Inner.Disc.{Opened, Means}
use Rattle.ledger.specs.Runs.{IsPassable}
use Rattle.edit.specs.declared.decision.Decision.{Decision}
use Rattle.edit.specs.Inner.Decision.{DecidedAs, Judges}
use Rattle.edit.specs.Inner.Accounting.{OnDisc, OfUsed, Accounted, account_with, account_of, IsAccountedFor, IsForeseen}
use Rattle.edit.specs.Laws.AccountLaws.{on-disc}
use Rattle.edit.proofs.Edited.{numbered, open-accounted}
use Rattle.edit.proofs.Judged.{Drafted, some-draft}
use Rattle.edit.specs.Inner.Decides.{IsEditDecided}

-- ---- on the disc that an image means

pub opens : (image : List ℕ) (words : ℕ) (d : Opened) → Means image d × (d.words ≡ words) → opening image words ≡ Ok tt
opens image words d o = rw o.1 at o.0.known.passed

module _ (ed : edits.Edit) (image : List ℕ) (d : Opened) (m : Means image d) (room : ℕ) (bytes clip : List ℕ) where
  -- the plan and its tests are those of the image's disc
  pub decided_as : (r : Result Decision Refusal) → IsEditDecided ed d room bytes clip r →
      DecidedAs (plan_verdict (plan_of ed (disc_of image)) (disc_of image) d.words room) (plan_of ed (disc_of image)) image room bytes clip r
  decided_as r h = subst (λ (x : Disc). DecidedAs (plan_verdict (plan_of ed x) x d.words room) (plan_of ed x) image room bytes clip r) (sym m.is) (h.decided image m)

  pub on_disc : (r : Result Decision Refusal) → IsEditDecided ed d room bytes clip r → length bytes ≡ room → OnDisc d.disc r
  on_disc r h long = on-disc d.disc image d.words m.known m.is room bytes clip long (plan_of ed (disc_of image)) r (decided_as r h)

  -- entered in the record of one of its teams
  pub edit-accounted : (r : Result Decision Refusal) → IsEditDecided ed d room bytes clip r → (x : Accounted) (t : Totals) (team k : ℕ) → Ok k ≡ numbered_team team → OfUsed d (λ image' behind. x ≡ account_of image' behind r (account t k)) → length bytes ≡ room →
      IsAccountedFor (plan_behind (team_verdict team) (plan_of ed d.disc)) image d.words room bytes clip (account t team) x
  edit-accounted r h x t team k n q long =
      let s = numbered team k n in
      rw m.is at (open-accounted ed h.passable image d m room bytes clip long r (decided_as r h) x (account t team) s.0 (rw s.1 at q))

-- behind opening, which passes
pub opened-accounted : (ed : edits.Edit) (image : List ℕ) (words : ℕ) (d : Opened) → Means image d × (d.words ≡ words) → (v : Verdict) (room : ℕ) (bytes clip : List ℕ) (a : Account) (x : Accounted) →
    IsAccountedFor (plan_behind v (plan_of ed d.disc)) image d.words room bytes clip a x →
    IsAccountedFor (plan_behind (first (opening image words) v) (plan_of ed (disc_of image))) image words room bytes clip a x
opened-accounted ed image words d o v room bytes clip a x h = rw (opens image words d o, o.0.is) (rw o.1 at h)

-- ---- judged, with a table drafted in some bytes

module _ (ed : edits.Edit) (image : List ℕ) (words : ℕ) (d : Opened) (o : Means image d × (d.words ≡ words)) (room : ℕ) (r : Result Decision Refusal) (j : Judges (plan_of ed d.disc) d room r) (h : IsPassable ed) where
  draft : Drafted d.disc.nodes room r
  draft = some-draft d.disc.nodes room r j.draftable

  decided : IsEditDecided ed d room draft.bytes [] r
  decided = record { decided = j.decides draft.bytes draft.is; passable = h }

  pub judged-on-disc : OnDisc d.disc r
  judged-on-disc = on_disc ed image d o.0 room draft.bytes [] r decided draft.long

  pub judged-accounted : (x : Result Decision Refusal) (t t' : Totals) (team k : ℕ) → Ok k ≡ numbered_team team → OfUsed d (λ image' behind. account_with x t' ≡ account_of image' behind r (account t k)) →
      IsForeseen (plan_behind (first (opening image words) (team_verdict team)) (plan_of ed (disc_of image))) image words room (account t team) x
  judged-accounted x t t' team k n q =
      let e = edit-accounted ed image d o.0 room draft.bytes [] r decided (account_with x t') t team k n q draft.long in
      record { bytes = draft.bytes; totals = t'; accounted = opened-accounted ed image words d o (team_verdict team) room draft.bytes [] (account t team) (account_with x t') e }
