-- A line's edit decided on and made, by what the edit on an open disc comes to. Assumes nothing.
use Rattle.std.specs.Prelude.{Result, Ok, Err, ℕ, ◌≡◌, refl, List, [], length}
use Rattle.std.proofs.Common.{sym, ap, ◌∙◌}
use Rattle.refusal.specs.declared.Refusal.{Refusal}
use Rattle.refusal.specs.Refusal.{Verdict}
use Rattle.totals.specs.declared.Totals.{Totals}
use Rattle.totals.specs.Totals.{team_verdict}
use Rattle.opened.specs.Opening.{opening, zeros}
use Rattle.opened.specs.Inner.Disc.{Opened, Means}
use Rattle.edit_rules.specs.Edits as edits
use Rattle.edit_rules.specs.Edits.{Account, account, plan_behind, plan_of, number_behind}
use Rattle.edit_rules.specs.Promise.{loan}
use Rattle.ledger.specs.Runs.{IsPassable}
use Rattle.edit.specs.declared.decision.Decision.{Decision}
use Rattle.edit.specs.Inner.Accounting.{Accounted, account_with, IsEntered}
use Rattle.edit.specs.Inner.Decision.{CanCarry, WritesApart, carried_answer, carried_image, verdict_in}
use Rattle.edit.proofs.Discs.{nodes_are}
use Rattle.edit.proofs.EditCases.{opens, opened-accounted}
use Rattle.edit.proofs.Edited.{edited}
use Rattle.sheet.specs.Layout.{Line}
use Rattle.sheet_run.specs.Lines.{line_edit}
use Rattle.sheet_run.specs.Inner.Running.{edit_in, IsLineDecided, IsLineRun}

-- ---- decided on

module _ (image : List ℕ) (words : ℕ) (line : Line) (room : ℕ) (bytes : List ℕ) (a : Account) where
  -- by opening
  pub unopened : (c : Refusal) (x : Accounted) → opening image words ≡ Err c → x ≡ account_with (Err c) a.totals →
      IsLineDecided image words room bytes a x (edit_in image words line)
  unopened c x o e = rw o e

  -- on the disc that opened
  module _ (d : Opened) (o : Means image d × (d.words ≡ words)) where
    here : (found : Result edits.Edit Refusal) → found ≡ line_edit d.disc.nodes line → edit_in image words line ≡ found
    here found e = rw (opens image words d o, nodes_are image d o.0) (sym e)

    -- by its path
    pub unfound : (c : Refusal) (x : Accounted) → Err c ≡ line_edit d.disc.nodes line → x ≡ account_with (Err c) a.totals →
        IsLineDecided image words room bytes a x (edit_in image words line)
    unfound c x e q = rw (here (Err c) e) q

    pub found : (ed : edits.Edit) (clip : List ℕ) (x : Accounted) → Ok ed ≡ line_edit d.disc.nodes line → clip ≡ [] → IsPassable ed →
        IsEntered (plan_behind (team_verdict a.team) (plan_of ed d.disc)) d room bytes clip a x →
        IsLineDecided image words room bytes a x (edit_in image words line)
    found ed clip x e n p h =
        rw (here (Ok ed) e) (p, rw n at (opened-accounted ed image words d o (team_verdict a.team) room bytes clip a x (h image o.0)))

-- ---- made

verdict-behind : (v : Verdict) (k : ℕ) → verdict_in (number_behind v k) ≡ v
verdict-behind (Ok _) k = refl
verdict-behind (Err c) k = refl

-- what is decided on can be carried out, with no clip, and lies behind the header and apart
pub carries : (image : List ℕ) (words room : ℕ) (b : List ℕ) (a : Account) (d : Result Decision Refusal) (t : Totals) (found : Result edits.Edit Refusal) →
    IsLineDecided image words room b a (account_with d t) found → CanCarry image room [] d × WritesApart [] d
carries image words room b a d t (Err c) h = let e : d ≡ Err c = ap (λ (x : Accounted). x.decision) h in rw e (tt, tt)
carries image words room b a d t (Ok ed) h = (h.1.decided.fits, h.1.decided.apart)

module _ (team : ℕ) (image words bytes b image' words' bytes' : List ℕ) (t t' : Totals) (d : Result Decision Refusal) where
  pub made : (found : Result edits.Edit Refusal) → IsLineDecided image (length words) (length bytes) b (account t team) (account_with d t') found →
      image' ≡ carried_image d b [] image → (r : Verdict) → r ≡ verdict_in (carried_answer d) →
      IsLineRun team (loan image words bytes t) (loan image' words' bytes' t') r found
  made (Err c) h i r q =
      let e : d ≡ Err c = ap (λ (x : Accounted). x.decision) h in
      record { verdict = q ∙ rw e refl; image = i ∙ rw e refl; totals = ap (λ (x : Accounted). x.totals) h }
  made (Ok ed) h i r q =
      let e = edited ed team image words bytes [] [] b image' (zeros words) (zeros bytes) t t' d h.1 refl i refl refl (carried_answer d) refl in
      record { passable = h.0; verdict = q ∙ ap verdict_in e.answered ∙ verdict-behind _ _; image = e.image; totals = e.totals }
