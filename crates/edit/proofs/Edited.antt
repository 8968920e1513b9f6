-- What is decided on, entered in the record, is what the plan comes to by all its tests; and with the working memory zeroed it is the edit.
-- Assumes nothing.
use Rattle.std.specs.Prelude.{Result, Ok, Err, is_err, nat_le, ◌<◌}
use Rattle.std.specs.Result.{result_and}
use borrow.Author.Tests.{leb-false}
use Rattle.refusal.specs.Refusal.{Verdict, first, refuse}
use Prim.Native.Nat.{ℕ}
use mathlib.Core.Path.{◌≡◌, refl, sym, ◌∙◌}
use mathlib.Core.Bool.{Bool, true, false, cond}
use mathlib.Core.List.{List}
use lib.ListN.{length}
use native.Mathlib.Omega.{arith}
use Rattle.refusal.specs.declared.Refusal.{Refusal}
use Rattle.refusal.specs.declared.Refusal.TheVariants.{NoSuchEntry}
use Rattle.refusal.specs.Laws.Chains.{first-passed}
use Rattle.totals.specs.declared.Totals.{Totals}
use Rattle.totals.specs.Totals.{team_verdict, numbered_team, totals_verdict}
use Rattle.opened.specs.Opening.{opening, zeros, disc_of}
use Rattle.opened.specs.Inner.Disc.{Opened, Means}
use Rattle.edit_rules.specs.Change.{Plan, refused}
use Rattle.edit_rules.specs.Edits.{Edit, Account, account, space_change, plan_behind, plan_of, plan_verdict, plan_image, plan_number, number_behind, counted_verdict, verdict_of, image_after, totals_to, totals_after}
use Rattle.edit_rules.specs.Promise.{loan, IsEdited}
use Rattle.edit_rules.proofs.Laws.Behind.{behind-passed, behind-refused}
use Rattle.opened.proofs.Laws.OpeningLaws.{first-assoc, disc-filled}
use Rattle.ledger.specs.Ledger.{first_ledger}
use Rattle.ledger.specs.Runs.{IsPassable}
use Rattle.ledger.proofs.Laws.Layout.{Lays}
use Rattle.ledger.proofs.Laws.Sequence.{start}
use Rattle.ledger.proofs.Laws.Steps.{step-accepted}
use Rattle.ledger.proofs.Laws.TreeAfter.{arrives}
use Rattle.edit.specs.declared.decision.Decision.{Decision}
use Rattle.edit.specs.Inner.Decision.{carried_answer, carried_image, DecidedAs}
use Rattle.edit.proofs.Decisions.{answered}
use Rattle.edit.specs.Inner.Accounting.{OfUsed, Accounted, account_with, account_of, IsAccountedFor}
use Rattle.edit.specs.Laws.AccountLaws as laws

-- ---- a plan, of an open image

module _ (p : Plan) (image : List ℕ) (words room : ℕ) (bytes clip : List ℕ) (a : Account) where
  -- refused by the plan's tests, or by the record's
  pub refused-account_with : (c : Refusal) (x : Accounted) → counted_verdict p a image words room ≡ Err c → x ≡ account_with (Err c) a.totals → IsAccountedFor p image words room bytes clip a x
  refused-account_with c x e q = rw q (record {
    decided = record { fits = tt; apart = tt; carries = tt; answer = sym e; after = rw e };
    totals = rw e;
  })

  passed-account_with : (d : Result Decision Refusal) (x : Accounted) → counted_verdict p a image words room ≡ Ok tt → DecidedAs (plan_verdict p (disc_of image) words room) p image room bytes clip d → x ≡ account_with d (totals_to a image (plan_image p image)) → IsAccountedFor p image words room bytes clip a x
  unfolding counted_verdict
  passed-account_with d x e h q =
      let o : plan_verdict p (disc_of image) words room ≡ Ok tt = (first-passed (plan_verdict p (disc_of image) words room) _ e).0 in
      let k : DecidedAs (Ok tt) p image room bytes clip d = rw o at h in
      rw q (record { decided = rw e k; totals = rw e })

  -- as the law of AccountLaws has it
  pub entered-account_with : (d : Result Decision Refusal) (x : Accounted) → DecidedAs (plan_verdict p (disc_of image) words room) p image room bytes clip d →
      laws.IsEntered (counted_verdict p a image words room) d a.totals (totals_to a image (plan_image p image)) x → IsAccountedFor p image words room bytes clip a x
  entered-account_with d x h n = go (counted_verdict p a image words room) refl
    where
      go : (v : Verdict) → counted_verdict p a image words room ≡ v → IsAccountedFor p image words room bytes clip a x
      go (Ok _) e = passed-account_with d x e h (n.passed e)
      go (Err c) e = refused-account_with c x e (n.refused c e)

-- the record of an account by the words
counted : (p : Plan) (image : List ℕ) (words room : ℕ) (d : Result Decision Refusal) (x y : Accounted) (a : Account) (t' : Totals) → x ≡ y →
    laws.IsEntered (first (plan_verdict p (disc_of image) words room) (totals_verdict a.totals a.team (space_change image (plan_image p image)))) d a.totals t' y → laws.IsEntered (counted_verdict p a image words room) d a.totals t' x
unfolding counted_verdict
counted p image words room d x y a t' e n = rw e n

-- ---- an edit: the team, then its plan

module _ (ed : Edit) (h : IsPassable ed) (image : List ℕ) (d : Opened) (m : Means image d) (room : ℕ) (bytes clip : List ℕ) (long : length bytes ≡ room) where
  module _ (r : Result Decision Refusal) (decided : DecidedAs (plan_verdict (plan_of ed (disc_of image)) (disc_of image) d.words room) (plan_of ed (disc_of image)) image room bytes clip r) where
    abbrev new : List ℕ
    new = plan_image (plan_of ed (disc_of image)) image

    -- the planned image opens, so used and free bytes fill its disc
    whole : plan_verdict (plan_of ed (disc_of image)) (disc_of image) d.words room ≡ Ok tt → laws.IsFilled new
    whole v =
        let k = step-accepted d.words image (first_ledger image) (start image d.words d.words (omega arith) m.known.bytes m.known.passed) d.words room (omega arith) ed h v in
        disc-filled new d.words k.bytes k.opens

    laid : plan_verdict (plan_of ed (disc_of image)) (disc_of image) d.words room ≡ Ok tt → Lays (plan_of ed (disc_of image)) image new × laws.IsFilled new
    laid v = ((arrives image d.words room m.known.bytes m.known.passed ed h v).2, whole v)

    -- entered in the record of one of its teams
    pub open-accounted : (x : Accounted) (a : Account) → team_verdict a.team ≡ Ok tt → OfUsed d (λ image' behind. x ≡ account_of image' behind r a) →
        IsAccountedFor (plan_behind (team_verdict a.team) (plan_of ed (disc_of image))) image d.words room bytes clip a x
    open-accounted x a team q =
        let n = laws.entered image q.words q.count room bytes long a (q.held image m) new (plan_of ed (disc_of image)) clip r (rw (← q.long) at decided) (rw (← q.long) at laid) in
        let f = entered-account_with (plan_of ed (disc_of image)) image d.words room bytes clip a r x decided (counted (plan_of ed (disc_of image)) image d.words room r x _ a _ (q.is image m) (rw q.long at n)) in
        rw (behind-passed (team_verdict a.team) (plan_of ed (disc_of image)) team) f

-- a team's number as an index
pub numbered : (k j : ℕ) → Ok j ≡ numbered_team k → (team_verdict k ≡ Ok tt) × (j ≡ k) × (j < 16)
unfolding team_verdict
numbered k j e = go (nat_le 16 k) refl e
  where
    go : (b : Bool) → nat_le 16 k ≡ b → Ok j ≡ result_and (refuse b NoSuchEntry (Ok tt)) (Ok k) → (refuse b NoSuchEntry (Ok tt) ≡ Ok tt) × (j ≡ k) × (j < 16)
    go true z q = let y : ◌≡◌ {A = ℕ} 0 1 = cc in absurd (omega arith)
    go false z q = let s : j ≡ k = cc in (refl, s, rw s (leb-false 16 k z))

not-numbered : (k : ℕ) (c : Refusal) → Err c ≡ numbered_team k → team_verdict k ≡ Err c
not-numbered k c e = go (team_verdict k) e
  where
    go : (v : Verdict) → Err c ≡ result_and v (Ok k) → v ≡ Err c
    go (Ok _) q = let z : ◌≡◌ {A = ℕ} 0 1 = cc in absurd (omega arith)
    go (Err d) q = cc

-- refused before the plan's tests
module _ (p : Plan) (image : List ℕ) (words : ℕ) (c : Refusal) (room : ℕ) (bytes clip : List ℕ) (a : Account) (x : Accounted) (e : x ≡ account_with (Err c) a.totals) where
  behind : (v : Verdict) → v ≡ Err c → IsAccountedFor (plan_behind v p) image words room bytes clip a x
  behind v q = rw (behind-refused v p c q) (refused-account_with (refused (Err c)) image words room bytes clip a c x (unfold counted_verdict in refl) e)

  -- by opening
  pub unopened : opening image words ≡ Err c → IsAccountedFor (plan_behind (first (opening image words) (team_verdict a.team)) p) image words room bytes clip a x
  unopened o = behind (first (opening image words) (team_verdict a.team)) (rw o refl)

  -- for the team
  pub teamless : Err c ≡ numbered_team a.team → IsAccountedFor (plan_behind (team_verdict a.team) p) image words room bytes clip a x
  teamless q = behind (team_verdict a.team) (not-numbered a.team c q)

-- ---- the whole edit

module _ (ed : Edit) (image : List ℕ) (words room : ℕ) (bytes clip : List ℕ) (a : Account) (t' : Totals) (d : Result Decision Refusal) where
  -- the tests before the plan's, and the plan
  behind-account_with : (v : Verdict) → IsAccountedFor (plan_behind v (plan_of ed (disc_of image))) image words room bytes clip a (account_with d t') →
      (carried_answer d ≡ number_behind (first v (counted_verdict (plan_of ed (disc_of image)) a image words room)) (plan_number (plan_of ed (disc_of image))))
      × (carried_image d bytes clip image ≡ cond (is_err (first v (counted_verdict (plan_of ed (disc_of image)) a image words room))) image (plan_image (plan_of ed (disc_of image)) image))
      × (t' ≡ cond (is_err (first v (counted_verdict (plan_of ed (disc_of image)) a image words room))) a.totals (totals_to a image (plan_image (plan_of ed (disc_of image)) image)))
  behind-account_with (Ok _) k = (answered _ _ _ _ _ _ _ k.decided, k.decided.after, k.totals)
  behind-account_with (Err c) k =
      let e : counted_verdict (refused (Err c)) a image words room ≡ Err c = unfold counted_verdict in refl in
      (answered _ _ _ _ _ _ _ k.decided ∙ rw e, k.decided.after ∙ rw e, k.totals ∙ rw e)

  -- opening, the team and the plan are the whole edit
  pub edit-account_with : IsAccountedFor (plan_behind (first (opening image words) (team_verdict a.team)) (plan_of ed (disc_of image))) image words room bytes clip a (account_with d t') →
      (carried_answer d ≡ number_behind (verdict_of ed a image words room) (plan_number (plan_of ed (disc_of image)))) × (carried_image d bytes clip image ≡ image_after ed a image words room) × (t' ≡ totals_after ed a image words room)
  unfolding verdict_of image_after totals_after
  edit-account_with f =
      rw (first-assoc (opening image words) (team_verdict a.team) (counted_verdict (plan_of ed (disc_of image)) a image words room)) at
      (behind-account_with (first (opening image words) (team_verdict a.team)) f)

pub edited : (ed : Edit) (team : ℕ) (image words bytes clip x b image' words' bytes' : List ℕ) (t t' : Totals) (d : Result Decision Refusal) →
    IsAccountedFor (plan_behind (first (opening image (length words)) (team_verdict team)) (plan_of ed (disc_of image))) image (length words) (length bytes) b clip (account t team) (account_with d t') → x ≡ clip →
    image' ≡ carried_image d b x image → words' ≡ zeros words → bytes' ≡ zeros bytes → (r : Result ℕ Refusal) → r ≡ carried_answer d → IsEdited number_behind ed team (loan image words bytes t) (loan image' words' bytes' t') r
edited ed team image words bytes clip x b image' words' bytes' t t' d f c i zw zb r q =
    let e = edit-account_with ed image (length words) (length bytes) b clip (account t team) t' d f in
    record { answered = q ∙ e.0; image = i ∙ rw c e.1; totals = e.2; words = zw; bytes = zb }
