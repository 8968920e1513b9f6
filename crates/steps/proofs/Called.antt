-- What is decided on, carried out in a part, is that part of the plan; and with the working memory zeroed it is the call. Assumes nothing.
use Rattle.std.specs.Prelude.{Result, Ok, Err, ℕ, ◌≡◌, refl, cond, List, [], length, is_err}
use Rattle.std.proofs.Common.{sym, ap, subst, ◌∙◌, arith}
use Rattle.endian.specs.Bytes.{AllBytes}
use Rattle.refusal.specs.declared.Refusal.{Refusal}
use Rattle.refusal.specs.Refusal.{Verdict, first}
use Rattle.header.specs.Verdicts.{fst_offset, fst_size}
use Rattle.space.specs.declared.region.DiscRegion.{DiscRegion}
use Rattle.totals.specs.declared.Totals.{Totals}
use Rattle.totals.specs.Totals.{team_verdict}
use Rattle.opened.specs.Opening.{opening, zeros, disc_of}
use Rattle.opened.proofs.Laws.OpeningLaws.{first-assoc}
use Rattle.edit_rules.specs.Change.{Change, image_with_table, copied_image, Plan, refused, nothing, change, filled}
use Rattle.edit_rules.specs.Edits.{Edit, Account, account, plan_behind, plan_of, plan_image, counted_verdict, verdict_of, totals_to, totals_after}
use Rattle.edit_rules.specs.Promise.{loan}
use Rattle.edit.specs.declared.decision.Span.{Span}
use Rattle.edit.specs.declared.decision.Writing.{Writing}
use Rattle.edit.specs.declared.decision.Decision.{Decision}
use Rattle.edit.specs.declared.decision.Decision.TheVariants as decision
use Rattle.edit.specs.Inner.Decision.{IsCarried, carried_verdict, copied_by, tabled_by, lost_by, DecidedAs}
use Rattle.edit.specs.Inner.Accounting.{account_with, IsAccountedFor, IsCopied, IsTabled}
use Rattle.edit.specs.Asked.{IsPlaceEdit}
use Rattle.steps.specs.Places.{DifferOnlyIn, DifferOnlyInTable}
use Rattle.steps.specs.Parts.{plan_copy, plan_copied, plan_tabled, plan_span, image_after_copy, image_after_table, plan_table_size}
use Rattle.steps.specs.Promise.{own_verdict, MakesCopy, span_behind, WritesTable}
use Rattle.steps.specs.Inner.Span.{span_region, IsOnDisc}
use Rattle.steps.proofs.Laws.OwnParts.{own-copy, own-table}
use Rattle.steps.proofs.Laws.Splitting.{Parted, parted}

-- none of a fill, and the end of what it leaves to be zeroed has 32 bits
abbrev IsPlacePlan : Plan → Type 0
IsPlacePlan (refused v) = Unit {0}
IsPlacePlan nothing = Unit {0}
IsPlacePlan (change k c) = IsOnDisc (record { offset = c.lost.offset; size = c.lost.size })
IsPlacePlan (filled k clip p) = ⊥

place-plan : (words : ℕ) (image : List ℕ) (p : Plan) → Parted words image p → IsPlacePlan p
place-plan words image (refused v) q = tt
place-plan words image nothing q = tt
place-plan words image (change k c) q = λ z. omega (arith, (q.safe.zeroed z).2, q.safe.bounds.small)
place-plan words image (filled k clip p) q = absurd q

-- ---- the parts, where the plan's tests say v

record IsDone (v : Verdict) (p : Plan) (image bytes : List ℕ) (d : Result Decision Refusal) : Type 0 where
  pub answer : carried_verdict d ≡ v
  pub copied : copied_by d image ≡ cond (is_err v) image (plan_copied p image)
  pub tabled : tabled_by d bytes image ≡ cond (is_err v) image (plan_tabled p image)
  pub told : (s : Span) → lost_by d ≡ Ok s → (Ok (span_region s) ≡ span_behind v (plan_span p)) × IsOnDisc s
  pub refusal : (c : Refusal) → lost_by d ≡ Err c → Err c ≡ span_behind v (plan_span p)

module _ (image : List ℕ) (room : ℕ) (bytes : List ℕ) where
  refused-done : (v : Verdict) (p : Plan) (c : Refusal) → Err c ≡ v → IsDone v p image bytes (Err c)
  refused-done v p c e = record {
    answer = e;
    copied = rw (← e) refl;
    tabled = rw (← e) refl;
    told = λ s q. let z : ◌≡◌ {A = ℕ} 0 1 = cc in absurd (omega arith);
    refusal = λ b q. let j : c ≡ b = cc in rw (← e) (ap Err (sym j));
  }

  nothing-done : (v : Verdict) → Ok tt ≡ v → IsDone v nothing image bytes (Ok decision.Nothing)
  nothing-done v e = record {
    answer = e;
    copied = rw (← e) refl;
    tabled = rw (← e) refl;
    told = λ s q. let i : ◌≡◌ {A = Span} (record { offset = 0; size = 0 }) s = cc in rw (← e, ← i) (refl, λ z. absurd (omega arith));
    refusal = λ b q. let z : ◌≡◌ {A = ℕ} 0 1 = cc in absurd (omega arith);
  }

  -- a change, with its table in the working bytes
  module _ (k : ℕ) (c : Change) (n size : ℕ) (w : Writing) (i : IsCarried n size w bytes k c) where
    lost-is : span_region w.lost ≡ plan_span (change k c)
    lost-is = ap (λ (x : Change). plan_span (change k x)) (sym i.change)

    lost-ends : IsPlacePlan (change k c) → IsOnDisc w.lost
    lost-ends h = subst (λ (x : Change). IsPlacePlan (change k x)) i.change h

    change-done : (v : Verdict) → Ok tt ≡ v → IsPlacePlan (change k c) → IsDone v (change k c) image bytes (Ok (decision.Write n size w))
    change-done v e h = record {
      answer = e;
      copied = rw (← e) (ap (λ (x : Change). copied_image x image) (sym i.change));
      tabled = rw (← e) (ap (λ (t : List ℕ). image_with_table (fst_offset image) (fst_size image) t image) i.table);
      told = λ s q. let j : w.lost ≡ s = cc in rw (← e, ← j) (ap Ok lost-is, lost-ends h);
      refusal = λ b q. let z : ◌≡◌ {A = ℕ} 0 1 = cc in absurd (omega arith);
    }

  done : (v : Verdict) (p : Plan) (d : Result Decision Refusal) → (v ≡ Ok tt → IsPlacePlan p) → DecidedAs v p image room bytes [] d → IsDone v p image bytes d
  done v p (Err c) f h = refused-done v p c h.answer
  done v nothing (Ok decision.Nothing) f h = nothing-done v h.answer
  done v (refused u) (Ok decision.Nothing) f h = absurd h.carries
  done v (change k c) (Ok decision.Nothing) f h = absurd h.carries
  done v (filled k x p) (Ok decision.Nothing) f h = absurd h.carries
  done v nothing (Ok (decision.Clip n at)) f h = absurd h.carries
  done v (refused u) (Ok (decision.Clip n at)) f h = absurd h.carries
  done v (change k c) (Ok (decision.Clip n at)) f h = absurd h.carries
  done v (filled k x p) (Ok (decision.Clip n at)) f h = absurd (f (sym h.answer))
  done v nothing (Ok (decision.Write n size w)) f h = absurd h.carries
  done v (refused u) (Ok (decision.Write n size w)) f h = absurd h.carries
  done v (change k c) (Ok (decision.Write n size w)) f h = change-done k c n size w h.carries v h.answer (f (sym h.answer))
  done v (filled k x p) (Ok (decision.Write n size w)) f h = absurd (f (sym h.answer))

-- ---- the whole call: opening, the team and the plan

module _ (ed : Edit) (place : IsPlaceEdit ed) (image : List ℕ) (b : AllBytes image) (words room : ℕ) (bytes : List ℕ) (a : Account) (t' : Totals) (d : Result Decision Refusal) where
  abbrev plan : Plan
  plan = plan_of ed (disc_of image)

  behind : (v : Verdict) → (first v (counted_verdict plan a image words room) ≡ Ok tt → IsPlacePlan plan) → IsAccountedFor (plan_behind v plan) image words room bytes [] a (account_with d t') →
      IsDone (first v (counted_verdict plan a image words room)) plan image bytes d
      × (t' ≡ cond (is_err (first v (counted_verdict plan a image words room))) a.totals (totals_to a image (plan_image plan image)))
  behind (Ok _) f k = (done image room bytes _ plan d f k.decided, k.totals)
  behind (Err c) f k =
      let e : counted_verdict (refused (Err c)) a image words room ≡ Err c = unfold counted_verdict in refl in
      let h : DecidedAs (Err c) (refused (Err c)) image room bytes [] d = rw e at k.decided in
      let x : IsDone (Err c) (refused (Err c)) image bytes d = done image room bytes (Err c) (refused (Err c)) d (λ u. tt) h in
      (record { answer = x.answer; copied = x.copied; tabled = x.tabled; told = x.told; refusal = x.refusal }, k.totals ∙ rw e)

  whole : IsAccountedFor (plan_behind (first (opening image words) (team_verdict a.team)) plan) image words room bytes [] a (account_with d t') →
      IsDone (verdict_of ed a image words room) plan image bytes d × (t' ≡ totals_after ed a image words room)
  unfolding verdict_of totals_after
  whole f =
      let e = first-assoc (opening image words) (team_verdict a.team) (counted_verdict plan a image words room) in
      rw e at (behind (first (opening image words) (team_verdict a.team)) (λ v. place-plan words image plan (parted ed a image words room place b (sym e ∙ v))) f)

-- ---- the calls, in words₁ and bytes₁, which hold what words and bytes do

module _ (ed : Edit) (place : IsPlaceEdit ed) (team : ℕ) (image words words₁ bytes bytes₁ : List ℕ) (lent : words₁ ≡ words) (lent-bytes : bytes₁ ≡ bytes) (t : Totals) (all : AllBytes image) where
  abbrev plan-behind : ℕ → Plan
  plan-behind n = plan_behind (first (opening image n) (team_verdict team)) (plan_of ed (disc_of image))

  abbrev verdict : Verdict
  verdict = verdict_of ed (account t team) image (length words) (length bytes)

  -- ---- the copy

  module _ (image' : List ℕ) (r : Verdict) (g : IsCopied (plan-behind (length words₁)) image image' (length words₁) (length bytes₁) (account t team) r) where
    copied : IsCopied (plan-behind (length words)) image image' (length words) (length bytes) (account t team) r
    copied = rw (lent, lent-bytes) at g

    copy-done : IsDone verdict (plan_of ed (disc_of image)) image copied.foreseen.bytes copied.decision
    copy-done = (whole ed place image all (length words) (length bytes) copied.foreseen.bytes (account t team) copied.foreseen.totals copied.decision copied.foreseen.accounted).0

    copied-is : image' ≡ image_after_copy ed (account t team) image (length words) (length bytes)
    unfolding image_after_copy
    copied-is = copied.after ∙ copy-done.copied

    pub made-copy : (words' bytes' : List ℕ) → words' ≡ zeros words → bytes' ≡ zeros bytes → MakesCopy own_verdict ed team (loan image words bytes t) (loan image' words' bytes' t) r
    made-copy words' bytes' zw zb = record { answered = copied.answer ∙ copy-done.answer; image = copied-is; totals = refl; words = zw; bytes = zb }

    pub only-copied : DifferOnlyIn image image' (plan_copy (plan_of ed (disc_of image)))
    only-copied = subst (λ (x : List ℕ). DifferOnlyIn image x (plan_copy (plan_of ed (disc_of image)))) (sym copied-is) (own-copy ed (account t team) image (length words) (length bytes) place all)

  -- ---- the table

  module _ (image' b : List ℕ) (t' : Totals) (r : Result Span Refusal) (g : IsTabled (plan-behind (length words₁)) image image' (length words₁) (length bytes₁) b (account t team) t' r) where
    tabled : IsTabled (plan-behind (length words)) image image' (length words) (length bytes) b (account t team) t' r
    tabled = rw (lent, lent-bytes) at g

    table-done : IsDone verdict (plan_of ed (disc_of image)) image b tabled.decision × (t' ≡ totals_after ed (account t team) image (length words) (length bytes))
    table-done = whole ed place image all (length words) (length bytes) b (account t team) t' tabled.decision tabled.accounted

    tabled-is : image' ≡ image_after_table ed (account t team) image (length words) (length bytes)
    unfolding image_after_table
    tabled-is = tabled.after ∙ table-done.0.tabled

    pub wrote-table : (words' bytes' : List ℕ) → words' ≡ zeros words → bytes' ≡ zeros bytes → (answer : Result DiscRegion Refusal) → answer ≡ span_behind verdict (plan_span (plan_of ed (disc_of image))) →
        WritesTable span_behind ed team (loan image words bytes t) (loan image' words' bytes' t') answer
    wrote-table words' bytes' zw zb answer q = record { answered = q; image = tabled-is; totals = table-done.1; words = zw; bytes = zb }

    pub only-tabled : DifferOnlyInTable image image' (plan_table_size (plan_of ed (disc_of image)))
    only-tabled = subst (λ (x : List ℕ). DifferOnlyInTable image x (plan_table_size (plan_of ed (disc_of image)))) (sym tabled-is) (own-table ed (account t team) image (length words) (length bytes) place all)

    -- the span that is left, or the refusal
    pub span-told : (s : Span) → r ≡ Ok s → Ok (span_region s) ≡ span_behind verdict (plan_span (plan_of ed (disc_of image)))
    span-told s q = (table-done.0.told s (sym tabled.answer ∙ q)).0

    pub on-disc : (s : Span) → r ≡ Ok s → IsOnDisc s
    on-disc s q = (table-done.0.told s (sym tabled.answer ∙ q)).1

    pub not-told : (c : Refusal) → r ≡ Err c → Err c ≡ span_behind verdict (plan_span (plan_of ed (disc_of image)))
    not-told c q = table-done.0.refusal c (sym tabled.answer ∙ q)
