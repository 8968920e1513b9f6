-- What is decided on and entered in the record, as what an edit's answer speaks of. Assumes nothing.
use Rattle.std.specs.Prelude.{Result, Ok, Err, ℕ, ◌-◌, ◌<◌, ◌≤◌, ◌^◌, ◌≡◌, refl, Bool, true, false, ◌&&◌, if◌then◌else◌, nat_lt, List, length}
use Rattle.std.proofs.Common.{arith, ap, sym, ◌∙◌, subst, ltb-false}
use Rattle.refusal.specs.declared.Refusal.{Refusal}
use Rattle.refusal.specs.declared.Refusal.TheVariants.{NotEnoughSpace}
use Rattle.refusal.specs.Refusal.{Verdict, first}
use Rattle.refusal.specs.Laws.Chains.{refuse-passed, first-passed}
use Rattle.endian.specs.Bytes.{AllBytes}
use Rattle.totals.specs.declared.Totals.{Totals}
use Rattle.totals.specs.Totals.{team_verdict}
use Rattle.opened.specs.Opening.{opening, disc_of, Disc}
use Rattle.opened.specs.declared.parts.Parts.{Parts}
use Rattle.opened.specs.Inner.Prepared.{IsOpenImage}
use Rattle.opened.proofs.Laws.OpeningLaws.{opens}
use Rattle.edit_rules.specs.Change.{Plan, refused, nothing, change, filled}
use Rattle.edit_rules.specs.Edits as edits
use Rattle.edit_rules.specs.Edits.{account, plan_behind, plan_of, plan_number, plan_fill, file_verdict, clip_verdict, verdict_of, image_after, totals_after, number_behind}
use Rattle.edit_rules.proofs.Laws.Accepted.{accepted}
use Rattle.edit.specs.declared.decision.Decision.{Decision}
use Rattle.edit.specs.declared.decision.Decision.TheVariants as decision
use Rattle.edit.specs.Inner.Decision.{CanCarry, Carries, carried_image, decision_number}
use Rattle.edit.specs.Inner.Accounting.{account_with, IsAccountedFor}
use Rattle.edit.proofs.Edited.{edit-account_with}
use Rattle.journaled.specs.declared.request.Request.{Request}
use Rattle.journaled.specs.declared.request.Request.TheVariants as request
use Rattle.record_text.specs.Text.{record_text}
use Rattle.journal.specs.Disk.{Disk}
use Rattle.journal.specs.Journal.{Kept, kept_of}
use Rattle.journaled.specs.declared.request.Order.{Order}
use Rattle.journaled.specs.declared.making.Answer.{Answer}
use Rattle.journaled.specs.declared.making.Answer.TheVariants.{Refused, Declined, Unread, Unkept, Done}
use Rattle.journaled.specs.Edited.{edit_asked, Turn, turn_of, kept_edited, IsAsItWas, IsAnswered}
use Rattle.journaled.specs.Inner.Behind.{image_behind}
use Rattle.journaled.specs.Inner.Clip.{ClipIs}
use Rattle.journaled.specs.Inner.Drafted.{IsAside, CanMake, kept_carried, IsCarriedOut}

-- ---- a clip beside a decision

-- an edit that brings none
aside-none : (d : Decision) → (clip : List ℕ) → length clip ≡ 0 → IsAside d clip
aside-none decision.Nothing clip e = record { uncopied = e; short = omega (arith, e) }
aside-none (decision.Clip n at) clip e = record { uncopied = tt; short = omega (arith, e) }
aside-none (decision.Write k n w) clip e = record { uncopied = λ z. absurd (omega arith); short = omega (arith, e) }

-- a fill, once its clip is short
aside-filled : (d : Decision) (bytes clip : List ℕ) (k : ℕ) (p : Plan) → Carries (Ok d) bytes (filled k clip p) → length clip < 2 ^ 32 → IsAside d clip
aside-filled decision.Nothing bytes clip k p h s = absurd h
aside-filled (decision.Clip n at) bytes clip k p h s = record { uncopied = tt; short = s }
aside-filled (decision.Write n size w) bytes clip k (refused v) h s = absurd h
aside-filled (decision.Write n size w) bytes clip k nothing h s = absurd h
aside-filled (decision.Write n size w) bytes clip k (change j c) h s = record { uncopied = λ z. h.uncopied; short = s }
aside-filled (decision.Write n size w) bytes clip k (filled j more p) h s = absurd h

none-refused : (d : Decision) (bytes : List ℕ) (v : Verdict) → Carries (Ok d) bytes (refused v) → ⊥
none-refused decision.Nothing bytes v h = h
none-refused (decision.Clip n at) bytes v h = h
none-refused (decision.Write k n w) bytes v h = h

-- a plan behind tests that is carried is the plan
carried-behind : (v : Verdict) (p : Plan) (d : Decision) (bytes : List ℕ) → Carries (Ok d) bytes (plan_behind v p) → (v ≡ Ok tt) × Carries (Ok d) bytes p
carried-behind (Ok _) p d bytes h = (refl, h)
carried-behind (Err c) p d bytes h = absurd (none-refused d bytes (Err c) h)

clip-short : (x : Disc) (k n : ℕ) → clip_verdict x.nodes k n ≡ Ok tt → n < 2 ^ 32
clip-short x k n e =
    let p = first-passed (file_verdict x.nodes k) _ e in
    let q = refuse-passed (nat_lt (2 ^ 32 - 1) n) NotEnoughSpace (Ok tt) p.1 in
    omega (arith, ltb-false (2 ^ 32 - 1) n q.0)

pub clip-aside : (r : Request) (clip : List ℕ) (v : Verdict) (x : Disc) (d : Decision) (bytes : List ℕ) → ClipIs r clip → Carries (Ok d) bytes (plan_behind v (plan_of (edit_asked r clip) x)) → IsAside d clip
unfolding plan_fill
clip-aside (request.Edit e) clip v x d bytes is h = aside-none d clip (ap length is.1)
clip-aside (request.Fill k) clip v x d bytes is h =
    let c = carried-behind v (plan_of (edits.fill_file k clip) x) d bytes h in
    let f = carried-behind (clip_verdict x.nodes k (length clip)) _ d bytes c.1 in
    aside-filled d bytes clip k _ f.1 (clip-short x k (length clip) f.0)

-- ---- an edit that is entered

-- an image that opens has a whole header
pub long_opened : (image : List ℕ) (words : ℕ) → IsOpenImage image words → 0x440 ≤ length image
long_opened image words known = let b = known.reads.bounds in omega (arith, b.after-header, b.table, b.image_holds)

module _ (ed : edits.Edit) (team : ℕ) (image : List ℕ) (words room : ℕ) (bytes clip : List ℕ) (totals totals' : Totals) where
  abbrev plan : Plan
  plan = plan_behind (first (opening image words) (team_verdict team)) (plan_of ed (disc_of image))

  -- refused
  pub entered-refused : (c : Refusal) → IsAccountedFor plan image words room bytes clip (account totals team) (account_with (Err c) totals') → verdict_of ed (account totals team) image words room ≡ Err c
  entered-refused c f = go (verdict_of ed (account totals team) image words room) (edit-account_with ed image words room bytes clip (account totals team) totals' (Err c) f).0
    where
      go : (v : Verdict) → Err c ≡ number_behind v (plan_number (plan_of ed (disc_of image))) → v ≡ Err c
      go (Ok _) e = let z : ◌≡◌ {A = ℕ} 0 1 = cc in absurd (omega arith)
      go (Err b) e = cc

  -- accepted
  pub record IsEntered (d : Decision) : Type 0 where
    pub verdict : verdict_of ed (account totals team) image words room ≡ Ok tt
    pub number : decision_number d ≡ plan_number (plan_of ed (disc_of image))
    pub image_is : carried_image (Ok d) bytes clip image ≡ image_after ed (account totals team) image words room
    pub totals_are : totals' ≡ totals_after ed (account totals team) image words room

  pub entered : (d : Decision) → IsAccountedFor plan image words room bytes clip (account totals team) (account_with (Ok d) totals') → IsEntered d
  entered d f =
      let e = edit-account_with ed image words room bytes clip (account totals team) totals' (Ok d) f in
      let v = go (verdict_of ed (account totals team) image words room) e.0 in
      record { verdict = v.0; number = v.1; image_is = e.1; totals_are = e.2 }
    where
      go : (v : Verdict) → Ok (decision_number d) ≡ number_behind v (plan_number (plan_of ed (disc_of image))) → (v ≡ Ok tt) × (decision_number d ≡ plan_number (plan_of ed (disc_of image)))
      go (Ok _) e = (refl, cc)
      go (Err b) e = let z : ◌≡◌ {A = ℕ} 0 1 = cc in absurd (omega arith)

-- LAW: what is decided on can be made
pub decided-can : (r : Request) (team : ℕ) (image : List ℕ) (words room : ℕ) (bytes clip : List ℕ) (totals totals' : Totals) (d : Decision) → AllBytes image → ClipIs r clip → length bytes ≡ room
    → IsAccountedFor (plan_behind (first (opening image words) (team_verdict team)) (plan_of (edit_asked r clip) (disc_of image))) image words room bytes clip (account totals team) (account_with (Ok d) totals')
    → CanMake image bytes clip d
decided-can r team image words room bytes clip totals totals' d all is long f =
    let e = entered (edit_asked r clip) team image words room bytes clip totals totals' d f in
    record {
      fits = subst (λ (n : ℕ). CanCarry image n clip (Ok d)) (sym long) f.decided.fits;
      apart = f.decided.apart;
      aside = clip-aside r clip (first (opening image words) (team_verdict team)) (disc_of image) d bytes is f.decided.carries;
      long = long_opened image words (opens image words all (accepted (edit_asked r clip) (account totals team) image words room e.verdict).opens);
    }

-- ---- what is made of it, in the words of the edit

module _ (order : Order) (totals totals' : Totals) (words room : ℕ) (bytes clip : List ℕ) (d : Decision) where
  abbrev turn : Turn
  turn = turn_of order totals words room clip

  -- LAW: image and record are those that the edit's rules define
  pub carried-edited : (k : Kept) → IsEntered turn.edit order.team k.image words room bytes clip totals totals' d → kept_carried order totals' d bytes clip k ≡ kept_edited turn k
  unfolding kept_edited
  carried-edited k e = rw (e.image_is, e.verdict, e.totals_are) (go order.keeps_record)
    where
      go : (keeps : Bool)
          → ◌≡◌ {A = Kept} (record { image = image_after turn.edit turn.account k.image words room; record_text = if keeps then record_text order.teams.now (totals_after turn.edit turn.account k.image words room) else k.record_text })
          (record { image = image_after turn.edit turn.account k.image words room; record_text = if keeps && true then record_text order.teams.now (totals_after turn.edit turn.account k.image words room) else k.record_text })
      go true = refl
      go false = refl

  module _ (old new : Disk) (table : ℕ) (e : IsEntered turn.edit order.team old.image words room bytes clip totals totals' d) where
    as-it-was : new ≡ old → IsAsItWas turn old new totals
    as-it-was same = record { same = same; handed_back = refl }

    pub answered-done : (answer : Answer) (k : ℕ) → answer ≡ Done k → IsCarriedOut order totals' d bytes clip old new answer → IsAnswered turn table old new totals' answer
    answered-done answer k is made =
        let m = rw is at made in
        rw is (record { verdict = e.verdict; number = m.0 ∙ e.number; kept = m.1 ∙ carried-edited (kept_of old) e; handed_back = e.totals_are })

    pub answered_left : (answer : Answer) → ((k : ℕ) → answer ≡ Done k → ⊥) → IsCarriedOut order totals' d bytes clip old new answer → IsAnswered turn table old new totals answer
    answered_left (Done j) not made = absurd (not j refl)
    answered_left (Refused c) not made = absurd made
    answered_left Declined not made = (e.verdict, as-it-was made)
    answered_left Unread not made = absurd made
    answered_left Unkept not made = (record { verdict = e.verdict; keeps = made.0; longer = rw (made.0, e.verdict, ← e.totals_are) made.1 }, as-it-was made.2)

-- refused
pub answered_refused : (t : Turn) (old : Disk) (table : ℕ) (c : Refusal) → verdict_of t.edit t.account old.image t.words t.bytes ≡ Err c → IsAnswered t table old old t.account.totals (Refused c)
answered_refused t old table c v = (v, record { same = refl; handed_back = refl })

-- the same of what is decided on from parts, where the bytes of the files are known
module _ (order : Order) (totals totals' : Totals) (words room : ℕ) (bytes clip : List ℕ) (known : Bool) (old : Disk) (parts : Parts) (k : known ≡ true) where
  -- what is decided on, with the record then
  abbrev IsDecided : Result Decision Refusal → Type 0
  IsDecided r =
      let image : List ℕ = image_behind known old.image parts in
      IsAccountedFor (plan_behind (first (opening image words) (team_verdict order.team)) (plan_of (edit_asked order.request clip) (disc_of image))) image words room bytes clip (account totals order.team)
      (account_with r totals')

  same-image : image_behind known old.image parts ≡ old.image
  same-image = rw k

  pub known-refused : (c : Refusal) → IsDecided (Err c) → (table : ℕ) → IsAnswered (turn_of order totals words room clip) table old old totals (Refused c)
  known-refused c f table =
      let v = entered-refused (edit_asked order.request clip) order.team (image_behind known old.image parts) words room bytes clip totals totals' c f in
      answered_refused (turn_of order totals words room clip) old table c
      (subst (λ (i : List ℕ). verdict_of (edit_asked order.request clip) (account totals order.team) i words room ≡ Err c) same-image v)

  module _ (d : Decision) (f : IsDecided (Ok d)) where
    pub known-entered : IsEntered (edit_asked order.request clip) order.team old.image words room bytes clip totals totals' d
    known-entered =
        subst (λ (i : List ℕ). IsEntered (edit_asked order.request clip) order.team i words room bytes clip totals totals' d) same-image
        (entered (edit_asked order.request clip) order.team (image_behind known old.image parts) words room bytes clip totals totals' d f)

    pub known-carried : kept_carried order totals' d bytes clip (kept_of old) ≡ kept_edited (turn_of order totals words room clip) (kept_of old)
    known-carried = carried-edited order totals totals' words room bytes clip d (kept_of old) known-entered
