-- With an account whose team may take everything, whose count can rise, and beside which no team has a share left, an edit is judged by its own
-- tests alone: it meets none of 27, 28 and 25. Assumes nothing.
use Rattle.std.specs.Prelude.{Ok, Err}
use Rattle.refusal.specs.Refusal.{Verdict, first}
use Rattle.std.specs.Prelude.{ℕ, ◌+◌, ◌-◌, ◌^◌, ◌<◌, ◌≤◌, ◌≡◌, List, length, sum, slice_index_or}
use Rattle.std.proofs.Math.Path.{refl}
use Rattle.std.proofs.Common.{sym, ◌∙◌, arith}
use borrow.Author.Tests.{lt-leb}
use Rattle.endian.specs.Bytes.{AllBytes}
use Rattle.totals.specs.declared.team.Team.{Team}
use Rattle.totals.specs.declared.Totals.{Totals}
use Rattle.totals.specs.Totals.{new_team, new_teams, team_of, remainders, others, team_verdict, totals_verdict}
use Rattle.totals.proofs.Laws.NewTeams.{new-team, new-taken, new-shares, no-limit}
use Rattle.totals.proofs.Laws.Remainders.{remainders-split, all-left}
use Rattle.opened.specs.Opening.{opening, used_of, disc_of}
use Rattle.opened.proofs.Laws.OpeningLaws.{disc-filled}
use Rattle.disc.specs.Calls.{record_answer}
use Rattle.edit_rules.specs.Edits.{Edit, Account, account, plan_of, plan_verdict, plan_image, space_change, counted_verdict, verdict_of}
use Rattle.ledger.specs.Ledger.{first_ledger}
use Rattle.ledger.specs.Runs.{IsPassable}
use Rattle.ledger.proofs.Laws.Opened.{opened}
use Rattle.ledger.proofs.Laws.RecordTells.{made_of}
use Rattle.ledger.proofs.Laws.Steps.{step-accepted}
use Rattle.ledger.proofs.Laws.Sequence.{start}

-- an account that stops no edit of the image: its record has the image's used bytes, its team has taken no more than these and may take all
pub record IsUnbounded (image : List ℕ) (a : Account) : Type 0 where
  pub used : a.totals.used ≡ used_of image
  pub team : a.team < 16
  pub taken : (team_of a.totals a.team).taken ≤ a.totals.used
  pub limit : (team_of a.totals a.team).limit ≡ 2 ^ 32 - 1
  pub count : (team_of a.totals a.team).edits + 1 < 2 ^ 32
  pub others : remainders (others a.totals.teams a.team) ≡ 0

-- LAW: so is one made of the image, for a team with the highest limit, where no team has a share
pub made-unbounded : (image : List ℕ) (w : ℕ) (limits shares : List ℕ) (t : Totals) (k : ℕ) → length limits ≡ 16 → length shares ≡ 16 → k < 16 → record_answer image w limits shares ≡ Ok t →
    slice_index_or limits k 0 ≡ 2 ^ 32 - 1 → sum shares ≡ 0 → IsUnbounded image (account t k)
made-unbounded image w limits shares t k l s h e highest none =
    let teams : List Team = new_teams limits shares in
    let m : team_of t k ≡ new_team (slice_index_or limits k 0) (slice_index_or shares k 0) = rw (made_of image w limits shares t e).1 (new-team limits shares k (omega (arith, l, h)) (omega (arith, s, h))) in
    let left : remainders (others teams k) ≡ 0 = omega (arith, remainders-split teams k, all-left teams (new-taken limits shares), new-shares limits shares (l ∙ sym s), none) in
    record { used = rw (made_of image w limits shares t e).1; team = h; taken = rw m (omega arith); limit = rw m highest; count = rw m (omega arith); others = rw (made_of image w limits shares t e).1 left }

module _ (image : List ℕ) (words bytes : ℕ) (b : AllBytes image) (e : opening image words ≡ Ok tt) (ed : Edit) (h : IsPassable ed) where
  abbrev new : List ℕ
  new = plan_image (plan_of ed (disc_of image)) image

  -- the new image's used bytes have 32 bits
  used-small : plan_verdict (plan_of ed (disc_of image)) (disc_of image) words bytes ≡ Ok tt → used_of new < 2 ^ 32
  used-small v =
      let k = step-accepted words image (first_ledger image) (start image words words (omega arith) b e) words bytes (omega arith) ed h v in
      omega (arith, disc-filled new words k.bytes k.opens, (opened new words k.opens k.bytes).bounds.small)

  -- the record's tests
  counted-passes : (a : Account) → IsUnbounded image a → used_of new < 2 ^ 32 → totals_verdict a.totals a.team (space_change image new) ≡ Ok tt
  counted-passes a u small = no-limit a.totals a.team (space_change image new) u.taken u.limit u.others (omega (arith, u.used)) (omega (arith, u.used)) u.count

  -- THEOREM
  pub own-record : (a : Account) → IsUnbounded image a → verdict_of ed a image words bytes ≡ plan_verdict (plan_of ed (disc_of image)) (disc_of image) words bytes
  unfolding verdict_of counted_verdict team_verdict
  own-record a u = rw (e, lt-leb 16 a.team u.team) (go (plan_verdict (plan_of ed (disc_of image)) (disc_of image) words bytes) refl)
    where
      go : (v : Verdict) → plan_verdict (plan_of ed (disc_of image)) (disc_of image) words bytes ≡ v → first v (totals_verdict a.totals a.team (space_change image new)) ≡ v
      go (Err c) q = refl
      go (Ok tt) q = counted-passes a u (used-small q)
