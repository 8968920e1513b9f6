-- The theorems about a record that is handed on, applied to a list in which teams take turns on the small master: their hypotheses hold there, and
-- what they say is read off in numbers. Assumes nothing.
use Rattle.std.specs.Prelude.{Ok, Err}
use Rattle.std.specs.Prelude.{ℕ, ◌≤◌, ◌≡◌, refl, List, [], ◌∷◌, replicate}
use Rattle.std.proofs.Common.{ap, arith, sym, ◌∙◌}
use Rattle.endian.specs.Bytes.{put, AllBytes}
use Rattle.refusal.specs.declared.Refusal.TheVariants.{NoSuchEntry, TakenAboveLimit, FreeBelowShares}
use Rattle.space.specs.Used.{total_size}
use Rattle.space.specs.Free.{largest_size}
use Rattle.space.specs.MaxRegionSize.{size_beside_free, max_size_from}
use Rattle.totals.specs.declared.team.Team.{Team}
use Rattle.totals.specs.declared.Totals.{Totals}
use Rattle.totals.specs.Totals.{team_of, new_teams, remainders, team_verdict, totals_verdict, moved_totals}
use Rattle.totals.proofs.Laws.NewTeams.{new-taken}
use Rattle.opened.specs.Opening.{used_of, free_space_of}
use Rattle.disc.specs.Calls.{record_answer}
use Rattle.edit_rules.specs.Edits.{Edit, account, resize_file, rewrite, plan_resize, verdict_of}
use Rattle.edit_rules.proofs.Laws.Accepted.{team-first}
use Rattle.ledger.specs.Lists.{Turn, calls_of, answers_of}
use Rattle.ledger.specs.Runs.{Call, image_after_all, totals_after_all, IsHandedOn, accepted_count, taken_after_all, team_after_all, AllWithin}
use Rattle.ledger.specs.Theorem.{Tells, IsFairStart, IsWithinShare, SharesHold, SharesSuffice}
use Rattle.ledger.proofs.Laws.RecordTells.{record-tells}
use Rattle.ledger.proofs.Laws.TeamsServed.{teams-served}
use Rattle.worked.specs.Laws.Handed.{most, team, teams}
use Rattle.worked.specs.Image.{master, master_words, master_bytes}
use Rattle.worked.specs.Laws.Marked.{opens, free, used}
use Rattle.worked.specs.Laws.Planned.{Step, accepted-by, refused-by, refused}
use Rattle.worked.specs.Laws.OnMaster.{sized, at_256, sizes, resizes}
use Rattle.worked.specs.Laws.Teams.{sixteenth}
use Rattle.worked.specs.Laws.Applied.{bytes_only, bytes-only}

-- ---- the record: teams 0 and 1 may take whatever there is, for team 2 all that it may take is kept, and the others may take nothing

abbrev limits : List ℕ
limits = most ∷ most ∷ 167 ∷ replicate 13 0

abbrev shares : List ℕ
shares = 0 ∷ 0 ∷ 167 ∷ replicate 13 0

-- what each of three teams has taken, by how many edits
abbrev with : ℕ → ℕ → ℕ → ℕ → ℕ → ℕ → ℕ → ℕ → Totals
with used largest taken₀ edits₀ taken₁ edits₁ taken₂ edits₂ =
    record { used = used; largest = largest; teams = teams (team most 0 taken₀ edits₀ ∷ team most 0 taken₁ edits₁ ∷ team 167 167 taken₂ edits₂ ∷ []) }

abbrev t₀ : Totals
t₀ = with 1370 6656 0 0 0 0 0 0

abbrev t₁ : Totals
t₁ = with 1364 6662 0 1 0 0 0 0

abbrev t₂ : Totals
t₂ = with 1371 6655 7 2 0 0 0 0

abbrev t₃ : Totals
t₃ = with 8025 166 7 2 6654 1 0 0

abbrev t₄ : Totals
t₄ = with 8026 166 7 2 6654 1 1 1

-- ---- the turns, each by its answer, and the image and the record that it leaves

-- team 0 gives back 6 bytes, of which it has taken none, and then takes 7, for which it has no share
gives : Step master_bytes (Ok tt) (resize_file 1 250) (account t₀ 0) master (sized 250) t₁
unfolding team_verdict totals_verdict remainders moved_totals
gives = accepted-by resizes.to_250 (account t₀ 0) refl

takes : Step master_bytes (Ok tt) (resize_file 1 257) (account t₁ 0) (sized 250) (sized 257) t₂
unfolding team_verdict totals_verdict remainders moved_totals
takes = accepted-by resizes.to_7 (account t₁ 0) refl

-- team 1 may not take a byte of what is kept for team 2
too_many : Step master_bytes (Err FreeBelowShares) (resize_file 1 6912) (account t₂ 1) (sized 257) (sized 257) t₂
unfolding team_verdict totals_verdict remainders
too_many = refused-by resizes.to_6912 (account t₂ 1) FreeBelowShares refl

-- there is no team 16
no_team : Step master_bytes (Err NoSuchEntry) rewrite (account t₂ 16) (sized 257) (sized 257) t₂
no_team = refused master_bytes NoSuchEntry rewrite (account t₂ 16) (sized 257) (team-first rewrite (account t₂ 16) (sized 257) master_words master_bytes NoSuchEntry sizes.at_257.opens sixteenth)

-- it takes all the rest; team 3 may not take one byte more, and team 2 may
all_else : Step master_bytes (Ok tt) (resize_file 1 6911) (account t₂ 1) (sized 257) (sized 6911) t₃
unfolding team_verdict totals_verdict remainders moved_totals
all_else = accepted-by resizes.to_6911 (account t₂ 1) refl

no_limit : Step master_bytes (Err TakenAboveLimit) (resize_file 1 6912) (account t₃ 3) (sized 6911) (sized 6911) t₃
unfolding team_verdict totals_verdict remainders
no_limit = refused-by resizes.to_1 (account t₃ 3) TakenAboveLimit refl

served : Step master_bytes (Ok tt) (resize_file 1 6912) (account t₃ 2) (sized 6911) (sized 6912) t₄
unfolding team_verdict totals_verdict remainders moved_totals
served = accepted-by resizes.to_1 (account t₃ 2) refl

-- ---- the list

abbrev call : Edit → Totals → ℕ → Call
call ed t k = record { edit = ed; account = account t k; words = master_words; bytes = master_bytes }

unfoldable pub list : List Call
list =
    call (resize_file 1 250) t₀ 0 ∷
    call (resize_file 1 257) t₁ 0 ∷
    call (resize_file 1 6912) t₂ 1 ∷
    call rewrite t₂ 16 ∷
    call (resize_file 1 6911) t₂ 1 ∷
    call (resize_file 1 6912) t₃ 3 ∷
    call (resize_file 1 6912) t₃ 2 ∷ []

abbrev turn : Edit → ℕ → Turn
turn ed k = record { team = k; edit = ed }

abbrev pub turns : List Turn
turns =
    turn (resize_file 1 250) 0 ∷
    turn (resize_file 1 257) 0 ∷
    turn (resize_file 1 6912) 1 ∷
    turn rewrite 16 ∷
    turn (resize_file 1 6911) 1 ∷
    turn (resize_file 1 6912) 3 ∷
    turn (resize_file 1 6912) 2 ∷ []

pub record Worked : Type 0 where
  pub made : record_answer master master_words limits shares ≡ Ok t₀
  pub image : image_after_all list master ≡ sized 6912
  pub handed-on : IsHandedOn t₀ list master
  pub handed-back : totals_after_all t₀ list master ≡ t₄
  -- as one call
  pub come-to : calls_of turns t₀ master master_words master_bytes ≡ list
  pub answered : answers_of list master ≡ Ok 1 ∷ Ok 1 ∷ Err FreeBelowShares ∷ Err NoSuchEntry ∷ Ok 1 ∷ Err TakenAboveLimit ∷ Ok 1 ∷ []

made : record_answer master master_words limits shares ≡ Ok t₀
unfolding record_answer new_teams largest_size
made = rw (opens, free, used)

handed-on : IsHandedOn t₀ list master
unfolding list
handed-on =
    rw (gives.written, gives.counted, takes.written, takes.counted, too_many.written, too_many.counted, no_team.written, no_team.counted, all_else.written, all_else.counted, no_limit.counted)
    (refl, (refl, (refl, (refl, (refl, (refl, (refl, tt)))))))

answered : answers_of list master ≡ Ok 1 ∷ Ok 1 ∷ Err FreeBelowShares ∷ Err NoSuchEntry ∷ Ok 1 ∷ Err TakenAboveLimit ∷ Ok 1 ∷ []
unfolding list answers_of plan_resize max_size_from size_beside_free
answered =
    let a = sizes.at_250 in
    let b = sizes.at_257 in
    let c = sizes.at_6911 in
    rw (
      gives.answered,
      gives.written,
      takes.answered,
      takes.written,
      too_many.answered,
      too_many.written,
      no_team.answered,
      no_team.written,
      all_else.answered,
      all_else.written,
      no_limit.answered,
      no_limit.written,
      served.answered,
      at_256.nodes,
      a.nodes,
      a.free,
      b.nodes,
      b.free,
      c.nodes,
      c.free,
    )

pub worked : Worked
unfolding list image_after_all totals_after_all calls_of
worked = record {
  made = made;
  image = rw (gives.written, takes.written, too_many.written, no_team.written, all_else.written, no_limit.written, served.written);
  handed-on = handed-on;
  handed-back = rw (gives.written, takes.written, too_many.written, no_team.written, all_else.written, no_limit.written, served.counted);
  come-to =
      rw (gives.written, gives.counted, takes.written, takes.counted, too_many.written, too_many.counted, no_team.written, no_team.counted, all_else.written, all_else.counted, no_limit.counted);
  answered = answered;
}

-- ---- the hypotheses, with as many words as the calls are lent or more

bytes : AllBytes master
unfolding master put bytes_only
bytes = bytes-only master refl

within : (w : ℕ) → master_words ≤ w → AllWithin w list
unfolding list
within w h = (omega arith, omega arith, (omega arith, omega arith, (omega arith, omega arith, (omega arith, tt, (omega arith, omega arith, (omega arith, omega arith, (omega arith, omega arith, tt)))))))

fair : IsFairStart master t₀
unfolding new_teams total_size
fair = record { nothing-taken = new-taken limits shares; shares-free = rw free (omega arith) }

pub record Start : Type 0 where
  pub taken : ((team_of t₀ 2).taken ≡ 0) × ((team_of t₀ 16).taken ≡ 0)
  pub shares : 167 ≤ total_size (free_space_of master)

pub start : Start
start = record { taken = (fair.nothing-taken 2, fair.nothing-taken 16); shares = fair.shares-free }

-- ---- what the record tells after the list

tells : (w : ℕ) → master_words ≤ w → Tells (sized 6912) w (team_after_all limits shares list master) t₄
tells w h = rw (worked.image, worked.handed-back) at (record-tells master master_words w limits shares t₀ list bytes refl refl worked.made h (within w h) worked.handed-on)

pub record Told (w : ℕ) : Type 0 where
  pub used : used_of (sized 6912) ≡ 8026
  pub largest : largest_size (free_space_of (sized 6912)) ≡ 166
  -- one that is made of the last image, for teams of other limits and shares
  pub afresh : record_answer (sized 6912) w (replicate 16 5) (replicate 16 7) ≡ Ok (record { used = 8026; largest = 166; teams = replicate 16 (team 5 7 0 0) })
  -- what each team has taken by the images: of the 6 bytes that team 0 gave back first it had taken none
  pub taken : (taken_after_all 0 0 list master ≡ 7) × (taken_after_all 1 0 list master ≡ 6654) × (taken_after_all 2 0 list master ≡ 1) × (taken_after_all 3 0 list master ≡ 0)
  -- the accepted edits of each team, and no refused one
  pub counts : (accepted_count 0 list master ≡ 2) × (accepted_count 1 list master ≡ 1) × (accepted_count 2 list master ≡ 1) × (accepted_count 3 list master ≡ 0)

pub told : (w : ℕ) → master_words ≤ w → Told w
unfolding new_teams
told w h =
    let t = tells w h in
    let u : used_of (sized 6912) ≡ 8026 = sym (ap (λ (t : Totals). t.used) t.totals) in
    let l : largest_size (free_space_of (sized 6912)) ≡ 166 = sym (ap (λ (t : Totals). t.largest) t.totals) in
    record {
      used = u;
      largest = l;
      afresh = t.afresh (replicate 16 5) (replicate 16 7) ∙ rw (u, l);
      taken = (sym (ap (λ (m : Team). m.taken) (t.teams 0 (omega arith))), sym (ap (λ (m : Team). m.taken) (t.teams 1 (omega arith))), sym (ap (λ (m : Team). m.taken) (t.teams 2 (omega arith))), sym (ap (λ (m : Team). m.taken) (t.teams 3 (omega arith))));
      counts = (sym (ap (λ (m : Team). m.edits) (t.teams 0 (omega arith))), sym (ap (λ (m : Team). m.edits) (t.teams 1 (omega arith))), sym (ap (λ (m : Team). m.edits) (t.teams 2 (omega arith))), sym (ap (λ (m : Team). m.edits) (t.teams 3 (omega arith))));
    }

-- ---- the teams have their shares

serves : (w : ℕ) → master_words ≤ w → SharesHold t₀ (sized 6912) t₄ × SharesSuffice list master
serves w h = rw (worked.image, worked.handed-back) at (teams-served master master_words w t₀ list bytes opens h (within w h) worked.handed-on fair)

-- the last call is within its team's share: one byte of 167
within-share : IsWithinShare (call (resize_file 1 6912) t₃ 2) (sized 6911)
within-share = rw (resizes.to_1.writes, sizes.at_6911.used, sizes.at_6912.used) (omega arith)

pub record Served : Type 0 where
  -- what team 2 has not yet taken is free
  pub kept : 166 ≤ total_size (free_space_of (sized 6912))
  -- team 2 is within its limit, and so is team 3, which may take nothing
  pub limits : (1 ≤ 167) × (0 ≤ 0)
  pub same : ((team_of t₄ 2).limit ≡ 167) × ((team_of t₄ 2).share ≡ 167)
  -- all else is taken: team 2 does not meet 28, which is what the theorem says, and is not refused at all
  pub taken : total_size (free_space_of (sized 6911)) ≡ 167
  pub not-28 : ¬ (verdict_of (resize_file 1 6912) (account t₃ 2) (sized 6911) master_words master_bytes ≡ Err FreeBelowShares)
  pub accepted : verdict_of (resize_file 1 6912) (account t₃ 2) (sized 6911) master_words master_bytes ≡ Ok tt

not-28 : SharesSuffice list master → ¬ (verdict_of (resize_file 1 6912) (account t₃ 2) (sized 6911) master_words master_bytes ≡ Err FreeBelowShares)
unfolding list
not-28 s = let z = rw (gives.written, takes.written, too_many.written, no_team.written, all_else.written, no_limit.written) at s in z.1.1.1.1.1.1.0 within-share

pub served-worked : Served
unfolding total_size
served-worked =
    let s = serves master_words (omega arith) in
    record {
      kept = s.0.shares-free;
      limits = (s.0.within-limits 2, s.0.within-limits 3);
      same = (s.0.same-limits 2, s.0.same-shares 2);
      taken = rw sizes.at_6911.free;
      not-28 = not-28 s.1;
      accepted = served.answered;
    }
