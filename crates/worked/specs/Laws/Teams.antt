-- Worked teams, by computing, on the small master: 27 and 28 at each end of their range and on edits that cost nothing, what is taken after an
-- accepted edit, and where 15, 27 and 28 come among the tests. Assumes nothing.
use Rattle.std.specs.Prelude.{Ok, Err}
use Rattle.std.specs.Prelude.{ℕ, ◌^◌, ◌≡◌, refl, List, [], ◌∷◌, ◌++◌, replicate}
use Rattle.refusal.specs.declared.Refusal.TheVariants.{HeaderPastImage, LimitOrMemory, NoSuchEntry, OverlappingMove, NotEnoughSpace, TotalsOutOfRange, TableAboveMaximum, TakenAboveLimit, FreeBelowShares}
use Rattle.refusal.specs.Refusal.{number_of}
use Rattle.header.specs.Fields.{fields}
use Rattle.endian.specs.Bytes.{be24, be32, put}
use Rattle.header.specs.Verdicts.{field_verdict, all_fields_verdict, header_verdict, bounds_verdict}
use Rattle.tree.specs.Table.{count, name_at, node_at, nodes_from, nodes_of, entry_verdict, entries_verdict, is_unended, check, dirs_open_at, parent_below, parent_of, entries_bytes, texts_of, encode, is_shallow_from, is_shallow, limits}
use Rattle.space.specs.Free.{largest_size}
use Rattle.space.specs.MaxRegionSize.{size_beside_free, max_size_from}
use Rattle.totals.specs.declared.team.Team.{Team}
use Rattle.totals.specs.declared.Totals.{Totals}
use Rattle.totals.specs.Totals.{new_team, new_teams, remainders, team_verdict, totals_verdict, moved_totals}
use Rattle.opened.specs.Opening.{table_of, nodes_in, opening}
use Rattle.disc.specs.Calls.{record_answer}
use Rattle.edit_rules.specs.Change.{table_verdict, place_verdict}
use Rattle.edit_rules.specs.Edits.{Account, account, make_directories, move_file, resize_file, rewrite, plan_make_directories, plan_move, counted_verdict, verdict_of}
use Rattle.edit_rules.proofs.Laws.Accepted.{team-first}
use Rattle.worked.specs.Laws.Handed.{most, team, teams}
use Rattle.worked.specs.Image.{master, master_words, master_bytes}
use Rattle.worked.specs.Laws.Marked.{opens, nodes, free, used}
use Rattle.worked.specs.Laws.Maximum.{tight, insert_b, tight-opens, tight-plan, tight-free, tight-header}
use Rattle.worked.specs.Laws.Planned.{accepted-by, refused-by}
use Rattle.worked.specs.Laws.OnMaster.{answer, image, after, sized, costless, resizes}

-- a record with so many used bytes, so large a free region, and these teams first
abbrev record_of : ℕ → ℕ → List Team → Totals
record_of used largest first = record { used = used; largest = largest; teams = teams first }

-- an edit of team k with the master's own record
abbrev by : ℕ → List Team → Account
by k first = account (record_of 1370 6656 first) k

-- may take whatever there is, and nothing is kept for it
abbrev unbounded : Team
unbounded = team most 0 0 0

-- ---- what a team has taken, and its limit

-- 9 bytes of 5
abbrev pub above : Account
above = by 0 (team 5 0 9 0 ∷ [])

-- of two teams the one that edits may take 500 bytes
abbrev two : Account
two = by 0 (team 500 100 0 0 ∷ team most 6000 0 0 ∷ [])

pub record Limits : Type 0 where
  -- above the limit 27 meets edits that cost nothing too, and all is left as it was
  pub costless : (answer rewrite above ≡ Err TakenAboveLimit) × (answer (resize_file 1 0x100) above ≡ Err TakenAboveLimit) × (answer (move_file 1 0x600) above ≡ Err TakenAboveLimit)
  pub stays : (image rewrite above ≡ master) × (after rewrite above ≡ above.totals)
  -- a team that may take nothing may edit at no cost
  pub none : answer rewrite (by 0 []) ≡ Ok tt
  -- a record made: 501 bytes of 500 are 27, and 500 accepted; the other team stays as it was
  pub made : record_answer master master_words (500 ∷ most ∷ replicate 14 0) (100 ∷ 6000 ∷ replicate 14 0) ≡ Ok two.totals
  pub over : answer (resize_file 1 757) two ≡ Err TakenAboveLimit
  pub exact : (answer (resize_file 1 756) two ≡ Ok tt) × (after (resize_file 1 756) two ≡ record_of 1870 6156 (team 500 100 500 1 ∷ team most 6000 0 0 ∷ []))
  -- the sum does not wrap: a byte more than 2^32 - 1
  pub most-taken : answer (resize_file 1 257) (by 0 (team most 0 most 0 ∷ [])) ≡ Err TakenAboveLimit
  -- bytes given back: one of 9 is too few for a limit of 5, four are enough
  pub given-back : (answer (resize_file 1 255) above ≡ Err TakenAboveLimit) × (answer (resize_file 1 252) above ≡ Ok tt) × (after (resize_file 1 252) above ≡ record_of 1366 6660 (team 5 0 5 1 ∷ []))
  -- more bytes than it has taken: none are taken then; and fewer
  pub below-0 : after (resize_file 1 0) (by 0 (team most 0 100 0 ∷ [])) ≡ record_of 1114 7078 (team most 0 0 1 ∷ [])
  pub fewer : after (resize_file 1 0) (by 0 (team most 0 300 0 ∷ [])) ≡ record_of 1114 7078 (team most 0 44 1 ∷ [])
  -- the cost is the image's, whatever the record holds: 500 bytes where it says that 1869 are used
  pub measured :
      (answer (resize_file 1 756) (account (record_of 1869 7 (team 499 0 0 0 ∷ [])) 0) ≡ Err TakenAboveLimit) ×
      (after (resize_file 1 756) (account (record_of 1869 7 (team 500 0 0 0 ∷ [])) 0) ≡ record_of 2369 6156 (team 500 0 500 1 ∷ []))

pub limits-worked : Limits
unfolding record_answer new_teams largest_size team_verdict totals_verdict remainders moved_totals
limits-worked =
    let a = refused-by costless.rewritten above TakenAboveLimit refl in
    let exact = accepted-by resizes.to_756 two refl in
    let back = accepted-by resizes.to_252 above refl in
    record {
      costless = (a.answered, (refused-by costless.same_size above TakenAboveLimit refl).answered, (refused-by costless.moved above TakenAboveLimit refl).answered);
      stays = (a.written, a.counted);
      none = (accepted-by costless.rewritten (by 0 []) refl).answered;
      made = rw (opens, free, used);
      over = (refused-by resizes.to_757 two TakenAboveLimit refl).answered;
      exact = (exact.answered, exact.counted);
      most-taken = (refused-by resizes.to_257 (by 0 (team most 0 most 0 ∷ [])) TakenAboveLimit refl).answered;
      given-back = ((refused-by resizes.to_255 above TakenAboveLimit refl).answered, back.answered, back.counted);
      below-0 = (accepted-by resizes.to_0 (by 0 (team most 0 100 0 ∷ [])) refl).counted;
      fewer = (accepted-by resizes.to_0 (by 0 (team most 0 300 0 ∷ [])) refl).counted;
      measured = (
        (refused-by resizes.to_756 (account (record_of 1869 7 (team 499 0 0 0 ∷ [])) 0) TakenAboveLimit refl).answered,
        (accepted-by resizes.to_756 (account (record_of 1869 7 (team 500 0 0 0 ∷ [])) 0) refl).counted,
      );
    }

-- ---- what is kept for the other teams

-- so much for team 1
abbrev pub keeping : ℕ → Account
keeping share = by 0 (unbounded ∷ team most share 0 0 ∷ [])

-- for teams 0 and 2, while team 1 edits
abbrev between : ℕ → ℕ → Account
between first second = by 1 (team most first 0 0 ∷ unbounded ∷ team most second 0 0 ∷ [])

pub record Shares : Type 0 where
  -- 6822 bytes are free: a byte more, kept for another team, is 28 for edits that cost nothing too, and all is left as it was
  pub costless : (answer rewrite (keeping 6823) ≡ Err FreeBelowShares) × (answer (resize_file 1 0x100) (keeping 6823) ≡ Err FreeBelowShares) × (answer (move_file 1 0x600) (keeping 6823) ≡ Err FreeBelowShares)
  pub stays : (image rewrite (keeping 6823) ≡ master) × (after rewrite (keeping 6823) ≡ (keeping 6823).totals)
  pub exact : (answer rewrite (keeping 6822) ≡ Ok tt) × (answer (resize_file 1 0x100) (keeping 6822) ≡ Ok tt) × (answer (move_file 1 0x600) (keeping 6822) ≡ Ok tt)
  -- a team's own share plays no part
  pub own : answer rewrite (by 0 (team most 6823 0 0 ∷ [])) ≡ Ok tt
  -- the free bytes are those after the edit: it takes a byte, or gives one back; below a cost of 0 too there may be too few
  pub taken : answer (resize_file 1 257) (keeping 6822) ≡ Err FreeBelowShares
  pub given-back : (answer (resize_file 1 255) (keeping 6823) ≡ Ok tt) × (answer (resize_file 1 255) (keeping 6824) ≡ Err FreeBelowShares)
  -- the shares of all the others together, before it and behind it, and no sum wraps
  pub together : (answer rewrite (between 3411 3411) ≡ Ok tt) × (answer rewrite (between 3411 3412) ≡ Err FreeBelowShares) × (answer rewrite (between (2 ^ 31) (2 ^ 31)) ≡ Err FreeBelowShares)
  -- what a team has taken of its share is kept no more
  pub in-part : answer rewrite (by 0 (unbounded ∷ team most 6823 1 0 ∷ [])) ≡ Ok tt

pub shares-worked : Shares
unfolding team_verdict totals_verdict remainders moved_totals
shares-worked =
    let k = refused-by costless.rewritten (keeping 6823) FreeBelowShares refl in
    record {
      costless = (k.answered, (refused-by costless.same_size (keeping 6823) FreeBelowShares refl).answered, (refused-by costless.moved (keeping 6823) FreeBelowShares refl).answered);
      stays = (k.written, k.counted);
      exact = ((accepted-by costless.rewritten (keeping 6822) refl).answered, (accepted-by costless.same_size (keeping 6822) refl).answered, (accepted-by costless.moved (keeping 6822) refl).answered);
      own = (accepted-by costless.rewritten (by 0 (team most 6823 0 0 ∷ [])) refl).answered;
      taken = (refused-by resizes.to_257 (keeping 6822) FreeBelowShares refl).answered;
      given-back = ((accepted-by resizes.to_255 (keeping 6823) refl).answered, (refused-by resizes.to_255 (keeping 6824) FreeBelowShares refl).answered);
      together = (
        (accepted-by costless.rewritten (between 3411 3411) refl).answered,
        (refused-by costless.rewritten (between 3411 3412) FreeBelowShares refl).answered,
        (refused-by costless.rewritten (between (2 ^ 31) (2 ^ 31)) FreeBelowShares refl).answered,
      );
      in-part = (accepted-by costless.rewritten (by 0 (unbounded ∷ team most 6823 1 0 ∷ [])) refl).answered;
    }

-- a team that has taken more than its share: what is kept for it is 0, and no less. Team 0 takes a byte, for which it has no share, and then
-- team 1 takes all behind `a`, or all but a byte

abbrev start : Account
start = by 0 (unbounded ∷ unbounded ∷ team most 167 0 0 ∷ [])

abbrev second : Account
second = account (record_of 1371 6655 (team most 0 1 1 ∷ unbounded ∷ team most 167 0 0 ∷ [])) 1

pub record Remainder : Type 0 where
  pub made : record_answer master master_words (replicate 3 most ++ replicate 13 0) (0 ∷ 0 ∷ 167 ∷ replicate 13 0) ≡ Ok start.totals
  pub first : (answer (resize_file 1 257) start ≡ Ok tt) × (image (resize_file 1 257) start ≡ sized 257) × (after (resize_file 1 257) start ≡ second.totals)
  pub all : verdict_of (resize_file 1 6912) second (sized 257) master_words master_bytes ≡ Err FreeBelowShares
  pub but-one : verdict_of (resize_file 1 6911) second (sized 257) master_words master_bytes ≡ Ok tt

pub remainder-worked : Remainder
unfolding record_answer new_teams largest_size team_verdict totals_verdict remainders moved_totals
remainder-worked =
    let s = accepted-by resizes.to_257 start refl in
    record {
      made = rw (opens, free, used);
      first = (s.answered, s.written, s.counted);
      all = (refused-by resizes.to_6912 second FreeBelowShares refl).answered;
      but-one = (accepted-by resizes.to_6911 second refl).answered;
    }

-- ---- 25 by the team's own count

abbrev counts : ℕ → Account
counts k = by k (unbounded ∷ team most 0 0 most ∷ [])

pub record Counts : Type 0 where
  pub full : answer rewrite (counts 1) ≡ Err TotalsOutOfRange
  -- the other one's plays no part, and stays
  pub other : (answer rewrite (counts 0) ≡ Ok tt) × (after rewrite (counts 0) ≡ record_of 1370 6656 (team most 0 0 1 ∷ team most 0 0 most ∷ []))

pub counts-worked : Counts
unfolding team_verdict totals_verdict remainders moved_totals
counts-worked =
    let other = accepted-by costless.rewritten (counts 0) refl in
    record { full = (refused-by costless.rewritten (counts 1) TotalsOutOfRange refl).answered; other = (other.answered, other.counted) }

-- ---- in which order: opening, 15, the edit's own tests, the table's, 27, 28, 25

-- a record that is due 28 and 25, and 27 by its limit
abbrev due : ℕ → ℕ → Account
due limit share = by 0 (team limit 0 9 most ∷ team most share 0 0 ∷ [])

-- the last of 16 teams
abbrev pub last : ℕ → Account
last k = by k (replicate 15 (new_team 0 0) ++ (unbounded ∷ []))

-- a path of 1,025 bytes
abbrev long : List ℕ
long = replicate 1025 0x61

pub record Orders : Type 0 where
  -- 27, mended 28, mended 25
  pub all-three : answer rewrite (due 5 6823) ≡ Err TakenAboveLimit
  pub two-left : answer rewrite (due 9 6823) ≡ Err FreeBelowShares
  pub one-left : answer rewrite (due 9 6822) ≡ Err TotalsOutOfRange
  -- before them 20, 26 and the table's 21
  pub own-first : answer (move_file 1 0x580) (due 5 6823) ≡ Err OverlappingMove
  pub maximum-first : verdict_of insert_b (due 5 6823) (tight 0x1A) master_words 0x28 ≡ Err TableAboveMaximum
  pub table-first : verdict_of insert_b (due 5 6823) (tight 0) master_words 0x28 ≡ Err NotEnoughSpace
  -- team 15 edits; there is no team 16, which comes before a path that is too long, and all is left as it was
  pub last-team : (answer rewrite (last 15) ≡ Ok tt) × (after rewrite (last 15) ≡ record_of 1370 6656 (replicate 15 (new_team 0 0) ++ (team most 0 0 1 ∷ [])))
  pub no-team : (answer rewrite (last 16) ≡ Err NoSuchEntry) × (image rewrite (last 16) ≡ master) × (after rewrite (last 16) ≡ (last 16).totals)
  pub path : (answer (make_directories 0 long) (last 15) ≡ Err LimitOrMemory) × (answer (make_directories 0 long) (last 16) ≡ Err NoSuchEntry)
  -- opening comes first: a word too few, and no image at all
  pub opening-first : (verdict_of rewrite (last 16) master 15 master_bytes ≡ Err LimitOrMemory) × (verdict_of rewrite (last 16) [] master_words master_bytes ≡ Err HeaderPastImage)
  pub numbers : (number_of TakenAboveLimit ≡ 27) × (number_of FreeBelowShares ≡ 28) × (number_of NoSuchEntry ≡ 15)

own-first : answer (move_file 1 0x580) (due 5 6823) ≡ Err OverlappingMove
unfolding verdict_of counted_verdict team_verdict plan_move
own-first = rw (opens, nodes)

in-table : (verdict_of insert_b (due 5 6823) (tight 0x1A) master_words 0x28 ≡ Err TableAboveMaximum) × (verdict_of insert_b (due 5 6823) (tight 0) master_words 0x28 ≡ Err NotEnoughSpace)
unfolding verdict_of counted_verdict team_verdict max_size_from size_beside_free table_verdict place_verdict limits is_shallow is_shallow_from dirs_open_at texts_of encode entries_bytes parent_of parent_below
in-table = (rw (tight-opens 0x1A, tight-plan 0x1A, tight-header.3), rw (tight-opens 0, tight-plan 0, tight-free, tight-header.2, tight-header.0, tight-header.1))

pub sixteenth : team_verdict 16 ≡ Err NoSuchEntry
unfolding team_verdict
sixteenth = refl

path-last : answer (make_directories 0 long) (last 15) ≡ Err LimitOrMemory
unfolding verdict_of counted_verdict team_verdict plan_make_directories
path-last = rw opens

pub few-words : opening master 15 ≡ Err LimitOrMemory
unfolding master put opening header_verdict all_fields_verdict field_verdict fields bounds_verdict table_of check nodes_in nodes_of nodes_from node_at name_at count entries_verdict entry_verdict is_unended be24 be32
few-words = refl

pub no-image : opening [] master_words ≡ Err HeaderPastImage
unfolding opening header_verdict all_fields_verdict field_verdict fields
no-image = refl

opening-first : (verdict_of rewrite (last 16) master 15 master_bytes ≡ Err LimitOrMemory) × (verdict_of rewrite (last 16) [] master_words master_bytes ≡ Err HeaderPastImage)
unfolding verdict_of
opening-first = (rw few-words, rw no-image)

pub orders-worked : Orders
unfolding team_verdict totals_verdict remainders moved_totals
orders-worked =
    let last-team = accepted-by costless.rewritten (last 15) refl in
    let no-team = refused-by costless.rewritten (last 16) NoSuchEntry refl in
    record {
      all-three = (refused-by costless.rewritten (due 5 6823) TakenAboveLimit refl).answered;
      two-left = (refused-by costless.rewritten (due 9 6823) FreeBelowShares refl).answered;
      one-left = (refused-by costless.rewritten (due 9 6822) TotalsOutOfRange refl).answered;
      own-first = own-first;
      maximum-first = in-table.0;
      table-first = in-table.1;
      last-team = (last-team.answered, last-team.counted);
      no-team = (no-team.answered, no-team.written, no-team.counted);
      path = (path-last, team-first (make_directories 0 long) (last 16) master master_words master_bytes NoSuchEntry opens sixteenth);
      opening-first = opening-first;
      numbers = (refl, refl, refl);
    }
