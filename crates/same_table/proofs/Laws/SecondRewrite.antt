-- A second rewrite alters no byte; with as much memory only the record can refuse it, and the one that the first handed back only by its
-- team's count of edits. Assumes nothing.
use Rattle.std.specs.Prelude.{Ok, Err, ℕ, ◌+◌, ◌-◌, ◌^◌, ◌<◌, ◌≤◌, ◌≡◌, refl, Bool, true, false, cond, is_err, ◌⊎◌, List, length, set, nat_lt}
use Rattle.std.proofs.Common.{sym, ap, ◌∙◌, inl, inr, ⊎_elim, arith, le-ltb, append-nil, drop-set-lt}
use Rattle.std.proofs.lemmas.List.{take-set}
use Rattle.endian.specs.Bytes.{put, be32_bytes, AllBytes}
use Rattle.endian.specs.Laws.Stored.{put-none}
use Rattle.endian.specs.Laws.Stays.{put-span, be32-stays}
use Rattle.refusal.specs.declared.Refusal.TheVariants.{TotalsOutOfRange}
use Rattle.refusal.specs.Refusal.{Verdict, refuse, first}
use Rattle.refusal.specs.Laws.Chains.{first-passed}
use Rattle.refusal.specs.Laws.Tests.{lt-or-le}
use Rattle.header.specs.Verdicts.{fst_offset, fst_size, fst_max_size, disc_end, table_end}
use Rattle.tree.specs.Table.{Node, encode, limits}
use Rattle.space.specs.MaxRegionSize.{max_region_size}
use Rattle.space.specs.Used.{no_region}
use Rattle.space.specs.Laws.GrowthLaws.{table-largest}
use Rattle.totals.specs.declared.team.Team.{Team}
use Rattle.totals.specs.declared.Totals.{Totals}
use Rattle.totals.specs.declared.SpaceChange.{SpaceChange}
use Rattle.totals.specs.Totals.{team_of, charged_team, remainders, others, team_verdict, totals_verdict, moved_totals}
use Rattle.totals.proofs.Laws.Passed.{passed}
use Rattle.totals.proofs.Laws.Moved.{own-within-limit}
use Rattle.opened.specs.Opening.{table_of, nodes_in, free_space_of, opening, disc_of}
use Rattle.edit_rules.specs.Change.{padded_table, image_with_table, written_image, place_verdict, table_verdict}
use Rattle.edit_rules.specs.Edits.{Account, account, rewrite, table_change, plan_of, plan_verdict, space_change, totals_to, counted_verdict, verdict_of, image_after, totals_after}
use Rattle.edit_rules.proofs.Laws.Accepted.{Accepted, accepted}
use Rattle.edit_rules.proofs.Laws.PlaceTests.{PlacePassed, place-passed, stated-apart}
use Rattle.ledger.specs.Ledger.{first_ledger}
use Rattle.ledger.proofs.Laws.Files.{places_in}
use Rattle.ledger.proofs.Laws.Written.{Safe, table-written_image, fst-size-written_image, fst-max-size-written_image, bytes-written_image}
use Rattle.ledger.proofs.Laws.Opened.{Opened, opened, more-limits, nodes-written_image}
use Rattle.ledger.proofs.Laws.Room.{TableRoom, room, free-places}
use Rattle.ledger.proofs.Laws.Kept.{Kept, tabled, table-safe}
use Rattle.ledger.proofs.Laws.Sequence.{start}
use Rattle.same_table.specs.Trees.{HasTableOf}
use Rattle.same_table.specs.Theorem.{IsWrittenAnew, SecondRewrite, WrittenStays}

-- ---- an image whose table is the written one of its tree

only-table : (nodes : List Node) (image : List ℕ) → written_image (table_change nodes) image ≡ image_with_table (fst_offset image) (fst_size image) (encode nodes) image
unfolding written_image
only-table nodes image = put-none _ 0 ∙ ap (image_with_table (fst_offset image) (fst_size image) (encode nodes)) (put-none image 0)

no-padding : (tab : List ℕ) (n : ℕ) → n ≡ length tab → padded_table tab n ≡ tab
no-padding tab n e = let z : n - length tab ≡ 0 = omega (arith, e) in rw z (append-nil tab)

module _ (image : List ℕ) (b : AllBytes image) (o : Opened image) (has : HasTableOf image (nodes_in image)) where
  abbrev tab : List ℕ
  tab = encode (nodes_in image)

  -- the table is put where it stands, and so is its size
  table-stays : put image (fst_offset image) (padded_table tab (fst_size image)) ≡ image
  unfolding table_of
  table-stays =
      ap (put image (fst_offset image)) (no-padding tab (fst_size image) has.size ∙ sym has.table)
      ∙ put-span image (fst_offset image) (fst_size image) (omega (arith, o.bounds.table, o.bounds.image_holds))

  size-stays : put image 0x428 (be32_bytes (length tab)) ≡ image
  size-stays = ap (λ (n : ℕ). put image 0x428 (be32_bytes n)) (sym has.size) ∙ be32-stays image 0x428 b (omega (arith, o.header.whole))

  stays : written_image (table_change (nodes_in image)) image ≡ image
  unfolding image_with_table
  stays = only-table (nodes_in image) image ∙ ap (λ (s : List ℕ). put s 0x428 (be32_bytes (length tab))) table-stays ∙ size-stays

  -- LAW: a rewrite alters no byte, accepted or refused
  pub image-stays : (a : Account) (words bytes : ℕ) → image_after rewrite a image words bytes ≡ image
  unfolding image_after
  image-stays a words bytes = rw stays (go (is_err (verdict_of rewrite a image words bytes)))
    where
      go : (t : Bool) → cond t image image ≡ image
      go true = refl
      go false = refl

  -- ---- its tests

  grown : length tab ≤ max_region_size (fst_offset image) (fst_size image) (free_space_of image)
  grown =
      let l : fst_size image ≤ max_region_size (fst_offset image) (fst_size image) (free_space_of image) =
      rw (free-places image) (table-largest (disc_end image) (table_end image) (places_in image) (fst_offset image) (fst_size image) refl).least in
      omega (arith, has.size)

  module _ (words bytes : ℕ) (within : limits (nodes_in image) words ≡ Ok tt) (held : length tab ≤ bytes) (stated : 0 < fst_max_size image → length tab ≤ fst_max_size image) where
    no-more : (fst_max_size image ≡ 0) ⊎ (length tab ≤ fst_max_size image)
    no-more = ⊎_elim (λ h. inr (stated h)) (λ h. inl (omega arith)) (lt-or-le 0 (fst_max_size image))

    placed : place_verdict (disc_of image) bytes (length tab) no_region ≡ Ok tt
    placed = stated-apart image bytes (length tab) no_region no-more ∙ rw (le-ltb bytes (length tab) held, le-ltb _ (length tab) grown)

    own : plan_verdict (plan_of rewrite (disc_of image)) (disc_of image) words bytes ≡ Ok tt
    unfolding table_verdict
    own = rw (within, placed)

    -- LAW: a rewrite meets the record's tests alone, of as many bytes used as before
    pub record-alone : opening image words ≡ Ok tt → (a : Account) → verdict_of rewrite a image words bytes ≡ first (team_verdict a.team) (totals_verdict a.totals a.team (space_change image image))
    unfolding verdict_of counted_verdict
    record-alone opens a = rw (opens, own, stays)

-- ---- the record that an accepted edit hands back

others-stay : (teams : List Team) (k : ℕ) (m : Team) → others (set teams k m) k ≡ others teams k
others-stay teams k m = rw (take-set teams k m, drop-set-lt (k + 1) teams k m (omega arith))

module _ (t : Totals) (k : ℕ) (x : SpaceChange) (e : totals_verdict t k x ≡ Ok tt) where
  shares-left : remainders (others (moved_totals t k x).teams k) ≤ x.free
  unfolding moved_totals
  shares-left = rw (others-stay t.teams k (charged_team (team_of t k) x)) (passed t k x e).kept-for-others

  used-small : (moved_totals t k x).used < 2 ^ 32
  unfolding moved_totals
  used-small = (passed t k x e).used-fits

  -- LAW: of an edit that uses as many bytes as before, and leaves as many free as the accepted one, it refuses by its team's count alone
  count-alone : (y : SpaceChange) → y.before ≡ y.after → y.free ≡ x.free →
      totals_verdict (moved_totals t k x) k y ≡ refuse (nat_lt (2 ^ 32 - 1) ((team_of (moved_totals t k x) k).edits + 1)) TotalsOutOfRange (Ok tt)
  unfolding totals_verdict
  count-alone y used free =
      let m : Totals = moved_totals t k x in
      let taken : (team_of m k).taken + y.after ≤ (team_of m k).limit + y.before = omega (arith, used, own-within-limit t k x e) in
      let left : remainders (others m.teams k) ≤ y.free = omega (arith, free, shares-left) in
      rw (le-ltb _ _ taken, le-ltb _ _ left, le-ltb (m.used + y.after) y.before (omega (arith, used)), le-ltb (2 ^ 32 - 1) (m.used + y.after - y.before) (omega (arith, used, used-small)))

-- ---- after an accepted rewrite

module _ (a : Account) (image : List ℕ) (words bytes : ℕ) (b : AllBytes image) (v : verdict_of rewrite a image words bytes ≡ Ok tt) where
  abbrev nodes : List Node
  nodes = nodes_in image

  abbrev new : List ℕ
  new = written_image (table_change nodes) image

  image-is : image_after rewrite a image words bytes ≡ new
  unfolding image_after
  image-is = rw v

  totals-are : totals_after rewrite a image words bytes ≡ totals_to a image new
  unfolding totals_after
  totals-are = rw v

  first-one : Accepted (plan_of rewrite (disc_of image)) a image words bytes
  first-one = accepted rewrite a image words bytes v

  was : Opened image
  was = opened image words first-one.opens b

  fits : TableRoom (table_change nodes) image words
  fits = room (table_change nodes) image words bytes was first-one.own

  place : PlacePassed image bytes (length (encode nodes)) no_region
  unfolding table_verdict
  place = place-passed image bytes (length (encode nodes)) no_region (first-passed (limits nodes words) _ first-one.own).1

  same : words ≤ words
  same = omega arith

  begins : (w : ℕ) → words ≤ w → Kept w image (first_ledger image)
  begins w h = start image words w h b first-one.opens

  safe : Safe (table_change nodes) image
  safe = table-safe words image (first_ledger image) (begins words same) words same nodes was.well fits

  opens-with : (w : ℕ) → words ≤ w → opening new w ≡ Ok tt
  opens-with w h = (tabled w image (first_ledger image) (begins w h) words h nodes was.well fits refl).opens

  tree : nodes_in new ≡ nodes
  tree = nodes-written_image (table_change nodes) image safe words words same fits.within

  new-bytes : AllBytes new
  new-bytes = bytes-written_image (table_change nodes) image safe

  now : Opened new
  now = opened new words (opens-with words same) new-bytes

  has : HasTableOf new (nodes_in new)
  has = record {
    table = table-written_image (table_change nodes) image safe ∙ ap encode (sym tree);
    size = fst-size-written_image (table_change nodes) image safe ∙ ap (λ (ns : List Node). length (encode ns)) (sym tree);
  }

  module _ (words' bytes' : ℕ) (more : words ≤ words') (room' : bytes ≤ bytes') where
    by-record : (a' : Account) → verdict_of rewrite a' new words' bytes' ≡ first (team_verdict a'.team) (totals_verdict a'.totals a'.team (space_change new new))
    by-record =
        record-alone new new-bytes now has words' bytes' (rw tree (more-limits nodes words words' more fits.within)) (rw tree (omega (arith, place.held)))
        (rw (tree, fst-max-size-written_image (table_change nodes) image safe) place.within) (opens-with words' more)

    by-count : verdict_of rewrite (account (totals_to a image new) a.team) new words' bytes' ≡ refuse (nat_lt (2 ^ 32 - 1) ((team_of (totals_to a image new) a.team).edits + 1)) TotalsOutOfRange (Ok tt)
    by-count =
        by-record (account (totals_to a image new) a.team)
        ∙ ap (λ u. first u (totals_verdict (totals_to a image new) a.team (space_change new new))) first-one.team
        ∙ count-alone a.totals a.team (space_change image new) first-one.counted (space_change new new) refl refl

  written-anew : IsWrittenAnew a image words bytes new
  written-anew = record {
    unaltered = image-stays new new-bytes now has;
    by-record = λ a' words' bytes' more room'. by-record words' bytes' more room' a';
    by-count = λ words' bytes' more room'. rw totals-are (by-count words' bytes' more room');
  }

-- THEOREM
pub written-stays : WrittenStays
unfolding image_after
written-stays image b has a words bytes = go (verdict_of rewrite a image words bytes) refl
  where
    go : (v : Verdict) → verdict_of rewrite a image words bytes ≡ v → cond (is_err v) image (written_image (table_change (nodes_in image)) image) ≡ image
    go (Ok _) q = let r = accepted rewrite a image words bytes q in stays image b (opened image words r.opens b) has
    go (Err c) q = refl

-- THEOREM
pub second-rewrite : SecondRewrite
second-rewrite a image words bytes b v = rw (image-is a image words bytes b v) (written-anew a image words bytes b v)
