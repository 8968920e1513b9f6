-- Worked moves and resizes in three calls, by computing, on the small master: what the second call leaves to be zeroed, where the first two refuse,
-- and which spans the third accepts. Assumes nothing.
use Rattle.std.specs.Prelude.{Ok, Err, Result}
use Rattle.std.specs.Prelude.{ℕ, ◌≡◌, refl, List, []}
use Rattle.endian.specs.Bytes.{be32, put, span}
use Rattle.endian.specs.Laws.Stored.{put-none}
use Rattle.refusal.specs.declared.Refusal.{Refusal}
use Rattle.refusal.specs.declared.Refusal.TheVariants.{HeaderPastImage, LimitOrMemory, NoSuchEntry, TakenAboveLimit, FreeBelowShares, SpanNotFree}
use Rattle.refusal.specs.Refusal.{Verdict, number_of}
use Rattle.space.specs.declared.region.DiscRegion.{DiscRegion}
use Rattle.space.specs.MaxRegionSize.{size_beside_free, max_size_from}
use Rattle.totals.specs.Totals.{remainders, team_verdict, totals_verdict, moved_totals}
use Rattle.opened.specs.Opening.{disc_of}
use Rattle.tree.specs.Table.{is_shallow_from, is_shallow, dirs_open_at, limits, texts_of, encode, entries_bytes, parent_of, parent_below}
use Rattle.tree.specs.Insert.{set_place}
use Rattle.space.specs.Used.{total_size}
use Rattle.space.specs.Free.{largest_size}
use Rattle.edit_rules.specs.Change.{Change, change, table_verdict, place_verdict, written_image, image_with_table}
use Rattle.edit_rules.specs.Edits.{Edit, Account, move_file, resize_file, relocation_change, plan_move, plan_resize, plan_of, plan_verdict, plan_image, verdict_of}
use Rattle.steps.specs.Parts.{plan_copied, plan_span, image_after_copy, image_after_table, zero_verdict, image_after_zeros}
use Rattle.steps.specs.Promise.{span_behind}
use Rattle.steps.specs.Theorem.{first_cut, span_left}
use Rattle.worked.specs.Image.{master, master_words, master_bytes}
use Rattle.worked.specs.Laws.Marked.{at, opens, nodes, free, fresh, marked}
use Rattle.worked.specs.Laws.Planned.{accepted-by, refused-by}
use Rattle.worked.specs.Laws.OnMaster.{answer, costless, resizes}
use Rattle.worked.specs.Laws.ListImages.{first, with_b, tree_b, space, at-inserted, at_moved}
use Rattle.worked.specs.Laws.ListSteps.{held, planned}
use Rattle.worked.specs.Laws.Maximum.{stating}
use Rattle.worked.specs.Laws.Teams.{above, keeping, last, few-words, no-image}

-- ---- what the second call answers on the image that the first one left

abbrev second : Edit → Account → List ℕ → ℕ → Result DiscRegion Refusal
second ed a image bytes = span_behind (verdict_of ed a (first_cut ed a image master_words bytes) master_words bytes) (span_left ed a image master_words bytes)

-- where no byte is copied, or bytes that are there already
second-is : (ed : Edit) (a : Account) (image : List ℕ) (bytes : ℕ) (left : DiscRegion) → verdict_of ed a image master_words bytes ≡ Ok tt →
    plan_copied (plan_of ed (disc_of image)) image ≡ image → plan_span (plan_of ed (disc_of image)) ≡ left → second ed a image bytes ≡ Ok left
unfolding image_after_copy
second-is ed a image bytes left accepted copied is = rw (accepted, copied, accepted, is)

pub record Spans : Type 0 where
  -- nothing by a growth where the file is, by a resize to its size, and by an empty file's move
  pub grown : second (resize_file 1 6912) fresh master master_bytes ≡ Ok (at 0 0)
  pub same_size : second (resize_file 1 256) fresh master master_bytes ≡ Ok (at 0 0)
  pub empty : second (move_file 2 0) (held 1644 6140 2) (with_b 0x900 0 []) 0x36 ≡ Ok (at 0 0)
  -- the lost end, and the old place
  pub shrunk : second (resize_file 1 128) fresh master master_bytes ≡ Ok (at 1408 128)
  pub moved : second (move_file 1 1536) fresh master master_bytes ≡ Ok (at 1280 256)

-- both places hold zeros
copied_a : put master 1536 (span master 1280 256) ≡ master
unfolding master put
copied_a = refl

-- `b`, which is empty, from 0x900 to 0
abbrev back_b : Change
back_b = relocation_change (tree_b 0x900 0) 2 (at 0x900 0) (at 0 0)

back-plan : plan_of (move_file 2 0) (disc_of (with_b 0x900 0 [])) ≡ change 2 back_b
unfolding plan_move max_size_from size_beside_free
back-plan = rw (at_moved.tree, space at_moved)

back-tests : plan_verdict (change 2 back_b) (disc_of (with_b 0x900 0 [])) master_words 0x36 ≡ Ok tt
unfolding table_verdict place_verdict limits is_shallow is_shallow_from dirs_open_at texts_of encode entries_bytes parent_of parent_below max_size_from size_beside_free set_place
back-tests = rw (space at_moved, at_moved.header.2, at_moved.header.0, at_moved.header.1)

back-writes : plan_image (change 2 back_b) (with_b 0x900 0 []) ≡ with_b 0 0 []
unfolding with_b first stating master put be32 texts_of encode entries_bytes parent_of parent_below written_image image_with_table set_place
back-writes = refl

back : verdict_of (move_file 2 0) (held 1644 6140 2) (with_b 0x900 0 []) master_words 0x36 ≡ Ok tt
unfolding team_verdict totals_verdict remainders moved_totals largest_size total_size
back = (accepted-by (planned at_moved at-inserted (move_file 2 0) _ back-plan back-tests back-writes) (held 1644 6140 2) refl).answered

empty : second (move_file 2 0) (held 1644 6140 2) (with_b 0x900 0 []) 0x36 ≡ Ok (at 0 0)
empty = second-is (move_file 2 0) (held 1644 6140 2) (with_b 0x900 0 []) 0x36 (at 0 0) back (rw back-plan (put-none (with_b 0x900 0 []) 0)) (rw back-plan)

pub spans-worked : Spans
unfolding team_verdict totals_verdict remainders moved_totals plan_move plan_resize max_size_from size_beside_free
spans-worked = record {
  grown = second-is (resize_file 1 6912) fresh master master_bytes (at 0 0) marked.P7 (rw (nodes, free) (put-none master 0x500)) (rw (nodes, free));
  same_size = second-is (resize_file 1 256) fresh master master_bytes (at 0 0) (accepted-by costless.same_size fresh refl).answered (rw nodes) (rw nodes);
  empty = empty;
  shrunk = second-is (resize_file 1 128) fresh master master_bytes (at 1408 128) (accepted-by resizes.to_128 fresh refl).answered (rw nodes (put-none master 0x500)) (rw nodes);
  moved = second-is (move_file 1 1536) fresh master master_bytes (at 1280 256) (accepted-by costless.moved fresh refl).answered (rw (nodes, free) copied_a) (rw (nodes, free));
}

-- ---- a team above 15, a limit that is too low, a share that is too high: the copy and the table are refused, and write nothing

abbrev Refuse : Account → Refusal → Type 0
Refuse a c =
    (answer (move_file 1 1536) a ≡ Err c)
    × (image_after_copy (move_file 1 1536) a master master_words master_bytes ≡ master)
    × (image_after_table (move_file 1 1536) a master master_words master_bytes ≡ master)

refuse : (a : Account) (c : Refusal) → answer (move_file 1 1536) a ≡ Err c → Refuse a c
unfolding image_after_copy image_after_table
refuse a c e = (e, rw e, rw e)

pub record Refused : Type 0 where
  pub team : Refuse (last 16) NoSuchEntry
  pub limit : Refuse above TakenAboveLimit
  pub share : Refuse (keeping 6823) FreeBelowShares
  pub numbers : (number_of NoSuchEntry ≡ 15) × (number_of TakenAboveLimit ≡ 27) × (number_of FreeBelowShares ≡ 28)

pub refused-worked : Refused
unfolding team_verdict totals_verdict remainders
refused-worked = record {
  team = refuse (last 16) NoSuchEntry (refused-by costless.moved (last 16) NoSuchEntry refl).answered;
  limit = refuse above TakenAboveLimit (refused-by costless.moved above TakenAboveLimit refl).answered;
  share = refuse (keeping 6823) FreeBelowShares (refused-by costless.moved (keeping 6823) FreeBelowShares refl).answered;
  numbers = (refl, refl, refl);
}

-- ---- the zeros; 1114 to 1280 and 1536 to 8192 are free, and `a` lies between

abbrev zeros : ℕ → ℕ → Verdict
zeros o n = zero_verdict master master_words (at o n)

pub record Zeros : Type 0 where
  -- the end does not wrap
  pub longest : zeros 1114 4294967295 ≡ Err SpanNotFree
  -- an empty span may lie anywhere, and zeroes nothing
  pub empty : (zeros 4294967295 0 ≡ Ok tt) × (image_after_zeros master master_words (at 4294967295 0) ≡ master)
  -- if the image opens
  pub unopened : (zero_verdict master 15 (at 0 0) ≡ Err LimitOrMemory) × (zero_verdict [] master_words (at 0 0) ≡ Err HeaderPastImage)
  -- over both free regions, and over `a` alone, which then stays
  pub across : (zeros 1114 7078 ≡ Err SpanNotFree) × (zeros 1279 258 ≡ Err SpanNotFree)
  pub owned : (zeros 1280 256 ≡ Err SpanNotFree) × (image_after_zeros master master_words (at 1280 256) ≡ master)
  -- to the next used byte, to the disc end, and a byte more
  pub to-next : (zeros 1114 166 ≡ Ok tt) × (zeros 1114 167 ≡ Err SpanNotFree)
  pub to-end : (zeros 1600 6592 ≡ Ok tt) × (zeros 1600 6593 ≡ Err SpanNotFree)
  pub number : number_of SpanNotFree ≡ 29

pub zeros-worked : Zeros
unfolding zero_verdict image_after_zeros max_size_from size_beside_free
zeros-worked = record {
  longest = rw (opens, free);
  empty = (rw (opens, free), rw (opens, free) (put-none master 4294967295));
  unopened = (rw few-words, rw no-image);
  across = (rw (opens, free), rw (opens, free));
  owned = (rw (opens, free), rw (opens, free));
  to-next = (rw (opens, free), rw (opens, free));
  to-end = (rw (opens, free), rw (opens, free));
  number = refl;
}
