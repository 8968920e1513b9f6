-- What neither opening nor an edit reads, along a list of calls: a fill with as many bytes as the file has, which writes no table, a move that is
-- refused, and one that is accepted, on the twins and on the images that store what is false. Assumes nothing.
use Rattle.std.specs.Prelude.{Result, Ok, Err}
use Rattle.std.specs.Prelude.{ℕ, ◌≡◌, refl, List, [], ◌∷◌, slice_index}
use Rattle.std.proofs.Common.{ap, arith, ◌∙◌}
use Rattle.endian.specs.Bytes.{be32, put, AllBytes}
use Rattle.refusal.specs.declared.Refusal.{Refusal}
use Rattle.refusal.specs.declared.Refusal.TheVariants.{NotEnoughSpace}
use Rattle.tree.specs.Table.{parent_below, parent_of, entries_bytes, texts_of, encode}
use Rattle.tree.specs.Insert.{set_place}
use Rattle.space.specs.Used.{total_size}
use Rattle.space.specs.Free.{largest_size}
use Rattle.space.specs.MaxRegionSize.{size_beside_free, max_size_from}
use Rattle.totals.specs.declared.Totals.{Totals}
use Rattle.totals.specs.Totals.{remainders, team_verdict, totals_verdict, moved_totals}
use Rattle.opened.specs.Opening.{disc_of}
use Rattle.edit_rules.specs.Change.{nothing, change, filled, image_with_table, written_image}
use Rattle.edit_rules.specs.Edits.{Edit, Account, account, fill_file, relocation_change, plan_move, plan_resize, plan_fill, plan_of, plan_verdict, counted_verdict, verdict_of, image_after}
use Rattle.ledger.specs.Lists.{answers_of}
use Rattle.ledger.specs.Runs.{Call, image_after_all, totals_after_all, AllWithin}
use Rattle.same_table.specs.Unread.{DifferInUnread}
use Rattle.same_table.specs.Theorem.{RunAlike}
use Rattle.same_table.proofs.Laws.UnreadEdits.{no-influence, no-influence-along}
use Rattle.worked.specs.Image.{master, master_words}
use Rattle.worked.specs.Laws.Handed.{teams_after}
use Rattle.worked.specs.Laws.Marked.{at}
use Rattle.worked.specs.Laws.Planned.{to, Step, Planned, accepted-by, refused}
use Rattle.worked.specs.Laws.Applied.{bytes_only, bytes-only}
use Rattle.worked.specs.Laws.SameTables.{tree, twins, root_in_7, in_itself, in_none, root_named, sevens, sevens_moved, all_7, at-twins, at-sevens, at-sevens-moved, byte-of, bytes, disc, around-35, meant, free, used}
use Rattle.worked.specs.Laws.SameTablesApplied.{move, move_low, moves, differ}

-- ---- the calls, by computing

abbrev over : Edit
over = fill_file 3 all_7

-- used bytes, the largest free region, what team 0 has taken, by so many edits
abbrev held : ℕ → ℕ → ℕ → ℕ → Totals
held used largest taken edits = record { used = used; largest = largest; teams = teams_after taken edits }

abbrev before : Account
before = account (held 1397 6656 0 0) 0

abbrev between : Account
between = account (held 1397 6656 0 1) 0

over-plan : plan_of over (disc 0x440 0x35) ≡ filled 3 all_7 nothing
unfolding plan_fill plan_resize
over-plan = refl

over-there : plan_of over (disc_of twins) ≡ filled 3 all_7 nothing
over-there = ap (λ d. plan_of over d) (meant at-twins around-35) ∙ over-plan

over-planned : Planned 0x37 over twins sevens (to 1397 1397 6795 6656)
unfolding sevens total_size largest_size
over-planned = record {
  opens = at-twins.opens;
  tests = rw over-there;
  writes = rw (over-there, at-twins.nodes);
  change = rw (used at-twins around-35, used at-sevens around-35, free at-sevens around-35);
}

fills : Step 0x37 (Ok tt) over before twins sevens (held 1397 6656 0 1)
unfolding team_verdict totals_verdict remainders moved_totals
fills = accepted-by over-planned before refl

low-tests : verdict_of move_low between sevens master_words 0x37 ≡ Err NotEnoughSpace
unfolding verdict_of counted_verdict team_verdict plan_move max_size_from size_beside_free
low-tests = rw (at-sevens.opens, at-sevens.nodes, free at-sevens around-35)

refuses : Step 0x37 (Err NotEnoughSpace) move_low between sevens sevens (held 1397 6656 0 1)
refuses = refused 0x37 NotEnoughSpace move_low between sevens low-tests

move-plan : plan_of move (disc 0x440 0x35) ≡ change 3 (relocation_change tree 3 (at 0x500 0x100) (at 0x700 0x100))
unfolding plan_move max_size_from size_beside_free
move-plan = rw around-35.free

move-there : plan_of move (disc_of sevens) ≡ change 3 (relocation_change tree 3 (at 0x500 0x100) (at 0x700 0x100))
move-there = ap (λ d. plan_of move d) (meant at-sevens around-35) ∙ move-plan

move-writes : written_image (relocation_change tree 3 (at 0x500 0x100) (at 0x700 0x100)) sevens ≡ sevens_moved
unfolding sevens twins sevens_moved master put be32 texts_of encode entries_bytes parent_of parent_below written_image image_with_table set_place
move-writes = refl

move-planned : Planned 0x37 move sevens sevens_moved (to 1397 1399 6793 6144)
unfolding total_size largest_size
move-planned = record {
  opens = at-sevens.opens;
  tests = ap (λ d. plan_verdict (plan_of move d) d master_words 0x37) (meant at-sevens around-35) ∙ moves.passes;
  writes = rw move-there move-writes;
  change = rw (used at-sevens around-35, at-sevens-moved.0, at-sevens-moved.1);
}

moves-it : Step 0x37 (Ok tt) move between sevens sevens_moved (held 1399 6144 2 2)
unfolding team_verdict totals_verdict remainders moved_totals
moves-it = accepted-by move-planned between refl

-- ---- the list

abbrev call : Edit → Account → Call
call ed a = record { edit = ed; account = a; words = master_words; bytes = 0x37 }

unfoldable pub list : List Call
list = call over before ∷ call move_low between ∷ call move between ∷ []

abbrev pub answers : List (Result ℕ Refusal)
answers = Ok 3 ∷ Err NotEnoughSpace ∷ Ok 3 ∷ []

all-7-bytes : AllBytes all_7
unfolding bytes_only
all-7-bytes = bytes-only all_7 refl

within : AllWithin master_words list
unfolding list
within = (omega arith, all-7-bytes, (omega arith, omega arith, (omega arith, omega arith, tt)))

-- of the twins
record Worked : Type 0 where
  pub image : image_after_all list twins ≡ sevens_moved
  pub told : answers_of list twins ≡ answers
  pub counted : (t : Totals) → totals_after_all t list twins ≡ held 1399 6144 2 2

worked : Worked
unfolding list image_after_all answers_of totals_after_all
worked = record {
  image = rw (fills.written, refuses.written, moves-it.written);
  told = rw (fills.answered, over-there, fills.written, refuses.answered, refuses.written, moves-it.answered, move-there);
  counted = λ t. rw (fills.written, refuses.written, moves-it.counted);
}

-- ---- and of the images that store what is false

abbrev after_fill : List ℕ → List ℕ
after_fill image = image_after over before image master_words 0x37

pub record IsAlikeAlong (new : List ℕ) : Type 0 where
  -- the fill is accepted, and leaves the root's next as it was, and the clip
  pub filled : verdict_of over before new master_words 0x37 ≡ Ok tt
  pub fill-bytes : (slice_index (after_fill new) 0x44B ≡ 4) × (slice_index (after_fill new) 0x500 ≡ 7)
  -- the three answers, and the record at last
  pub told : answers_of list new ≡ answers
  pub counted : (t : Totals) → totals_after_all t list new ≡ held 1399 6144 2 2
  -- and at last a byte of the file's offset, and of the file, where it lies then
  pub bytes : (slice_index (image_after_all list new) 0x46A ≡ 7) × (slice_index (image_after_all list new) 0x700 ≡ 7)

alike-along : (new : List ℕ) → DifferInUnread twins new → IsAlikeAlong new
alike-along new u =
    let n = no-influence twins master_words at-twins.bytes at-twins.opens in
    let f = n.edits new u over before master_words 0x37 all-7-bytes in
    let d : DifferInUnread sevens (after_fill new) = rw fills.written at f.differ in
    let l : RunAlike list twins new = no-influence-along twins new master_words master_words list at-twins.bytes at-twins.opens within u in
    let m : DifferInUnread sevens_moved (image_after_all list new) = rw worked.image at l.at-last in
    record {
      filled = f.verdict ∙ fills.answered;
      fill-bytes = (byte-of d bytes.next-then, byte-of d bytes.filled);
      told = l.answers ∙ worked.told;
      counted = λ t. l.handed-on t ∙ worked.counted t;
      bytes = (byte-of m bytes.offset, byte-of m bytes.moved);
    }

pub record AlikeAlong : Type 0 where
  pub root-in-7 : IsAlikeAlong root_in_7
  pub in-itself : IsAlikeAlong in_itself
  pub in-none : IsAlikeAlong in_none
  pub root-named : IsAlikeAlong root_named

pub all-alike-along : AlikeAlong
all-alike-along = record {
  root-in-7 = alike-along root_in_7 differ.root-in-7;
  in-itself = alike-along in_itself differ.in-itself;
  in-none = alike-along in_none differ.in-none;
  root-named = alike-along root_named differ.root-named;
}
