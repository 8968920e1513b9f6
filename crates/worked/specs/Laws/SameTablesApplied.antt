-- The theorems about what fixes a table, applied to the images of one tree that share their texts in five ways or store false parents: their
-- hypotheses hold there, and what they say is read off in numbers. Assumes nothing.
use Rattle.std.specs.Prelude.{Ok, Err}
use Rattle.std.specs.Prelude.{ℕ, zero, suc, ◌+◌, ◌-◌, ◌^◌, ◌<◌, ◌≤◌, ◌≡◌, refl, List, [], ◌∷◌, map, length, replicate, nat_lt, slice_index, slice_index_or}
use Rattle.std.proofs.Common.{ap, arith, sym, ◌∙◌}
use Rattle.endian.specs.Bytes.{be32, put, are_same_bytes, AllBytes}
use Rattle.refusal.specs.declared.Refusal.TheVariants.{LimitOrMemory, NoSuchEntry, NotEnoughSpace, TotalsOutOfRange, TakenAboveLimit, FreeBelowShares}
use Rattle.refusal.specs.Refusal.{Verdict, refuse, first}
use Rattle.header.specs.Verdicts.{fst_size}
use Rattle.tree.specs.Units.{units}
use Rattle.tree.specs.Table.{Node, file, directory, empty_root, is_plain, is_safe, dirs_open_at, parent_below, parent_of, entries_bytes, texts_of, encode, is_shallow_from, is_shallow, limits}
use Rattle.tree.specs.Lookup.{components_of, components, first_child, child_of}
use Rattle.tree.specs.Insert.{raised_next, splice, insert_at, set_place}
use Rattle.space.specs.Used.{total_size}
use Rattle.space.specs.Free.{largest_size}
use Rattle.space.specs.MaxRegionSize.{size_beside_free, max_size_from}
use Rattle.totals.specs.declared.Totals.{Totals}
use Rattle.totals.specs.Totals.{remainders, team_verdict, totals_verdict, moved_totals}
use Rattle.opened.specs.Opening.{table_of, nodes_in, opening, region_of, disc_of}
use Rattle.disc.specs.Calls.{totals_of}
use Rattle.edit_rules.specs.Change.{nothing, image_with_table, written_image, table_verdict, place_verdict}
use Rattle.edit_rules.specs.Edits.{Edit, Account, account, insert_directory, make_directories, move_file, resize_file, fill_file, rewrite, table_change, insert_verdict, make, plan_make_directories, plan_move, plan_resize, plan_fill, plan_of, plan_verdict, plan_tree, verdict_of, image_after, totals_after}
use Rattle.edit_rules.proofs.Laws.Accepted.{accepted}
use Rattle.ledger.specs.Ledger.{first_ledger}
use Rattle.ledger.specs.Runs.{IsPassable}
use Rattle.ledger.proofs.Laws.Opened.{more-words}
use Rattle.ledger.proofs.Laws.Sequence.{start}
use Rattle.ledger.proofs.Laws.Steps.{step}
use Rattle.ledger.proofs.Laws.TreeAfter.{tree-after}
use Rattle.ledger.proofs.Laws.Unbounded.{IsUnbounded, own-record}
use Rattle.edit.specs.TableAnew.{table_anew, anew_verdict}
use Rattle.same_table.specs.Trees.{entry_alone, IsSameTree, HasTableOf, HaveSameTable, WritesNewTable, IsFixedByTree}
use Rattle.same_table.specs.Unread.{DifferInUnread}
use Rattle.same_table.specs.Theorem.{IsWrittenAnew}
use Rattle.same_table.proofs.Laws.FixedByTree.{same-table}
use Rattle.same_table.proofs.Laws.SecondRewrite.{second-rewrite, written-stays}
use Rattle.same_table.proofs.Laws.TablesTell.{same-tree}
use Rattle.same_table.proofs.Laws.UnreadEdits.{no-influence}
use Rattle.same_table.proofs.Laws.WholeTree.{whole-tree}
use Rattle.same_table.proofs.Laws.WrittenTable.{written-table}
use Rattle.worked.specs.Image.{master, master_words}
use Rattle.worked.specs.Laws.Handed.{most, team, teams, teams_after, own}
use Rattle.worked.specs.Laws.Planned.{to}
use Rattle.worked.specs.Laws.Applied.{bytes_only, bytes-only}
use Rattle.worked.specs.Laws.SameTables.{tree_at, tree, tree_beside, one_table, encoded, unshared, twins, tail, one_text, slack, false_parent, root_in_7, in_itself, in_none, root_named, elsewhere, beside, plain, table_moved, Reads, at-unshared, at-twins, at-tail, at-one-text, at-slack, at-root-in-7, at-in-itself, at-in-none, at-root-named, at-plain, at-elsewhere, at-beside, kinds, with_words, byte-of, bytes, twins-long, disc, Around, around-37, around-35, around-33, around-slack, meant, free, used}

-- ---- which edits such images accept

-- with a record made of the image, in which team 0 may take whatever there is, and has made so many edits
abbrev own_with : ℕ → List ℕ → Account
own_with edits image = account (totals_of image (teams_after 0 edits)) 0

unbounded : (image : List ℕ) (edits : ℕ) → edits + 1 < 2 ^ 32 → IsUnbounded image (own_with edits image)
unfolding remainders
unbounded image edits h = record { used = refl; team = omega arith; taken = omega arith; limit = refl; count = h; others = refl }

-- on the disc that is meant the edit passes its own tests
abbrev pub Passes : ℕ → ℕ → Edit → ℕ → ℕ → Type 0
Passes o n ed words bytes = plan_verdict (plan_of ed (disc o n)) (disc o n) words bytes ≡ Ok tt

module _ {o n : ℕ} {image : List ℕ} (r : Reads o n image) (around : Around o n) (edits : ℕ) (h : edits + 1 < 2 ^ 32) where
  accepts : (ed : Edit) → IsPassable ed → (words bytes : ℕ) → master_words ≤ words → Passes o n ed words bytes →
      verdict_of ed (own_with edits image) image words bytes ≡ Ok tt
  accepts ed p words bytes more passes =
      let e = more-words image master_words words more r.bytes r.opens in
      own-record image words bytes r.bytes e ed p (own_with edits image) (unbounded image edits h) ∙ rw (meant r around) passes

record Rewrites : Type 0 where
  pub at-37 : Passes 0x440 0x37 rewrite master_words 0x37
  pub at-35 : Passes 0x440 0x35 rewrite master_words 0x37
  pub at-33 : Passes 0x440 0x33 rewrite master_words 0x37
  pub at-slack : Passes 0x480 0x3C rewrite master_words 0x37
  pub with-53 : Passes 0x440 0x37 rewrite master_words 0x53
  pub with-more : Passes 0x480 0x3C rewrite 20000 0x60

rewrites : Rewrites
unfolding table_verdict place_verdict limits is_shallow is_shallow_from dirs_open_at texts_of encode entries_bytes parent_of parent_below max_size_from size_beside_free
rewrites = record {
  at-37 = rw around-37.free;
  at-35 = rw around-35.free;
  at-33 = rw around-33.free;
  at-slack = rw around-slack.free;
  with-53 = rw around-37.free;
  with-more = rw around-slack.free;
}

-- ---- other edits: `c` put into the inner `a`; the path `a/c/d`; the file moved, made shorter, and filled with fewer bytes

abbrev insert_c : Edit
insert_c = insert_directory 2 (0x63 ∷ [])

abbrev make_c_d : Edit
make_c_d = make_directories 0 (0x61 ∷ 0x2F ∷ 0x63 ∷ 0x2F ∷ 0x64 ∷ [])

abbrev pub move : Edit
move = move_file 3 0x700

abbrev shrink : Edit
shrink = resize_file 3 0x80

abbrev clip : List ℕ
clip = 0x11 ∷ 0x12 ∷ 0x13 ∷ []

clip-bytes : AllBytes clip
unfolding bytes_only
clip-bytes = bytes-only clip refl

abbrev fill : Edit
fill = fill_file 3 clip

record PassesAll (o n words bytes : ℕ) : Type 0 where
  pub inserts : Passes o n insert_c words bytes
  pub makes : Passes o n make_c_d words bytes
  pub moves : Passes o n move words bytes
  pub shrinks : Passes o n shrink words bytes
  pub fills : Passes o n fill words bytes

unshared-passes : PassesAll 0x440 0x37 master_words 0x53
unfolding table_verdict place_verdict limits is_shallow is_shallow_from dirs_open_at texts_of encode entries_bytes parent_of parent_below max_size_from size_beside_free insert_verdict insert_at splice raised_next child_of first_child are_same_bytes is_plain is_safe units components components_of make plan_make_directories plan_move plan_resize plan_fill set_place
unshared-passes = let f = around-37.free in record { inserts = rw f; makes = rw f; moves = rw (f, f); shrinks = rw f; fills = rw f }

slack-passes : PassesAll 0x480 0x3C 20000 0x60
unfolding table_verdict place_verdict limits is_shallow is_shallow_from dirs_open_at texts_of encode entries_bytes parent_of parent_below max_size_from size_beside_free insert_verdict insert_at splice raised_next child_of first_child are_same_bytes is_plain is_safe units components components_of make plan_make_directories plan_move plan_resize plan_fill set_place
slack-passes = let f = around-slack.free in record { inserts = rw f; makes = rw f; moves = rw (f, f); shrinks = rw f; fills = rw f }

-- ---- the trees are the same, by what each entry is by itself, and by the directory that it is in

abbrev each_alone : List Node
each_alone = directory [] 0 ∷ directory (0x61 ∷ []) 0 ∷ directory (0x61 ∷ []) 0 ∷ file (0x62 ∷ 0x61 ∷ []) 0x500 0x100 ∷ []

abbrev each_in : List ℕ
each_in = 0 ∷ 0 ∷ 1 ∷ 2 ∷ []

nested-in : (k : ℕ) → k < 4 → parent_of tree k ≡ slice_index each_in k
unfolding parent_of parent_below
nested-in zero h = refl
nested-in (suc zero) h = refl
nested-in (suc (suc zero)) h = refl
nested-in (suc (suc (suc zero))) h = refl
nested-in (suc (suc (suc (suc k)))) h = absurd (omega arith)

module _ {o n : ℕ} {image : List ℕ} (r : Reads o n image) where
  alone : map entry_alone (nodes_in image) ≡ each_alone
  alone = rw r.nodes

  inside : (k : ℕ) → k < 4 → parent_of (nodes_in image) k ≡ slice_index each_in k
  inside k h = rw r.nodes (nested-in k h)

of-one-tree : IsSameTree (nodes_in unshared) (nodes_in slack)
of-one-tree = record {
  entries = alone at-unshared ∙ sym (alone at-slack);
  nesting = λ k h. let l : k < 4 = rw at-unshared.nodes at h in inside at-unshared k l ∙ sym (inside at-slack k l);
}

-- and others are not: the file lies elsewhere, or is in another directory
not-elsewhere : ¬ IsSameTree (nodes_in twins) (nodes_in elsewhere)
not-elsewhere s =
    let e : map entry_alone tree ≡ map entry_alone (tree_at 0x600) = rw (at-twins.nodes, at-elsewhere.tree-is) at s.entries in
    let o : ◌≡◌ {A = ℕ} 0x500 0x600 = ap (λ (nodes : List Node). (region_of (slice_index_or nodes 3 empty_root)).offset) e in
    omega arith

not-beside : ¬ IsSameTree (nodes_in twins) (nodes_in beside)
unfolding parent_of parent_below
not-beside s =
    let e : ◌≡◌ {A = ℕ} 2 1 = rw (at-twins.nodes, at-beside.tree-is) at (s.nesting 3 (rw at-twins.nodes (omega arith))) in
    omega arith

-- ---- what an edit answers that is lent the master's words and 0x37 bytes, and what image and record it leaves

abbrev answer : Edit → Account → List ℕ → Verdict
answer ed a image = verdict_of ed a image master_words 0x37

abbrev left : Edit → Account → List ℕ → List ℕ
left ed a image = image_after ed a image master_words 0x37

abbrev back : Edit → Account → List ℕ → Totals
back ed a image = totals_after ed a image master_words 0x37

abbrev holding : ℕ → ℕ → ℕ → Totals
holding used taken edits = record { used = used; largest = 6656; teams = teams_after taken edits }

-- a rewrite of the twins: every byte, and the record

rewrite-writes : written_image (table_change tree) twins ≡ plain
unfolding twins plain master put be32 texts_of encode entries_bytes parent_of parent_below written_image image_with_table
rewrite-writes = refl

module _ (edits : ℕ) (h : edits + 1 < 2 ^ 32) where
  rewritten : answer rewrite (own_with edits twins) twins ≡ Ok tt
  rewritten = accepts at-twins around-35 edits h rewrite tt master_words 0x37 (omega arith) rewrites.at-35

  rewritten-is : left rewrite (own_with edits twins) twins ≡ plain
  unfolding image_after
  rewritten-is = rw (rewritten, at-twins.nodes) rewrite-writes

  rewrite-counted : back rewrite (own_with edits twins) twins ≡ holding 1399 2 (edits + 1)
  unfolding totals_after moved_totals total_size largest_size
  rewrite-counted = rw (rewritten, at-twins.nodes, rewrite-writes, used at-twins around-35, used at-plain around-37, free at-plain around-37)

-- a move of their file

pub record Moves : Type 0 where
  pub passes : Passes 0x440 0x35 move master_words 0x37
  pub table : encode (plan_tree (plan_of move (disc 0x440 0x35)) tree) ≡ table_moved

pub moves : Moves
unfolding table_verdict place_verdict limits is_shallow is_shallow_from dirs_open_at texts_of encode entries_bytes parent_of parent_below max_size_from size_beside_free plan_move set_place
moves = let f = around-35.free in record { passes = rw (f, f); table = rw f }

moved : answer move (own twins) twins ≡ Ok tt
moved = accepts at-twins around-35 0 (omega arith) move (omega arith) master_words 0x37 (omega arith) moves.passes

-- a resize to the size that the file has writes nothing, of whatever image means their disc

abbrev resize : Edit
resize = resize_file 3 0x100

no-change : plan_of resize (disc 0x440 0x35) ≡ nothing
unfolding plan_resize
no-change = refl

resize-plan : (new : List ℕ) → disc_of new ≡ disc 0x440 0x35 → plan_of resize (disc_of new) ≡ nothing
resize-plan new d = ap (λ e. plan_of resize e) d ∙ no-change

resized : answer resize (own twins) twins ≡ Ok tt
resized = accepts at-twins around-35 0 (omega arith) resize (omega arith) master_words 0x37 (omega arith) (rw no-change)

resize-counted : back resize (own twins) twins ≡ holding 1397 0 1
unfolding totals_after moved_totals total_size largest_size
resize-counted = rw (resized, resize-plan twins (meant at-twins around-35), used at-twins around-35, free at-twins around-35)

resize-leaves : (new : List ℕ) → disc_of new ≡ disc 0x440 0x35 → answer resize (own twins) new ≡ Ok tt → left resize (own twins) new ≡ new
unfolding image_after
resize-leaves new d v = rw (v, resize-plan new d)

-- a move into the header is refused

abbrev pub move_low : Edit
move_low = move_file 3 0x400

low-refused : plan_verdict (plan_of move_low (disc 0x440 0x35)) (disc 0x440 0x35) master_words 0x37 ≡ Err NotEnoughSpace
unfolding plan_move max_size_from size_beside_free
low-refused = rw around-35.free

refused : answer move_low (own twins) twins ≡ Err NotEnoughSpace
refused =
    own-record twins master_words 0x37 at-twins.bytes at-twins.opens move_low (omega arith) (own twins) (unbounded twins 0 (omega arith))
    ∙ ap (λ d. plan_verdict (plan_of move_low d) d master_words 0x37) (meant at-twins around-35) ∙ low-refused

-- ---- one tree: one table

-- the tree of one image is that of the other
pub whole : nodes_in slack ≡ tree
whole =
    sym (whole-tree unshared slack master_words master_words at-unshared.bytes at-slack.bytes at-unshared.opens at-slack.opens of-one-tree)
    ∙ at-unshared.nodes

-- an accepted edit that writes a table
module _ {o n : ℕ} {image : List ℕ} (r : Reads o n image) (around : Around o n) (ed : Edit) (p : IsPassable ed) (a : Account) (words bytes : ℕ)
    (v : verdict_of ed a image words bytes ≡ Ok tt) (t : WritesNewTable tree ed) where
  abbrev new : List ℕ
  new = image_after ed a image words bytes

  has-table : HasTableOf new (plan_tree (plan_of ed (disc o n)) tree)
  has-table = rw (meant r around, r.nodes) at (written-table ed a image words bytes p r.bytes v (rw r.nodes t))

  has-tree : nodes_in new ≡ plan_tree (plan_of ed (disc o n)) tree
  has-tree = rw (meant r around, r.nodes) at (tree-after ed a image words bytes r.bytes p v)

  -- the image that it leaves opens, and no rewrite alters that
  stays : (a' : Account) (words' bytes' : ℕ) → image_after rewrite a' new words' bytes' ≡ new
  stays =
      let o = (accepted ed a image words bytes v).opens in
      let k = step words image (first_ledger image) (start image words words (omega arith) r.bytes o) words bytes (omega arith) a ed p in
      written-stays new k.bytes (rw has-tree has-table)

-- an image of the tree
pub record IsWritten (image : List ℕ) : Type 0 where
  pub opens : opening image master_words ≡ Ok tt
  pub nodes : nodes_in image ≡ tree
  -- a rewrite is accepted, and leaves this table, of this size
  pub accepted : answer rewrite (own image) image ≡ Ok tt
  pub table : table_of (left rewrite (own image) image) ≡ one_table
  pub size : fst_size (left rewrite (own image) image) ≡ 0x37

written : {o n : ℕ} {image : List ℕ} → Reads o n image → Around o n → Passes o n rewrite master_words 0x37 → IsWritten image
written {image = image} r around passes =
    let v = accepts r around 0 (omega arith) rewrite tt master_words 0x37 (omega arith) passes in
    let t = has-table r around rewrite tt (own image) master_words 0x37 v tt in
    record { opens = r.opens; nodes = r.nodes; accepted = v; table = t.table ∙ encoded.0; size = t.size ∙ ap length encoded.0 ∙ encoded.1 }

pub record OneTable : Type 0 where
  -- five ways to share the texts
  pub unshared : IsWritten unshared
  pub twins : IsWritten twins
  pub tail : IsWritten tail
  pub one-text : IsWritten one_text
  pub slack : IsWritten slack
  -- three false parents, and a name of the root
  pub root-in-7 : IsWritten root_in_7
  pub in-itself : IsWritten in_itself
  pub in-none : IsWritten in_none
  pub root-named : IsWritten root_named

pub one-table : OneTable
one-table = record {
  unshared = written at-unshared around-37 rewrites.at-37;
  twins = written at-twins around-35 rewrites.at-35;
  tail = written at-tail around-35 rewrites.at-35;
  one-text = written at-one-text around-33 rewrites.at-33;
  slack = written at-slack around-slack rewrites.at-slack;
  root-in-7 = written at-root-in-7 around-35 rewrites.at-35;
  in-itself = written at-in-itself around-35 rewrites.at-35;
  in-none = written at-in-none around-35 rewrites.at-35;
  root-named = written at-root-named around-35 rewrites.at-35;
}

-- ---- the same tree: the same table, with other texts, elsewhere, with another record and other memory

abbrev of_unshared : Edit → List ℕ
of_unshared ed = image_after ed (own unshared) unshared master_words 0x53

abbrev of_slack : Edit → List ℕ
of_slack ed = image_after ed (own_with 7 slack) slack 20000 0x60

module _ (ed : Edit) (p : IsPassable ed) (passes : Passes 0x440 0x37 ed master_words 0x53) (passes' : Passes 0x480 0x3C ed 20000 0x60) where
  unshared-accepts : verdict_of ed (own unshared) unshared master_words 0x53 ≡ Ok tt
  unshared-accepts = accepts at-unshared around-37 0 (omega arith) ed p master_words 0x53 (omega arith) passes

  slack-accepts : verdict_of ed (own_with 7 slack) slack 20000 0x60 ≡ Ok tt
  slack-accepts = accepts at-slack around-slack 7 (omega arith) ed p 20000 0x60 (omega arith) passes'

  same : IsFixedByTree (nodes_in unshared) ed → HaveSameTable (of_unshared ed) (of_slack ed)
  same fixed =
      same-table ed (own unshared) (own_with 7 slack) unshared slack master_words 20000 0x53 0x60 p at-unshared.bytes at-slack.bytes of-one-tree fixed
      unshared-accepts slack-accepts

-- with `c`: 0x45 bytes
abbrev table_with_c : List ℕ
table_with_c =
    1 ∷ 0 ∷ 0 ∷ 0 ∷ 0 ∷ 0 ∷ 0 ∷ 0 ∷ 0 ∷ 0 ∷ 0 ∷ 5 ∷
    1 ∷ 0 ∷ 0 ∷ 0 ∷ 0 ∷ 0 ∷ 0 ∷ 0 ∷ 0 ∷ 0 ∷ 0 ∷ 5 ∷
    1 ∷ 0 ∷ 0 ∷ 2 ∷ 0 ∷ 0 ∷ 0 ∷ 1 ∷ 0 ∷ 0 ∷ 0 ∷ 5 ∷
    0 ∷ 0 ∷ 0 ∷ 4 ∷ 0 ∷ 0 ∷ 5 ∷ 0 ∷ 0 ∷ 0 ∷ 1 ∷ 0 ∷
    1 ∷ 0 ∷ 0 ∷ 7 ∷ 0 ∷ 0 ∷ 0 ∷ 2 ∷ 0 ∷ 0 ∷ 0 ∷ 5 ∷
    0x61 ∷ 0 ∷ 0x61 ∷ 0 ∷ 0x62 ∷ 0x61 ∷ 0 ∷ 0x63 ∷ 0 ∷ []

record Inserts (o n : ℕ) : Type 0 where
  pub table : encode (plan_tree (plan_of insert_c (disc o n)) tree) ≡ table_with_c

inserts : (o n : ℕ) → Inserts o n
unfolding insert_verdict insert_at splice raised_next child_of first_child are_same_bytes is_plain is_safe units dirs_open_at texts_of encode entries_bytes parent_of parent_below
inserts o n = record { table = refl }

pub record SameAfter : Type 0 where
  pub rewritten : HaveSameTable (of_unshared rewrite) (of_slack rewrite)
  pub inserted : HaveSameTable (of_unshared insert_c) (of_slack insert_c)
  pub made : HaveSameTable (of_unshared make_c_d) (of_slack make_c_d)
  pub moved : HaveSameTable (of_unshared move) (of_slack move)
  pub shrunk : HaveSameTable (of_unshared shrink) (of_slack shrink)
  pub filled : HaveSameTable (of_unshared fill) (of_slack fill)
  -- the table that the insert writes into the one, told by what it writes into the other
  pub table-with-c : (table_of (of_slack insert_c) ≡ table_with_c) × (fst_size (of_slack insert_c) ≡ 0x45)

pub same-after : SameAfter
same-after =
    let a = unshared-passes in
    let b = slack-passes in
    let c = same insert_c tt a.inserts b.inserts tt in
    let v = unshared-accepts insert_c tt a.inserts b.inserts in
    let i = inserts 0x440 0x37 in
    let t = has-table at-unshared around-37 insert_c tt (own unshared) master_words 0x53 v tt in
    record {
      rewritten = same rewrite tt rewrites.with-53 rewrites.with-more tt;
      inserted = c;
      made = same make_c_d tt a.makes b.makes tt;
      moved = same move (omega arith) a.moves b.moves tt;
      shrunk = same shrink (omega arith) a.shrinks b.shrinks (rw at-unshared.nodes (omega arith));
      filled = same fill clip-bytes a.fills b.fills (rw at-unshared.nodes (omega arith));
      table-with-c = (sym c.table ∙ t.table ∙ i.table, sym c.size ∙ t.size ∙ ap length i.table);
    }

-- ---- the same table: the same tree

-- a rewrite's table can be told
record Told (nodes : List Node) : Type 0 where
  pub few : limits nodes master_words ≡ Ok tt
  pub size : length (encode nodes) ≡ 0x37

told : Told tree × Told (tree_at 0x600) × Told tree_beside
unfolding limits is_shallow is_shallow_from dirs_open_at texts_of encode entries_bytes parent_of parent_below
told = (record { few = refl; size = refl }, record { few = refl; size = refl }, record { few = refl; size = refl })

is-told : (image : List ℕ) (nodes : List Node) → opening image master_words ≡ Ok tt → nodes_in image ≡ nodes → Told nodes →
    anew_verdict image master_words 0x37 ≡ Ok tt
unfolding anew_verdict table_anew
is-told image nodes opens are t = rw (opens, are, t.few, t.size)

unshared-told : anew_verdict unshared master_words 0x37 ≡ Ok tt
unshared-told = is-told unshared tree at-unshared.opens at-unshared.nodes told.0

slack-told : anew_verdict slack master_words 0x37 ≡ Ok tt
slack-told = is-told slack tree at-slack.opens at-slack.nodes told.0

twins-told : anew_verdict twins master_words 0x37 ≡ Ok tt
twins-told = is-told twins tree at-twins.opens at-twins.nodes told.0

elsewhere-told : anew_verdict elsewhere master_words 0x37 ≡ Ok tt
elsewhere-told = is-told elsewhere (tree_at 0x600) at-elsewhere.opens at-elsewhere.tree-is told.1

beside-told : anew_verdict beside master_words 0x37 ≡ Ok tt
beside-told = is-told beside tree_beside at-beside.opens at-beside.tree-is told.2

pub record Tell : Type 0 where
  pub tables : table_anew unshared ≡ table_anew slack
  -- and back: what the entries of the second are, and where the file is
  pub entries : map entry_alone (nodes_in slack) ≡ each_alone
  pub nesting : parent_of (nodes_in slack) 3 ≡ 2
  -- the tables of other trees are others
  pub elsewhere : ¬ (table_anew twins ≡ table_anew elsewhere)
  pub beside : ¬ (table_anew twins ≡ table_anew beside)

pub tell : Tell
tell =
    let s = same-tree unshared slack master_words master_words 0x37 0x37 at-unshared.bytes at-slack.bytes unshared-told slack-told in
    let t = same-tree twins elsewhere master_words master_words 0x37 0x37 at-twins.bytes at-elsewhere.bytes twins-told elsewhere-told in
    let u = same-tree twins beside master_words master_words 0x37 0x37 at-twins.bytes at-beside.bytes twins-told beside-told in
    let r = s.1 (s.0 of-one-tree) in
    record {
      tables = s.0 of-one-tree;
      entries = sym r.entries ∙ alone at-unshared;
      nesting = sym (r.nesting 3 (rw at-unshared.nodes (omega arith))) ∙ inside at-unshared 3 (omega arith);
      elsewhere = λ e. not-elsewhere (t.1 e);
      beside = λ e. not-beside (u.1 e);
    }

-- ---- a second rewrite: of the image that the first one of the twins leaves

-- a record that keeps so many bytes for team 2, where team 1 edits
abbrev keeping : ℕ → Account
keeping kept = account (record { used = 0; largest = 0; teams = teams (team 0 0 0 0 ∷ team most 0 0 0 ∷ team most kept 0 0 ∷ []) }) 1

-- one whose team 3 has taken a byte, and may take none
abbrev over : Account
over = account (record { used = 0; largest = 0; teams = replicate 16 (team 0 0 1 0) }) 3

-- the record that the first one handed back, where the team had made so many edits before
abbrev again_of : ℕ → Account
again_of edits = account (back rewrite (own_with edits twins) twins) 0

pub record Again : Type 0 where
  -- no byte is another, whoever rewrites it, and whatever is lent
  pub unaltered : (a : Account) (words bytes : ℕ) → image_after rewrite a plain words bytes ≡ plain
  -- with that record it is accepted, with as much memory, and with more
  pub accepted : answer rewrite (again_of 0) plain ≡ Ok tt
  pub with-more : verdict_of rewrite (again_of 0) plain 20000 0x60 ≡ Ok tt
  -- but 25 where the count of the team's edits is the highest
  pub full : ((again_of (most - 1)).totals ≡ holding 1399 2 most) × (answer rewrite (again_of (most - 1)) plain ≡ Err TotalsOutOfRange)
  -- with other records: all that is free is kept for another team, and a byte more; the team has taken too much; there is no such team
  pub kept : answer rewrite (keeping 6793) plain ≡ Ok tt
  pub share : answer rewrite (keeping 6794) plain ≡ Err FreeBelowShares
  pub over : answer rewrite over plain ≡ Err TakenAboveLimit
  pub no-team : answer rewrite (account (back rewrite (own twins) twins) 16) plain ≡ Err NoSuchEntry
  -- nor is a byte another of what a rewrite leaves of the table with slack, and an insert
  pub rewritten : (a : Account) (words bytes : ℕ) → image_after rewrite a (of_slack rewrite) words bytes ≡ of_slack rewrite
  pub inserted : (a : Account) (words bytes : ℕ) → image_after rewrite a (of_slack insert_c) words bytes ≡ of_slack insert_c

module _ (edits : ℕ) (h : edits + 1 < 2 ^ 32) where
  written-anew : IsWrittenAnew (own_with edits twins) twins master_words 0x37 plain
  written-anew = rw (rewritten-is edits h) at (second-rewrite (own_with edits twins) twins master_words 0x37 at-twins.bytes (rewritten edits h))

  by-count : (words bytes : ℕ) → master_words ≤ words → 0x37 ≤ bytes →
      verdict_of rewrite (again_of edits) plain words bytes ≡ refuse (nat_lt (2 ^ 32 - 1) (edits + 1 + 1)) TotalsOutOfRange (Ok tt)
  by-count words bytes w b = written-anew.by-count words bytes w b ∙ rw (rewrite-counted edits h)

-- team and record decide
judged : (a : Account) → answer rewrite a plain ≡ first (team_verdict a.team) (totals_verdict a.totals a.team (to 1399 1399 6793 6656))
unfolding total_size largest_size
judged a =
    (written-anew 0 (omega arith)).by-record a master_words 0x37 (omega arith) (omega arith)
    ∙ rw (used at-plain around-37, free at-plain around-37)

pub again : Again
unfolding team_verdict totals_verdict remainders
again =
    let a = rewrites.with-53 in
    let b = rewrites.with-more in
    let c = slack-accepts insert_c tt unshared-passes.inserts slack-passes.inserts in
    record {
      unaltered = (written-anew 0 (omega arith)).unaltered;
      accepted = by-count 0 (omega arith) master_words 0x37 (omega arith) (omega arith);
      with-more = by-count 0 (omega arith) 20000 0x60 (omega arith) (omega arith);
      full = (rewrite-counted (most - 1) (omega arith), by-count (most - 1) (omega arith) master_words 0x37 (omega arith) (omega arith));
      kept = judged (keeping 6793);
      share = judged (keeping 6794);
      over = judged over;
      no-team = judged (account (back rewrite (own twins) twins) 16);
      rewritten = stays at-slack around-slack rewrite tt (own_with 7 slack) 20000 0x60 (slack-accepts rewrite tt a b) tt;
      inserted = stays at-slack around-slack insert_c tt (own_with 7 slack) 20000 0x60 c tt;
    }

-- ---- what has no influence

-- the images that store what is false differ from the twins in such bytes alone
pub record DifferInThat : Type 0 where
  pub root-in-7 : DifferInUnread twins root_in_7
  pub in-itself : DifferInUnread twins in_itself
  pub in-none : DifferInUnread twins in_none
  pub root-named : DifferInUnread twins root_named

pub differ : DifferInThat
unfolding false_parent root_named
differ =
    let n = no-influence twins master_words at-twins.bytes at-twins.opens in
    let o = at-twins.header.0 in
    record {
      root-in-7 = rw o at (n.parent 0 (0 ∷ 0 ∷ 0 ∷ 7 ∷ []) (rw kinds.0 (omega arith)) kinds.1 refl);
      in-itself = rw o at (n.parent 1 (0 ∷ 0 ∷ 0 ∷ 1 ∷ []) (rw kinds.0 (omega arith)) kinds.2 refl);
      in-none = rw o at (n.parent 2 (0xFF ∷ 0xFF ∷ 0xFF ∷ 0xFF ∷ []) (rw kinds.0 (omega arith)) kinds.3 refl);
      root-named = rw o at (n.root-name (0 ∷ 0 ∷ 5 ∷ []) refl);
    }

-- what is so of such an image as of the twins
pub record IsAlike (new : List ℕ) : Type 0 where
  -- its length; a byte of the root's next, of a text and of the file
  pub bytes : (length new ≡ 0x2000) × (slice_index new 0x44B ≡ 4) × (slice_index new 0x470 ≡ 0x61) × (slice_index new 0x500 ≡ 0)
  -- it opens, with just enough words too, and is 9 with one less; and it means the same disc
  pub opens : (opening new master_words ≡ Ok tt) × (opening new 24 ≡ Ok tt) × (opening new 23 ≡ Err LimitOrMemory)
  pub disc : disc_of new ≡ disc 0x440 0x35
  -- a rewrite is accepted; it leaves the same record and the same image
  pub rewritten : answer rewrite (own twins) new ≡ Ok tt
  pub rewrite-record : back rewrite (own twins) new ≡ holding 1399 2 1
  pub rewrite-image : left rewrite (own twins) new ≡ plain
  -- and so is a move; its table in numbers
  pub moved : answer move (own twins) new ≡ Ok tt
  pub move-record : back move (own twins) new ≡ back move (own twins) twins
  pub move-image : left move (own twins) new ≡ left move (own twins) twins
  pub move-table : table_of (left move (own twins) new) ≡ table_moved
  -- a resize to the present size writes no table: the image stays, with what it stores
  pub resized : answer resize (own twins) new ≡ Ok tt
  pub resize-record : back resize (own twins) new ≡ holding 1397 0 1
  pub resize-image : left resize (own twins) new ≡ new
  -- what is refused of the twins is refused
  pub refused : answer move_low (own twins) new ≡ Err NotEnoughSpace

alike : (new : List ℕ) → DifferInUnread twins new → IsAlike new
alike new u =
    let n = no-influence twins master_words at-twins.bytes at-twins.opens in
    let q = n.opens new u in
    let of-rewrite = n.edits new u rewrite (own twins) master_words 0x37 tt in
    let of-move = n.edits new u move (own twins) master_words 0x37 (omega arith) in
    let of-resize = n.edits new u resize (own twins) master_words 0x37 (omega arith) in
    let of-low = n.edits new u move_low (own twins) master_words 0x37 (omega arith) in
    let d = q.disc ∙ meant at-twins around-35 in
    let i = of-move.written moved tt in
    let h = has-table at-twins around-35 move (omega arith) (own twins) master_words 0x37 moved tt in
    record {
      bytes = (u.len ∙ twins-long, byte-of u bytes.next, byte-of u bytes.text, byte-of u bytes.file);
      opens = (q.opens master_words ∙ at-twins.opens, q.opens 24 ∙ with_words.0, q.opens 23 ∙ with_words.1);
      disc = d;
      rewritten = of-rewrite.verdict ∙ rewritten 0 (omega arith);
      rewrite-record = of-rewrite.totals ∙ rewrite-counted 0 (omega arith);
      rewrite-image = of-rewrite.written (rewritten 0 (omega arith)) tt ∙ rewritten-is 0 (omega arith);
      moved = of-move.verdict ∙ moved;
      move-record = of-move.totals;
      move-image = i;
      move-table = ap table_of i ∙ h.table ∙ moves.table;
      resized = of-resize.verdict ∙ resized;
      resize-record = of-resize.totals ∙ resize-counted;
      resize-image = resize-leaves new d (of-resize.verdict ∙ resized);
      refused = of-low.verdict ∙ refused;
    }

pub record Alike : Type 0 where
  pub root-in-7 : IsAlike root_in_7
  pub in-itself : IsAlike in_itself
  pub in-none : IsAlike in_none
  pub root-named : IsAlike root_named

pub all-alike : Alike
all-alike = record {
  root-in-7 = alike root_in_7 differ.root-in-7;
  in-itself = alike in_itself differ.in-itself;
  in-none = alike in_none differ.in-none;
  root-named = alike root_named differ.root-named;
}
