-- Same tree, same table: what fixes the table that an edit writes, that a second rewrite alters
-- nothing, and what has no influence on an edit (RULES, Same tree, same table). Proved in
-- proofs/Laws. Assumes nothing: these are definitions.
use Rattle.std.specs.Prelude.{Ok, ℕ, ◌+◌, ◌-◌, ◌*◌, ◌^◌, ◌<◌, ◌≤◌, ◌≡◌, ◌↔◌, List, length, nat_lt}
use Rattle.endian.specs.Bytes.{put, AllBytes}
use Rattle.refusal.specs.declared.Refusal.TheVariants.{TotalsOutOfRange}
use Rattle.refusal.specs.Refusal.{refuse, first}
use Rattle.header.specs.Verdicts.{fst_offset}
use Rattle.tree.specs.Table.{kind, count}
use Rattle.totals.specs.declared.Totals.{Totals}
use Rattle.totals.specs.Totals.{team_of, team_verdict, totals_verdict}
use Rattle.opened.specs.Opening.{table_of, nodes_in, opening, disc_of}
use Rattle.edit_rules.specs.Edits.{Edit, Account, account, rewrite, plan_of, plan_tree, space_change, verdict_of, image_after, totals_after}
use Rattle.ledger.specs.Runs.{Call, image_after_all, totals_after_all, IsPassable, AllWithin}
use Rattle.ledger.specs.Lists.{answers_of}
use Rattle.edit.specs.TableAnew.{table_anew, anew_verdict}
use Rattle.same_table.specs.Trees.{IsSameTree, HasTableOf, HaveSameTable, WritesNewTable, IsFixedByTree}
use Rattle.same_table.specs.Unread.{DifferInUnread}

-- ---- the tree fixes the table, and the table the tree

-- THEOREM: of two images that open, names, order, kinds, nesting, offsets and sizes are the whole
-- tree: they fix where each directory ends
abbrev pub WholeTree : Type 0
WholeTree =
    (image image' : List ℕ) (w w' : ℕ) → AllBytes image → AllBytes image' →
    opening image w ≡ Ok tt → opening image' w' ≡ Ok tt →
    IsSameTree (nodes_in image) (nodes_in image') → nodes_in image ≡ nodes_in image'

-- THEOREM: an accepted edit that writes a table leaves the written table of the tree that it plans,
-- whatever table there was; and which edits write one is told by the tree
abbrev pub WrittenTable : Type 0
WrittenTable =
    (ed : Edit) (a : Account) (image : List ℕ) (words bytes : ℕ) → IsPassable ed → AllBytes image →
    verdict_of ed a image words bytes ≡ Ok tt → WritesNewTable (nodes_in image) ed →
    HasTableOf (image_after ed a image words bytes)
    (plan_tree (plan_of ed (disc_of image)) (nodes_in image))

-- THEOREM: two images with the same tree get the same table from an edit whose tree that fixes, if
-- both accept it: with whatever records, teams and memory, whatever texts their names share, and
-- wherever their tables lie
abbrev pub SameTable : Type 0
SameTable =
    (ed : Edit) (a a' : Account) (image image' : List ℕ) (words words' bytes bytes' : ℕ) →
    IsPassable ed → AllBytes image → AllBytes image' →
    IsSameTree (nodes_in image) (nodes_in image') → IsFixedByTree (nodes_in image) ed →
    verdict_of ed a image words bytes ≡ Ok tt → verdict_of ed a' image' words' bytes' ≡ Ok tt →
    HaveSameTable (image_after ed a image words bytes) (image_after ed a' image' words' bytes')

-- THEOREM: and only these: where `table_anew` tells of each the table that a rewrite writes, these
-- are equal just where the trees are the same
abbrev pub SameTree : Type 0
SameTree =
    (image image' : List ℕ) (words words' room room' : ℕ) → AllBytes image → AllBytes image' →
    anew_verdict image words room ≡ Ok tt → anew_verdict image' words' room' ≡ Ok tt →
    IsSameTree (nodes_in image) (nodes_in image') ↔ (table_anew image ≡ table_anew image')

-- ---- a second rewrite

-- of the image that an accepted rewrite leaves
pub record IsWrittenAnew (a : Account) (image : List ℕ) (words bytes : ℕ) (new : List ℕ)
    : Type 0 where
  -- no rewrite alters a byte of it
  pub unaltered : (a' : Account) (words' bytes' : ℕ) →
      image_after rewrite a' new words' bytes' ≡ new
  -- with as much memory only the team, and the record that goes in, can refuse one
  pub by-record : (a' : Account) (words' bytes' : ℕ) → words ≤ words' → bytes ≤ bytes' →
      verdict_of rewrite a' new words' bytes'
      ≡ first (team_verdict a'.team) (totals_verdict a'.totals a'.team (space_change new new))
  -- and of the same team, with the record that the first one handed back, only its count of edits
  pub by-count : (words' bytes' : ℕ) → words ≤ words' → bytes ≤ bytes' →
      let back : Totals = totals_after rewrite a image words bytes in
      verdict_of rewrite (account back a.team) new words' bytes'
      ≡ refuse (nat_lt (2 ^ 32 - 1) ((team_of back a.team).edits + 1)) TotalsOutOfRange (Ok tt)

-- THEOREM
abbrev pub SecondRewrite : Type 0
SecondRewrite =
    (a : Account) (image : List ℕ) (words bytes : ℕ) → AllBytes image →
    verdict_of rewrite a image words bytes ≡ Ok tt →
    IsWrittenAnew a image words bytes (image_after rewrite a image words bytes)

-- THEOREM: so it is with every image that has the written table of its tree, as an edit leaves it
-- that writes one
abbrev pub WrittenStays : Type 0
WrittenStays =
    (image : List ℕ) → AllBytes image → HasTableOf image (nodes_in image) →
    (a : Account) (words bytes : ℕ) → image_after rewrite a image words bytes ≡ image

-- ---- what has no influence

-- the images open alike, with any words, to the same disc, on which every edit is decided
pub record OpenAlike (image new : List ℕ) : Type 0 where
  pub opens : (w : ℕ) → opening new w ≡ opening image w
  pub disc : disc_of new ≡ disc_of image

-- the edit has the same verdict of both and hands back the same record; one that writes a table
-- leaves the same image, every byte, and any other two that differ as before
pub record EditAlike (ed : Edit) (a : Account) (image new : List ℕ) (words bytes : ℕ) : Type 0 where
  pub verdict : verdict_of ed a new words bytes ≡ verdict_of ed a image words bytes
  pub totals : totals_after ed a new words bytes ≡ totals_after ed a image words bytes
  pub written : verdict_of ed a image words bytes ≡ Ok tt → WritesNewTable (nodes_in image) ed →
      image_after ed a new words bytes ≡ image_after ed a image words bytes
  pub differ :
      DifferInUnread (image_after ed a image words bytes) (image_after ed a new words bytes)

-- of an image: what stands in its unread bytes
pub record HasNoInfluence (image : List ℕ) : Type 0 where
  -- whatever it is, the images open alike
  pub opens : (new : List ℕ) → DifferInUnread image new → OpenAlike image new
  -- and so is every edit of them
  pub edits : (new : List ℕ) → DifferInUnread image new →
      (ed : Edit) (a : Account) (words bytes : ℕ) → IsPassable ed →
      EditAlike ed a image new words bytes
  -- such are any four bytes put over the stored parent of a directory, the root's too
  pub parent : (k : ℕ) (bs : List ℕ) →
      k < count (table_of image) → kind (table_of image) k ≡ 1 → length bs ≡ 4 →
      DifferInUnread image (put image (fst_offset image + (12 * k + 4)) bs)
  -- and any three over the root's name offset
  pub root-name : (bs : List ℕ) → length bs ≡ 3 →
      DifferInUnread image (put image (fst_offset image + 1) bs)

-- THEOREM: of an image that opens
abbrev pub NoInfluence : Type 0
NoInfluence =
    (image : List ℕ) (w : ℕ) → AllBytes image → opening image w ≡ Ok tt → HasNoInfluence image

-- what each call gives back, a number or a refusal, the record handed on, and the images at last
pub record RunAlike (calls : List Call) (image new : List ℕ) : Type 0 where
  pub answers : answers_of calls new ≡ answers_of calls image
  pub handed-on : (t : Totals) → totals_after_all t calls new ≡ totals_after_all t calls image
  pub at-last : DifferInUnread (image_after_all calls image) (image_after_all calls new)

-- THEOREM: nor along any list of calls
abbrev pub NoInfluenceAlong : Type 0
NoInfluenceAlong =
    (image new : List ℕ) (w₀ w : ℕ) (calls : List Call) →
    AllBytes image → opening image w₀ ≡ Ok tt → AllWithin w calls → DifferInUnread image new → RunAlike calls image new
