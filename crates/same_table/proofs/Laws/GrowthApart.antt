-- Why an edit that gives a file more bytes is none of those whose tree the old tree fixes: on two discs with the same entries, of which the tables end
-- at different places, it is accepted and comes to different trees, since the free space behind the table holds another place. Assumes nothing.
use Rattle.std.specs.Prelude.{Ok, ℕ, zero, suc, ◌+◌, ◌-◌, ◌<◌, ◌≤◌, ◌≡◌, refl, Bool, true, false, List, [], ◌∷◌, length, get_or}
use Rattle.std.proofs.Common.{sym, ap, ◌∙◌, ⊎_elim, arith, eq-eqb}
use Rattle.refusal.specs.Laws.Tests.{lt-or-le}
use Rattle.tree.specs.Table.{Node, file, directory, empty_root, dirs_open_at, parent_below, parent_of, entries_bytes, texts_of, encode, is_shallow_from, is_shallow, limits}
use Rattle.tree.specs.Insert.{set_place}
use Rattle.space.specs.declared.region.DiscRegion.{DiscRegion}
use Rattle.space.specs.Used.{is_used}
use Rattle.space.specs.Free.{is_free_in, runs, free_regions}
use Rattle.space.specs.MaxRegionSize.{size_beside_free, max_size_from}
use Rattle.space.specs.Align.{align_up}
use Rattle.space.specs.Allocate.{better_of, largest_rest, is_power_among, allocation_of}
use Rattle.space.specs.Laws.UsedLaws.{is_inside-low, is_inside-in, is_inside-high}
use Rattle.space.specs.Laws.CutLaws.{runs_past}
use Rattle.opened.specs.Opening.{region_of, Disc, free_of}
use Rattle.edit_rules.specs.Change.{place_verdict, table_verdict, Plan, change}
use Rattle.edit_rules.specs.Edits.{Edit, resize_file, fill_file, relocation_change, plan_resize, plan_fill, plan_of, plan_verdict, plan_tree}

-- ---- two discs with the same entries

abbrev at : ℕ → ℕ → DiscRegion
at offset size = record { offset = offset; size = size }

-- two files, the first of so many bytes from there on
abbrev pub entries : ℕ → ℕ → List Node
entries offset size = directory [] 3 ∷ file (0x61 ∷ []) offset size ∷ file (0x62 ∷ []) 0x10030 0x10 ∷ []

-- they lie at the end of the disc, and the table, of 0x28 bytes, ends there
abbrev pub disc_behind : ℕ → Disc
disc_behind end = record {
  nodes = entries 0x10020 0x10;
  start = end - 0x28;
  table_size = 0x28;
  maximum = 0;
  end = 0x10040;
  used = at 0 end ∷ at 0x10020 0x10 ∷ at 0x10030 0x10 ∷ [];
}

-- ---- what they have free

no-bytes : (p : ℕ → Bool) (i : ℕ) → runs p i 0 ≡ []
unfolding runs
no-bytes p i = refl

-- a stretch that passes, with no byte that passes behind it
run-before : (p : ℕ → Bool) (i n m : ℕ) → ((j : ℕ) → i ≤ j → j < i + suc n → p j ≡ true) → runs p (i + suc n) m ≡ [] → runs p i (suc n + m) ≡ at i (suc n) ∷ []
unfolding runs
run-before p i zero m h e =
    let z : 1 + m ≡ suc m = omega arith in
    let s : i + 1 ≡ suc i = omega arith in
    rw (z, h i (omega arith) (omega arith), rw s at e)
run-before p i (suc n) m h e =
    let z : suc (suc n) + m ≡ suc (suc n + m) = omega arith in
    let s : i + suc (suc n) ≡ suc i + suc n = omega arith in
    rw (z, h i (omega arith) (omega arith), run-before p (suc i) n m (λ j u v. h j (omega arith) (omega arith)) (rw s at e), eq-eqb (suc i) (suc i) refl)

module _ (end : ℕ) (less : end < 0x10020) where
  abbrev is_free : ℕ → Bool
  is_free = is_free_in (disc_behind end).used

  below-end : (j : ℕ) → j < end → is_free j ≡ false
  unfolding is_used
  below-end j h = rw (is_inside-in (at 0 end) j (omega arith) (omega arith))

  between : (j : ℕ) → end ≤ j → j < 0x10020 → is_free j ≡ true
  unfolding is_used
  between j h l = rw (is_inside-high (at 0 end) j (omega arith), is_inside-low (at 0x10020 0x10) j l, is_inside-low (at 0x10030 0x10) j (omega arith))

  in-files : (j : ℕ) → 0x10020 ≤ j → j < 0x10040 → is_free j ≡ false
  unfolding is_used
  in-files j h l =
      rw (is_inside-high (at 0 end) j (omega arith))
      (⊎_elim (λ a. rw (is_inside-in (at 0x10020 0x10) j h a)) (λ a. rw (is_inside-high (at 0x10020 0x10) j a, is_inside-in (at 0x10030 0x10) j a l)) (lt-or-le j 0x10030))

  -- LAW: all that lies between the table and the files
  free-behind : free_of (disc_behind end) ≡ at end (0x10020 - end) ∷ []
  unfolding free_regions
  free-behind =
      let n : ℕ = 0x1001F - end in
      let whole : end + (suc n + 0x20) ≡ 0x10040 = omega arith in
      let low : 0 + end ≡ end = omega arith in
      let gap : suc n ≡ 0x10020 - end = omega arith in
      let files : end + suc n ≡ 0x10020 = omega arith in
      let none : runs is_free (end + suc n) 0x20 ≡ [] = ap (λ (i : ℕ). runs is_free i 0x20) files ∙ runs_past is_free 0x10020 0x20 0 (λ j u v. in-files j u v) ∙ no-bytes is_free 0x10040 in
      ap (runs is_free 0) (sym whole)
      ∙ runs_past is_free 0 end (suc n + 0x20) (λ j u v. below-end j (omega arith))
      ∙ ap (λ (i : ℕ). runs is_free i (suc n + 0x20)) low
      ∙ run-before is_free end n 0x20 (λ j u v. between j u (omega arith)) none
      ∙ ap (λ (k : ℕ). at end k ∷ []) gap

-- ---- an edit on both

-- the table ends at 0x7000 here, and there at 0x9000
abbrev pub near : Disc
near = disc_behind 0x7000

abbrev pub far : Disc
far = disc_behind 0x9000

-- of an edit of both, whose entries are the same: its tests pass, with as much memory, and its trees differ
pub record GrowsApart (ed : Edit) : Type 0 where
  pub near-passes : plan_verdict (plan_of ed near) near 20 40 ≡ Ok tt
  pub far-passes : plan_verdict (plan_of ed far) far 20 40 ≡ Ok tt
  pub near-tree : plan_tree (plan_of ed near) near.nodes ≡ entries 0x8000 0x20
  pub far-tree : plan_tree (plan_of ed far) far.nodes ≡ entries 0x10000 0x20
  pub apart : plan_tree (plan_of ed near) near.nodes ≡ plan_tree (plan_of ed far) far.nodes → ⊥

other-places : entries 0x8000 0x20 ≡ entries 0x10000 0x20 → ⊥
other-places e = let z : ◌≡◌ {A = ℕ} 0x8000 0x10000 = ap (λ (xs : List Node). (region_of (get_or xs 1 empty_root)).offset) e in absurd (omega arith)

near-free : free_of near ≡ at 0x7000 0x9020 ∷ []
near-free = free-behind 0x7000 (omega arith)

far-free : free_of far ≡ at 0x9000 0x7020 ∷ []
far-free = free-behind 0x9000 (omega arith)

-- the file goes to the first multiple of 0x8000 that is free
abbrev grown : ℕ → Plan
grown to = change 1 (relocation_change (entries 0x10020 0x10) 1 (at 0x10020 0x10) (at to 0x20))

near-plan : plan_of (resize_file 1 0x20) near ≡ grown 0x8000
unfolding plan_resize max_size_from size_beside_free allocation_of is_power_among largest_rest better_of align_up
near-plan = rw near-free refl

far-plan : plan_of (resize_file 1 0x20) far ≡ grown 0x10000
unfolding plan_resize max_size_from size_beside_free allocation_of is_power_among largest_rest better_of align_up
far-plan = rw far-free refl

near-passes : plan_verdict (grown 0x8000) near 20 40 ≡ Ok tt
unfolding set_place max_size_from size_beside_free table_verdict place_verdict limits is_shallow is_shallow_from dirs_open_at encode entries_bytes parent_of parent_below texts_of
near-passes = rw near-free refl

far-passes : plan_verdict (grown 0x10000) far 20 40 ≡ Ok tt
unfolding set_place max_size_from size_beside_free table_verdict place_verdict limits is_shallow is_shallow_from dirs_open_at encode entries_bytes parent_of parent_below texts_of
far-passes = rw far-free refl

tree-is : (to : ℕ) → plan_tree (grown to) (entries 0x10020 0x10) ≡ entries to 0x20
unfolding set_place
tree-is to = refl

-- LAW: a resize
pub resized-apart : GrowsApart (resize_file 1 0x20)
resized-apart = record {
  near-passes = rw near-plan near-passes;
  far-passes = rw far-plan far-passes;
  near-tree = rw near-plan (tree-is 0x8000);
  far-tree = rw far-plan (tree-is 0x10000);
  apart = λ e. other-places (sym (tree-is 0x8000) ∙ (rw (near-plan, far-plan) at e) ∙ tree-is 0x10000);
}

-- LAW: and a fill with as long a clip, whatever it holds
pub filled-apart : (clip : List ℕ) → length clip ≡ 0x20 → GrowsApart (fill_file 1 clip)
unfolding plan_fill
filled-apart clip long = record {
  near-passes = rw long resized-apart.near-passes;
  far-passes = rw long resized-apart.far-passes;
  near-tree = rw long resized-apart.near-tree;
  far-tree = rw long resized-apart.far-tree;
  apart = rw long resized-apart.apart;
}
