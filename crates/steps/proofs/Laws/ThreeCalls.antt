-- A move or a resize in three calls. Assumes nothing.
use Rattle.std.specs.Prelude.{Ok, ℕ, ◌≤◌, ◌≡◌, refl, List}
use Rattle.std.proofs.Common.{sym, ap, subst, ◌∙◌, arith, le-ltb}
use Rattle.endian.specs.Bytes.{AllBytes}
use Rattle.space.specs.declared.region.DiscRegion.{DiscRegion}
use Rattle.space.specs.Used.{no_region}
use Rattle.space.specs.MaxRegionSize.{max_region_size}
use Rattle.opened.specs.Opening.{free_space_of, opening, disc_of}
use Rattle.edit_rules.specs.Change.{zeroed_image, Plan, refused, nothing, change, filled}
use Rattle.edit_rules.specs.Edits.{Edit, Account, insert_file, insert_directory, make_directories, move_file, resize_file, fill_file, rewrite, plan_of, plan_verdict, plan_image, counted_verdict, verdict_of, image_after, totals_after}
use Rattle.edit_rules.proofs.Laws.Accepted.{Accepted, accepted}
use Rattle.ledger.specs.Ledger.{Ledger, ledger_with}
use Rattle.ledger.specs.Runs.{IsPassable}
use Rattle.ledger.proofs.Laws.Opened.{Opened, opened}
use Rattle.ledger.proofs.Laws.Kept.{Kept}
use Rattle.ledger.proofs.Laws.ProgramKept.{ProgramKept, kept_trans}
use Rattle.ledger.proofs.Laws.Steps.{step-accepted}
use Rattle.ledger.proofs.Laws.TreeAfter.{program-after}
use Rattle.edit.specs.Asked.{IsPlaceEdit}
use Rattle.steps.specs.Parts.{plan_copied, plan_tabled, plan_span, image_after_copy, image_after_table, zero_verdict, image_after_zeros}
use Rattle.steps.specs.Theorem.{ReadsAs, IsDoneByThree, ThreeCalls}
use Rattle.steps.proofs.Laws.Parts.{FreeAt, OnlyIn, copy_place}
use Rattle.steps.proofs.Laws.FreePlace.{disc-free, free-free, used-free, tree_free, program-free, opens-free, file-free, ledger-free, kept_free}
use Rattle.steps.proofs.Laws.Parting.{copied-only, copied-bytes, tabled-bytes, written-again, whole, zeroed-empty, zeroed-span, tabled-only, opened_after, third-passes}
use Rattle.steps.proofs.Laws.Splitting.{Parted, parted}

-- the images differ in a place that is free in the first
record Beside (image image' : List ℕ) : Type 0 where
  place : DiscRegion
  free : FreeAt image place
  only : OnlyIn image image' place

same-image : (image : List ℕ) → Beside image image
same-image image = record { place = no_region; free = λ i h. absurd (omega arith); only = record { len = refl; same = λ i h. refl } }

-- LAW: such an image reads as the first
reads-as : (words : ℕ) (image image' : List ℕ) → Opened image → opening image words ≡ Ok tt → Beside image image' → ReadsAs words image image'
reads-as words image image' o e d = record {
  opens = opens-free image image' o d.place d.free d.only words e;
  tree = tree_free image image' o d.place d.free d.only;
  files = λ k nm offset size q. file-free image image' o d.place d.free d.only k nm offset size (rw (tree_free image image' o d.place d.free d.only) at q);
  used = used-free image image' o d.place d.free d.only;
  free = free-free image image' o d.place d.free d.only;
  ledger = ledger-free image image' o d.place d.free d.only;
}

-- ---- of a plan

module _ (w : ℕ) (image : List ℕ) (o : Opened image) (e : opening image w ≡ Ok tt) (b : AllBytes image) where
  copy-beside : (p : Plan) → Parted w image p → Beside image (plan_copied p image)
  copy-beside (refused u) q = same-image image
  copy-beside nothing q = same-image image
  copy-beside (change k c) q = record { place = copy_place c; free = q.copy; only = copied-only w c image o q }
  copy-beside (filled k clip p) q = absurd q

  image-again : (p : Plan) → Parted w image p → plan_image p (plan_copied p image) ≡ plan_image p image
  image-again (refused u) q = refl
  image-again nothing q = refl
  image-again (change k c) q = written-again w c image o q
  image-again (filled k clip p) q = absurd q

  after-opened : (p : Plan) → Parted w image p → Opened (plan_image p image) × (opening (plan_image p image) w ≡ Ok tt)
  after-opened (refused u) q = (o, e)
  after-opened nothing q = (o, e)
  after-opened (change k c) q = (opened_after w c image o q, q.opens)
  after-opened (filled k clip p) q = absurd q

  table_beside : (p : Plan) → Parted w image p → Beside (plan_image p image) (plan_tabled p (plan_copied p image))
  table_beside (refused u) q = same-image image
  table_beside nothing q = same-image image
  table_beside (change k c) q = record { place = c.lost; free = q.lost; only = tabled-only w c image o q }
  table_beside (filled k clip p) q = absurd q

  nothing-passes : zero_verdict image w no_region ≡ Ok tt
  unfolding zero_verdict
  nothing-passes = rw (e, le-ltb (max_region_size 0 0 (free_space_of image)) 0 (omega arith))

  span-passes : (p : Plan) → Parted w image p → zero_verdict (plan_tabled p (plan_copied p image)) w (plan_span p) ≡ Ok tt
  span-passes (refused u) q = nothing-passes
  span-passes nothing q = nothing-passes
  span-passes (change k c) q = third-passes w c image o q
  span-passes (filled k clip p) q = absurd q

  all_three : (p : Plan) → Parted w image p → zeroed_image (plan_span p) (plan_tabled p (plan_copied p image)) ≡ plan_image p image
  all_three (refused u) q = zeroed-empty no_region image refl
  all_three nothing q = zeroed-empty no_region image refl
  all_three (change k c) q = zeroed-span c _ ∙ whole w c image o q
  all_three (filled k clip p) q = absurd q

  copy-bytes : (p : Plan) → Parted w image p → AllBytes (plan_copied p image)
  copy-bytes (refused u) q = b
  copy-bytes nothing q = b
  copy-bytes (change k c) q = copied-bytes w c image o q
  copy-bytes (filled k clip p) q = absurd q

  table-bytes : (p : Plan) → Parted w image p → AllBytes (plan_tabled p (plan_copied p image))
  table-bytes (refused u) q = b
  table-bytes nothing q = b
  table-bytes (change k c) q = tabled-bytes w c image o q
  table-bytes (filled k clip p) q = absurd q

passable : (ed : Edit) → IsPlaceEdit ed → IsPassable ed
passable (insert_file p nm) h = absurd h
passable (insert_directory p nm) h = absurd h
passable (make_directories from path) h = absurd h
passable (move_file k to) h = h
passable (resize_file k n) h = h
passable (fill_file k clip) h = absurd h
passable rewrite h = absurd h

-- ---- of the calls

module _ (ed : Edit) (a : Account) (image : List ℕ) (words bytes : ℕ) (h : IsPlaceEdit ed) (b : AllBytes image) (v : verdict_of ed a image words bytes ≡ Ok tt) where
  A : Accepted (plan_of ed (disc_of image)) a image words bytes
  A = accepted ed a image words bytes v

  o : Opened image
  o = opened image words A.opens b

  abbrev plan : Plan
  plan = plan_of ed (disc_of image)

  P : Parted words image plan
  P = parted ed a image words bytes h b v

  abbrev image₁ : List ℕ
  image₁ = plan_copied plan image

  abbrev image₂ : List ℕ
  image₂ = plan_tabled plan image₁

  abbrev image₃ : List ℕ
  image₃ = plan_image plan image

  c₁ : Beside image image₁
  c₁ = copy-beside words image o A.opens b plan P

  c₂ : Beside image₃ image₂
  c₂ = table_beside words image o A.opens b plan P

  o₃ : Opened image₃ × (opening image₃ words ≡ Ok tt)
  o₃ = after-opened words image o A.opens b plan P

  again : plan_image plan image₁ ≡ image₃
  again = image-again words image o A.opens b plan P

  passes : zero_verdict image₂ words (plan_span plan) ≡ Ok tt
  passes = span-passes words image o A.opens b plan P

  first-is : image_after_copy ed a image words bytes ≡ image₁
  unfolding image_after_copy
  first-is = rw v

  reads₁ : ReadsAs words image image₁
  reads₁ = reads-as words image image₁ o A.opens c₁

  disc-same : disc_of image₁ ≡ disc_of image
  disc-same = disc-free image image₁ o c₁.place c₁.free c₁.only

  plan-same : plan_of ed (disc_of image₁) ≡ plan
  plan-same = ap (plan_of ed) disc-same

  own-same : plan_verdict plan (disc_of image₁) words bytes ≡ Ok tt
  own-same = subst (λ d. plan_verdict plan d words bytes ≡ Ok tt) (sym disc-same) A.own

  verdict-same : verdict_of ed a image₁ words bytes ≡ Ok tt
  unfolding verdict_of counted_verdict
  verdict-same = rw (reads₁.opens, A.team, plan-same, own-same, reads₁.used, again) A.counted

  whole_is : image_after ed a image words bytes ≡ image₃
  unfolding image_after
  whole_is = rw v

  record_same : totals_after ed a image₁ words bytes ≡ totals_after ed a image words bytes
  unfolding totals_after
  record_same = rw (verdict-same, v, plan-same, reads₁.used, again)

  second_is : image_after_table ed a image₁ words bytes ≡ image₂
  unfolding image_after_table
  second_is = rw (verdict-same, plan-same)

  third-is : image_after_zeros image₂ words (plan_span plan) ≡ image₃
  unfolding image_after_zeros
  third-is = rw passes (all_three words image o A.opens b plan P)

  done-by-three : IsDoneByThree ed a image words bytes
  done-by-three = record {
    first = rw first-is reads₁;
    second-accepted = rw first-is verdict-same;
    record-whole = rw first-is record_same;
    second = rw (first-is, second_is, whole_is) (reads-as words image₃ image₂ o₃.0 o₃.1 c₂);
    third-accepted = rw (first-is, second_is, plan-same) passes;
    image-whole = rw (first-is, second_is, plan-same, whole_is) third-is;
  }

  -- ---- after any list of edits

  -- LAW: what a list of edits keeps, a cut behind the copy keeps with the ledger as it was, and one behind the table with the edit entered
  pub kept-through : (w : ℕ) → words ≤ w → (l : Ledger) → Kept w image l →
      Kept w (image_after_copy ed a image words bytes) l × Kept w (image_after_table ed a (image_after_copy ed a image words bytes) words bytes) (ledger_with ed l)
  kept-through w lent l K =
      rw (first-is, second_is) (
        kept_free image image₁ o c₁.place c₁.free c₁.only w l (copy-bytes words image o A.opens b plan P) K,
        kept_free image₃ image₂ o₃.0 c₂.place c₂.free c₂.only w (ledger_with ed l) (table-bytes words image o A.opens b plan P) (step-accepted w image l K words bytes lent ed (passable ed h) A.own),
      )

  -- LAW: and the program, byte for byte
  pub program-through : ProgramKept image (image_after_copy ed a image words bytes) × ProgramKept image (image_after_table ed a (image_after_copy ed a image words bytes) words bytes)
  program-through =
      rw (first-is, second_is) (
        program-free image image₁ o c₁.place c₁.free c₁.only,
        kept_trans image image₃ image₂ (rw whole_is at (program-after ed a image words bytes b (passable ed h))) (program-free image₃ image₂ o₃.0 c₂.place c₂.free c₂.only),
      )

-- THEOREM
pub three-calls : ThreeCalls
three-calls ed a image words bytes h b v = done-by-three ed a image words bytes h b v
