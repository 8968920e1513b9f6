-- The answers and the buffers of `list` and `report` by what was measured and written. Assumes nothing.
use Rattle.std.specs.Prelude.{Option, Some, None, unwrap_or, Result, Ok, Err}
use Rattle.refusal.specs.Refusal.{Verdict}
use Prim.Native.Nat.{ℕ, ◌<◌, ◌≤◌, ◌^◌}
use mathlib.Core.Path.{◌≡◌, refl, ap}
use mathlib.Core.Bool.{Bool, true, false, cond}
use mathlib.Core.List.{List, ◌++◌}
use native.Mathlib.Omega.{arith}
use borrow.Author.Tests.{lt-ltb, le-ltb, ltb-false}
use lib.ListN.{length}
use lib.Dec.{ltb}
use Rattle.endian.specs.Bytes.{put}
use Rattle.refusal.specs.declared.Refusal.{Refusal}
use Rattle.refusal.specs.declared.Refusal.TheVariants.{LimitOrMemory}
use Rattle.refusal.specs.Refusal.{refuse, first}
use Rattle.refusal.specs.Laws.Chains.{refuse-passed, first-passed}
use Rattle.tree.specs.Table.{nodes_of, count}
use Rattle.tree.proofs.Laws.Accepted.{length-nodes_of}
use Rattle.space.specs.Used.{total_size}
use Rattle.space.specs.Laws.SortLaws.{same_total}
use Rattle.space.specs.Inner.Sort.{SameSums}
use Rattle.space.specs.Inner.UsedSpace.{UsedSpace, free_space_in}
use Rattle.opened.specs.Opening.{opening, Disc, free_of}
use Rattle.opened.specs.Inner.Disc.{Opened, Means}
use Rattle.opened.proofs.Laws.Meant.{end_meant, nodes_meant, total_meant, free_meant}
use Rattle.listing.specs.Inner.Fits.{IsLaid, size_or, listed_or, laid_or, disc_text}
use Rattle.opened.specs.Answers.{answer_behind}
use Rattle.listing.specs.Lines.{totals_line, lines_below, lines_of_regions}
use Rattle.listing.specs.Listing.{listing_text, listing_verdict, list_answer, list_buffer, refused_text, report_verdict, report_text, report_answer, report_buffer}
use Rattle.listing.specs.Inner.Writing.{Wrote}

-- the lines of a disc, from its table and its used regions
pub text-is : (d : Disc) (tab : List ℕ) (u : UsedSpace) → u.disc_end ≡ d.end → nodes_of tab ≡ d.nodes → SameSums u.regions d.used → free_space_in u ≡ free_of d →
    totals_line u.disc_end (total_size u.regions) ++ (lines_below (nodes_of tab) (count tab) ++ lines_of_regions (free_space_in u)) ≡ disc_text d
unfolding disc_text
text-is d tab u e n s f = rw (f, e, same_total u.regions d.used s, ← length-nodes_of tab, n)

-- the lines of an image that means the disc
pub text-meant : (image : List ℕ) (d : Opened) → Means image d → disc_text d.disc ≡ listing_text image
unfolding listing_text disc_text
text-meant image d m = rw (free_meant image d m, end_meant image d m, total_meant image d m, nodes_meant image d m)

-- ---- measured with no buffer to speak of, then written

module _ (text : List ℕ) {none none' bs : List ℕ} {size : ℕ} (w : Wrote none none' 0 bs size) (small : length text < 2 ^ 63) where
  too_long : length text < size → length text < length bs
  too_long h = omega (arith, w.stop)

  short : size ≤ length text → (size ≡ length bs) × (length bs ≤ length text)
  short h = (omega (arith, w.stop), omega (arith, w.stop))

  written : {text' : List ℕ} {r : ℕ} → size ≤ length text → Wrote text text' 0 bs r → (r ≡ length bs) × (text' ≡ put text 0 bs)
  written h v = let s = short h in (omega (arith, v.stop, s.0, s.1), v.laid (omega (arith, s.1)) (omega (arith, s.1)))

  pub fits-short : length text < size → IsLaid text text None bs
  fits-short h = let t = lt-ltb (length text) (length bs) (too_long h) in record { size_is = rw t; text_after = rw t }

  pub fits-whole : {text' : List ℕ} {r : ℕ} → size ≤ length text → Wrote text text' 0 bs r → IsLaid text text' (Some size) bs
  fits-whole h v = let t = le-ltb (length text) (length bs) (short h).1 in record { size_is = rw t (ap Some (short h).0); text_after = rw t (written h v).1 }

-- 0 where there is no room
pub size-told : (room : ℕ) (bs : List ℕ) (r : Option ℕ) → r ≡ size_or room bs → unwrap_or r 0 ≡ cond (ltb room (length bs)) 0 (length bs)
size-told room bs r e = rw e (go (ltb room (length bs)))
  where
    go : (t : Bool) → unwrap_or (cond t None (Some (length bs))) 0 ≡ cond t 0 (length bs)
    go true = refl
    go false = refl

-- ---- behind opening

module _ (image : List ℕ) (words : ℕ) (text : List ℕ) where
  pub list-refused : (c : Refusal) → opening image words ≡ Err c → Err c ≡ list_answer image words (length text)
  unfolding list_answer listing_verdict
  list-refused c e = rw e

  pub buffer-refused : (c : Refusal) → opening image words ≡ Err c → text ≡ list_buffer image words text
  unfolding list_buffer listing_verdict
  buffer-refused c e = rw e

  module _ (d : Opened) (o : Means image d × (d.words ≡ words)) where
    passes : opening image words ≡ Ok tt
    passes = rw o.1 at o.0.known.passed

    pub list-opened : (r : Result ℕ Refusal) → r ≡ listed_or (length text) (disc_text d.disc) → r ≡ list_answer image words (length text)
    unfolding list_answer listing_verdict
    list-opened r e = go (ltb (length text) (length (listing_text image))) (rw (text-meant image d o.0) at e)
      where
        go : (t : Bool) → r ≡ cond t (Err LimitOrMemory) (Ok (length (listing_text image))) → r ≡ answer_behind (first (opening image words) (refuse t LimitOrMemory (Ok tt))) Err (Ok (length (listing_text image)))
        go true q = rw passes q
        go false q = rw passes q

    pub buffer-opened : (text' : List ℕ) → text' ≡ laid_or text (disc_text d.disc) → text' ≡ list_buffer image words text
    unfolding list_buffer listing_verdict
    buffer-opened text' e = go (ltb (length text) (length (listing_text image))) (rw (text-meant image d o.0) at e)
      where
        go : (t : Bool) → text' ≡ cond t text (put text 0 (listing_text image)) → text' ≡ answer_behind (first (opening image words) (refuse t LimitOrMemory (Ok tt))) (λ c. text) (put text 0 (listing_text image))
        go true q = rw passes q
        go false q = rw passes q

-- ---- images of the program's length

abbrev pub SmallAnswer : List ℕ → ℕ → List ℕ → Result ℕ Refusal → List ℕ → Type 0
SmallAnswer image words text r text' =
    (r ≡ answer_behind (report_verdict image words (length text)) Err (Ok (length (listing_text image)))) × (text' ≡ answer_behind (report_verdict image words (length text)) (λ c. text) (put text 0 (listing_text image)))

module _ (image : List ℕ) (words : ℕ) (text : List ℕ) where
  pub large-answer : 65536 < length image → Err LimitOrMemory ≡ answer_behind (report_verdict image words (length text)) Err (Ok (length (listing_text image)))
  unfolding report_verdict
  large-answer h = rw (lt-ltb 65536 (length image) h)

  pub large-buffer : 65536 < length image → text ≡ answer_behind (report_verdict image words (length text)) (λ c. text) (put text 0 (listing_text image))
  unfolding report_verdict
  large-buffer h = rw (lt-ltb 65536 (length image) h)

  pub small-answer : (r : Result ℕ Refusal) → length image ≤ 65536 → r ≡ list_answer image words (length text) → r ≡ answer_behind (report_verdict image words (length text)) Err (Ok (length (listing_text image)))
  unfolding report_verdict list_answer
  small-answer r h a = rw (le-ltb 65536 (length image) h) a

  pub small-buffer : (text' : List ℕ) → length image ≤ 65536 → text' ≡ list_buffer image words text → text' ≡ answer_behind (report_verdict image words (length text)) (λ c. text) (put text 0 (listing_text image))
  unfolding report_verdict list_buffer
  small-buffer text' h a = rw (le-ltb 65536 (length image) h) a

  -- ---- the report

  passed-fits : report_verdict image words (length text) ≡ Ok tt → length (listing_text image) ≤ length text
  unfolding report_verdict listing_verdict
  passed-fits e =
      let a = first-passed (refuse (ltb 65536 (length image)) LimitOrMemory (Ok tt)) _ e in
      let b = first-passed (opening image words) _ a.1 in
      let d = refuse-passed (ltb (length text) (length (listing_text image))) LimitOrMemory _ b.1 in
      ltb-false (length text) (length (listing_text image)) d.0

  module _ (r : Result ℕ Refusal) (text' : List ℕ) (s : SmallAnswer image words text r text') where
    pub report-text : (size : ℕ) → r ≡ Ok size → (size ≡ report_answer image words (length text)) × (text' ≡ report_buffer image words text)
    unfolding report_answer report_buffer report_text
    report-text size e = go (report_verdict image words (length text)) passed-fits s
      where
        go : (v : Verdict) → (v ≡ Ok tt → length (listing_text image) ≤ length text) →
            (r ≡ answer_behind v Err (Ok (length (listing_text image)))) × (text' ≡ answer_behind v (λ c. text) (put text 0 (listing_text image))) →
            (size ≡ cond (ltb (length text) (length (answer_behind v refused_text (listing_text image)))) 0 (length (answer_behind v refused_text (listing_text image)))) ×
            (text' ≡ cond (ltb (length text) (length (answer_behind v refused_text (listing_text image)))) text (put text 0 (answer_behind v refused_text (listing_text image))))
        go (Ok tt) f a =
            let t = le-ltb (length text) (length (listing_text image)) (f refl) in
            let n : size ≡ length (listing_text image) = cc a.0 in
            (rw t n, rw t a.1)
        go (Err c) f a = let z : ◌≡◌ {A = ℕ} 0 1 = cc a.0 in absurd (omega arith)

    pub report-refused : (c : Refusal) → r ≡ Err c → (n : ℕ) (text'' : List ℕ) →
        (n ≡ cond (ltb (length text') (length (refused_text c))) 0 (length (refused_text c))) × (text'' ≡ cond (ltb (length text') (length (refused_text c))) text' (put text' 0 (refused_text c))) →
        (n ≡ report_answer image words (length text)) × (text'' ≡ report_buffer image words text)
    unfolding report_answer report_buffer report_text
    report-refused c e n text'' q = go (report_verdict image words (length text)) s
      where
        go : (v : Verdict) → (r ≡ answer_behind v Err (Ok (length (listing_text image)))) × (text' ≡ answer_behind v (λ d. text) (put text 0 (listing_text image))) →
            (n ≡ cond (ltb (length text) (length (answer_behind v refused_text (listing_text image)))) 0 (length (answer_behind v refused_text (listing_text image)))) ×
            (text'' ≡ cond (ltb (length text) (length (answer_behind v refused_text (listing_text image)))) text (put text 0 (answer_behind v refused_text (listing_text image))))
        go (Ok _) a = let z : ◌≡◌ {A = ℕ} 0 1 = cc a.0 in absurd (omega arith)
        go (Err d) a =
            let d≡ : c ≡ d = cc a.0 in
            rw (← d≡) (rw a.1 at q)
