-- Bytes put into a free place leave table, header, program and all files as they are, so every test sees the same disc. Assumes nothing.
use Rattle.std.specs.Prelude.{ℕ, zero, suc, ◌+◌, ◌-◌, ◌<◌, ◌≤◌, ◌≡◌, List, [], ◌∷◌, length, get_or}
use Rattle.std.proofs.Math.Path.{refl}
use Rattle.std.proofs.Common.{sym, ap, ◌∙◌, ⊎_elim, arith, ext_get_or}
use Rattle.endian.specs.Bytes.{put, span, be32, AllBytes}
use Rattle.endian.specs.Laws.Stored.{length-put, put-before, put-after, put_in, put-none, be32-same, span_ext}
use Rattle.std.specs.Prelude.{Ok}
use Rattle.refusal.specs.Laws.Tests.{lt-or-le}
use Rattle.header.specs.Verdicts.{fst_offset, fst_size, fst_max_size, disc_end, table_end}
use Rattle.tree.specs.Table.{Node, file, directory, empty_root}
use Rattle.space.specs.declared.region.DiscRegion.{DiscRegion}
use Rattle.executable.specs.Program.{program_in}
use Rattle.opened.specs.Opening.{nodes_in, regions_behind_table, used_in, free_space_of, used_of, opening, disc_of}
use Rattle.edit_rules.proofs.Laws.Puts.{Fits}
use Rattle.ledger.specs.Ledger.{Ledger, files_before, first_histories, first_ledger}
use Rattle.ledger.specs.Inner.Files.{pick, files_of}
use Rattle.ledger.proofs.Laws.Files.{files_in, places_in, files-at}
use Rattle.ledger.proofs.Laws.Apart.{region}
use Rattle.ledger.proofs.Laws.Histories.{SameIn, trues-same}
use Rattle.ledger.proofs.Laws.Kept.{Kept}
use Rattle.ledger.proofs.Laws.Opened.{Opened}
use Rattle.ledger.proofs.Laws.Alike.{Alike, end_same, tree-same, total-same, free-same, opens-same}
use Rattle.ledger.proofs.Laws.ProgramKept.{ProgramKept, program-spared}
use Rattle.ledger.proofs.Laws.Sequence.{region-fits}
use Rattle.steps.proofs.Laws.Parts.{FreeAt, OnlyIn}

-- the same put twice is put once
pub put-again : (s : List ℕ) (at : ℕ) (bs : List ℕ) → Fits s at (length bs) → put (put s at bs) at bs ≡ put s at bs
put-again s at [] h = put-none (put s at []) at
put-again s at (b ∷ bs) h =
    let f : at + length (b ∷ bs) ≤ length s = h (omega arith) in
    let g : at + length (b ∷ bs) ≤ length (put s at (b ∷ bs)) = rw (length-put s at (b ∷ bs) f) f in
    ext_get_or 0 (put (put s at (b ∷ bs)) at (b ∷ bs)) (put s at (b ∷ bs)) (length-put (put s at (b ∷ bs)) at (b ∷ bs) g)
    (λ i l. ⊎_elim (λ u. put-before (put s at (b ∷ bs)) at (b ∷ bs) g i u)
    (λ u. ⊎_elim (λ v. inner f g i u v) (λ v. put-after (put s at (b ∷ bs)) at (b ∷ bs) g i v) (lt-or-le i (at + length (b ∷ bs)))) (lt-or-le i at))
  where
    inner : at + length (b ∷ bs) ≤ length s → at + length (b ∷ bs) ≤ length (put s at (b ∷ bs)) → (i : ℕ) → at ≤ i → i < at + length (b ∷ bs) → get_or (put (put s at (b ∷ bs)) at (b ∷ bs)) i 0 ≡ get_or (put s at (b ∷ bs)) i 0
    inner f g i u v =
        let e : at + (i - at) ≡ i = omega arith in
        ap (λ (n : ℕ). get_or (put (put s at (b ∷ bs)) at (b ∷ bs)) n 0) (sym e) ∙ put_in (put s at (b ∷ bs)) at (b ∷ bs) g (i - at) (omega arith)
        ∙ sym (put_in s at (b ∷ bs) f (i - at) (omega arith)) ∙ ap (λ (n : ℕ). get_or (put s at (b ∷ bs)) n 0) e

pub span_same : (image image' : List ℕ) (offset size : ℕ) → length image' ≡ length image → Fits image offset size → SameIn image image' (record { offset = offset; size = size }) → span image' offset size ≡ span image offset size
span_same image image' offset zero l f s = refl
span_same image image' offset (suc n) l f s =
    let g : offset + suc n ≤ length image = f (omega arith) in
    span_ext image' image offset (suc n) (rw l g) g (λ i h. s (offset + i) (omega arith, omega arith))

histories-same : (image image' : List ℕ) → length image' ≡ length image → (xs : List Node) → ((j : ℕ) → Fits image (region (files_of xs) j).offset (region (files_of xs) j).size) →
    ((j : ℕ) → SameIn image image' (region (files_of xs) j)) → first_histories image' xs ≡ first_histories image xs
unfolding first_histories pick
histories-same image image' l [] f s = refl
histories-same image image' l (file nm offset size ∷ xs) f s =
    rw (span_same image image' offset size l (f 0) (s 0), histories-same image image' l xs (λ j. f (suc j)) (λ j. s (suc j)))
histories-same image image' l (directory nm next ∷ xs) f s = histories-same image image' l xs f s

module _ (image image' : List ℕ) (o : Opened image) (r : DiscRegion) (f : FreeAt image r) (d : OnlyIn image image' r) where
  low_same : (i : ℕ) → i < table_end image → get_or image' i 0 ≡ get_or image i 0
  low_same i h = d.same i (λ g. omega (arith, (f i g).0))

  places_same : (j : ℕ) → SameIn image image' (region (places_in image) j)
  places_same j i h = d.same i (λ g. (f i g).1 j h)

  pub field-same : (at : ℕ) → at + 4 ≤ 0x440 → be32 image' at ≡ be32 image at
  field-same at h = be32-same image' image at (λ i l. low_same (at + i) (omega (arith, o.bounds.after-header)))

  -- LAW: the program, byte for byte
  pub program-free : ProgramKept image image'
  program-free = program-spared image image' o d.len (λ i h. low_same i (omega (arith, o.bounds.after-header))) (λ i h g. low_same i (omega arith)) (places_same 0)

  alike-free : Alike image image'
  alike-free = record {
    len = d.len;
    field = λ at h. field-same at (⊎_elim (λ z. omega arith) (λ z. z.1) h);
    table = λ i h l. low_same i l;
    program = program-free.program;
  }

  -- LAW: the same tree, the same free regions, as many bytes used; and it opens with the same memory
  pub tree_free : nodes_in image' ≡ nodes_in image
  tree_free = tree-same image image' alike-free o

  pub free-free : free_space_of image' ≡ free_space_of image
  free-free = free-same image image' alike-free o

  pub used-free : used_of image' ≡ used_of image
  used-free = total-same image image' alike-free o

  pub opens-free : (w : ℕ) → opening image w ≡ Ok tt → opening image' w ≡ Ok tt
  opens-free = opens-same image image' alike-free o

  -- LAW: every file's bytes
  pub file-free : (k : ℕ) (nm : List ℕ) (offset size : ℕ) → get_or (nodes_in image) k empty_root ≡ file nm offset size → span image' offset size ≡ span image offset size
  file-free k nm offset size e =
      let n : ℕ = files_before k (nodes_in image) in
      let p : region (files_in image) n ≡ record { offset = offset; size = size } = files-at k (nodes_in image) (rw e) ∙ rw e in
      span_same image image' offset size d.len (rw p at (region-fits image o n)) (rw p at (places_same (suc n)))

  -- LAW: the ledger that starts there
  pub ledger-free : first_ledger image' ≡ first_ledger image
  ledger-free = rw (tree_free, histories-same image image' d.len (nodes_in image) (region-fits image o) (λ j. places_same (suc j)))

  -- LAW: what holds after any list of edits holds of it too
  pub kept_free : (w : ℕ) (l : Ledger) → AllBytes image' → Kept w image l → Kept w image' l
  kept_free w l b K = record {
    bytes = b;
    opens = opens-free w K.opens;
    shape = rw tree_free K.shape;
    trues = rw tree_free (trues-same image image' (files_in image) l.histories (λ j. places_same (suc j)) K.trues);
  }

  used-in-free : used_in image' ≡ used_in image
  unfolding used_in regions_behind_table program_in
  used-in-free = rw (tree_free, field-same 0x424 (omega arith), field-same 0x428 (omega arith), program-free.program)

  -- LAW: the same disc, so every edit comes to the same plan, and every test of it says the same
  pub disc-free : disc_of image' ≡ disc_of image
  disc-free =
      let f : fst_offset image' ≡ fst_offset image = field-same 0x424 (omega arith) in
      let g : fst_size image' ≡ fst_size image = field-same 0x428 (omega arith) in
      let m : fst_max_size image' ≡ fst_max_size image = field-same 0x42C (omega arith) in
      let e : disc_end image' ≡ disc_end image = end_same image image' alike-free in
      rw (tree_free, f, g, m, e, used-in-free)
