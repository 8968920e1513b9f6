-- The parts that were read are those of one image: of the one that is seen where its bytes are known, and of one made of them elsewhere.
-- Assumes nothing.
use Prim.Native.Nat.{ℕ, ◌+◌, ◌-◌, ◌<◌, ◌≤◌, ◌^◌, min}
use Rattle.std.specs.Prelude.{Ok, Err, is_err, ◌≡◌, Bool, true, false, cond, ◌&&◌, ltb, leb, List, ◌++◌, length, take, drop, get_or}
use Rattle.std.proofs.Common.{refl, sym, ap, ◌∙◌, arith, ⊎_elim, length-take, length-take-le, get_or-drop, leb-true, ltb-true, ltb-false, lt-ltb, le-ltb, le-leb}
use Rattle.std.proofs.Math.Seq.{get_or-take, take-append_seam, take-length}
use Rattle.std.proofs.lemmas.List.{ext_get_or, get_or_past, take_min}
use Rattle.std.proofs.lemmas.List.FromFn.{length-map-range_with_len, get_or-map-range_with_len}
use Rattle.endian.specs.Bytes.{span, AllBytes}
use Rattle.endian.specs.Laws.Stored.{length-span}
use Rattle.refusal.specs.Refusal.{Verdict, first}
use Rattle.refusal.specs.declared.Refusal.TheVariants.{InvalidBounds}
use Rattle.refusal.specs.Laws.Chains.{refuse-passed, first-passed}
use Rattle.refusal.specs.Laws.Tests.{lt-or-le, and_left, and_right}
use Rattle.header.specs.Verdicts.{header_verdict, bounds_verdict, fst_offset, fst_size, dol_offset, disc_end, table_end}
use Rattle.header.specs.Inner.Bounds.{bounds_within}
use Rattle.opened.specs.declared.parts.Parts.{Parts}
use Rattle.opened.specs.Opening.{table_of}
use Rattle.opened.specs.Inner.Parts.{Heads, ArePartsOf}
use Rattle.opened.proofs.Heads.{start_is, size_is, dol_is, bounds_are}
use Rattle.journaled.specs.Edited.{IsTableTooLong}
use Rattle.journaled.specs.Inner.Behind.{byte_in, program_byte, backing_image, image_behind, IsHeader, IsTable, IsProgram}

-- ---- a byte of the parts

module _ (header table : List ℕ) (k : ℕ) where
  abbrev in_table : Bool
  in_table = leb (fst_offset header) k && ltb (k - fst_offset header) (length table)

  pub byte_in-cases : (read : ℕ) (P : ℕ → Type 0) → (k < length header → P (get_or header k 0)) →
      (fst_offset header ≤ k → k - fst_offset header < length table → P (get_or table (k - fst_offset header) 0)) → P read → P (byte_in header table k read)
  byte_in-cases read P at-head at-table at-rest = go (ltb k (length header)) refl in_table refl
    where
      go : (a : Bool) → ltb k (length header) ≡ a → (b : Bool) → in_table ≡ b → P (cond a (get_or header k 0) (cond b (get_or table (k - fst_offset header) 0) read))
      go true e b q = at-head (ltb-true k (length header) e)
      go false e true q = at-table (leb-true (fst_offset header) k (and_left _ _ q)) (ltb-true (k - fst_offset header) (length table) (and_right _ _ q))
      go false e false q = at-rest

  pub byte_in-header : (read : ℕ) → k < length header → byte_in header table k read ≡ get_or header k 0
  byte_in-header read h = rw (lt-ltb k (length header) h)

  pub byte_in-table : (read i : ℕ) → length header ≤ k → k ≡ fst_offset header + i → i < length table → byte_in header table k read ≡ get_or table i 0
  byte_in-table read i h e l =
      let j : k - fst_offset header ≡ i = omega arith in
      let u : fst_offset header ≤ k = omega arith in
      rw (le-ltb k (length header) h, le-leb (fst_offset header) k u, j, lt-ltb i (length table) l)

  pub byte_in-twice : (read : ℕ) → byte_in header table k (byte_in header table k read) ≡ byte_in header table k read
  byte_in-twice read = go (ltb k (length header)) in_table
    where
      go : (a b : Bool) → cond a (get_or header k 0) (cond b (get_or table (k - fst_offset header) 0) (cond a (get_or header k 0) (cond b (get_or table (k - fst_offset header) 0) read)))
          ≡ cond a (get_or header k 0) (cond b (get_or table (k - fst_offset header) 0) read)
      go true b = refl
      go false true = refl
      go false false = refl

-- ---- the table's place

-- the bounds that a header passed, of an image of that length
pub record Bounds (header : List ℕ) (long : ℕ) : Type 0 where
  pub behind : 0x440 ≤ fst_offset header
  pub inside : fst_offset header + fst_size header ≤ long

pub passed-verdict : (v : Verdict) → is_err v ≡ false → v ≡ Ok tt
passed-verdict (Ok _) e = refl
passed-verdict (Err c) e = let z : ◌≡◌ {A = ℕ} 0 1 = cc in absurd (omega arith)

pub bounds-within : (header : List ℕ) (long : ℕ) → first (header_verdict header) (bounds_within header long) ≡ Ok tt → Bounds header long
unfolding bounds_within
bounds-within header long e =
    let a = refuse-passed (ltb (fst_offset header) 0x440) InvalidBounds _ (first-passed (header_verdict header) _ e).1 in
    let b = refuse-passed (ltb (2 ^ 32 - 1) (disc_end header)) InvalidBounds _ a.1 in
    let c = refuse-passed (ltb (disc_end header) (table_end header)) InvalidBounds _ b.1 in
    let d = refuse-passed (ltb long (disc_end header)) InvalidBounds _ c.1 in
    record {
      behind = ltb-false (fst_offset header) 0x440 a.0;
      inside = omega (arith, ltb-false (disc_end header) (table_end header) c.0, ltb-false long (disc_end header) d.0);
    }

-- the table as the header has it, of an image with that header
table_there : (image header table : List ℕ) (long : ℕ) → Heads image header long → length table ≡ fst_size header → table ≡ span image (fst_offset header) (length table) → table ≡ table_of image
unfolding table_of
table_there image header table long h l e =
    e ∙ ap (λ (n : ℕ). span image (fst_offset header) n) (l ∙ size_is image header long h) ∙ ap (λ (at : ℕ). span image at (fst_size image)) (start_is image header long h)

span-get_or : (s : List ℕ) (at n i : ℕ) → i < n → get_or (span s at n) i 0 ≡ get_or s (at + i) 0
span-get_or s at n i h = get_or-take n (drop at s) i 0 h ∙ get_or-drop at s i 0

-- ---- the image that is seen

module _ (seen header table : List ℕ) (head : header ≡ take 0x440 seen) (there : table ≡ span seen (fst_offset header) (length table)) where
  -- no part has another byte than the image
  pub byte_in-seen : (k : ℕ) → byte_in header table k (get_or seen k 0) ≡ get_or seen k 0
  byte_in-seen k =
      byte_in-cases header table k (get_or seen k 0) (λ b. b ≡ get_or seen k 0)
      (λ h. let l : k < 0x440 = omega (arith, ap length head, length-take 0x440 seen) in rw head (get_or-take 0x440 seen k 0 l))
      (λ h l. let e : fst_offset header + (k - fst_offset header) ≡ k = omega arith in rw there (span-get_or seen (fst_offset header) (length table) (k - fst_offset header) l ∙ ap (λ (j : ℕ). get_or seen j 0) e))
      refl

-- the header of the image that is seen
pub heads : (known : Bool) (seen header : List ℕ) (long : ℕ) → IsHeader known seen header → known ≡ true → long ≡ length seen → Heads seen header long
heads known seen header long h k l = record { start = h.is k; long_is = l }

-- which passed its tests, and gives a table that is longer than what is lent for it
pub too-long : (known : Bool) (seen header : List ℕ) (long room : ℕ) → long ≡ length seen → IsHeader known seen header → known ≡ true →
    first (header_verdict header) (bounds_within header long) ≡ Ok tt → room < fst_size header → IsTableTooLong room seen
too-long known seen header long room l h k passed longer =
    let H : Heads seen header long = heads known seen header long h k l in
    record { passed = sym (bounds_are seen header long H) ∙ passed; longer = omega (arith, longer, size_is seen header long H) }

-- what was read in front of a buffer
pub header-read : (known : Bool) (seen header out : List ℕ) (n : ℕ) → length header ≡ 0x440 → n ≡ min (length seen) 0x440 → length out ≡ length (take n header) →
    (known ≡ true → out ≡ span seen 0 (length (take n header))) → IsHeader known seen (take n (out ++ drop n header))
header-read known seen header out n long e l is =
    let m : length (take n header) ≡ n = length-take-le n header (omega arith) in
    let f : take n (out ++ drop n header) ≡ out = ap (λ (j : ℕ). take j (out ++ drop n header)) (sym (l ∙ m)) ∙ take-append_seam out (drop n header) in
    let q : n ≡ min 0x440 (length seen) = omega (arith, e) in
    record {
      long = rw f (l ∙ m ∙ e);
      is = λ k. rw f (is k ∙ ap (λ (j : ℕ). take j seen) (m ∙ q) ∙ take_min 0x440 seen);
    }

-- ---- the executable's header

module _ (known : Bool) (seen header table read program : List ℕ) (at : ℕ) (head : IsHeader known seen header) (there : IsTable known seen header table) (place : at ≡ dol_offset header)
    (n : ℕ) (whole : n ≡ 0xE4) (same : length program ≡ n) (is : known ≡ true → read ≡ span seen at n)
    (each : (i : ℕ) → i < length program → get_or program i 0 ≡ byte_in header table (at + i) (get_or read i 0)) where
  held : (i : ℕ) → i < length program → get_or program i 0 ≡ byte_in header table (at + i) (get_or program i 0)
  held i h = each i h ∙ sym (byte_in-twice header table (at + i) (get_or read i 0)) ∙ ap (byte_in header table (at + i)) (sym (each i h))

  as-seen : known ≡ true → at + 0xE4 ≤ length seen → program ≡ span seen at 0xE4
  as-seen k fits =
      ext_get_or 0 program (span seen at 0xE4) (omega (arith, length-span seen at 0xE4 fits))
      (λ i h. let l : i < 0xE4 = omega arith in
      let r : get_or read i 0 ≡ get_or seen (at + i) 0 = ap (λ (xs : List ℕ). get_or xs i 0) (rw whole at (is k)) ∙ span-get_or seen at 0xE4 i l in
      each i h ∙ ap (byte_in header table (at + i)) r ∙ byte_in-seen seen header table (head.is k) (there.is k) (at + i) ∙ sym (span-get_or seen at 0xE4 i l))

  pub program-read : IsProgram known seen header table (take 0xE4 program)
  program-read =
      let all : take 0xE4 program ≡ program = ap (λ (m : ℕ). take m program) (sym (same ∙ whole)) ∙ take-length program in
      rw all (record { long = λ _. same ∙ whole; is = λ k. rw (← place) (as-seen k); held = λ i h. rw (← place) (held i h) })

-- ---- the image behind the parts

module _ (known : Bool) (seen : List ℕ) (parts : Parts) (long : parts.length ≡ length seen) (head : IsHeader known seen parts.header.now) (there : IsTable known seen parts.header.now parts.table.now)
    (program : IsProgram known seen parts.header.now parts.table.now parts.program.now) where
  abbrev h : List ℕ
  h = parts.header.now

  abbrev t : List ℕ
  t = parts.table.now

  abbrev p : List ℕ
  p = parts.program.now

  -- ---- the one that is seen

  seen-parts : known ≡ true → AllBytes seen → ArePartsOf seen parts
  seen-parts k bytes =
      let H : Heads seen h parts.length = heads known seen h parts.length head k long in
      record {
        bytes = bytes;
        head = H;
        table_is = λ v. table_there seen h t parts.length H (there.long (rw long at (bounds_are seen h parts.length H ∙ v))) (there.is k);
        program_is = λ fits. let e : dol_offset h ≡ dol_offset seen = dol_is seen h parts.length H in rw (← e) (program.is k (rw e fits));
      }

  -- ---- the one that is made of them

  abbrev made : List ℕ
  made = backing_image parts

  abbrev byte : ℕ → ℕ
  byte k = byte_in h t k (program_byte (dol_offset h) p k)

  length-made : length made ≡ parts.length
  unfolding backing_image
  length-made = length-map-range_with_len byte 0 parts.length

  made-at : (k : ℕ) → k < parts.length → get_or made k 0 ≡ byte k
  unfolding backing_image
  made-at k l = get_or-map-range_with_len byte 0 parts.length k k 0 l (omega arith)

  program_byte-small : AllBytes p → (k : ℕ) → program_byte (dol_offset h) p k < 256
  program_byte-small b k = go (leb (dol_offset h) k)
    where
      go : (c : Bool) → cond c (get_or p (k - dol_offset h) 0) 0 < 256
      go true = b (k - dol_offset h)
      go false = omega arith

  program_byte-at : (i : ℕ) → program_byte (dol_offset h) p (dol_offset h + i) ≡ get_or p i 0
  program_byte-at i =
      let e : dol_offset h + i - dol_offset h ≡ i = omega arith in
      rw (le-leb (dol_offset h) (dol_offset h + i) (omega arith), e)

  made-bytes : AllBytes h → AllBytes t → AllBytes p → AllBytes made
  made-bytes hb tb pb k =
      ⊎_elim (λ l. rw (made-at k l) (byte_in-cases h t k (program_byte (dol_offset h) p k) (λ b. b < 256) (λ _. hb k) (λ _ _. tb (k - fst_offset h)) (program_byte-small pb k)))
      (λ l. rw (get_or_past made k 0 (omega (arith, length-made))) (omega arith)) (lt-or-le k parts.length)

  made-head : Heads made h parts.length
  made-head = record {
    start =
        ext_get_or 0 h (take 0x440 made) (omega (arith, head.long, long, length-made, length-take 0x440 made))
        (λ i l. sym (get_or-take 0x440 made i 0 (omega (arith, head.long)) ∙ made-at i (omega (arith, head.long, long)) ∙ byte_in-header h t i (program_byte (dol_offset h) p i) l));
    long_is = sym length-made;
  }

  made-table : first (header_verdict made) (bounds_verdict made) ≡ Ok tt → t ≡ table_of made
  made-table v =
      let w : first (header_verdict h) (bounds_within h parts.length) ≡ Ok tt = bounds_are made h parts.length made-head ∙ v in
      let b = bounds-within h parts.length w in
      let l : length t ≡ fst_size h = there.long (rw long at w) in
      table_there made h t parts.length made-head l
      (ext_get_or 0 t (span made (fst_offset h) (length t)) (sym (length-span made (fst_offset h) (length t) (omega (arith, length-made, l, b.inside))))
      (λ i q. sym (span-get_or made (fst_offset h) (length t) i q ∙ made-at (fst_offset h + i) (omega (arith, l, b.inside))
      ∙ byte_in-table h t (fst_offset h + i) (program_byte (dol_offset h) p (fst_offset h + i)) i (omega (arith, head.long, b.behind)) refl q)))

  made-program : dol_offset h + 0xE4 ≤ parts.length → p ≡ span made (dol_offset h) 0xE4
  made-program fits =
      let l : length p ≡ 0xE4 = program.long (omega (arith, long)) in
      ext_get_or 0 p (span made (dol_offset h) 0xE4) (l ∙ sym (length-span made (dol_offset h) 0xE4 (omega (arith, length-made))))
      (λ i q. sym (span-get_or made (dol_offset h) 0xE4 i (omega (arith, l)) ∙ made-at (dol_offset h + i) (omega (arith, l)) ∙ ap (byte_in h t (dol_offset h + i)) (program_byte-at i) ∙ sym (program.held i q)))

  made-parts : AllBytes h → AllBytes t → AllBytes p → ArePartsOf made parts
  made-parts hb tb pb = record {
    bytes = made-bytes hb tb pb;
    head = made-head;
    table_is = made-table;
    program_is = λ fits. let e : dol_offset h ≡ dol_offset made = dol_is made h parts.length made-head in rw (← e) (made-program (omega (arith, e, length-made)));
  }

  -- LAW: the parts are those of the image behind them
  pub parts-behind : AllBytes seen → AllBytes h → AllBytes t → AllBytes p → ArePartsOf (image_behind known seen parts) parts
  parts-behind sb hb tb pb = go known refl
    where
      go : (k : Bool) → known ≡ k → ArePartsOf (cond k seen (backing_image parts)) parts
      go true e = seen-parts e sb
      go false e = made-parts hb tb pb
