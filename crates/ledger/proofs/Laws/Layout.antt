-- What an edit does to the layout of the disc: the table ends elsewhere, and one place stands in the stead of another. Assumes nothing.
use Rattle.std.specs.Prelude.{ℕ, zero, suc, ◌+◌, ◌<◌, ◌≤◌, ◌≡◌, refl, Bool, true, false, not, ◌&&◌, ◌||◌, List, [], ◌∷◌, length, set, eqb, is_err}
use Rattle.std.proofs.Common.{sym, ap, ◌∙◌, ⊎_elim, arith, eqb-true, eq-eqb, get_or-set_same, get_or-set_other}
use Rattle.std.proofs.lemmas.Bool.{eqb-false}
use Rattle.refusal.specs.Laws.Tests.{and_left, and_right, and_both, or_cases, or_left, or_right, is_false, never_both, same_test}
use Rattle.header.specs.Verdicts.{fst_offset, fst_size, fst_max_size, disc_end}
use Rattle.tree.specs.Table.{encode}
use Rattle.space.specs.declared.region.DiscRegion.{DiscRegion}
use Rattle.space.specs.Used.{is_inside, is_used, nonempty_regions, total_size, no_region}
use Rattle.space.specs.Inner.Sort.{is_among}
use Rattle.space.specs.Laws.UsedLaws.{is_inside-in, is_inside-high, used-nonempty_regions}
use Rattle.space.specs.Laws.LayoutLaws.{is_inside-from, is_inside-to}
use Rattle.space.specs.Laws.TotalLaws.{total-nonempty_regions}
use Rattle.space.specs.Laws.LargestLaws.{Exchanged}
use Rattle.executable.specs.Program.{program_of, program_behind}
use Rattle.opened.specs.Opening.{table_of}
use Rattle.edit_rules.specs.Change.{Plan, refused, nothing, change, filled}
use Rattle.ledger.proofs.Laws.Files.{files_in, places_in}
use Rattle.ledger.proofs.Laws.Apart.{Has, region, Apart, some-used, used-some}
use Rattle.ledger.proofs.Laws.Alike.{Alike, start-same, size_same, end_same, table_same, tree-same}
use Rattle.ledger.proofs.Laws.Opened.{Opened}
use Rattle.ledger.proofs.Laws.ProgramKept.{same_place}
use Rattle.space.specs.Laws.SizeLaws.{total_size-cons}

-- the table then has that size, its stated maximum is as it was, and of what lies behind it `new` stands in the place of `old`
pub record LaidOut (image image' : List ℕ) (size : ℕ) (old new : DiscRegion) : Type 0 where
  pub end : disc_end image' ≡ disc_end image
  pub start : fst_offset image' ≡ fst_offset image
  pub table : fst_size image' ≡ size
  pub maximum : fst_max_size image' ≡ fst_max_size image
  pub fits : fst_offset image + size ≤ disc_end image
  pub clear : (i : ℕ) → is_used (places_in image) i ≡ true → fst_offset image + size ≤ i
  pub held : 0 < old.size → is_among old (places_in image) ≡ true
  pub places : Exchanged (places_in image) (places_in image') old new

-- the image afterwards has the layout of the plan: one that is refused has none, and one that writes no table leaves it byte for byte
abbrev pub Lays : Plan → List ℕ → List ℕ → Type 0
Lays (refused v) image image' = is_err v ≡ true
Lays nothing image image' = LaidOut image image' (fst_size image) no_region no_region × (table_of image' ≡ table_of image)
Lays (change k c) image image' = LaidOut image image' (length (encode c.nodes)) c.old c.place
Lays (filled k clip p) image image' = Lays p image image'

-- ---- no place is changed

exchanged-none : (fs fs' : List DiscRegion) → nonempty_regions fs' ≡ nonempty_regions fs → Exchanged fs fs' no_region no_region
exchanged-none fs fs' e = record {
  total = let z : total_size fs' ≡ total_size fs = sym (total-nonempty_regions fs') ∙ ap total_size e ∙ total-nonempty_regions fs in omega arith;
  bytes = λ i. sym (used-nonempty_regions fs' i) ∙ ap (λ (xs : List DiscRegion). is_used xs i) e ∙ used-nonempty_regions fs i ∙ none i (is_used fs i);
}
  where
    none : (i : ℕ) (u : Bool) → u ≡ (is_inside no_region i || (u && not (is_inside no_region i)))
    none i true = rw (is_inside-high no_region i (omega arith))
    none i false = rw (is_inside-high no_region i (omega arith))

-- ---- one place is changed

total-set : (fs : List DiscRegion) (r : ℕ) (y : DiscRegion) → r < length fs → total_size (set fs r y) + (region fs r).size ≡ total_size fs + y.size
total-set [] r y h = absurd (omega arith)
total-set (x ∷ fs) zero y h = omega (arith, total_size-cons y fs, total_size-cons x fs)
total-set (x ∷ fs) (suc r) y h = omega (arith, total-set fs r y (omega arith), total_size-cons x (set fs r y), total_size-cons x fs)

pub holds_at : (fs : List DiscRegion) (r : ℕ) → r < length fs → is_among (region fs r) fs ≡ true
unfolding is_among
holds_at [] r h = absurd (omega arith)
holds_at (x ∷ fs) zero h = rw (eq-eqb x.offset x.offset refl, eq-eqb x.size x.size refl)
holds_at (x ∷ fs) (suc r) h = or_right (eqb x.offset (region fs r).offset && eqb x.size (region fs r).size) (is_among (region fs r) fs) (holds_at fs r (omega arith))

module _ (t e : ℕ) (fs : List DiscRegion) (a : Apart t e fs) (r : ℕ) (y : DiscRegion) (inb : r < length fs) where
  -- a byte of the changed list
  to-old : (i : ℕ) → is_used (set fs r y) i ≡ true → (is_inside y i || (is_used fs i && not (is_inside (region fs r) i))) ≡ true
  to-old i u = let s = used-some (set fs r y) i u in go s.0 s.1 (eqb s.0 r) refl
    where
      go : (k : ℕ) → Has (region (set fs r y) k) i → (b : Bool) → eqb k r ≡ b → (is_inside y i || (is_used fs i && not (is_inside (region fs r) i))) ≡ true
      go k h true q =
          let z : k ≡ r = eqb-true k r q in
          let g : Has y i = rw (get_or-set_same fs r y no_region inb) at (rw z at h) in
          or_left (is_inside y i) _ (is_inside-in y i g.0 g.1)
      go k h false q =
          let d : k ≡ r → ⊥ = eqb-false k r q in
          let g : Has (region fs k) i = rw (get_or-set_other fs r k y no_region d) at h in
          let o : is_inside (region fs r) i ≡ false = is_false (is_inside (region fs r) i) (λ v. d (a.apart k r i g (is_inside-from (region fs r) i v, is_inside-to (region fs r) i v))) in
          or_right (is_inside y i) _ (and_both (is_used fs i) (not (is_inside (region fs r) i)) (some-used fs k i g) (rw o))

  to-new : (i : ℕ) → (is_inside y i || (is_used fs i && not (is_inside (region fs r) i))) ≡ true → is_used (set fs r y) i ≡ true
  to-new i u =
      ⊎_elim (λ v. some-used (set fs r y) r i (rw (get_or-set_same fs r y no_region inb) (is_inside-from y i v, is_inside-to y i v)))
      (λ v. let s = used-some fs i (and_left (is_used fs i) _ v) in go s.0 s.1 (and_right (is_used fs i) _ v) (eqb s.0 r) refl) (or_cases (is_inside y i) _ u)
    where
      go : (k : ℕ) → Has (region fs k) i → not (is_inside (region fs r) i) ≡ true → (b : Bool) → eqb k r ≡ b → is_used (set fs r y) i ≡ true
      go k h n true q =
          let z : k ≡ r = eqb-true k r q in
          let g : Has (region fs r) i = rw z at h in
          let v : not (is_inside (region fs r) i) ≡ false = rw (is_inside-in (region fs r) i g.0 g.1) in
          absurd (never_both (not (is_inside (region fs r) i)) n v)
      go k h n false q = some-used (set fs r y) k i (rw (get_or-set_other fs r k y no_region (eqb-false k r q)) h)

  pub exchanged-set : Exchanged fs (set fs r y) (region fs r) y
  exchanged-set = record { total = total-set fs r y inb; bytes = λ i. same_test (is_used (set fs r y) i) _ (to-old i) (to-new i) }

-- ---- of images

module _ (image image' : List ℕ) (end : disc_end image' ≡ disc_end image) (start : fst_offset image' ≡ fst_offset image) (program : program_of image' ≡ program_of image) where
  -- what lies behind the table
  pub places-are : (fs : List DiscRegion) → files_in image' ≡ fs → places_in image' ≡ program_behind image ∷ fs
  places-are fs e = rw (start, same_place image image' program, e)

  module _ (size : ℕ) (table : fst_size image' ≡ size) (maximum : fst_max_size image' ≡ fst_max_size image) (fits : fst_offset image + size ≤ disc_end image) (clear : (k i : ℕ) → Has (region (places_in image) k) i → fst_offset image + size ≤ i) where
    clear_of : (i : ℕ) → is_used (places_in image) i ≡ true → fst_offset image + size ≤ i
    clear_of i u = let s = used-some (places_in image) i u in clear s.0 i s.1

    -- LAW: the files' bytes are the same
    pub laid_same : nonempty_regions (files_in image') ≡ nonempty_regions (files_in image) → LaidOut image image' size no_region no_region
    laid_same e = record {
      end = end;
      start = start;
      table = table;
      maximum = maximum;
      fits = fits;
      clear = clear_of;
      held = λ h. absurd (omega arith);
      places = rw (places-are (files_in image') refl) (exchanged-none (places_in image) (program_behind image ∷ files_in image') (unfold nonempty_regions in rw e));
    }

    -- LAW: the r-th place is another
    pub laid-place : Opened image → (r : ℕ) (new : DiscRegion) → r < length (files_in image) → files_in image' ≡ set (files_in image) r new → LaidOut image image' size (region (files_in image) r) new
    laid-place o r new h e = record {
      end = end;
      start = start;
      table = table;
      maximum = maximum;
      fits = fits;
      clear = clear_of;
      held = λ z. holds_at (places_in image) (suc r) (omega arith);
      places = rw (places-are (set (files_in image) r new) e) (exchanged-set _ _ (places_in image) o.places (suc r) new (omega arith));
    }

-- ---- another image that opens alike

module _ (image image' image'' : List ℕ) (o : Opened image') (a : Alike image' image'') (m : fst_max_size image'' ≡ fst_max_size image') where
  laid-out-on : (size : ℕ) (old new : DiscRegion) → LaidOut image image' size old new → LaidOut image image'' size old new
  laid-out-on size old new l = record {
    end = end_same image' image'' a ∙ l.end;
    start = start-same image' image'' a ∙ l.start;
    table = size_same image' image'' a ∙ l.table;
    maximum = m ∙ l.maximum;
    fits = l.fits;
    clear = l.clear;
    held = l.held;
    places = rw (places-are image' image'' (end_same image' image'' a) (start-same image' image'' a) a.program (files_in image') (rw (tree-same image' image'' a o))) l.places;
  }

  -- LAW: what does not touch header, table and program leaves the layout as it is
  pub laid_on : (p : Plan) → Lays p image image' → Lays p image image''
  laid_on (refused v) l = l
  laid_on nothing l = (laid-out-on (fst_size image) no_region no_region l.0, table_same image' image'' a o ∙ l.1)
  laid_on (change k c) l = laid-out-on (length (encode c.nodes)) c.old c.place l
  laid_on (filled k clip p) l = laid_on p l
