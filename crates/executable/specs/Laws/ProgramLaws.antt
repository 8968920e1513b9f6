-- What an accepted program is: its offset, its least length, and where its own region is; and that it is its bytes: the same header in another
-- image of the same length is the same program. Assumes nothing.
use Rattle.refusal.specs.Refusal.{Verdict}
use Rattle.std.specs.Prelude.{ℕ, ◌+◌, ◌<◌, ◌≤◌, ◌≡◌, refl, ◌⊎◌, Bool, true, false, cond, List, length, get_or, leb, eqb, Ok, Err}
use Rattle.std.proofs.Math.Path.{ap}
use Rattle.std.proofs.Common.{inl, inr, arith}
use borrow.Author.Tests.{leb-true, eqb-true, eqb-false, eq-eqb, ne_eqb}
use Rattle.endian.specs.Laws.Stored.{Same}
use Rattle.refusal.specs.Laws.Tests.{and_left, and_right}
use Rattle.header.specs.Verdicts.{dol_offset}
use Rattle.space.specs.declared.region.DiscRegion.{DiscRegion}
use Rattle.space.specs.Used.{end_of, no_region}
use Rattle.executable.specs.Dol.{dol_header_of, file_size_of, dol_verdict_of}
use Rattle.executable.specs.Laws.DolFacts.{header-same}
use Rattle.executable.specs.Program.{program_from, program_of, program_verdict, program_in, is_before_table, own_region}

-- ---- accepted: there is none, or it lies at the DOL offset

pub data Accepted (image : List ℕ) : Type 0 where
  absent : dol_offset image ≡ 0 → program_in image ≡ no_region → Accepted image
  present : (dol_offset image ≡ 0 → ⊥) → dol_verdict_of image (dol_offset image) ≡ Ok tt → program_in image ≡ program_from image (dol_offset image) → Accepted image

pub accepted : (image : List ℕ) → program_verdict (program_of image) ≡ Ok tt → Accepted image
unfolding program_of program_in
accepted image p = go (eqb (dol_offset image) 0) refl (dol_verdict_of image (dol_offset image)) refl
  where
    go : (z : Bool) → eqb (dol_offset image) 0 ≡ z → (v : Verdict) → dol_verdict_of image (dol_offset image) ≡ v → Accepted image
    go true e v f = absent (eqb-true (dol_offset image) 0 e) (rw e)
    go false e (Ok _) f = present (eqb-false (dol_offset image) 0 e) f (rw (e, f))
    go false e (Err c) f = let q : Err c ≡ Ok tt = rw (e, f) at p in let z : ◌≡◌ {A = ℕ} 0 1 = cc in absurd (omega arith)

-- ---- its own region: none where it lies before the table, and else the whole of it

pub own-cases : (fst : ℕ) (r : DiscRegion) → ((0x440 ≤ r.offset) × (end_of r ≤ fst) × (own_region fst r ≡ no_region)) ⊎ (own_region fst r ≡ r)
unfolding own_region
own-cases fst r = go (is_before_table fst r) refl
  where
    go : (b : Bool) → is_before_table fst r ≡ b → ((0x440 ≤ r.offset) × (end_of r ≤ fst) × (cond b no_region r ≡ no_region)) ⊎ (cond b no_region r ≡ r)
    go true e = inl (leb-true _ _ (and_left (leb 0x440 r.offset) (leb (end_of r) fst) e), leb-true _ _ (and_right (leb 0x440 r.offset) (leb (end_of r) fst) e), refl)
    go false e = inr refl

-- ---- a program is its bytes

module _ (image image' : List ℕ) (len : length image' ≡ length image) (at : dol_offset image' ≡ dol_offset image) where
  none-same : dol_offset image ≡ 0 → program_of image' ≡ program_of image
  unfolding program_of
  none-same z = rw (at, eq-eqb (dol_offset image) 0 z)

  some_same : (dol_offset image ≡ 0 → ⊥) → Same image' image (dol_offset image) 0xE4 → program_of image' ≡ program_of image
  unfolding program_of
  some_same z h =
      let e : file_size_of (dol_header_of image' (dol_offset image)) ≡ file_size_of (dol_header_of image (dol_offset image)) = ap file_size_of (header-same image' image (dol_offset image) h) in
      rw (at, ne_eqb (dol_offset image) 0 z, len, e)

  -- LAW: where its bytes are the same, the program is
  pub program-same : program_verdict (program_of image) ≡ Ok tt → ((i : ℕ) → (program_in image).offset ≤ i → i < end_of (program_in image) → get_or image' i 0 ≡ get_or image i 0) → program_of image' ≡ program_of image
  program-same p h = go (accepted image p)
    where
      go : Accepted image → program_of image' ≡ program_of image
      go (absent z e) = none-same z
      go (present z v e) = some_same z (λ i l. h (dol_offset image + i) (rw e (omega arith)) (rw e (omega arith)))
