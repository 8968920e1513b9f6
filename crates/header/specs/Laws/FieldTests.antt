-- What the tests of a field answer; what a header that passes is, and what passes. Assumes nothing.
use Rattle.std.specs.Prelude.{Ok, Err}
use Prim.Native.Nat.{ℕ, zero, suc, ◌+◌, ◌-◌, ◌^◌, ◌<◌, ◌≤◌}
use Rattle.std.specs.Prelude.{◌≡◌, Bool, true, false, ◌&&◌, ◌||◌, not, eqb, ltb, leb, length}
use Rattle.std.proofs.Math.Path.{refl}
use mathlib.Core.List.{List, [], ◌∷◌}
use native.Mathlib.Omega.{arith}
use borrow.Author.Tests.{leb-true, ltb-false, eqb-true, eqb-false, not-false, le-ltb, lt-ltb, eq-eqb, ne_eqb}
use Rattle.endian.specs.Bytes.{be32}
use Rattle.refusal.specs.declared.Refusal.TheVariants.{HeaderPastImage, WiiNotSupported, InvalidMagic, InvalidBounds}
use Rattle.refusal.specs.Refusal.{refuse}
use Rattle.refusal.specs.Laws.Chains.{refuse-passed, first-passed}
use Rattle.header.specs.declared.fields.Field.{Field}
use Rattle.header.specs.Fields.{fields}
use Rattle.header.specs.Inner.Judged.{field_at, nth}
use Rattle.header.specs.Laws.Tiling.{fields-count, every-at}
use Rattle.header.specs.Verdicts.{gcn_magic, wii_magic, word_of, field_verdict, all_fields_verdict, header_verdict, fst_offset, fst_size, user_size, disc_size, disc_end, table_end, bounds_verdict}
use Rattle.header.specs.Inner.Judged.{IsJudged}

-- LAW: the places that the header gives are judged by four fields and the image's length: not by the FST maximum
pub bounds-same : (image image' : List ℕ) → length image' ≡ length image → fst_offset image' ≡ fst_offset image → fst_size image' ≡ fst_size image → user_size image' ≡ user_size image → disc_size image' ≡ disc_size image →
    bounds_verdict image' ≡ bounds_verdict image
unfolding bounds_verdict
bounds-same image image' len start size user disc = rw (len, start, size, user, disc)

word_at : ℕ → Field → Bool
word_at at f = not (eqb f.at at) || eqb f.len 4

word-at : (at : ℕ) (f : Field) → word_at at f ≡ true → f.at ≡ at → f.len ≡ 4
unfolding word_at
word-at at f e o = eqb-true f.len 4 (rw (eq-eqb f.at at o) at e)

pub judged : (k : ℕ) → k < 21 → IsJudged (field_at k)
unfolding fields word_at
judged k h = record {
  inside = leb-true ((field_at k).at + (field_at k).len) 0x440 (every-at (λ f. leb (f.at + f.len) 0x440) fields refl k h);
  wii = word-at 0x18 (field_at k) (every-at (word_at 0x18) fields refl k h);
  gcn = word-at 0x1C (field_at k) (every-at (word_at 0x1C) fields refl k h);
}

-- ---- what the tests of a field answer, case by case

module _ (image : List ℕ) (f : Field) where
  pub past : length image < f.at + f.len → field_verdict image f ≡ Err HeaderPastImage
  unfolding field_verdict
  past h = rw (lt-ltb (length image) (f.at + f.len) h)

  module _ (fits : f.at + f.len ≤ length image) where
    pub wii : f.at ≡ 0x18 → word_of f image ≡ wii_magic → field_verdict image f ≡ Err WiiNotSupported
    unfolding field_verdict
    wii o m = rw (le-ltb (length image) (f.at + f.len) fits, eq-eqb f.at 0x18 o, eq-eqb (word_of f image) wii_magic m)

    pub other_word : f.at ≡ 0x18 → (word_of f image ≡ wii_magic → ⊥) → field_verdict image f ≡ Ok tt
    unfolding field_verdict
    other_word o m =
        let g : f.at ≡ 0x1C → ⊥ = λ e. omega arith in
        rw (le-ltb (length image) (f.at + f.len) fits, eq-eqb f.at 0x18 o, ne_eqb (word_of f image) wii_magic m, ne_eqb f.at 0x1C g)

    pub gcn : f.at ≡ 0x1C → word_of f image ≡ gcn_magic → field_verdict image f ≡ Ok tt
    unfolding field_verdict
    gcn o m =
        let g : f.at ≡ 0x18 → ⊥ = λ e. omega arith in
        rw (le-ltb (length image) (f.at + f.len) fits, ne_eqb f.at 0x18 g, eq-eqb f.at 0x1C o, eq-eqb (word_of f image) gcn_magic m)

    pub not-gcn : f.at ≡ 0x1C → (word_of f image ≡ gcn_magic → ⊥) → field_verdict image f ≡ Err InvalidMagic
    unfolding field_verdict
    not-gcn o m =
        let g : f.at ≡ 0x18 → ⊥ = λ e. omega arith in
        rw (le-ltb (length image) (f.at + f.len) fits, ne_eqb f.at 0x18 g, eq-eqb f.at 0x1C o, ne_eqb (word_of f image) gcn_magic m)

    pub no-magic : (f.at ≡ 0x18 → ⊥) → (f.at ≡ 0x1C → ⊥) → field_verdict image f ≡ Ok tt
    unfolding field_verdict
    no-magic a b = rw (le-ltb (length image) (f.at + f.len) fits, ne_eqb f.at 0x18 a, ne_eqb f.at 0x1C b)

-- ---- what a header that passes is, and what passes

pub record GoodHeader (image : List ℕ) : Type 0 where
  pub whole : 0x440 ≤ length image
  pub not-wii : be32 image 0x18 ≡ wii_magic → ⊥
  pub is-gcn : be32 image 0x1C ≡ gcn_magic

-- a field that passes
module _ (image : List ℕ) (f : Field) (e : field_verdict image f ≡ Ok tt) where
  held : f.at + f.len ≤ length image
  unfolding field_verdict
  held = ltb-false (length image) (f.at + f.len) (refuse-passed (ltb (length image) (f.at + f.len)) HeaderPastImage _ e).0

  word-passed : (refuse (eqb f.at 0x18 && eqb (word_of f image) wii_magic) WiiNotSupported (refuse (eqb f.at 0x1C && not (eqb (word_of f image) gcn_magic)) InvalidMagic (Ok tt))) ≡ Ok tt
  unfolding field_verdict
  word-passed = (refuse-passed (ltb (length image) (f.at + f.len)) HeaderPastImage _ e).1

  no-wii : f.at ≡ 0x18 → word_of f image ≡ wii_magic → ⊥
  no-wii o m =
      let t = (refuse-passed (eqb f.at 0x18 && eqb (word_of f image) wii_magic) WiiNotSupported _ word-passed).0 in
      let u : true ≡ false = rw (eq-eqb f.at 0x18 o, eq-eqb (word_of f image) wii_magic m) at t in
      let z : ◌≡◌ {A = ℕ} 0 1 = cc in omega arith

  a-gcn : f.at ≡ 0x1C → word_of f image ≡ gcn_magic
  a-gcn o =
      let w = (refuse-passed (eqb f.at 0x18 && eqb (word_of f image) wii_magic) WiiNotSupported _ word-passed).1 in
      let t = (refuse-passed (eqb f.at 0x1C && not (eqb (word_of f image) gcn_magic)) InvalidMagic _ w).0 in
      eqb-true (word_of f image) gcn_magic (not-false (eqb (word_of f image) gcn_magic) (rw (eq-eqb f.at 0x1C o) at t))

module _ (image : List ℕ) where
  each-passed : (fs : List Field) → all_fields_verdict image fs ≡ Ok tt → (k : ℕ) → k < length fs → field_verdict image (nth fs k) ≡ Ok tt
  unfolding all_fields_verdict
  each-passed [] e k h = absurd (omega arith)
  each-passed (f ∷ fs) e zero h = (first-passed (field_verdict image f) (all_fields_verdict image fs) e).0
  each-passed (f ∷ fs) e (suc k) h = each-passed fs (first-passed (field_verdict image f) (all_fields_verdict image fs) e).1 k (omega arith)

  all_pass : (fs : List Field) → ((k : ℕ) → k < length fs → field_verdict image (nth fs k) ≡ Ok tt) → all_fields_verdict image fs ≡ Ok tt
  unfolding all_fields_verdict
  all_pass [] p = refl
  all_pass (f ∷ fs) p = rw (p 0 (omega arith)) (all_pass fs (λ k h. p (suc k) (omega arith)))

  pub header-passed : header_verdict image ≡ Ok tt → GoodHeader image
  unfolding header_verdict fields
  header-passed e = record {
    whole = held image (field_at 20) (each-passed fields e 20 (omega arith));
    not-wii = no-wii image (field_at 7) (each-passed fields e 7 (omega arith)) refl;
    is-gcn = a-gcn image (field_at 8) (each-passed fields e 8 (omega arith)) refl;
  }

  good-field : (f : Field) → IsJudged f → GoodHeader image → field_verdict image f ≡ Ok tt
  good-field f j g = go (eqb f.at 0x18) refl (eqb f.at 0x1C) refl
    where
      fits : f.at + f.len ≤ length image
      fits = omega (arith, j.inside, g.whole)

      go : (s : Bool) → eqb f.at 0x18 ≡ s → (t : Bool) → eqb f.at 0x1C ≡ t → field_verdict image f ≡ Ok tt
      go true a t b = let o : f.at ≡ 0x18 = eqb-true f.at 0x18 a in other_word image f fits o (λ m. g.not-wii (rw o at m))
      go false a true b = let o : f.at ≡ 0x1C = eqb-true f.at 0x1C b in gcn image f fits o (rw o g.is-gcn)
      go false a false b = no-magic image f fits (eqb-false f.at 0x18 a) (eqb-false f.at 0x1C b)

  pub header-passes : GoodHeader image → header_verdict image ≡ Ok tt
  unfolding header_verdict
  header-passes g = all_pass fields (λ k h. good-field (field_at k) (judged k (rw fields-count at h)) g)

  -- ---- the places that the header gives

  pub record Bounded : Type 0 where
    pub after-header : 0x440 ≤ fst_offset image
    pub small : disc_end image ≤ 2 ^ 32 - 1
    pub table : table_end image ≤ disc_end image
    pub image_holds : disc_end image ≤ length image

  pub bounds-passed : bounds_verdict image ≡ Ok tt → Bounded
  unfolding bounds_verdict
  bounds-passed e =
      let a = refuse-passed (ltb (fst_offset image) 0x440) InvalidBounds _ e in
      let b = refuse-passed (ltb (2 ^ 32 - 1) (disc_end image)) InvalidBounds _ a.1 in
      let c = refuse-passed (ltb (disc_end image) (table_end image)) InvalidBounds _ b.1 in
      let d = refuse-passed (ltb (length image) (disc_end image)) InvalidBounds _ c.1 in
      record {
        after-header = ltb-false (fst_offset image) 0x440 a.0;
        small = ltb-false (2 ^ 32 - 1) (disc_end image) b.0;
        table = ltb-false (disc_end image) (table_end image) c.0;
        image_holds = ltb-false (length image) (disc_end image) d.0;
      }

  pub bounds-pass : Bounded → bounds_verdict image ≡ Ok tt
  unfolding bounds_verdict
  bounds-pass b =
      rw (le-ltb (fst_offset image) 0x440 b.after-header, le-ltb (2 ^ 32 - 1) (disc_end image) b.small, le-ltb (disc_end image) (table_end image) b.table, le-ltb (length image) (disc_end image) b.image_holds)
