-- Steps that are done in part, and done again. Assumes nothing.
use Rattle.std.proofs.Common.{◌≡◌, ◌⊎◌, inl, inr, ⊎_elim, ℕ, zero, suc, ◌+◌, ◌≤◌, ◌<◌, ◌==◌, true, List, [], ◌∷◌, length, get_or, drop, replicate, refl, sym, ◌∙◌, ap, arith, ext_get_or}
use Rattle.std.proofs.lemmas.Bool.{and_parts, cond_both, eqb-false}
use Rattle.std.proofs.lemmas.List.{length-replicate, nil_from_length, drop_more}
use Rattle.std.proofs.Math.ListN.{drop_of_length-le}
use Rattle.endian.specs.Bytes.{put, span}
use Rattle.endian.specs.Laws.Stored.{length-span, put-none}
use Rattle.journal.specs.declared.plan.Step.{Step}
use Rattle.journal.specs.Journal.{after, write_of, writes_of, step_fits, steps_fit}
use Rattle.journal.specs.Disk.{Disk, Torn, TearsImage}
use Rattle.journal.specs.Inner.Carried.{IsCovered, LooseBytes, Loose}
use Rattle.journal.proofs.Torn.{put-torn}
use Rattle.journal.proofs.Fitting.{step_fits-place}
use Rattle.journal.proofs.Copies.{cases_in, put_within}

-- as many bytes as the step says
pub length-write_of : (journal : List ℕ) (long : ℕ) (s : Step) → step_fits journal long s ≡ true → length (write_of journal s).bytes ≡ s.len
length-write_of journal long s fits =
    cond_both (s.from == 0) (replicate s.len 0) (span journal s.from s.len) (λ (bs : List ℕ). length bs ≡ s.len) (λ e. length-replicate s.len 0)
    (λ e. ⊎_elim
    (λ (none : s.len ≡ 0). rw none refl)
    (λ place. ⊎_elim (λ zeros. absurd (eqb-false s.from 0 e zeros)) (λ held. length-span journal s.from s.len held.1) place.1)
    (step_fits-place journal long s fits))

-- where it says none there is none
pub write_of_none : (journal : List ℕ) (long : ℕ) (s : Step) → step_fits journal long s ≡ true → s.len ≡ 0 → (write_of journal s).bytes ≡ []
write_of_none journal long s fits none = nil_from_length (write_of journal s).bytes (length-write_of journal long s fits ∙ none)

-- one step done
abbrev one : List ℕ → List ℕ → Step → List ℕ
one journal image s = put image s.at (write_of journal s).bytes

module _ (journal image : List ℕ) (s : Step) (fits : step_fits journal (length image) s ≡ true) where
  pub one-torn : Torn s.at s.len image (one journal image s)
  one-torn =
      let long = length-write_of journal (length image) s fits in
      ⊎_elim
      (λ (none : s.len ≡ 0). rw (write_of_none journal (length image) s fits none, put-none image s.at)
      (record { same_length = refl; below = λ i lt. refl; above = λ i le. refl }))
      (λ place. rw long at (put-torn image s.at (write_of journal s).bytes (rw long place.0.0)))
      (step_fits-place journal (length image) s fits)

  one-inside : (image' : List ℕ) → length image' ≡ length image → (i : ℕ) → s.at ≤ i → i < s.at + s.len
      → get_or (one journal image' s) i 0 ≡ get_or (one journal image s) i 0
  one-inside image' same i le lt =
      let long = length-write_of journal (length image) s fits in
      ⊎_elim
      (λ none. absurd (omega arith))
      (λ place. put_within image' s.at (write_of journal s).bytes (omega (arith, long, same, place.0.0)) i le (omega (arith, long))
      ∙ sym (put_within image s.at (write_of journal s).bytes (omega (arith, long, place.0.0)) i le (omega (arith, long))))
      (step_fits-place journal (length image) s fits)

-- an image on which steps are done in part is after them what the image itself is
pub after_again : (journal image image' : List ℕ) (steps : List Step) → steps_fit journal (length image) steps ≡ true → LooseBytes steps image image'
    → after (writes_of journal steps) image' ≡ after (writes_of journal steps) image
unfolding after writes_of steps_fit
after_again journal image image' [] fits loose =
    ext_get_or 0 image' image loose.same_length (λ i lt. ⊎_elim (λ same. same) (λ none. absurd none) (loose.each i))
after_again journal image image' (s ∷ steps) fits loose =
    let p = and_parts (step_fits journal (length image) s) (steps_fit journal (length image) steps) fits in
    let old = one-torn journal image s p.0 in
    let new = one-torn journal image' s (rw loose.same_length p.0) in
    after_again journal (one journal image s) (one journal image' s) steps (rw old.same_length p.1) (record {
      same_length = new.same_length ∙ loose.same_length ∙ sym old.same_length;
      each = λ i. ⊎_elim
          (λ inside. inl (one-inside journal image s p.0 image' loose.same_length i inside.0 inside.1))
          (λ out. ⊎_elim
          (λ same. inl (⊎_elim (new.below i) (new.above i) out ∙ same ∙ sym (⊎_elim (old.below i) (old.above i) out)))
          (⊎_elim (λ inside. absurd (not_both s.at s.len i inside.0 inside.1 out)) (λ covered. inr covered))
          (loose.each i))
          (cases_in s.at s.len i);
    })
  where
    not_both : (at n i : ℕ) → at ≤ i → i < at + n → (i < at) ⊎ (at + n ≤ i) → ⊥
    not_both at n i le lt (inl before) = omega arith
    not_both at n i le lt (inr past) = omega arith

-- all of the steps done is a way of having done them in part
pub after-loose : (journal image : List ℕ) (steps : List Step) → steps_fit journal (length image) steps ≡ true
    → LooseBytes steps image (after (writes_of journal steps) image)
unfolding after writes_of steps_fit
after-loose journal image [] fits = record { same_length = refl; each = λ i. inl refl }
after-loose journal image (s ∷ steps) fits =
    let p = and_parts (step_fits journal (length image) s) (steps_fit journal (length image) steps) fits in
    let torn = one-torn journal image s p.0 in
    let rest = after-loose journal (one journal image s) steps (rw torn.same_length p.1) in
    record {
      same_length = rest.same_length ∙ torn.same_length;
      each = λ i. ⊎_elim
          (λ inside. inr (inl inside))
          (λ out. ⊎_elim (λ same. inl (same ∙ ⊎_elim (torn.below i) (torn.above i) out)) (λ covered. inr (inr covered)) (rest.each i))
          (cases_in s.at s.len i);
    }

pub after_twice : (journal image : List ℕ) (steps : List Step) → steps_fit journal (length image) steps ≡ true
    → after (writes_of journal steps) (after (writes_of journal steps) image) ≡ after (writes_of journal steps) image
after_twice journal image steps fits = after_again journal image (after (writes_of journal steps) image) steps fits (after-loose journal image steps fits)

pub length-after : (journal image : List ℕ) (steps : List Step) → steps_fit journal (length image) steps ≡ true
    → length (after (writes_of journal steps) image) ≡ length image
length-after journal image steps fits = (after-loose journal image steps fits).same_length

pub loose_refl : (steps : List Step) (d : Disk) → Loose steps d d
loose_refl steps d = record { image = record { same_length = refl; each = λ i. inl refl }; journal = refl; record_text = refl }

pub loose_trans : (steps : List Step) (b c d : Disk) → Loose steps b c → Loose steps c d → Loose steps b d
loose_trans steps b c d first second = record {
  image = record {
    same_length = second.image.same_length ∙ first.image.same_length;
    each = λ i. ⊎_elim (λ same. ⊎_elim (λ was. inl (same ∙ was)) (λ covered. inr covered) (first.image.each i)) (λ covered. inr covered) (second.image.each i);
  };
  journal = second.journal ∙ first.journal;
  record_text = second.record_text ∙ first.record_text;
}

-- ---- the step with a number among them

module _ (steps : List Step) (k : ℕ) (other : Step) (lt : k < length steps) where
  abbrev x : Step
  x = get_or steps k other

  -- cut short, it is one of the steps done in part
  pub torn-loose : (c d : Disk) → TearsImage x.at x.len c d → Loose steps c d
  torn-loose c d torn = record {
    image = record {
      same_length = torn.image.same_length;
      each = λ i. ⊎_elim (λ inside. inr (covered_at steps k lt i inside.0 inside.1))
          (λ out. inl (⊎_elim (torn.image.below i) (torn.image.above i) out)) (cases_in x.at x.len i);
    };
    journal = torn.journal;
    record_text = torn.record_text;
  }
    where
      covered_at : (steps : List Step) (k : ℕ) → k < length steps → (i : ℕ) → (get_or steps k other).at ≤ i
          → i < (get_or steps k other).at + (get_or steps k other).len → IsCovered steps i
      covered_at [] k lt i from to = absurd (omega arith)
      covered_at (y ∷ steps) zero lt i from to = inl (from, to)
      covered_at (y ∷ steps) (suc k) lt i from to = inr (covered_at steps k (omega arith) i from to)

  next : drop k steps ≡ x ∷ drop (k + 1) steps
  next = drop_more steps k other lt

  -- it fits, and so do those behind it
  pub fit-next : (journal : List ℕ) (long : ℕ) → steps_fit journal long (drop k steps) ≡ true
      → (step_fits journal long x ≡ true) × (steps_fit journal long (drop (k + 1) steps) ≡ true)
  unfolding steps_fit
  fit-next journal long fits = and_parts (step_fits journal long x) (steps_fit journal long (drop (k + 1) steps))
      (sym (ap (steps_fit journal long) next) ∙ fits)

  -- those behind it make of the image after it what it and they make
  pub after-next : (journal image whole : List ℕ) → after (writes_of journal (drop k steps)) image ≡ whole
      → after (writes_of journal (drop (k + 1) steps)) (put image x.at (write_of journal x).bytes) ≡ whole
  unfolding after writes_of
  after-next journal image whole left = sym (ap (λ (l : List Step). after (writes_of journal l) image) next) ∙ left

-- none is left behind the last
pub after-end : (journal image : List ℕ) (steps : List Step) (k : ℕ) → length steps ≤ k → after (writes_of journal (drop k steps)) image ≡ image
unfolding after writes_of
after-end journal image steps k le = rw (drop_of_length-le steps le) refl
