-- Regions written in rows to the front of a list, one at a time. Assumes nothing.
use Rattle.std.specs.Prelude.{ℕ, ◌+◌, ◌≤◌, ◌≡◌, List, [], ◌∷◌, ◌++◌, length}
use Rattle.std.proofs.Common.{refl, sym, ap, ◌∙◌, arith, length-append, append_assoc, append-nil}
use Rattle.endian.specs.Bytes.{put}
use Rattle.endian.specs.Laws.Stored.{length-put, put-none}
use Rattle.endian.proofs.Parts.{put-append}
use Rattle.space.specs.declared.region.DiscRegion.{DiscRegion}
use Rattle.space.specs.Listing.{rows_of}
use Rattle.space.proofs.Listed.{rows_append}

-- the words of the regions done stand in front of the list, `at` words; the others are left
pub record Listed (row : DiscRegion → List ℕ) (all : List DiscRegion) (l₀ l : List ℕ) (at : ℕ) (rest : List DiscRegion) : Type 0 where
  pub done : List DiscRegion
  pub words : at ≡ length (rows_of row done)
  pub same : length l ≡ length l₀
  pub is : l ≡ put l₀ 0 (rows_of row done)
  pub others : done ++ rest ≡ all

module _ (row : DiscRegion → List ℕ) (all : List DiscRegion) where
  pub listed-start : (l : List ℕ) → Listed row all l l 0 all
  unfolding rows_of
  listed-start l = record { done = []; words = refl; same = refl; is = sym (put-none l 0); others = refl }

  module _ (l₀ l : List ℕ) (at : ℕ) where
    pub listed-end : Listed row all l₀ l at [] → l ≡ put l₀ 0 (rows_of row all)
    listed-end s = s.is ∙ ap (λ (rs : List DiscRegion). put l₀ 0 (rows_of row rs)) (sym (append-nil s.done) ∙ s.others)

    module _ (r : DiscRegion) (rest : List DiscRegion) (s : Listed row all l₀ l at (r ∷ rest)) (k : ℕ) (wide : length (row r) ≡ k) (fits : length (rows_of row all) ≤ length l₀) where
      pub listed-room : at + k ≤ length l
      listed-room =
          omega (arith, s.same, s.words, ap length (ap (rows_of row) (sym s.others) ∙ rows_append row s.done (r ∷ rest)), length-append (rows_of row s.done) (rows_of row (r ∷ rest)), here)
        where
          here : length (rows_of row (r ∷ rest)) ≡ length (row r) + length (rows_of row rest)
          here = unfold rows_of in length-append (row r) (rows_of row rest)

      pub listed-one : (l' : List ℕ) → l' ≡ put l at (row r) → Listed row all l₀ l' (at + k) rest
      listed-one l' p = record {
        done = s.done ++ (r ∷ []);
        words = omega (arith, s.words, ap length more, length-append (rows_of row s.done) (row r));
        same = ap length p ∙ length-put l at (row r) (omega (arith, listed-room, wide)) ∙ s.same;
        is = p ∙ rw (s.is, more) (put-append l₀ 0 (rows_of row s.done) at (row r) (omega (arith, s.words)) (omega (arith, listed-room, s.same)));
        others = rw (append_assoc s.done (r ∷ []) rest) s.others;
      }
        where
          more : rows_of row (s.done ++ (r ∷ [])) ≡ rows_of row s.done ++ row r
          more = rows_append row s.done (r ∷ []) ∙ ap (λ (x : List ℕ). rows_of row s.done ++ x) (unfold rows_of in append-nil (row r))
