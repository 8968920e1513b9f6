-- Bytes cut into paths, one after the other. Assumes nothing.
use Rattle.std.specs.Prelude.{ℕ, zero, suc, ◌+◌, ◌<◌, ◌≡◌, refl, false, cond, List, [], ◌∷◌, length, drop}
use Rattle.std.specs.List.{count_by}
use Rattle.std.proofs.Common.{ap, ◌∙◌, arith, add-one}
use Rattle.std.proofs.lemmas.Bool.Decides.{nat_tests}
use Rattle.std.proofs.lemmas.List.Sums.{sum_by-cons}
use Rattle.tree.specs.Table.{first_text}
use Rattle.wish_list.specs.Paths.{paths_in, onto_path, is_zero}

is_zero-suc : (b : ℕ) → is_zero (suc b) ≡ false
is_zero-suc b = grind (arith, nat_tests)

-- a byte that is no zero byte goes to the first path
paths_in-more : (b : ℕ) (s : List ℕ) → paths_in (suc b ∷ s) ≡ onto_path (suc b) (paths_in s)
unfolding paths_in
paths_in-more b s = rw (is_zero-suc b)

pub length-onto_path : (b : ℕ) (paths : List (List ℕ)) → length (onto_path b paths) ≡ length paths
length-onto_path b [] = refl
length-onto_path b (path ∷ paths) = refl

-- LAW: there are as many as zero bytes
pub length-paths_in : (bytes : List ℕ) → length (paths_in bytes) ≡ count_by is_zero bytes
unfolding paths_in
length-paths_in [] = refl
length-paths_in (zero ∷ s) = rw (sum_by-cons (λ b. cond (is_zero b) 1 0) 0 s) (omega (arith, length-paths_in s))
length-paths_in (suc b ∷ s) = rw (paths_in-more b s, sum_by-cons (λ x. cond (is_zero x) 1 0) (suc b) s, is_zero-suc b) (length-onto_path (suc b) (paths_in s) ∙ length-paths_in s ∙ omega arith)

onto-some : (b : ℕ) (paths : List (List ℕ)) → 0 < length (onto_path b paths) → 0 < length paths
onto-some b [] h = h
onto-some b (path ∷ paths) h = omega arith

-- where a path is left, there is a zero byte behind it
pub ended : (bytes : List ℕ) → 0 < length (paths_in bytes) → length (first_text bytes) < length bytes
unfolding paths_in
ended [] h = h
ended (zero ∷ s) h = omega arith
ended (suc b ∷ s) h = let r = ended s (onto-some (suc b) (paths_in s) (rw paths_in-more at h)) in omega arith

-- LAW: the first path is taken off
pub paths_in-next : (bytes : List ℕ) → length (first_text bytes) < length bytes → paths_in bytes ≡ first_text bytes ∷ paths_in (drop (suc (length (first_text bytes))) bytes)
unfolding paths_in
paths_in-next [] h = absurd (omega arith)
paths_in-next (zero ∷ s) h = refl
paths_in-next (suc b ∷ s) h = paths_in-more b s ∙ ap (onto_path (suc b)) (paths_in-next s (omega arith))

pub paths_in-first : (bytes : List ℕ) → 0 < length (paths_in bytes) → paths_in bytes ≡ first_text bytes ∷ paths_in (drop (length (first_text bytes) + 1) bytes)
paths_in-first bytes h = rw add-one (paths_in-next bytes (ended bytes h))
