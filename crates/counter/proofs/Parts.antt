-- Words put one part behind another are put at once. Assumes nothing.
use Rattle.std.proofs.Common.{◌≡◌, ℕ, ◌+◌, List, [], ◌∷◌, ◌++◌, length, set, ap, ◌∙◌, append_assoc, append-nil, length-append, drop_of_length-le, arith}
use Rattle.endian.specs.Bytes.{put}
use Rattle.endian.specs.Laws.Stored.{length-put, put-sets}
use Rattle.endian.proofs.Parts.{put-append}

-- as many words as there are slots
put_all : (s l : List ℕ) → length s ≡ length l → put s 0 l ≡ l
unfolding put
put_all s l e = ap (λ (t : List ℕ). l ++ t) (drop_of_length-le s {i = 0 + length l} (omega arith)) ∙ append-nil l

-- the three groups of a DOL header, and its last three words
pub four-parts : (s a b c : List ℕ) (x y z : ℕ) → length a ≡ 18 → length b ≡ 18 → length c ≡ 18 → length s ≡ 57 →
    set (set (set (put (put (put s 0 a) 18 b) 36 c) 54 x) 55 y) 56 z ≡ a ++ (b ++ (c ++ (x ∷ y ∷ z ∷ [])))
four-parts s a b c x y z la lb lc h =
    let d : List ℕ = x ∷ y ∷ z ∷ [] in
    let ab : length (a ++ b) ≡ 36 = omega (arith, length-append a b) in
    let abc : length ((a ++ b) ++ c) ≡ 54 = omega (arith, length-append (a ++ b) c) in
    let abcd : length (((a ++ b) ++ c) ++ d) ≡ 57 = omega (arith, length-append ((a ++ b) ++ c) d) in
    let first : put (put s 0 a) 18 b ≡ put s 0 (a ++ b) = put-append s 0 a 18 b (omega arith) (omega arith) in
    let second : put (put s 0 (a ++ b)) 36 c ≡ put s 0 ((a ++ b) ++ c) = put-append s 0 (a ++ b) 36 c (omega arith) (omega arith) in
    let room : length (put s 0 ((a ++ b) ++ c)) ≡ length s = length-put s 0 ((a ++ b) ++ c) (omega arith) in
    rw (first, second)
    (put-sets (put s 0 ((a ++ b) ++ c)) 54 d (omega arith)
    ∙ put-append s 0 ((a ++ b) ++ c) 54 d (omega arith) (omega arith)
    ∙ put_all s (((a ++ b) ++ c) ++ d) (omega arith)
    ∙ append_assoc (a ++ b) c d
    ∙ append_assoc a b (c ++ d))
