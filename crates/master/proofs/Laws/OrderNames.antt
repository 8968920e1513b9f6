-- The names of paths: none has a `/`, and the first directory that a file does not share with the file before it is not on that one's path.
-- Assumes nothing.
use Rattle.std.specs.Prelude.{ℕ, suc, ◌<◌, ◌≡◌, refl, Bool, true, false, cond, List, [], ◌∷◌, ◌++◌, length, eqb}
use Rattle.std.specs.List.{onto_first, join_with_byte}
use Rattle.std.proofs.Common.{sym, ap, ◌∙◌, arith}
use Rattle.std.proofs.lemmas.Bool.{false≢true}
use Rattle.std.proofs.lemmas.List.{append_assoc}
use Rattle.endian.specs.Bytes.{are_same_bytes}
use Rattle.endian.specs.Laws.Stored.{same_refl}
use Rattle.wish_list.specs.Paths.{names_of}
use Rattle.wish_list.specs.Tree.{common}
use Rattle.master.proofs.Entries.{front_of}
use Rattle.master.proofs.Laws.Order.{Begins}

abbrev pub joined : List (List ℕ) → List ℕ
joined names = join_with_byte 0x2F names

-- one name more in front of the others
pub joined-behind : (front name next : List ℕ) (names : List (List ℕ)) → (front ++ (name ++ (0x2F ∷ []))) ++ joined (next ∷ names) ≡ front ++ joined (name ∷ next ∷ names)
joined-behind front name next names =
    append_assoc front (name ++ (0x2F ∷ [])) (joined (next ∷ names)) ∙ ap (λ (s : List ℕ). front ++ s) (append_assoc name (0x2F ∷ []) (joined (next ∷ names)))

-- ---- no name has a `/`

abbrev pub IsWhole : List ℕ → Type 0
IsWhole [] = Unit {0}
IsWhole (b ∷ name) = (eqb b 0x2F ≡ false) × IsWhole name

abbrev pub AllWhole : List (List ℕ) → Type 0
AllWhole [] = Unit {0}
AllWhole (name ∷ names) = IsWhole name × AllWhole names

pub names_of-whole : (path : List ℕ) → AllWhole (names_of path)
names_of-whole [] = (tt, tt)
names_of-whole (b ∷ path) = go (eqb b 0x2F) refl (names_of path) (names_of-whole path)
  where
    go : (t : Bool) → eqb b 0x2F ≡ t → (names : List (List ℕ)) → AllWhole names → AllWhole (cond t ([] ∷ names) (onto_first b names))
    go true e names a = (tt, a)
    go false e [] a = ((e, tt), tt)
    go false e (name ∷ names) a = ((e, a.0), a.1)

-- what stands before the first `/`
cut-one : (a c xs ys : List ℕ) → IsWhole a → IsWhole c → a ++ (0x2F ∷ xs) ≡ c ++ (0x2F ∷ ys) → (a ≡ c) × (xs ≡ ys)
cut-one [] [] xs ys p q e = (refl, cc)
cut-one [] (y ∷ c) xs ys p q e = let y≡ : 0x2F ≡ y = cc in absurd (false≢true (sym (rw (← y≡) at q.0)))
cut-one (x ∷ a) [] xs ys p q e = let x≡ : x ≡ 0x2F = cc in absurd (false≢true (sym (rw x≡ at p.0)))
cut-one (x ∷ a) (y ∷ c) xs ys p q e =
    let x≡ : x ≡ y = cc in
    let r : a ++ (0x2F ∷ xs) ≡ c ++ (0x2F ∷ ys) = cc in
    let s = cut-one a c xs ys p.1 q.1 r in
    (rw (x≡, s.0), s.1)

cut-none : (a c ys : List ℕ) → IsWhole a → a ≡ c ++ (0x2F ∷ ys) → ⊥
cut-none [] [] ys p e = let z : ◌≡◌ {A = ℕ} 0 1 = cc in absurd (omega arith)
cut-none [] (y ∷ c) ys p e = let z : ◌≡◌ {A = ℕ} 0 1 = cc in absurd (omega arith)
cut-none (x ∷ a) [] ys p e = let x≡ : x ≡ 0x2F = cc in absurd (false≢true (sym (rw x≡ at p.0)))
cut-none (x ∷ a) (y ∷ c) ys p e = cut-none a c ys p.1 cc

-- ---- one directory more than those that two files share

pub common-last : (before names : List (List ℕ)) → AllWhole before → AllWhole names → suc (common before names) < length names →
    Begins (joined before) (front_of (suc (common before names)) names) → ⊥
unfolding common front_of
common-last before [] p q h b = absurd (omega arith)
common-last [] (name ∷ names) p q h (rest, e) = cut-none [] name (rest) tt (e ∙ append_assoc name (0x2F ∷ []) rest)
common-last (a ∷ []) (name ∷ names) p q h (rest, e) = cut-none a name (rest) p.0 (e ∙ append_assoc name (0x2F ∷ []) rest)
common-last (a ∷ b ∷ xs) (c ∷ []) p q h s = absurd (omega arith)
common-last (a ∷ b ∷ xs) (c ∷ d ∷ ys) p q h s = go (are_same_bytes a c) refl h s (common-last (b ∷ xs) (d ∷ ys) p.1 q.1)
  where
    m : ℕ
    m = common (b ∷ xs) (d ∷ ys)

    go : (t : Bool) → are_same_bytes a c ≡ t → suc (cond t (suc m) 0) < suc (suc (length ys)) → Begins (a ++ (0x2F ∷ joined (b ∷ xs))) (c ++ (0x2F ∷ front_of (cond t (suc m) 0) (d ∷ ys))) →
        (suc m < suc (length ys) → Begins (joined (b ∷ xs)) (front_of (suc m) (d ∷ ys)) → ⊥) → ⊥
    go true f h (rest, e) ih =
        let s = cut-one a c (joined (b ∷ xs)) (front_of (suc m) (d ∷ ys) ++ rest) p.0 q.0 (e ∙ append_assoc c (0x2F ∷ front_of (suc m) (d ∷ ys)) rest) in
        ih (omega arith) (rest, s.1)
    go false f h (rest, e) ih =
        let s = cut-one a c (joined (b ∷ xs)) rest p.0 q.0 (e ∙ append_assoc c (0x2F ∷ []) rest) in
        false≢true (sym f ∙ rw s.0 (same_refl c))
