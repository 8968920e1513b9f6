-- The names of a path and its bytes: the directories that two paths share, and the names behind them. Assumes nothing.
use Rattle.std.specs.Prelude.{ℕ, zero, suc, ◌<◌, ◌≤◌, ◌≡◌, refl, Bool, true, false, cond, List, [], ◌∷◌, length, drop, eqb}
use Rattle.std.specs.List.{onto_first}
use Rattle.std.proofs.Common.{sym, ap, ◌∙◌, arith, eq-eqb, eqb-true, length-drop}
use Rattle.std.proofs.lemmas.Bool.{false≢true}
use Rattle.std.proofs.lemmas.List.Splits.{length-slice_split}
use Rattle.endian.specs.Bytes.{are_same_bytes}
use Rattle.wish_list.specs.Paths.{is_slash, names_of}
use Rattle.wish_list.specs.Tree.{common, added}
use Rattle.wish_list.proofs.Laws.NameTexts.{names_of-named}
use Rattle.new_table.specs.Inner.Steps.{slashes, shared_from, shared_bytes, own_part}

pub length-names_of : (path : List ℕ) → length (names_of path) ≡ suc (slashes path)
length-names_of path = omega (arith, length-slice_split is_slash path)

-- ---- the directories that two lists of names share

common-one : (before : List (List ℕ)) (c : List ℕ) → common before (c ∷ []) ≡ 0
unfolding common
common-one [] c = refl
common-one (a ∷ []) c = refl
common-one (a ∷ b ∷ xs) c = refl

common-alone : (x : List ℕ) (names : List (List ℕ)) → common (x ∷ []) names ≡ 0
unfolding common
common-alone x names = refl

common-differ : (x y : List ℕ) (xs ys : List (List ℕ)) → are_same_bytes x y ≡ false → common (x ∷ xs) (y ∷ ys) ≡ 0
unfolding common
common-differ x y [] ys e = refl
common-differ x y (x' ∷ xs) [] e = refl
common-differ x y (x' ∷ xs) (y' ∷ ys) e = rw e

common-slash : (xs ys : List (List ℕ)) → 0 < length xs → 0 < length ys → common ([] ∷ xs) ([] ∷ ys) ≡ suc (common xs ys)
unfolding common are_same_bytes
common-slash [] ys p q = absurd (omega arith)
common-slash (x ∷ xs) [] p q = absurd (omega arith)
common-slash (x ∷ xs) (y ∷ ys) p q = refl

common-onto_first : (c : ℕ) (xs ys : List (List ℕ)) → 0 < length xs → 0 < length ys → common (onto_first c xs) (onto_first c ys) ≡ common xs ys
unfolding common are_same_bytes
common-onto_first c [] ys p q = absurd (omega arith)
common-onto_first c (x ∷ xs) [] p q = absurd (omega arith)
common-onto_first c (x ∷ []) (y ∷ ys) p q = refl
common-onto_first c (x ∷ x' ∷ xs) (y ∷ []) p q = refl
common-onto_first c (x ∷ x' ∷ xs) (y ∷ y' ∷ ys) p q = rw (eq-eqb c c refl)

drop-onto_first : (n c : ℕ) (xs : List (List ℕ)) → 0 < n → 0 < length xs → drop n (onto_first c xs) ≡ drop n xs
drop-onto_first zero c xs p q = absurd (omega arith)
drop-onto_first (suc n) c [] p q = absurd (omega arith)
drop-onto_first (suc n) c (x ∷ xs) p q = refl

common-apart : (a b : ℕ) (before path : List ℕ) → eqb a b ≡ false → common (names_of (a ∷ before)) (names_of (b ∷ path)) ≡ 0
unfolding are_same_bytes
common-apart a b before path e = go (is_slash a) (is_slash b) refl refl (names_of before) (names_of path)
  where
    go : (s t : Bool) → is_slash a ≡ s → is_slash b ≡ t → (xs ys : List (List ℕ)) → common (cond s ([] ∷ xs) (onto_first a xs)) (cond t ([] ∷ ys) (onto_first b ys)) ≡ 0
    go true true p q xs ys = absurd (false≢true (sym e ∙ eq-eqb a b (eqb-true a 0x2F p ∙ sym (eqb-true b 0x2F q))))
    go true false p q xs [] = common-differ [] (b ∷ []) xs [] refl
    go true false p q xs (y ∷ ys) = common-differ [] (b ∷ y) xs ys refl
    go false true p q [] ys = common-differ (a ∷ []) [] [] ys refl
    go false true p q (x ∷ xs) ys = common-differ (a ∷ x) [] xs ys refl
    go false false p q [] [] = common-differ (a ∷ []) (b ∷ []) [] [] (rw e)
    go false false p q [] (y ∷ ys) = common-differ (a ∷ []) (b ∷ y) [] ys (rw e)
    go false false p q (x ∷ xs) [] = common-differ (a ∷ x) (b ∷ []) xs [] (rw e)
    go false false p q (x ∷ xs) (y ∷ ys) = common-differ (a ∷ x) (b ∷ y) xs ys (rw e)

-- ---- the same in bytes

pub record Shares (before path : List ℕ) (r : ℕ) : Type 0 where
  pub none : r ≡ 0 → common (names_of before) (names_of path) ≡ 0
  pub some : 0 < r → 0 < common (names_of before) (names_of path)
  pub within : r ≤ length path
  pub rest : drop (common (names_of before) (names_of path)) (names_of path) ≡ names_of (drop r path)

-- both go on with a byte b
module _ (b : ℕ) (before path : List ℕ) where
  with-slash : is_slash b ≡ true → common (names_of (b ∷ before)) (names_of (b ∷ path)) ≡ suc (common (names_of before) (names_of path))
  with-slash e = rw e (common-slash (names_of before) (names_of path) (names_of-named before) (names_of-named path))

  without-slash : is_slash b ≡ false → common (names_of (b ∷ before)) (names_of (b ∷ path)) ≡ common (names_of before) (names_of path)
  without-slash e = rw e (common-onto_first b (names_of before) (names_of path) (names_of-named before) (names_of-named path))

  names-slash : is_slash b ≡ true → names_of (b ∷ path) ≡ [] ∷ names_of path
  names-slash e = rw e

  names-no_slash : is_slash b ≡ false → names_of (b ∷ path) ≡ onto_first b (names_of path)
  names-no_slash e = rw e

  shares-slash : (r : ℕ) → is_slash b ≡ true → Shares before path r → Shares (b ∷ before) (b ∷ path) (suc r)
  shares-slash r e s = record {
    none = λ q. absurd (omega arith);
    some = λ q. omega (arith, with-slash e);
    within = omega (arith, s.within);
    rest = rw (with-slash e, names-slash e) s.rest;
  }

  shares-none : is_slash b ≡ false → Shares before path 0 → Shares (b ∷ before) (b ∷ path) 0
  shares-none e s =
      let z : common (names_of (b ∷ before)) (names_of (b ∷ path)) ≡ 0 = without-slash e ∙ s.none refl in
      record { none = λ q. z; some = λ q. absurd (omega arith); within = omega arith; rest = rw z }

  shares-some : (r : ℕ) → is_slash b ≡ false → Shares before path (suc r) → Shares (b ∷ before) (b ∷ path) (suc (suc r))
  shares-some r e s = record {
    none = λ q. absurd (omega arith);
    some = λ q. omega (arith, without-slash e, s.some (omega arith));
    within = omega (arith, s.within);
    rest = rw (without-slash e, names-no_slash e, drop-onto_first (common (names_of before) (names_of path)) b (names_of path) (s.some (omega arith)) (names_of-named path)) s.rest;
  }

  shares-cons : (r : ℕ) → Shares before path r → Shares (b ∷ before) (b ∷ path) (shared_from b r)
  shares-cons zero s = go (is_slash b) refl
    where
      go : (t : Bool) → is_slash b ≡ t → Shares (b ∷ before) (b ∷ path) (cond t 1 0)
      go true e = shares-slash 0 e s
      go false e = shares-none e s
  shares-cons (suc r) s = go (is_slash b) refl
    where
      go : (t : Bool) → is_slash b ≡ t → Shares (b ∷ before) (b ∷ path) (suc (suc r))
      go true e = shares-slash (suc r) e s
      go false e = shares-some r e s

-- no directory is shared
shares-not : (before path : List ℕ) → common (names_of before) (names_of path) ≡ 0 → Shares before path 0
shares-not before path z = record { none = λ q. z; some = λ q. absurd (omega arith); within = omega arith; rest = rw z }

pub shares : (before path : List ℕ) → Shares before path (shared_bytes before path)
unfolding shared_bytes
shares [] path = shares-not [] path (common-alone [] (names_of path))
shares (a ∷ before) [] = shares-not (a ∷ before) [] (common-one (names_of (a ∷ before)) [])
shares (a ∷ before) (b ∷ path) = go (eqb a b) refl (shares before path)
  where
    go : (t : Bool) → eqb a b ≡ t → Shares before path (shared_bytes before path) → Shares (a ∷ before) (b ∷ path) (cond t (shared_from b (shared_bytes before path)) 0)
    go true e s = rw (eqb-true a b e) (shares-cons b before path (shared_bytes before path) s)
    go false e s = shares-not (a ∷ before) (b ∷ path) (common-apart a b before path e)

-- ---- how many names each path has behind the one before it

-- as `added` says it
pub added-bytes : (before path : List ℕ) → added (names_of before) (names_of path) ≡ suc (slashes (own_part before path))
added-bytes before path =
    let s = shares before path in
    sym (length-drop (common (names_of before) (names_of path)) (names_of path)) ∙ ap length s.rest ∙ length-names_of (own_part before path)
