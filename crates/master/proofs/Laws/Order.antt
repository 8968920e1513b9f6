-- Paths in the order of their bytes: what is below what, and what begins with what. Assumes nothing.
use Rattle.std.specs.Prelude.{ℕ, ◌≡◌, refl, true, false, List, [], ◌∷◌, ◌++◌, length, drop, nat_eq}
use Rattle.std.specs.List.{starts_with}
use Rattle.std.specs.Cmp.Lexicographic.{slice_cmp}
use Rattle.std.specs.Ordering.{nat_cmp, is_lt, ordering_then}
use Rattle.std.proofs.Common.{sym, Ordering, Less, Equal, Greater}
use Rattle.std.proofs.lemmas.Bool.{false≢true}
use Rattle.std.proofs.lemmas.Bool.Decides.{Decides-eqb}
use Rattle.std.proofs.lemmas.Cmp.{nat_cmp_total, nat_list_cmp_total, tied_itself, ranked}
use Rattle.std.proofs.lemmas.List.{append_assoc}
use Rattle.std.proofs.lemmas.Slice.Eq.{starts_is}
use Rattle.wish_list.specs.Paths.{is_below}

-- ---- begins with

-- b goes on behind a
abbrev pub Begins : List ℕ → List ℕ → Type 0
Begins b a = (rest : List ℕ) × (b ≡ a ++ rest)

pub begins-test : (b a : List ℕ) → Begins b a → starts_with nat_eq b a ≡ true
begins-test b a (rest, e) = (starts_is Decides-eqb b a (starts_with nat_eq b a) refl).1 rest e

pub test-begins : (b a : List ℕ) → starts_with nat_eq b a ≡ true → Begins b a
test-begins b a e = (drop (length a) b, (starts_is Decides-eqb b a (starts_with nat_eq b a) refl).0 e)

pub begins-self : (a b : List ℕ) → Begins (a ++ b) a
begins-self a b = (b, refl)

pub begins-trans : (c b a : List ℕ) → Begins c b → Begins b a → Begins c a
begins-trans c b a (r, e) (s, f) = (s ++ r, rw (e, f) (append_assoc a s r))

-- ---- the order

pub below-trans : (a b c : List ℕ) → is_below a b ≡ true → is_below b c ≡ true → is_below a c ≡ true
below-trans a b c p q = go (slice_cmp nat_cmp a b) refl (slice_cmp nat_cmp b c) refl p q
  where
    go : (x : Ordering) → slice_cmp nat_cmp a b ≡ x → (y : Ordering) → slice_cmp nat_cmp b c ≡ y → is_lt x ≡ true → is_lt y ≡ true → is_below a c ≡ true
    go Less e Less f p q = rw (nat_list_cmp_total.trans a b c e f)
    go Less e Equal f p q = absurd (false≢true q)
    go Less e Greater f p q = absurd (false≢true q)
    go Equal e y f p q = absurd (false≢true p)
    go Greater e y f p q = absurd (false≢true p)

-- what goes on behind a is above a, or a
pub below-longer : (a : List ℕ) (b : ℕ) (rest : List ℕ) → is_below a (a ++ (b ∷ rest)) ≡ true
below-longer [] b rest = refl
below-longer (x ∷ a) b rest = rw (tied_itself nat_cmp_total x) (below-longer a b rest)

-- so nothing that goes on behind a is below a
pub below-not_behind : (a b : List ℕ) → Begins b a → is_below b a ≡ false
below-not_behind a b (rest, e) = rw e (go a rest)
  where
    go : (a rest : List ℕ) → is_below (a ++ rest) a ≡ false
    go [] [] = refl
    go [] (x ∷ rest) = refl
    go (x ∷ a) rest = rw (tied_itself nat_cmp_total x) (go a rest)

-- what is below a text that begins with a, and does not begin with a itself, is below a
pub below-front : (b a rest : List ℕ) → is_below b (a ++ rest) ≡ true → (Begins b a → ⊥) → is_below b a ≡ true
below-front [] [] rest p n = absurd (n ([], refl))
below-front [] (y ∷ a) rest p n = refl
below-front (x ∷ b) [] rest p n = absurd (n ((x ∷ b), refl))
below-front (x ∷ b) (y ∷ a) rest p n = go (nat_cmp x y) refl p (below-front b a rest)
  where
    go : (o : Ordering) → nat_cmp x y ≡ o → is_lt (ordering_then o (slice_cmp nat_cmp b (a ++ rest))) ≡ true → (is_below b (a ++ rest) ≡ true → (Begins b a → ⊥) → is_below b a ≡ true) →
        is_lt (ordering_then o (slice_cmp nat_cmp b a)) ≡ true
    go Less e p ih = refl
    go Equal e p ih = ih p (λ s. let x≡ : x ≡ y = ranked x y Equal (sym e) in n (s.0, rw (x≡, s.1)))
    go Greater e p ih = absurd (false≢true p)
