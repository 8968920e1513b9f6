-- In a text without lead bytes each byte is a unit, so names are judged and paths are cut byte by byte; and
-- below 0x80 a name's bytes are 0x20 to 0x7E. Assumes nothing.
use Rattle.std.specs.Prelude.{ℕ, ◌≡◌, refl, Bool, true, false, cond, not, ◌&&◌, ◌||◌, List, [], ◌∷◌, map}
use Rattle.std.proofs.Common.{ap, ◌∙◌, arith}
use Rattle.std.proofs.lemmas.Bool.{not-true}
use Rattle.refusal.specs.Laws.Tests.{and_left, and_right, is_false}
use Rattle.tree.specs.Units.{is_within, is_lead_byte, TextUnit, single, units}
use Rattle.tree.specs.Table.{is_plain_byte, is_safe_byte, is_plain_unit, is_safe_unit, is_plain, is_dots, is_safe}
use Rattle.tree.specs.Lookup.{is_separator, components_with, components_of, components}
use Rattle.tree.proofs.Laws.UnitLaws.{is_within-is, lead_is}
use Rattle.std.specs.List.{list_all}

abbrev pub leadless : List ℕ → Bool
leadless s = list_all (λ (b : ℕ). not (is_lead_byte b)) s

-- LAW: each byte is a unit
pub each-single : (s : List ℕ) → leadless s ≡ true → units s ≡ map single s
unfolding units
each-single [] e = refl
each-single (a ∷ []) e = refl
each-single (a ∷ b ∷ s) e =
    rw (not-true (is_lead_byte a) (and_left (not (is_lead_byte a)) _ e)) (ap (λ (l : List TextUnit). single a ∷ l) (each-single (b ∷ s) (and_right (not (is_lead_byte a)) _ e)))

list_all-single : (p : TextUnit → Bool) (s : List ℕ) → list_all p (map single s) ≡ list_all (λ (b : ℕ). p (single b)) s
list_all-single p [] = refl
list_all-single p (b ∷ s) = rw (list_all-single p s)

-- LAW: a name is judged byte by byte
pub is_plain-leadless : (nm : List ℕ) → leadless nm ≡ true → is_plain nm ≡ list_all is_plain_byte nm
unfolding is_plain
is_plain-leadless nm e = rw (each-single nm e) (list_all-single is_plain_unit nm)

pub is_safe-leadless : (a : ℕ) (nm : List ℕ) → leadless (a ∷ nm) ≡ true → is_safe (a ∷ nm) ≡ (not (is_dots (a ∷ nm)) && list_all is_safe_byte (a ∷ nm))
unfolding is_safe
is_safe-leadless a nm e = rw (each-single (a ∷ nm) e, list_all-single is_safe_unit (a ∷ nm))

-- ---- a path, byte by byte

abbrev before : ℕ → List (List ℕ) → List (List ℕ)
before b [] = (b ∷ []) ∷ []
before b (c ∷ cs) = (b ∷ c) ∷ cs

abbrev pub cut_bytes : List ℕ → List (List ℕ)
cut_bytes [] = [] ∷ []
cut_bytes (b ∷ path) = cond (is_separator b) ([] ∷ cut_bytes path) (before b (cut_bytes path))

cut-single : (s : List ℕ) → components_of (map single s) ≡ cut_bytes s
unfolding components_of
cut-single [] = refl
cut-single (b ∷ s) = rw (cut-single s) (go (is_separator b) (cut_bytes s))
  where
    go : (t : Bool) (cs : List (List ℕ)) → cond t ([] ∷ cs) (components_with (single b) cs) ≡ cond t ([] ∷ cs) (before b cs)
    go true cs = refl
    go false [] = refl
    go false (c ∷ cs) = refl

-- LAW: a path is cut byte by byte
pub components-leadless : (path : List ℕ) → leadless path ≡ true → components path ≡ cut_bytes path
unfolding components
components-leadless path e = rw (each-single path e) (cut-single path)

-- ---- bytes below 0x80

below-leadless : (s : List ℕ) → list_all (is_within 0 0x7F) s ≡ true → leadless s ≡ true
below-leadless [] e = refl
below-leadless (b ∷ s) e =
    let r = is_within-is 0 0x7F b (and_left (is_within 0 0x7F b) _ e) in
    rw (is_false (is_lead_byte b) (λ t. omega (arith, r.1, (lead_is b t).0))) (below-leadless s (and_right (is_within 0 0x7F b) _ e))

below_plain : (s : List ℕ) → list_all (is_within 0 0x7F) s ≡ true → list_all is_plain_byte s ≡ list_all (is_within 0x20 0x7E) s
below_plain [] e = refl
below_plain (b ∷ s) e =
    let r = is_within-is 0 0x7F b (and_left (is_within 0 0x7F b) _ e) in
    let n : is_within 0xA1 0xDF b ≡ false = is_false (is_within 0xA1 0xDF b) (λ t. omega (arith, r.1, (is_within-is 0xA1 0xDF b t).0)) in
    rw (n, or-none (is_within 0x20 0x7E b), below_plain s (and_right (is_within 0 0x7F b) _ e))
  where
    or-none : (t : Bool) → (t || false) ≡ t
    or-none true = refl
    or-none false = refl

-- LAW: below 0x80, the bytes 0x20 to 0x7E
pub is_plain-below : (nm : List ℕ) → list_all (is_within 0 0x7F) nm ≡ true → is_plain nm ≡ list_all (is_within 0x20 0x7E) nm
is_plain-below nm e = is_plain-leadless nm (below-leadless nm e) ∙ below_plain nm e
