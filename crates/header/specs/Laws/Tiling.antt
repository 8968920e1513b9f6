-- The table tiles 0x440 bytes: each byte of the header lies in one field, and in no two. Then a test that every field of a list passes. Assumes nothing.
use Rattle.std.specs.Prelude.{ℕ, zero, suc, ◌+◌, ◌<◌, ◌≤◌, ◌≡◌, refl, Bool, true, ◌&&◌, List, [], ◌∷◌, eqb, length}
use Rattle.std.proofs.Common.{⊎_elim, arith, eqb-true}
use Rattle.refusal.specs.Laws.Tests.{lt-or-le, and_left, and_right}
use Rattle.header.specs.declared.fields.Field.{Field}
use Rattle.header.specs.Fields.{fields}
use Rattle.header.specs.Inner.Judged.{field_at, nth}

-- fields that tile the bytes from a to b: each starts where the one before it ends, so that there is no gap and no overlap
abbrev pub tile : ℕ → ℕ → List Field → Bool
tile a b [] = eqb a b
tile a b (f ∷ fs) = eqb f.at a && tile (a + f.len) b fs

-- the 21 fields tile 0x440 bytes, without gap or overlap
pub fields-tile : tile 0 0x440 fields ≡ true
unfolding fields
fields-tile = refl

pub fields-count : length fields ≡ 21
unfolding fields
fields-count = refl

-- ---- a test that all fields of a list pass, computed once, and passed by each of them

abbrev pub every_field : (Field → Bool) → List Field → Bool
every_field t [] = true
every_field t (f ∷ fs) = t f && every_field t fs

pub every-at : (t : Field → Bool) (fs : List Field) → every_field t fs ≡ true → (k : ℕ) → k < length fs → t (nth fs k) ≡ true
every-at t [] e k h = absurd (omega arith)
every-at t (f ∷ fs) e zero h = and_left (t f) (every_field t fs) e
every-at t (f ∷ fs) e (suc k) h = every-at t fs (and_right (t f) (every_field t fs) e) k (omega arith)

-- ---- fields that tile

pub tile-start : (a b : ℕ) (f : Field) (fs : List Field) → tile a b (f ∷ fs) ≡ true → f.at ≡ a
tile-start a b f fs t = eqb-true f.at a (and_left (eqb f.at a) (tile (a + f.len) b fs) t)

pub tile-rest : (a b : ℕ) (f : Field) (fs : List Field) → tile a b (f ∷ fs) ≡ true → tile (a + f.len) b fs ≡ true
tile-rest a b f fs t = and_right (eqb f.at a) (tile (a + f.len) b fs) t

pub tile-le : (a b : ℕ) (fs : List Field) → tile a b fs ≡ true → a ≤ b
tile-le a b [] t = omega (arith, eqb-true a b t)
tile-le a b (f ∷ fs) t = omega (arith, tile-le (a + f.len) b fs (tile-rest a b f fs t))

-- the byte with number i lies in the field
abbrev pub Holds : Field → ℕ → Type 0
Holds f i = (f.at ≤ i) × (i < f.at + f.len)

covered : (a b : ℕ) (fs : List Field) → tile a b fs ≡ true → (i : ℕ) → a ≤ i → i < b → (k : ℕ) × ((k < length fs) × Holds (nth fs k) i)
covered a b [] t i l h = absurd (omega (arith, eqb-true a b t))
covered a b (f ∷ fs) t i l h =
    ⊎_elim (λ m. (0, (omega arith, (omega (arith, tile-start a b f fs t), omega (arith, tile-start a b f fs t)))))
    (λ m. let r = covered (a + f.len) b fs (tile-rest a b f fs t) i m h in (suc r.0, (omega (arith, r.1.0), r.1.1)))
    (lt-or-le i (a + f.len))

starts : (a b : ℕ) (fs : List Field) → tile a b fs ≡ true → (k : ℕ) → k < length fs → a ≤ (nth fs k).at
starts a b [] t k h = absurd (omega arith)
starts a b (f ∷ fs) t zero h = omega (arith, tile-start a b f fs t)
starts a b (f ∷ fs) t (suc k) h = omega (arith, starts (a + f.len) b fs (tile-rest a b f fs t) k (omega arith))

apart : (a b : ℕ) (fs : List Field) → tile a b fs ≡ true → (j k : ℕ) → j < k → k < length fs → (nth fs j).at + (nth fs j).len ≤ (nth fs k).at
apart a b [] t j k l h = absurd (omega arith)
apart a b (f ∷ fs) t j zero l h = absurd (omega arith)
apart a b (f ∷ fs) t zero (suc k) l h = omega (arith, tile-start a b f fs t, starts (a + f.len) b fs (tile-rest a b f fs t) k (omega arith))
apart a b (f ∷ fs) t (suc j) (suc k) l h = apart (a + f.len) b fs (tile-rest a b f fs t) j k (omega arith) (omega arith)

-- no gap: each byte of the header lies in a field
pub one_field : (i : ℕ) → i < 0x440 → (k : ℕ) × ((k < 21) × Holds (field_at k) i)
one_field i h = let r = covered 0 0x440 fields fields-tile i (omega arith) h in (r.0, (omega (arith, r.1.0, fields-count), r.1.1))

-- no overlap: none lies in two
pub no-two-fields : (j k : ℕ) → j < k → k < 21 → (i : ℕ) → Holds (field_at j) i → Holds (field_at k) i → ⊥
no-two-fields j k l h i a b = omega (arith, apart 0 0x440 fields fields-tile j k l (omega (arith, fields-count)))
