-- Bytes put over a part of a list, where nothing may be put anywhere. Assumes nothing.
use Rattle.std.specs.Prelude.{ℕ, zero, suc, ◌+◌, ◌<◌, ◌≤◌, ◌≡◌, refl, List, [], ◌∷◌, length, get_or, replicate}
use Rattle.std.proofs.Common.{inl, arith}
use Rattle.endian.specs.Bytes.{put, span, be32, AllBytes}
use Rattle.endian.specs.Laws.Stored.{length-put, put-outside, put-bytes, put-none, be32-same, Outside, length-span}

-- bytes that there are fit
abbrev pub Fits : List ℕ → ℕ → ℕ → Type 0
Fits s at n = 0 < n → at + n ≤ length s

pub put-length : (s : List ℕ) (at : ℕ) (bs : List ℕ) → Fits s at (length bs) → length (put s at bs) ≡ length s
put-length s at [] h = rw (put-none s at)
put-length s at (b ∷ bs) h = length-put s at (b ∷ bs) (h (omega arith))

pub put_all : (s : List ℕ) (at : ℕ) (bs : List ℕ) → Fits s at (length bs) → AllBytes s → AllBytes bs → AllBytes (put s at bs)
put_all s at [] h f g = rw (put-none s at) f
put_all s at (b ∷ bs) h f g = put-bytes s at (b ∷ bs) (h (omega arith)) f g

pub put-else : (s : List ℕ) (at : ℕ) (bs : List ℕ) → Fits s at (length bs) → (i : ℕ) → (0 < length bs → Outside at (length bs) i) → get_or (put s at bs) i 0 ≡ get_or s i 0
put-else s at [] h i o = rw (put-none s at)
put-else s at (b ∷ bs) h i o = put-outside s at (b ∷ bs) (h (omega arith)) i (o (omega arith))

-- bytes put from e on leave what is below, and the fields there
pub put-below : (s : List ℕ) (at : ℕ) (bs : List ℕ) (e : ℕ) → Fits s at (length bs) → (0 < length bs → e ≤ at) → (i : ℕ) → i < e → get_or (put s at bs) i 0 ≡ get_or s i 0
put-below s at bs e h b i l = put-else s at bs h i (λ z. inl (omega (arith, b z)))

pub field_below : (s : List ℕ) (at : ℕ) (bs : List ℕ) (e : ℕ) → Fits s at (length bs) → (0 < length bs → e ≤ at) → (f : ℕ) → f + 4 ≤ e → be32 (put s at bs) f ≡ be32 s f
field_below s at bs e h b f l = be32-same (put s at bs) s f (λ i u. put-below s at bs e h b (f + i) (omega arith))

pub span-length : (s : List ℕ) (at n : ℕ) → Fits s at n → length (span s at n) ≡ n
span-length s at zero h = refl
span-length s at (suc n) h = length-span s at (suc n) (h (omega arith))

pub zeros-all : (n : ℕ) → AllBytes (replicate n 0)
zeros-all zero i = omega arith
zeros-all (suc n) zero = omega arith
zeros-all (suc n) (suc i) = zeros-all n i
