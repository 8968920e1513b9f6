-- Each file is true to its history, and stays so where its bytes stay. Assumes nothing.
use Rattle.std.specs.Prelude.{ℕ, zero, suc, ◌+◌, ◌<◌, ◌≤◌, min, ◌≡◌, refl, false, List, [], ◌∷◌, length, get_or, set}
use Rattle.std.proofs.Common.{sym, ap, ◌∙◌, true≢false, arith}
use Rattle.endian.specs.Bytes.{span}
use Rattle.endian.specs.Laws.Stored.{get_d-span}
use Rattle.tree.specs.Table.{Node, file, directory}
use Rattle.space.specs.declared.region.DiscRegion.{DiscRegion}
use Rattle.space.specs.Used.{no_region}
use Rattle.ledger.specs.Ledger.{History, new_history, lowered_history, put_in, first_histories}
use Rattle.edit_rules.proofs.Laws.Puts.{span-length}
use Rattle.ledger.specs.Inner.Files.{pick, files_of}
use Rattle.ledger.proofs.Laws.Apart.{Has, region}

-- the file that lies at r in the image
pub record True (image : List ℕ) (r : DiscRegion) (h : History) : Type 0 where
  pub least : h.m ≤ r.size
  pub known : h.m ≤ length h.bytes
  pub same : (i : ℕ) → i < h.m → get_or image (r.offset + i) 0 ≡ get_or h.bytes i 0
  pub unnamed : h.named ≡ false → (r.offset ≡ h.place) × (r.size ≡ h.m) × (length h.bytes ≡ h.m)

abbrev pub Trues : List ℕ → List DiscRegion → List History → Type 0
Trues image [] [] = Unit {0}
Trues image [] (h ∷ hs) = ⊥
Trues image (x ∷ fs) [] = ⊥
Trues image (x ∷ fs) (h ∷ hs) = True image x h × Trues image fs hs

-- the bytes of a region are the same in both images
abbrev pub SameIn : List ℕ → List ℕ → DiscRegion → Type 0
SameIn image image' r = (i : ℕ) → Has r i → get_or image' i 0 ≡ get_or image i 0

true_same : (image image' : List ℕ) (x : DiscRegion) (h : History) → SameIn image image' x → True image x h → True image' x h
true_same image image' x h s t =
    record { least = t.least; known = t.known; same = λ i l. s (x.offset + i) (omega arith, omega (arith, t.least)) ∙ t.same i l; unnamed = t.unnamed }

pub trues-same : (image image' : List ℕ) (fs : List DiscRegion) (hs : List History) → ((k : ℕ) → SameIn image image' (region fs k)) → Trues image fs hs → Trues image' fs hs
trues-same image image' [] [] s t = tt
trues-same image image' [] (h ∷ hs) s t = t
trues-same image image' (x ∷ fs) [] s t = t
trues-same image image' (x ∷ fs) (h ∷ hs) s t = (true_same image image' x h (s 0) t.0, trues-same image image' fs hs (λ k. s (suc k)) t.1)

-- one file changes, the others stay
pub trues-set : (image image' : List ℕ) (r : ℕ) (y : DiscRegion) (g : History) (fs : List DiscRegion) (hs : List History) →
    ((k : ℕ) → (k ≡ r → ⊥) → SameIn image image' (region fs k)) → True image' y g → Trues image fs hs → Trues image' (set fs r y) (set hs r g)
trues-set image image' r y g [] [] s n t = tt
trues-set image image' r y g [] (h ∷ hs) s n t = absurd t
trues-set image image' r y g (x ∷ fs) [] s n t = absurd t
trues-set image image' zero y g (x ∷ fs) (h ∷ hs) s n t = (n, trues-same image image' fs hs (λ k. s (suc k) (λ e. omega arith)) t.1)
trues-set image image' (suc r) y g (x ∷ fs) (h ∷ hs) s n t =
    (true_same image image' x h (s 0 (λ e. omega arith)) t.0, trues-set image image' r y g fs hs (λ k d. s (suc k) (λ e. d (omega arith))) n t.1)

-- a file put in
pub trues-put-in : (image : List ℕ) (j : ℕ) (y : DiscRegion) (g : History) (fs : List DiscRegion) (hs : List History) → True image y g → Trues image fs hs → Trues image (put_in j y fs) (put_in j g hs)
unfolding put_in
trues-put-in image zero y g fs hs n t = (n, t)
trues-put-in image (suc j) y g [] [] n t = (n, tt)
trues-put-in image (suc j) y g [] (h ∷ hs) n t = absurd t
trues-put-in image (suc j) y g (x ∷ fs) [] n t = absurd t
trues-put-in image (suc j) y g (x ∷ fs) (h ∷ hs) n t = (t.0, trues-put-in image j y g fs hs n t.1)

pub true-new : (image : List ℕ) → True image no_region new_history
true-new image = record { least = omega arith; known = omega arith; same = λ i l. absurd (omega arith); unnamed = λ z. (refl, refl, refl) }

pub trues-at : (image : List ℕ) (fs : List DiscRegion) (hs : List History) (k : ℕ) → Trues image fs hs → k < length fs → True image (region fs k) (get_or hs k new_history)
trues-at image [] hs k t l = absurd (omega arith)
trues-at image (x ∷ fs) [] k t l = absurd t
trues-at image (x ∷ fs) (h ∷ hs) zero t l = t.0
trues-at image (x ∷ fs) (h ∷ hs) (suc k) t l = trues-at image fs hs k t.1 (omega arith)

pub trues-length : (image : List ℕ) (fs : List DiscRegion) (hs : List History) → Trues image fs hs → length hs ≡ length fs
trues-length image [] [] t = refl
trues-length image [] (h ∷ hs) t = absurd t
trues-length image (x ∷ fs) [] t = absurd t
trues-length image (x ∷ fs) (h ∷ hs) t = ap suc (trues-length image fs hs t.1)

-- a named file at another place or of another size, where the smaller of both sizes of its bytes came along
pub true-lowered_history : (image image' : List ℕ) (x y : DiscRegion) (h : History) → ((i : ℕ) → i < min x.size y.size → get_or image' (y.offset + i) 0 ≡ get_or image (x.offset + i) 0) →
    True image x h → True image' y (lowered_history y.size h)
true-lowered_history image image' x y h s t = record {
  least = omega arith;
  known = omega (arith, t.known);
  same = λ i l. s i (omega (arith, t.least)) ∙ t.same i (omega arith);
  unnamed = λ z. absurd (true≢false z);
}

-- ---- the start

pub starts : (image : List ℕ) (xs : List Node) → ((k : ℕ) → 0 < (region (files_of xs) k).size → (region (files_of xs) k).offset + (region (files_of xs) k).size ≤ length image) →
    Trues image (files_of xs) (first_histories image xs)
unfolding pick first_histories
starts image [] f = tt
starts image (file nm offset size ∷ xs) f =
    let n : length (span image offset size) ≡ size = span-length image offset size (f 0) in (
      record { least = omega arith; known = omega arith; same = λ i l. sym (get_d-span image offset size i l); unnamed = λ z. (refl, refl, n) },
      starts image xs (λ k. f (suc k)),
    )
starts image (directory nm next ∷ xs) f = starts image xs f
