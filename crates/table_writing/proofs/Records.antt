-- An entry's four fields, and its name and zero byte, stored one after another.
-- Assumes nothing.
use Prim.Native.Nat.{ℕ, zero, suc, ◌+◌, ◌-◌, ◌*◌, ◌≤◌}
use mathlib.Core.Path.{◌≡◌, refl, ap, ◌∙◌}
use mathlib.Core.Bool.{cond}
use mathlib.Core.List.{List, [], ◌∷◌, ◌++◌}
use native.Mathlib.Omega.{arith}
use lib.ListN.{length}
use lib.Seq.{take-length}
use lib.Dec.{eqb}
use Rattle.endian.specs.Bytes.{put, span}
use Rattle.tree.specs.Table.{kind, name_offset, offset_or_parent, size_or_next, name_at, node_with, node_at, node_bytes}
use Rattle.table_writing.specs.Inner.Valid.{name_size}
use Rattle.table_writing.specs.declared.kind.Kind.{Kind}
use Rattle.table_writing.specs.declared.kind.Kind.TheVariants.{File, Directory}
use Rattle.table_writing.specs.Inner.Kind.{kind_number}
use Rattle.table_writing.specs.Inner.Flat.{text_place, record_at, put_text, record_bytes}
use Rattle.endian.proofs.Parts.{put-append}

fields-of : (t : ℕ) (nm : List ℕ) (a b p o : ℕ) → t ≤ 1 → record_bytes t o (cond (eqb t 0) a p) b ≡ node_bytes p o (node_with t nm a b)
fields-of zero nm a b p o h = refl
fields-of (suc zero) nm a b p o h = refl
fields-of (suc (suc t)) nm a b p o h = absurd (omega arith)

-- there are two kinds
few-kinds : (x : Kind) → kind_number x ≤ 1
few-kinds File = omega arith
few-kinds Directory = omega arith

pub record_is : (tab : List ℕ) (n parent k name : ℕ) (x : Kind) (place next : ℕ) → kind_number x ≡ kind tab k → place ≡ text_place tab parent k → next ≡ size_or_next tab k →
    record_bytes (kind_number x) name place next ≡ node_bytes parent name (node_at tab n k)
unfolding node_at
record_is tab n parent k name x place next e p q =
    let known : kind tab k ≤ 1 = omega (arith, few-kinds x) in
    rw (e, p, q) (fields-of (kind tab k) (name_at tab n (name_offset tab k)) (offset_or_parent tab k) (size_or_next tab k) parent name known)

pub record-at : (tab : List ℕ) (n parent k text : ℕ) (bytes out out' : List ℕ) → bytes ≡ node_bytes parent (text - 12 * n) (node_at tab n k) → out' ≡ put out (12 * k) bytes → out' ≡ record_at tab n parent k text out
unfolding record_at
record-at tab n parent k text bytes out out' b w = w ∙ rw b refl

-- a name that was read, and its zero byte
module _ (tab : List ℕ) (n k text : ℕ) (out name : List ℕ) (read : name ≡ name_at tab n (name_offset tab k)) (h : text + name_size tab n k + 1 ≤ length out) where
  pub name_size_lem : length name ≡ name_size tab n k
  unfolding name_size
  name_size_lem = ap length read

  pub text-is : put (put out text (span name 0 (length name))) (text + length name) (0 ∷ []) ≡ put_text tab n k text out
  unfolding put_text
  text-is =
      rw (take-length name) (put-append out text name (text + length name) (0 ∷ []) refl (omega (arith, name_size_lem))) ∙ ap (λ (l : List ℕ). put out text (l ++ (0 ∷ []))) read
