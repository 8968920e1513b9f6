-- A chart of the bytes has a code for those of one kind alone if a test says so that goes through it place by place. Assumes nothing.
use Prim.Native.Nat.{ℕ, zero, suc, ◌+◌, ◌<◌}
use mathlib.Core.Path.{◌≡◌}
use mathlib.Core.Bool.{Bool, true, not, ◌&&◌, ◌||◌}
use mathlib.Core.List.{List, [], ◌∷◌}
use native.Mathlib.Omega.{arith}
use native.Mathlib.Nat.{add-zero, zero-add}
use borrow.Author.Tests.{eq-eqb}
use lib.Dec.{eqb}
use lib.ListN.{length, get_or}
use Rattle.refusal.specs.Laws.Tests.{and_left, and_right}
use Rattle.tree.specs.Units.{is_lead_byte, is_trail_byte}
use Rattle.table.specs.Inner.Texts.{is_clean_byte}

-- the test of those that have this code, from byte b on
abbrev pub charted : (code : ℕ) → (ℕ → Bool) → ℕ → List ℕ → Bool
charted code test b [] = true
charted code test b (x ∷ xs) = (not (eqb x code) || test b) && charted code test (suc b) xs

from : (code : ℕ) (test : ℕ → Bool) (b : ℕ) (chart : List ℕ) → charted code test b chart ≡ true → (k : ℕ) → k < length chart → get_or chart k 0 ≡ code → test (b + k) ≡ true
from code test b [] e k h f = absurd (omega arith)
from code test b (x ∷ xs) e zero h f = rw (add-zero b) (rw (eq-eqb x code f) at (and_left (not (eqb x code) || test b) _ e))
from code test b (x ∷ xs) e (suc k) h f =
    let next : b + suc k ≡ suc b + k = omega arith in
    rw next (from code test (suc b) xs (and_right (not (eqb x code) || test b) _ e) k (omega arith) f)

told : (code : ℕ) (test : ℕ → Bool) (chart : List ℕ) → length chart ≡ 256 → charted code test 0 chart ≡ true → (b : ℕ) → b < 256 → get_or chart b 0 ≡ code → test b ≡ true
told code test chart long e b h f = rw (zero-add b) at (from code test 0 chart e b (omega arith) f)

-- `c` (99) for clean bytes alone
pub record Charts (chart : List ℕ) : Type 0 where
  pub clean : (b : ℕ) → b < 256 → get_or chart b 0 ≡ 99 → is_clean_byte b ≡ true

pub charts : (chart : List ℕ) → length chart ≡ 256 → charted 99 is_clean_byte 0 chart ≡ true → Charts chart
charts chart long e = record { clean = told 99 is_clean_byte chart long e }

abbrev pub goes_on : ℕ → Bool
goes_on b = not (eqb b 0) && is_clean_byte b

-- `c` (99) for clean bytes that end no text, `z` (122) for other clean ones, `l` (108) for lead bytes; `t` (116) for trail bytes
pub record Kinds (kinds trails : List ℕ) : Type 0 where
  pub clean : (b : ℕ) → b < 256 → get_or kinds b 0 ≡ 99 → goes_on b ≡ true
  pub end : (b : ℕ) → b < 256 → get_or kinds b 0 ≡ 122 → is_clean_byte b ≡ true
  pub lead : (b : ℕ) → b < 256 → get_or kinds b 0 ≡ 108 → is_lead_byte b ≡ true
  pub trail : (b : ℕ) → b < 256 → get_or trails b 0 ≡ 116 → is_trail_byte b ≡ true

pub kinds_are : (kinds trails : List ℕ) → length kinds ≡ 256 → length trails ≡ 256 → charted 99 goes_on 0 kinds ≡ true → charted 122 is_clean_byte 0 kinds ≡ true → charted 108 is_lead_byte 0 kinds ≡ true
    → charted 116 is_trail_byte 0 trails ≡ true → Kinds kinds trails
kinds_are kinds trails long longer c z l t = record { clean = told 99 goes_on kinds long c; end = told 122 is_clean_byte kinds long z; lead = told 108 is_lead_byte kinds long l; trail = told 116 is_trail_byte trails longer t }
