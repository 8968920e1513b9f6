-- The order of the tests: where several would refuse, which one does. Assumes nothing.
use Rattle.std.specs.Prelude.{Err}
use Rattle.std.specs.Prelude.{ℕ, ◌+◌, ◌-◌, ◌*◌, ◌<◌, ◌≤◌, ◌≡◌, true, false, List, length}
use borrow.Author.Tests.{lt-ltb, le-ltb, le-leb, lt-leb}
use Rattle.refusal.specs.declared.Refusal.TheVariants.{EntryPastTable, LimitOrMemory, InvalidNextIndex, InvalidNameOffset, InvalidNameByte, UnsafeName}
use Rattle.tree.specs.Table.{directory, is_plain, is_safe, kind, name_offset, count, entry_verdict, top, name_verdict, next_verdict, check}

-- 5 before 6
pub past-table : (tab : List ℕ) (k : ℕ) → length tab < 12 * k + 12 → entry_verdict tab k ≡ Err EntryPastTable
unfolding entry_verdict
past-table tab k h = rw (lt-ltb (length tab) (12 * k + 12) h)

-- the count's 9 before the further entries
pub many-entries : (tab : List ℕ) (words : ℕ) → 12 ≤ length tab → kind tab 0 ≡ 1 → 16384 < count tab → check tab words ≡ Err LimitOrMemory
unfolding check
many-entries tab words h e c = rw (le-ltb (length tab) 12 h, e, lt-ltb 16384 (count tab) c)

-- 11, 12, 13
module _ (tab : List ℕ) (c k : ℕ) (nm : List ℕ) where
  pub bad-offset : length tab - 12 * c ≤ name_offset tab k → name_verdict tab c k nm ≡ Err InvalidNameOffset
  unfolding name_verdict
  bad-offset h = rw (le-leb (length tab - 12 * c) (name_offset tab k) h)

  pub bad-byte : name_offset tab k < length tab - 12 * c → is_plain nm ≡ false → name_verdict tab c k nm ≡ Err InvalidNameByte
  unfolding name_verdict
  bad-byte h e = rw (lt-leb (length tab - 12 * c) (name_offset tab k) h, e)

  pub bad-name : name_offset tab k < length tab - 12 * c → is_plain nm ≡ true → is_safe nm ≡ false → name_verdict tab c k nm ≡ Err UnsafeName
  unfolding name_verdict
  bad-name h e s = rw (lt-leb (length tab - 12 * c) (name_offset tab k) h, e, s)

-- 10, then the depth's 9
module _ (c : ℕ) (dirs : List ℕ) (k : ℕ) (nm : List ℕ) (next : ℕ) where
  pub bad-next : next ≤ k → next_verdict c dirs k (directory nm next) ≡ Err InvalidNextIndex
  unfolding next_verdict
  bad-next h = rw (le-leb next k h)

  pub too-deep : k < next → next ≤ c → next ≤ top dirs → 64 < length dirs → next_verdict c dirs k (directory nm next) ≡ Err LimitOrMemory
  unfolding next_verdict
  too-deep h l t d = rw (lt-leb next k h, le-ltb c next l, le-ltb (top dirs) next t, lt-ltb 64 (length dirs) d)
