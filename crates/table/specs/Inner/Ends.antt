-- Where long texts end, by blocks of 4,096 bytes. Assumes nothing: this is a definition.
use Rattle.std.specs.Prelude.{ℕ, ◌+◌, ◌*◌, ◌<◌, ◌≡◌, List, length, Option, None, Some, slice_index_or}
use Rattle.table.specs.Inner.Texts.{text_at}

-- of each block where the text that stands at its start ends, if that is known
pub record EndsIn (tab : List ℕ) (ends : List (Option ℕ)) : Type 0 where
  pub blocks : length ends ≡ 320
  pub each : (b end : ℕ) → b < 320 → slice_index_or ends b None ≡ Some end → end ≡ 4096 * b + length (text_at tab (4096 * b))
