-- Files of the system: of their bytes no contract knows more than how many there are. Assumes nothing: these are
-- definitions.
use Rattle.std.specs.Prelude.{ℕ, [], replicate}
use Rattle.journal.specs.Disk.{State}

-- the lengths of image, journal and clip
abbrev pub state_of : ℕ → ℕ → ℕ → State
state_of image journal clip = record {
  seen = record { image = replicate image 0; journal = replicate journal 0; record_text = [] };
  clip = replicate clip 0;
  may_leave = λ d. ⊥;
  moment = 0;
  left_since = λ t d. ⊥;
  faults = 0;
  counts_now = λ t d le left. left;
  only_now = λ d left. left;
}
