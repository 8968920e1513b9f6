-- What is noted of an edit stays behind the gates: a crash that leaves one open leaves it too. Assumes nothing.
use Rattle.std.proofs.Common.{◌≡◌, true, refl, ◌∙◌, ap, ℕ, ◌≤◌, List, [], ◌∷◌, length, drop, arith}
use Rattle.std.proofs.lemmas.Bool.{and_parts}
use Rattle.endian.specs.Laws.Stored.{length-put}
use Rattle.journal.specs.declared.plan.Step.{Step}
use Rattle.journal.specs.Disk.{Disk, State, IsOnDisk, Looks, Steps, LeavesOnly, TearsImage, TearsJournal, PutsRecord}
use Rattle.journal.specs.Journal.{note_in, Tells, IsSettled, is_open, applies, opened, will_apply}
use Rattle.journal.specs.Inner.Carried.{Carries, KeepsDraft, Loose}
use Rattle.journal.proofs.Carried.{carried_none, carried-steps, carried-looks, carried-wider, carried_on}
use Rattle.journal.proofs.OnDisk.{leaves-carried}
use Rattle.journal.proofs.Recovered.{long_open}
use Rattle.journal.proofs.Gates.{behind_first, note-behind}

draft_refl : (d : Disk) → KeepsDraft d d
draft_refl d = refl

pub draft_none : (s : State) → Carries KeepsDraft s s
draft_none s = carried_none KeepsDraft draft_refl s

pub draft_looks : (old new : State) → Looks old new → Carries KeepsDraft old new
draft_looks old new looks = carried-looks KeepsDraft draft_refl old new looks

pub draft_on : (old mid new : State) → Carries KeepsDraft old mid → Carries KeepsDraft mid new → Carries KeepsDraft old new
draft_on old mid new first second = carried_on KeepsDraft (λ b c d is then. then ∙ is) old mid new first second

-- ---- what else is written

pub draft_first : (old new : State) → Carries (TearsJournal 0 1) old new → Carries KeepsDraft old new
draft_first old new carried = carried-wider (TearsJournal 0 1) KeepsDraft (λ c d torn. behind_first c.journal d.journal torn.journal) old new carried

pub draft_second : (old new : State) → Carries (TearsJournal 1 1) old new → Carries KeepsDraft old new
draft_second old new carried = carried-wider (TearsJournal 1 1) KeepsDraft (λ c d torn. torn.journal.after) old new carried

pub draft_image : (at n : ℕ) (old new : State) → Carries (TearsImage at n) old new → Carries KeepsDraft old new
draft_image at n old new carried = carried-wider (TearsImage at n) KeepsDraft (λ c d torn. ap (λ (j : List ℕ). drop 2 j) torn.journal) old new carried

pub draft_steps : (steps : List Step) (old new : State) → Carries (Loose steps) old new → Carries KeepsDraft old new
draft_steps steps old new carried = carried-wider (Loose steps) KeepsDraft (λ c d loose. ap (λ (j : List ℕ). drop 2 j) loose.journal) old new carried

pub draft_record : (text : List ℕ) (old new : State) → Steps (PutsRecord text) old new → Carries KeepsDraft old new
draft_record text old new steps = carried-wider (PutsRecord text) KeepsDraft (λ c d puts. ap (λ (j : List ℕ). drop 2 j) puts.journal) old new (carried-steps (PutsRecord text) old new steps)

-- ---- what a crash leaves

draft_tells : (note : List ℕ) (old new : State) → IsOnDisk old → 1266 ≤ length old.seen.journal → note_in old.seen.journal ≡ note → Carries KeepsDraft old new → LeavesOnly old new (Tells note)
draft_tells note old new on_disk long is carried =
    leaves-carried KeepsDraft draft_refl old new (Tells note) on_disk carried (λ d keeps gate. note-behind d.journal old.seen.journal keeps long ∙ is)

-- once what was noted is committed
pub committed_tells : (number : ℕ) (note : List ℕ) (old new : State) → IsSettled old → will_apply number old.seen ≡ true → note_in old.seen.journal ≡ note → Carries KeepsDraft old new → LeavesOnly old new (Tells note)
committed_tells number note old new settled ready is carried =
    let journal = old.seen.journal in
    let gate : is_open (opened journal) ≡ true = (and_parts (is_open (opened journal)) (applies (opened journal) number old.seen.image) ready).0 in
    draft_tells note old new settled.on_disk (omega (arith, long_open (opened journal) gate, length-put journal 0 (1 ∷ []) settled.some)) is carried
