-- Writes behind a closed gate: a crash leaves it closed. Assumes nothing.
use Rattle.std.proofs.Common.{◌≡◌, false, ℕ, ◌<◌, List, length, take, slice_index, refl, sym, ◌∙◌, ap, arith}
use Rattle.std.proofs.lemmas.Bool.{and_left, and_parts, eqb-true, ne_eqb}
use Rattle.std.proofs.lemmas.List.{get_or-take, take-take, length-take}
use Rattle.journal.specs.Disk.{Disk, State, Steps, Looks, TearsJournal, LeavesOnly, OnlyJournal}
use Rattle.journal.specs.Journal.{kept_of, is_open, IsSettled, IsBefore, Tells}
use Rattle.journal.specs.Inner.Carried.{Carries}
use Rattle.journal.specs.Inner.Noted.{KeepsGate}
use Rattle.journal.proofs.Carried.{carried-steps, carried-wider, carried_on}
use Rattle.journal.proofs.OnDisk.{carried_looks, leaves-carried, on_disk-journal}
use Rattle.journal.proofs.Recovered.{recovered-closed}

keeps_gate_refl : (d : Disk) → KeepsGate d d
keeps_gate_refl d = record { image = refl; record_text = refl; gate = refl }

keeps_gate_trans : (b c d : Disk) → KeepsGate b c → KeepsGate c d → KeepsGate b d
keeps_gate_trans b c d first second = record { image = second.image ∙ first.image; record_text = second.record_text ∙ first.record_text; gate = second.gate ∙ first.gate }

keeps_gate_torn : (at n : ℕ) (c d : Disk) → 0 < at → TearsJournal at n c d → KeepsGate c d
keeps_gate_torn at n c d behind torn = record {
  image = torn.image;
  record_text = torn.record_text;
  gate = sym (take-take 1 at d.journal behind) ∙ ap (λ (l : List ℕ). take 1 l) torn.journal.before ∙ take-take 1 at c.journal behind;
}

-- ---- calls that write behind the gate, and one after the other

pub keeps_gate-carried : (at n : ℕ) (old new : State) → 0 < at → Carries (TearsJournal at n) old new → Carries KeepsGate old new
keeps_gate-carried at n old new behind carried = carried-wider (TearsJournal at n) KeepsGate (λ c d torn. keeps_gate_torn at n c d behind torn) old new carried

pub keeps_gate-steps : (at n : ℕ) (old new : State) → 0 < at → Steps (TearsJournal at n) old new → Carries KeepsGate old new
keeps_gate-steps at n old new behind steps = keeps_gate-carried at n old new behind (carried-steps (TearsJournal at n) old new steps)

pub keeps_gate_on : (old mid new : State) → Carries KeepsGate old mid → Carries KeepsGate mid new → Carries KeepsGate old new
keeps_gate_on old mid new first second = carried_on KeepsGate keeps_gate_trans old mid new first second

-- ---- what a crash leaves

same_gate : (c d : Disk) → KeepsGate c d → slice_index d.journal 0 ≡ slice_index c.journal 0
same_gate c d keeps = sym (get_or-take 1 d.journal 0 0 (omega arith)) ∙ ap (λ (l : List ℕ). slice_index l 0) keeps.gate ∙ get_or-take 1 c.journal 0 0 (omega arith)

pub leaves_before : (number : ℕ) (old new : State) → IsSettled old → Carries KeepsGate old new → LeavesOnly old new (IsBefore number (kept_of old.seen))
leaves_before number old new settled carried = leaves-carried KeepsGate keeps_gate_refl old new (IsBefore number (kept_of old.seen)) settled.on_disk carried
    (λ d keeps.
    let closed : is_open d.journal ≡ false = and_left _ _ (ne_eqb (slice_index d.journal 0) 1 (λ is. settled.closed (sym (same_gate old.seen d keeps) ∙ is))) in
    (recovered-closed number d closed ∙ (λ i. record { image = keeps.image i; record_text = keeps.record_text i }), keeps.record_text))

-- and so it tells nothing
pub leaves_untold : (note : List ℕ) (old new : State) → IsSettled old → Carries KeepsGate old new → LeavesOnly old new (Tells note)
leaves_untold note old new settled carried = leaves-carried KeepsGate keeps_gate_refl old new (Tells note) settled.on_disk carried
    (λ d keeps gate. absurd (settled.closed (sym (same_gate old.seen d keeps) ∙ eqb-true (slice_index d.journal 0) 1 (and_parts _ _ gate).0)))

-- once the journal is synced
pub settled_behind : (old mid new : State) → IsSettled old → Carries KeepsGate old mid → Looks mid new → OnlyJournal mid.seen.journal new.may_leave → IsSettled new
settled_behind old mid new settled carried looks only =
    let keeps : KeepsGate old.seen new.seen = (carried_looks KeepsGate old mid new carried looks).part in
    record {
      on_disk = on_disk-journal KeepsGate old mid new settled.on_disk carried looks (λ c d k. k.image) (λ c d k. k.record_text) only;
      some = omega (arith, settled.some, ap length keeps.gate, length-take 1 new.seen.journal, length-take 1 old.seen.journal);
      closed = λ is_open. settled.closed (sym (same_gate old.seen new.seen keeps) ∙ is_open);
    }
