-- What a call on files in memory does: one event more, or none. Assumes nothing.
use Rattle.std.proofs.Common.{◌≡◌, ◌≢◌, ◌⊎◌, inl, inr, ⊎_elim, ℕ, zero, suc, ◌<◌, ◌≤◌, List, [], ◌∷◌, ◌++◌, length, refl, sym, ap, ◌∙◌, arith, length-append}
use Rattle.std.specs.List.{slice_index}
use Rattle.journal.specs.Disk.{Disk, Outcomes, Elapses, Looks, Steps}
use Rattle.journal.specs.Journal.{IsSettled}
use Rattle.journal_in_memory.specs.declared.done.Event.{Event}
use Rattle.journal_in_memory.specs.Inner.Done.{LeftBy, LeftAfter, LeftDuring, LeftSince, state_of}

after_last : (old : Outcomes) (log : List Event) (e : Event) (d : Disk) → LeftAfter old (log ++ e ∷ []) d → LeftBy e (LeftAfter old log) d
unfolding LeftAfter
after_last old [] e d left = left
after_last old (x ∷ log) e d left = after_last (LeftBy x old) log e d left

last_after : (old : Outcomes) (log : List Event) (e : Event) (d : Disk) → LeftBy e (LeftAfter old log) d → LeftAfter old (log ++ e ∷ []) d
unfolding LeftAfter
last_after old [] e d left = left
last_after old (x ∷ log) e d left = last_after (LeftBy x old) log e d left

during_last : (old : Outcomes) (log : List Event) (e : Event) (d : Disk) → LeftDuring old (log ++ e ∷ []) d
    → LeftDuring old log d ⊎ LeftAfter old (log ++ e ∷ []) d
unfolding LeftAfter LeftDuring
during_last old [] e d (inl was) = inl was
during_last old [] e d (inr now) = inr now
during_last old (x ∷ log) e d (inl was) = inl (inl was)
during_last old (x ∷ log) e d (inr later) = ⊎_elim (λ had. inl (inr had)) (λ now. inr now) (during_last (LeftBy x old) log e d later)

during_kept : (old : Outcomes) (log : List Event) (e : Event) (d : Disk) → LeftDuring old log d → LeftDuring old (log ++ e ∷ []) d
unfolding LeftDuring
during_kept old [] e d was = inl was
during_kept old (x ∷ log) e d (inl was) = inl was
during_kept old (x ∷ log) e d (inr later) = inr (during_kept (LeftBy x old) log e d later)

since_last : (old : Outcomes) (log : List Event) (e : Event) (t : ℕ) (d : Disk) → t ≤ length log → LeftSince old (log ++ e ∷ []) t d
    → LeftSince old log t d ⊎ LeftAfter old (log ++ e ∷ []) d
unfolding LeftAfter LeftDuring LeftSince
since_last old log e zero d le left = during_last old log e d left
since_last old [] e (suc t) d le left = absurd (omega arith)
since_last old (x ∷ log) e (suc t) d le left = since_last (LeftBy x old) log e t d (omega arith) left

since_kept : (old : Outcomes) (log : List Event) (e : Event) (t : ℕ) (d : Disk) → t ≤ length log → LeftSince old log t d → LeftSince old (log ++ e ∷ []) t d
unfolding LeftAfter LeftDuring LeftSince
since_kept old log e zero d le left = during_kept old log e d left
since_kept old [] e (suc t) d le left = absurd (omega arith)
since_kept old (x ∷ log) e (suc t) d le left = since_kept (LeftBy x old) log e t d (omega arith) left

-- ---- calls

module _ (first seen : Disk) (clip : List ℕ) (log : List Event) (f f' : ℕ) where
  -- no event
  pub looks_none : Looks (state_of first seen clip log f) (state_of first seen clip log f')
  looks_none = record {
    seen = refl;
    no_more = λ d left. left;
    time = record { later = omega arith; nothing_else = λ t d le left. inl left; keeps = λ t d le left. left; seen_too = λ left. left; same_clip = refl };
  }

  module _ (seen' : Disk) (later : List Event) (e : Event) (more : later ≡ log ++ e ∷ []) where
    elapses : ((old : Outcomes) → old seen → LeftBy e old seen') → Elapses (state_of first seen clip log f) (state_of first seen' clip later f')
    elapses sees = rw more (record {
      later = omega (arith, length-append log (e ∷ []));
      nothing_else = λ t d le left. since_last (λ d. d ≡ first) log e t d le left;
      keeps = λ t d le left. since_kept (λ d. d ≡ first) log e t d le left;
      seen_too = λ left. last_after (λ d. d ≡ first) log e seen' (sees _ left);
      same_clip = refl;
    })

    -- one that a step makes
    pub steps_one : (step : Disk → Disk → Type 0) → step seen seen' → ((old : Outcomes) → old seen → LeftBy e old seen') → ((old : Outcomes) (d : Disk) → LeftBy e old d → (c : Disk) × old c × step c d)
        → Steps step (state_of first seen clip log f) (state_of first seen' clip later f')
    steps_one step part sees leads = record {
      part = part;
      crash = rw more (λ d left. leads _ d (after_last (λ d. d ≡ first) log e d left));
      time = elapses sees;
    }

  -- one that leaves no more than was left
  pub looks_one : (later : List Event) (e : Event) → later ≡ log ++ e ∷ [] → ((old : Outcomes) → old seen → LeftBy e old seen) → ((old : Outcomes) (d : Disk) → LeftBy e old d → old d)
      → Looks (state_of first seen clip log f) (state_of first seen clip later f')
  looks_one later e more sees no_more = record {
    seen = refl;
    no_more = rw more (λ d left. no_more _ d (after_last (λ d. d ≡ first) log e d left));
    time = elapses seen later e more sees;
  }

-- what is left then is what this event leaves
pub left_last : (first : Disk) (log later : List Event) (e : Event) → later ≡ log ++ e ∷ [] → (P : Outcomes)
    → ((old : Outcomes) (d : Disk) → LeftBy e old d → P d)
    → (d : Disk) → LeftAfter (λ c. c ≡ first) later d → P d
left_last first log later e more P leads d left = leads _ d (after_last (λ d. d ≡ first) log e d (rw more at left))

-- files that nothing was done to
pub settled_first : (first seen : Disk) (clip : List ℕ) (log : List Event) (f : ℕ) → seen ≡ first → log ≡ []
    → 0 < length seen.journal → slice_index seen.journal 0 ≢ 1 → IsSettled (state_of first seen clip log f)
unfolding LeftAfter
settled_first first seen clip log f same none some closed = rw none (record {
  on_disk = record {
    only_image = λ d left. ap (λ (c : Disk). c.image) (left ∙ sym same);
    only_journal = λ d left. ap (λ (c : Disk). c.journal) (left ∙ sym same);
    only_record = λ d left. ap (λ (c : Disk). c.record_text) (left ∙ sym same);
  };
  some = some;
  closed = closed;
})
