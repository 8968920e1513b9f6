-- How calls go on, one after the other. Assumes nothing.
use Rattle.std.proofs.Common.{inl, inr, ⊎_elim, refl, ◌∙◌, arith}
use Rattle.journal.specs.Disk.{Disk, State, Outcomes, Follows, Elapses, LeavesOnly, Looks, Steps}
use Rattle.journal.specs.Inner.Carried.{Carries}

-- ---- what a run of calls carries out

-- nothing was called yet
pub carried_none : (step : Disk → Disk → Type 0) → ((d : Disk) → step d d) → (s : State) → Carries step s s
carried_none step same s = record
    { later = omega arith; part = same s.seen; now = λ d left. (d, left, same d); since = λ t d le left. inl left; seen_too = λ left. left; same_clip = refl }

-- a call that writes, and one that looks
pub carried-steps : (step : Disk → Disk → Type 0) (old new : State) → Steps step old new → Carries step old new
carried-steps step old new steps = record {
  later = steps.time.later;
  part = steps.part;
  now = steps.crash;
  since = λ t d le left. ⊎_elim (λ was. inl was) (λ here. inr (steps.crash d here)) (steps.time.nothing_else t d le left);
  seen_too = steps.time.seen_too;
  same_clip = steps.time.same_clip;
}

pub carried-looks : (step : Disk → Disk → Type 0) → ((d : Disk) → step d d) → (old new : State) → Looks old new → Carries step old new
carried-looks step same old new looks = record {
  later = looks.time.later;
  part = rw looks.seen (same old.seen);
  now = λ d left. (d, looks.no_more d left, same d);
  since = λ t d le left. ⊎_elim (λ was. inl was) (λ here. inr (d, looks.no_more d here, same d)) (looks.time.nothing_else t d le left);
  seen_too = looks.time.seen_too;
  same_clip = looks.time.same_clip;
}

-- no call is one that looks
pub looks_none : (s : State) → Looks s s
looks_none s = record {
  seen = refl;
  no_more = λ d left. left;
  time =
      record { later = omega arith; nothing_else = λ t d le left. inl left; keeps = λ t d le left. left; seen_too = λ left. left; same_clip = refl };
}

-- one more call that looks
pub looks_on : (old mid new : State) → Looks old mid → Looks mid new → Looks old new
looks_on old mid new first second = record {
  seen = second.seen ∙ first.seen;
  no_more = λ d left. first.no_more d (second.no_more d left);
  time = record {
    later = omega (arith, first.time.later, second.time.later);
    nothing_else = λ t d le left. ⊎_elim
        (λ was. ⊎_elim (λ at_first. inl at_first) (λ here. inl (old.counts_now t d le (first.no_more d here))) (first.time.nothing_else t d le was))
        (λ here. inr here)
        (second.time.nothing_else t d (omega (arith, le, first.time.later)) left);
    keeps = λ t d le left. second.time.keeps t d (omega (arith, le, first.time.later)) (first.time.keeps t d le left);
    seen_too = λ left. second.time.seen_too (first.time.seen_too left);
    same_clip = second.time.same_clip ∙ first.time.same_clip;
  };
}

-- one after the other
pub carried_on : (step : Disk → Disk → Type 0) → ((b c d : Disk) → step b c → step c d → step b d) → (old mid new : State) → Carries step old mid
    → Carries step mid new → Carries step old new
carried_on step trans old mid new first second = record {
  later = omega (arith, first.later, second.later);
  part = trans old.seen mid.seen new.seen first.part second.part;
  now = both;
  since = λ t d le left. ⊎_elim (first.since t d le) (λ s. inr (behind s.0 d s.1 s.2)) (second.since t d (omega (arith, le, first.later)) left);
  seen_too = λ left. second.seen_too (first.seen_too left);
  same_clip = second.same_clip ∙ first.same_clip;
}
  where
    behind : (c d : Disk) → mid.may_leave c → step c d → (b : Disk) × old.may_leave b × step b d
    behind c d left is = let f = first.now c left in (f.0, f.1, trans f.0 c d f.2 is)

    both : Follows step old.may_leave new.may_leave
    both d left = let s = second.now d left in behind s.0 d s.1 s.2

-- as a wider step
pub carried-wider : (step wide : Disk → Disk → Type 0) → ((c d : Disk) → step c d → wide c d) → (old new : State) → Carries step old new → Carries wide old new
carried-wider step wide leads old new carried = record {
  later = carried.later;
  part = leads old.seen new.seen carried.part;
  now = λ d left. let s = carried.now d left in (s.0, s.1, leads s.0 d s.2);
  since = λ t d le left. ⊎_elim (λ was. inl was) (λ s. inr (s.0, s.1, leads s.0 d s.2)) (carried.since t d le left);
  seen_too = carried.seen_too;
  same_clip = carried.same_clip;
}

-- a call that looks, and one that writes a part of the step
pub carried-turn : (step part : Disk → Disk → Type 0) → ((d : Disk) → step d d) → ((b c d : Disk) → step b c → step c d → step b d)
    → ((c d : Disk) → part c d → step c d)
    → (old mid read new : State) → Carries step old mid → Looks mid read → Steps part read new → Carries step old new
carried-turn step part same trans wider old mid read new so_far looks steps =
    carried_on step trans old read new (carried_on step trans old mid read so_far (carried-looks step same mid read looks))
    (carried-wider part step wider read new (carried-steps part read new steps))

-- ---- what a crash leaves

-- where each outcome of old, stepped, has P
pub carried-leaves : (step : Disk → Disk → Type 0) (old new : State) (P : Outcomes) → Carries step old new → ((d : Disk) → old.may_leave d → P d)
    → ((c d : Disk) → old.may_leave c → step c d → P d)
    → LeavesOnly old new P
carried-leaves step old new P carried here leads = record {
  later = carried.later;
  each = λ d left. ⊎_elim (λ was. here d (old.only_now d was)) (λ s. leads s.0 d s.1 s.2) (carried.since old.moment d (omega arith) left);
  before = λ t d le left. ⊎_elim (λ was. inl was) (λ s. inr (leads s.0 d s.1 s.2)) (carried.since t d le left);
  seen_too = carried.seen_too;
}

-- no call yet
pub leaves_none : (s : State) (P : Outcomes) → ((d : Disk) → s.may_leave d → P d) → LeavesOnly s s P
leaves_none s P here = record { later = omega arith; each = λ d left. here d (s.only_now d left); before = λ t d le left. inl left; seen_too = λ left. left }

-- one call more, after which a crash leaves what has P
pub goes_on : (old mid new : State) (P : Outcomes) → LeavesOnly old mid P → Elapses mid new → ((d : Disk) → new.may_leave d → P d) → LeavesOnly old new P
goes_on old mid new P so_far time here = record {
  later = omega (arith, so_far.later, time.later);
  each = λ d left. ⊎_elim (so_far.each d) (here d) (time.nothing_else old.moment d so_far.later left);
  before = λ t d le left. ⊎_elim (so_far.before t d le) (λ now. inr (here d now)) (time.nothing_else t d (omega (arith, le, so_far.later)) left);
  seen_too = λ left. time.seen_too (so_far.seen_too left);
}

-- one run behind another
pub then_on : (old mid new : State) (P Q : Outcomes) → LeavesOnly old mid P → LeavesOnly mid new Q → ((d : Disk) → Q d → P d) → LeavesOnly old new P
then_on old mid new P Q first second leads = record {
  later = omega (arith, first.later, second.later);
  each = λ d left. ⊎_elim (first.each d) (leads d) (second.before old.moment d first.later left);
  before = λ t d le left. ⊎_elim (first.before t d le) (λ q. inr (leads d q)) (second.before t d (omega (arith, le, first.later)) left);
  seen_too = λ left. second.seen_too (first.seen_too left);
}

-- as a wider claim
pub leaves-wider : (old new : State) (P Q : Outcomes) → LeavesOnly old new Q → ((d : Disk) → Q d → P d) → LeavesOnly old new P
leaves-wider old new P Q leaves leads = record {
  later = leaves.later;
  each = λ d left. leads d (leaves.each d left);
  before = λ t d le left. ⊎_elim (λ was. inl was) (λ q. inr (leads d q)) (leaves.before t d le left);
  seen_too = leaves.seen_too;
}

-- what is seen at the end
pub leaves_what_is_seen : (old new : State) (P : Outcomes) → LeavesOnly old new P → old.may_leave old.seen → P new.seen
leaves_what_is_seen old new P leaves seen = leaves.each new.seen (new.counts_now old.moment new.seen leaves.later (leaves.seen_too seen))
