-- An edit can still be begun after calls that change nothing of image, journal and record. Assumes nothing.
use Rattle.std.proofs.Common.{◌≡◌, sym, ◌∙◌, Bool}
use Rattle.std.proofs.lemmas.Bool.{false≢true}
use Rattle.std.specs.Prelude.{Result, Ok, Err, IsOk, OnOk}
use Rattle.journal.specs.Disk.{State, NoMore, Looks, OnlyRecord}
use Rattle.journal.specs.Journal.{IsSettled}
use Rattle.counter_write.specs.Inner.Desk.{IsReady, Keeps, KeepsOthers}

module _ (known : Bool) (old new : State) (ready : IsReady known old) where
  pub same : new.seen ≡ old.seen → NoMore old.may_leave new.may_leave → IsReady known new
  same seen no_more = record {
    settled = λ k. let settled : IsSettled old = ready.settled k in record {
      on_disk = record {
        only_image = λ d left. rw seen (settled.on_disk.only_image d (no_more d left));
        only_journal = λ d left. rw seen (settled.on_disk.only_journal d (no_more d left));
        only_record = λ d left. rw seen (settled.on_disk.only_record d (no_more d left));
      };
      some = rw seen settled.some;
      closed = rw seen settled.closed;
    };
    some = rw seen ready.some;
  }

  pub after_keeps : Keeps old new → IsReady known new
  after_keeps keeps = same keeps.seen keeps.no_more

  pub after_looks : Looks old new → IsReady known new
  after_looks looks = same looks.seen looks.no_more

-- a record that is another, and is on the disk
pub after_record : (known : Bool) (old mid new : State) → IsReady known old → KeepsOthers old mid → Looks mid new → OnlyRecord mid.seen.record_text new.may_leave → IsReady known new
after_record known old mid new ready keeps looks only = record {
  settled = λ k. let settled : IsSettled old = ready.settled k in record {
    on_disk = record {
      only_image = λ d left. let s = keeps.no_more d (looks.no_more d left) in rw looks.seen (s.2 ∙ settled.on_disk.only_image s.0 s.1 ∙ sym keeps.image);
      only_journal = λ d left. let s = keeps.no_more d (looks.no_more d left) in rw looks.seen (s.3 ∙ settled.on_disk.only_journal s.0 s.1 ∙ sym keeps.journal);
      only_record = λ d left. rw looks.seen (only d left);
    };
    some = rw looks.seen (rw keeps.journal settled.some);
    closed = rw looks.seen (rw keeps.journal settled.closed);
  };
  some = rw looks.seen (rw keeps.journal ready.some);
}

-- of a result that is no error
pub of_ok : {A E : Type 0} (P : Type 0) (r : Result A E) → IsOk r → OnOk r P → P
of_ok P (Ok a) ok on = on
of_ok P (Err e) ok on = absurd (false≢true ok)
