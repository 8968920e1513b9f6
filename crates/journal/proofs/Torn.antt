-- Writes that a crash may cut short. Assumes nothing.
use Rattle.std.proofs.Common.{◌≡◌, ℕ, ◌+◌, ◌-◌, ◌≤◌, List, ◌++◌, length, take, drop, refl, sym, ◌∙◌, ap, arith, append_assoc, drop_at, drop-drop, length-append, length-take-le}
use Rattle.std.proofs.lemmas.List.{take_at}
use Rattle.std.proofs.Math.Seq.{take-take}
use Rattle.endian.specs.Bytes.{put}
use Rattle.endian.specs.Laws.Stored.{length-put, put-before, put-after}
use Rattle.journal.specs.Disk.{Disk, Torn, TornEnd, TearsImage, TearsJournal}

-- what was put is a write that nothing cut
pub put-torn : (s : List ℕ) (at : ℕ) (bs : List ℕ) → at + length bs ≤ length s → Torn at (length bs) s (put s at bs)
put-torn s at bs fits = record { same_length = length-put s at bs fits; below = put-before s at bs fits; above = put-after s at bs fits }

-- up to the end of what was put, and from there on
module _ (s : List ℕ) (at : ℕ) (bs : List ℕ) (le : at ≤ length s) where
  both : length (take at s ++ bs) ≡ at + length bs
  both = omega (arith, length-append (take at s) bs, length-take-le at s le)

  take_put : take (at + length bs) (put s at bs) ≡ take at s ++ bs
  unfolding put
  take_put = rw (← append_assoc (take at s) bs (drop (at + length bs) s)) (take_at (take at s ++ bs) _ (at + length bs) both)

  drop_put : drop (at + length bs) (put s at bs) ≡ drop (at + length bs) s
  unfolding put
  drop_put = rw (← append_assoc (take at s) bs (drop (at + length bs) s)) (drop_at (take at s ++ bs) _ (at + length bs) both)

  take-put : take at (put s at bs) ≡ take at s
  unfolding put
  take-put = take_at (take at s) _ at (length-take-le at s le)

  pub put-torn_end : TornEnd at (length bs) s (put s at bs)
  put-torn_end = record { before = take-put; after = drop_put }

put-open : (s : List ℕ) (at : ℕ) (bs : List ℕ) → put s at bs ≡ take at s ++ (bs ++ drop (at + length bs) s)
unfolding put
put-open s at bs = refl

drop-further : (k m : ℕ) (s t : List ℕ) → drop m s ≡ drop m t → drop (m + k) s ≡ drop (m + k) t
drop-further k m s t e = sym (drop-drop k m s) ∙ ap (drop k) e ∙ drop-drop k m t

-- right behind what was put
pub put-behind : (s : List ℕ) (at : ℕ) (a : List ℕ) (m : ℕ) (b : List ℕ) → at ≤ length s → m ≡ at + length a → put (put s at a) m b ≡ put s at (a ++ b)
put-behind s at a m b le e =
    let n : at + length (a ++ b) ≡ at + length a + length b = omega (arith, length-append a b) in
    let d : drop (at + length a + length b) (put s at a) ≡ drop (at + length a + length b) s =
    drop-further (length b) (at + length a) (put s at a) s (drop_put s at a le) in
    rw e
    (put-open (put s at a) (at + length a) b
    ∙ rw (
      take_put s at a le,
      d,
      append_assoc (take at s) a (b ++ drop (at + length a + length b) s),
      ← append_assoc a b
          (drop (at + length a + length b) s),
    ) (sym (rw n at (put-open s at (a ++ b)))))

-- no write, a wider one, and one write after another
pub tears_image_refl : (at n : ℕ) (d : Disk) → TearsImage at n d d
tears_image_refl at n d = record { image = record { same_length = refl; below = λ i lt. refl; above = λ i le. refl }; journal = refl; record_text = refl }

pub tears_image-wider : (at n at' n' : ℕ) (c d : Disk) → at' ≤ at → at + n ≤ at' + n' → TearsImage at n c d → TearsImage at' n' c d
tears_image-wider at n at' n' c d le ge torn = record {
  image = record { same_length = torn.image.same_length; below = λ i lt. torn.image.below i (omega arith); above = λ i past. torn.image.above i (omega arith) };
  journal = torn.journal;
  record_text = torn.record_text;
}

pub tears_image_trans : (at n : ℕ) (b c d : Disk) → TearsImage at n b c → TearsImage at n c d → TearsImage at n b d
tears_image_trans at n b c d first second = record {
  image = record {
    same_length = second.image.same_length ∙ first.image.same_length;
    below = λ i lt. second.image.below i lt ∙ first.image.below i lt;
    above = λ i le. second.image.above i le ∙ first.image.above i le;
  };
  journal = second.journal ∙ first.journal;
  record_text = second.record_text ∙ first.record_text;
}

pub tears_journal_refl : (at n : ℕ) (d : Disk) → TearsJournal at n d d
tears_journal_refl at n d = record { image = refl; journal = record { before = refl; after = refl }; record_text = refl }

take-less : (m n : ℕ) (s t : List ℕ) → m ≤ n → take n s ≡ take n t → take m s ≡ take m t
take-less m n s t le e = sym (take-take m n s le) ∙ ap (take m) e ∙ take-take m n t le

pub tears_journal-wider : (at n at' n' : ℕ) (c d : Disk) → at' ≤ at → at + n ≤ at' + n' → TearsJournal at n c d → TearsJournal at' n' c d
tears_journal-wider at n at' n' c d le ge torn =
    let e : at + n + (at' + n' - (at + n)) ≡ at' + n' = omega arith in
    record {
      image = torn.image;
      journal = record {
        before = take-less at' at d.journal c.journal le torn.journal.before;
        after =
            rw e at (drop-further (at' + n' - (at + n)) (at + n) d.journal c.journal torn.journal.after);
      };
      record_text = torn.record_text;
    }

pub tears_journal_trans : (at n : ℕ) (b c d : Disk) → TearsJournal at n b c → TearsJournal at n c d → TearsJournal at n b d
tears_journal_trans at n b c d first second = record {
  image = second.image ∙ first.image;
  journal = record { before = second.journal.before ∙ first.journal.before; after = second.journal.after ∙ first.journal.after };
  record_text = second.record_text ∙ first.record_text;
}
