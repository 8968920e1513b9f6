-- What recovery makes of what a call may leave. Assumes nothing.
use Rattle.std.proofs.Common.{◌≡◌, ◌≢◌, inl, inr, ⊎_elim, refl, sym, ◌∙◌, ap, subst, ℕ, ◌-◌, ◌<◌, ◌≤◌, ◌==◌, ◌&&◌, ◌||◌, not, nat_le, Bool, true, false, if◌then◌else◌, List, [], ◌∷◌, length, drop, get_or, arith, length-drop}
use Rattle.std.proofs.lemmas.Bool.{false≢true, and_parts, and_from, and_left, and_right, cond-true, cond-false, cases_Bool, leb-true, leb-false, lt-leb, eq-eqb, ne_eqb}
use Rattle.endian.specs.Bytes.{span}
use Rattle.journal.specs.Disk.{Disk, TearsImage, TearsJournal, PutsRecord, TornEnd, with_image, with_record}
use Rattle.journal.specs.Journal.{after, copied, copying_in, writes_of, writes_in, steps_in, steps_fit, copying_fits, record_count, record_after, is_open, is_copied, is_owner, record_fits, head_applies, is_whole, applies, finished, finished_image, recovered, kept_of, opened, opened_disk, will_apply, found_in, ComesFrom, IsBeforeOrAfter}
use Rattle.journal.specs.declared.recovery.Found.TheVariants.{Nothing, Finished, Another}
use Rattle.journal.specs.Inner.Carried.{Loose}
use Rattle.journal.specs.Inner.Head.{EndsAs}
use Rattle.journal.proofs.Copies.{copied_again}
use Rattle.journal.proofs.Loose.{after_again, after_twice}
use Rattle.journal.proofs.Owned.{applies-torn, applies-loose}
use Rattle.journal.proofs.Torn.{put-torn_end}
use Rattle.journal.proofs.Gates.{behind_first, behind_second, first_kept, second_kept, copying-behind, steps-behind, writes_of-behind, record_after-behind, applies-behind, is_open-behind}

-- ---- what recovery makes of a disk

pub recovered-open : (number : ℕ) (d : Disk) → is_open d.journal ≡ true → applies d.journal number d.image ≡ true → recovered number d ≡ finished d
unfolding recovered
recovered-open number d gate can = cond-true _ (finished d) (kept_of d) (and_from _ _ gate can)

pub recovered-closed : (number : ℕ) (d : Disk) → is_open d.journal ≡ false → recovered number d ≡ kept_of d
unfolding recovered
recovered-closed number d gate = cond-false _ (finished d) (kept_of d) (and_left _ _ gate)

pub recovered_another : (number : ℕ) (d : Disk) → applies d.journal number d.image ≡ false → recovered number d ≡ kept_of d
unfolding recovered
recovered_another number d cannot = cond-false _ (finished d) (kept_of d) (and_right _ _ cannot)

pub is_open-closed : (journal : List ℕ) → get_or journal 0 0 ≢ 1 → is_open journal ≡ false
is_open-closed journal closed = and_left _ _ (ne_eqb (get_or journal 0 0) 1 closed)

pub is_open-short : (journal : List ℕ) → length journal < 1266 → is_open journal ≡ false
is_open-short journal short = and_right _ _ (lt-leb 1266 (length journal) short)

pub long_open : (journal : List ℕ) → is_open journal ≡ true → 1266 ≤ length journal
long_open journal gate = leb-true 1266 (length journal) (and_parts (get_or journal 0 0 == 1) (nat_le 1266 (length journal)) gate).1

-- closed, or as it was noted
sound-or : (shut whole : Bool) → false ≡ (not shut || whole) → (shut ≡ true) × (whole ≡ false)
sound-or true whole is = (refl, sym is)
sound-or false whole is = absurd (false≢true is)

pub unsound : (journal : List ℕ) → false ≡ (not (is_open journal) || is_whole journal) → (is_open journal ≡ true) × (is_whole journal ≡ false)
unsound journal is = sound-or (is_open journal) (is_whole journal) is

pub sound_whole : (journal : List ℕ) → true ≡ (not (is_open journal) || is_whole journal) → is_open journal ≡ true → is_whole journal ≡ true
sound_whole journal is gate = sym (ap (λ (b : Bool). not b || is_whole journal) gate) ∙ sym is

pub recovered_unsound : (number : ℕ) (d : Disk) → is_whole d.journal ≡ false → recovered number d ≡ kept_of d
recovered_unsound number d torn = recovered_another number d (and_right _ _ torn)

-- with the copy on the disk, and without
finished_image-copied : (journal image : List ℕ) → is_copied journal ≡ true → finished_image journal image ≡ after (writes_in journal) image
finished_image-copied journal image is = ap (after (writes_in journal)) (cond-true (is_copied journal) image (copied (copying_in journal) image) is)

finished_image-uncopied : (journal image : List ℕ) → is_copied journal ≡ false → finished_image journal image ≡ after (writes_in journal) (copied (copying_in journal) image)
finished_image-uncopied journal image is = ap (after (writes_in journal)) (cond-false (is_copied journal) image (copied (copying_in journal) image) is)

either_way : (b : Bool) (image image' : List ℕ) → image' ≡ image → (if b then image else image') ≡ image
either_way true image image' same = refl
either_way false image image' same = same

-- whatever the second gate, where the copy has been made
finished_image-done : (journal image : List ℕ) → copied (copying_in journal) image ≡ image → finished_image journal image ≡ after (writes_in journal) image
finished_image-done journal image done = ap (after (writes_in journal)) (either_way (is_copied journal) image (copied (copying_in journal) image) done)

-- where a record goes with the edit
pub record_after-some : (journal text : List ℕ) → record_count journal ≢ 0 → record_after journal text ≡ span journal 1266 (record_count journal - 1)
record_after-some journal text some = cond-false (record_count journal == 0) text (span journal 1266 (record_count journal - 1)) (ne_eqb (record_count journal) 0 some)

-- a record that has been put may be put again
pub record_after_twice : (journal text : List ℕ) → record_after journal (record_after journal text) ≡ record_after journal text
record_after_twice journal text = go (record_count journal == 0)
  where
    go : (b : Bool) → (if b then (if b then text else span journal 1266 (record_count journal - 1)) else span journal 1266 (record_count journal - 1)) ≡ (if b then text else span journal 1266 (record_count journal - 1))
    go true = refl
    go false = refl

-- ---- what another recovery makes

pub comes_from_same : (number : ℕ) (d : Disk) → ComesFrom number d d
comes_from_same number d = record { same = refl; not_ahead = inl refl }

-- of what a later part of a recovery leaves
pub comes_from_later : (number : ℕ) (b c d : Disk) → recovered number c ≡ recovered number b → c.record_text ≡ b.record_text → ComesFrom number c d → ComesFrom number b d
comes_from_later number b c d same record_same from = record {
  same = from.same ∙ same;
  not_ahead = ⊎_elim (λ old. inl (old ∙ record_same)) (λ new. inr (new ∙ same)) from.not_ahead;
}

pub comes_from_end : (number : ℕ) (b c d : Disk) → recovered number c ≡ recovered number b → EndsAs number c d → ComesFrom number b d
comes_from_end number b c d same ends = record { same = ends.same ∙ same; not_ahead = inr (ends.kept ∙ same) }

-- ---- journals that differ at the gates

module _ (c d : Disk) (behind : drop 2 c.journal ≡ drop 2 d.journal) (long : 1266 ≤ length d.journal) (can_step : steps_fit d.journal (length d.image) (steps_in d.journal) ≡ true) where
  writes_in-behind : writes_in c.journal ≡ writes_in d.journal
  writes_in-behind = ap (writes_of c.journal) (steps-behind c.journal d.journal behind long) ∙ writes_of-behind c.journal d.journal behind long (length d.image) (steps_in d.journal) can_step

  record-behind : c.record_text ≡ d.record_text → record_after c.journal c.record_text ≡ record_after d.journal d.record_text
  record-behind same = ap (record_after c.journal) same ∙ record_after-behind c.journal d.journal behind long d.record_text

  -- the second gate too is the same
  finished-behind : is_copied c.journal ≡ is_copied d.journal → c.image ≡ d.image → c.record_text ≡ d.record_text → finished c ≡ finished d
  finished-behind second same record_same =
      let copying = copying-behind c.journal d.journal behind long in
      let writes = writes_in-behind in
      let text = record-behind record_same in
      λ i. record { image = after (writes i) (if second i then same i else copied (copying i) (same i)); record_text = text i }

-- ---- a journal that is open, and this image's

module _ (number : ℕ) (d : Disk) (gate : is_open d.journal ≡ true) (can : applies d.journal number d.image ≡ true) where
  parts : (is_owner d.journal number d.image ≡ true) × (copying_fits (length d.image) (copying_in d.journal) ≡ true) × (steps_fit d.journal (length d.image) (steps_in d.journal) ≡ true) × (record_fits d.journal ≡ true)
  parts = let a = and_parts _ _ (and_parts (head_applies d.journal number d.image) _ can).0 in let b = and_parts _ _ a.0 in let c = and_parts _ _ b.0 in (c.0, c.1, b.1, a.1)

  pub can_copy : copying_fits (length d.image) (copying_in d.journal) ≡ true
  can_copy = parts.1

  pub can_step : steps_fit d.journal (length d.image) (steps_in d.journal) ≡ true
  can_step = parts.2

  pub now : recovered number d ≡ finished d
  now = recovered-open number d gate can

  long : 1266 ≤ length d.journal
  long = long_open d.journal gate

  -- where all of it has been done
  pub recovered_done : is_copied d.journal ≡ true → after (writes_in d.journal) d.image ≡ d.image → record_after d.journal d.record_text ≡ d.record_text → recovered number d ≡ kept_of d
  recovered_done is done text = now ∙ (λ i. record { image = (finished_image-copied d.journal d.image is ∙ done) i; record_text = text i })

  module _ (c : Disk) where
    -- while the copy is made
    pub applies-copying : TearsImage (copying_in d.journal).to (copying_in d.journal).len d c → applies c.journal number c.image ≡ true
    applies-copying torn = (λ i. applies (torn.journal i) number c.image) ∙ applies-torn d.journal d.image c.image number (copying_in d.journal) can_copy torn.image ∙ can

    pub copying_leaves : is_copied d.journal ≡ false → TearsImage (copying_in d.journal).to (copying_in d.journal).len d c → ComesFrom number d c
    copying_leaves uncopied torn =
        let image : finished_image d.journal c.image ≡ finished_image d.journal d.image = finished_image-uncopied d.journal c.image uncopied
        ∙ ap (after (writes_in d.journal)) (copied_again (copying_in d.journal) d.image can_copy c.image torn.image) ∙ sym (finished_image-uncopied d.journal d.image uncopied) in
        record {
          same = recovered-open number c (ap is_open torn.journal ∙ gate) (applies-copying torn)
              ∙ (λ i. record { image = finished_image (torn.journal i) c.image; record_text = record_after (torn.journal i) (torn.record_text i) })
              ∙ (λ i. record { image = image i; record_text = record_after d.journal d.record_text }) ∙ sym now;
          not_ahead = inl torn.record_text;
        }

    -- while the second gate is opened
    module _ (torn : TearsJournal 1 1 d c) where
      pub is_open-marking : is_open c.journal ≡ true
      is_open-marking = is_open-behind c.journal d.journal (behind_second d.journal c.journal torn.journal) long (first_kept d.journal c.journal torn.journal) ∙ gate

      pub applies-marking : applies c.journal number c.image ≡ true
      applies-marking = ap (applies c.journal number) torn.image ∙ applies-behind c.journal d.journal (behind_second d.journal c.journal torn.journal) long number d.image ∙ can

      pub marking_leaves : copied (copying_in d.journal) d.image ≡ d.image → ComesFrom number d c
      marking_leaves done =
          let behind = behind_second d.journal c.journal torn.journal in
          let copying = copying-behind c.journal d.journal behind long in
          let done_c : copied (copying_in c.journal) c.image ≡ c.image = (λ i. copied (copying i) (torn.image i)) ∙ done ∙ sym torn.image in
          let image : finished_image c.journal c.image ≡ finished_image d.journal d.image = finished_image-done c.journal c.image done_c
          ∙ (λ i. after (writes_in-behind c d behind long can_step i) (torn.image i)) ∙ sym (finished_image-done d.journal d.image done) in
          let text = record-behind c d behind long can_step torn.record_text in
          record { same = recovered-open number c is_open-marking applies-marking ∙ (λ i. record { image = image i; record_text = text i }) ∙ sym now; not_ahead = inl torn.record_text }

    -- while the steps are carried out
    pub applies-stepping : Loose (steps_in d.journal) d c → applies c.journal number c.image ≡ true
    applies-stepping loose = (λ i. applies (loose.journal i) number c.image) ∙ applies-loose d.journal d.image c.image number d.journal (steps_in d.journal) can_step loose.image ∙ can

    pub stepping_leaves : is_copied d.journal ≡ true → Loose (steps_in d.journal) d c → ComesFrom number d c
    stepping_leaves is loose =
        let image : finished_image d.journal c.image ≡ finished_image d.journal d.image = finished_image-copied d.journal c.image is
        ∙ after_again d.journal d.image c.image (steps_in d.journal) can_step loose.image ∙ sym (finished_image-copied d.journal d.image is) in
        record {
          same = recovered-open number c (ap is_open loose.journal ∙ gate) (applies-stepping loose)
              ∙ (λ i. record { image = finished_image (loose.journal i) c.image; record_text = record_after (loose.journal i) (loose.record_text i) })
              ∙ (λ i. record { image = image i; record_text = record_after d.journal d.record_text }) ∙ sym now;
          not_ahead = inl loose.record_text;
        }

    -- while the record is put
    pub putting_leaves : (text : List ℕ) → is_copied d.journal ≡ true → after (writes_in d.journal) d.image ≡ d.image → record_count d.journal ≢ 0 → text ≡ record_after d.journal d.record_text → PutsRecord text d c → ComesFrom number d c
    putting_leaves text is done some text_is puts =
        let text_same : record_after d.journal c.record_text ≡ record_after d.journal d.record_text = record_after-some d.journal c.record_text some ∙ sym (record_after-some d.journal d.record_text some) in
        let can_c : applies c.journal number c.image ≡ true = (λ i. applies (puts.journal i) number (puts.image i)) ∙ can in
        record {
          same = recovered-open number c (ap is_open puts.journal ∙ gate) can_c
              ∙ (λ i. record { image = finished_image (puts.journal i) (puts.image i); record_text = record_after (puts.journal i) c.record_text })
              ∙ (λ i. record { image = finished_image d.journal d.image; record_text = text_same i }) ∙ sym now;
          not_ahead = ⊎_elim (λ old. inl old) (λ new. inr (
              let image : c.image ≡ finished_image d.journal d.image = puts.image ∙ sym (finished_image-copied d.journal d.image is ∙ done) in
              let recorded : c.record_text ≡ record_after d.journal d.record_text = new ∙ text_is in
              (λ i. record { image = image i; record_text = recorded i }) ∙ sym now)) puts.record_text;
        }

    -- while the gate is closed
    pub closing_leaves : recovered number d ≡ kept_of d → TearsJournal 0 1 d c → EndsAs number d c
    closing_leaves done torn =
        let behind = behind_first d.journal c.journal torn.journal in
        let closed : is_open c.journal ≡ false → recovered number c ≡ recovered number d
        = λ shut. recovered-closed number c shut ∙ (λ i. record { image = torn.image i; record_text = torn.record_text i }) ∙ sym done in
        let still : is_open c.journal ≡ true → recovered number c ≡ recovered number d
        = λ open_c. recovered-open number c open_c (ap (applies c.journal number) torn.image ∙ applies-behind c.journal d.journal behind long number d.image ∙ can)
        ∙ finished-behind c d behind long can_step (second_kept d.journal c.journal torn.journal) torn.image torn.record_text ∙ sym now in
        record { same = ⊎_elim still closed (cases_Bool (is_open c.journal)); kept = (λ i. record { image = torn.image i; record_text = torn.record_text i }) ∙ sym done }

-- ---- the steps carried out, and then the record put

module _ (number : ℕ) (brought carried : Disk) (gate : is_open brought.journal ≡ true) (can : applies brought.journal number brought.image ≡ true) (stepped : carried ≡ with_image brought (after (writes_in brought.journal) brought.image)) where
  -- they may be carried out again
  pub stepped_again : after (writes_in carried.journal) carried.image ≡ carried.image
  stepped_again = subst (λ (d : Disk). after (writes_in d.journal) d.image ≡ d.image) (sym stepped) (after_twice brought.journal brought.image (steps_in brought.journal) (can_step number brought gate can))

  -- and nothing is left to do
  pub nothing_left : (recorded : Disk) → is_copied brought.journal ≡ true → is_open carried.journal ≡ true → applies carried.journal number carried.image ≡ true
      → recorded ≡ with_record carried (record_after carried.journal carried.record_text) → recovered number recorded ≡ kept_of recorded
  nothing_left recorded is open_now can_now put = subst (λ (d : Disk). recovered number d ≡ kept_of d) (sym put)
      (recovered_done number (with_record carried (record_after carried.journal carried.record_text)) open_now can_now (ap (λ (d : Disk). is_copied d.journal) stepped ∙ is) stepped_again (record_after_twice carried.journal carried.record_text))

-- ---- a journal that is closed

-- once the gate is opened
pub recovered-opened : (number : ℕ) (d : Disk) → will_apply number d ≡ true → recovered number (opened_disk d) ≡ finished (opened_disk d)
recovered-opened number d ready = let both = and_parts (is_open (opened d.journal)) (applies (opened d.journal) number d.image) ready in recovered-open number (opened_disk d) both.0 both.1

pub found_in-unsound : (number : ℕ) (d : Disk) → is_open d.journal ≡ true → is_whole d.journal ≡ false → found_in number d ≡ Another
found_in-unsound number d gate torn =
    let cannot : applies d.journal number d.image ≡ false = and_right _ _ torn in
    λ i. if gate i then (if cannot i then Finished else Another) else Nothing

pub found_in-opened : (number : ℕ) (d : Disk) → will_apply number d ≡ true → found_in number (opened_disk d) ≡ Finished
found_in-opened number d ready =
    let both = and_parts (is_open (opened d.journal)) (applies (opened d.journal) number d.image) ready in
    λ i. if both.0 i then (if both.1 i then Finished else Another) else Nothing

pub whole-opened : (number : ℕ) (d b : Disk) → will_apply number d ≡ true → b ≡ opened_disk d → is_whole b.journal ≡ true
whole-opened number d b ready is =
    let applies_then = (and_parts (is_open (opened d.journal)) (applies (opened d.journal) number d.image) ready).1 in
    ap (λ (e : Disk). is_whole e.journal) is ∙ (and_parts (head_applies (opened d.journal) number d.image) (is_whole (opened d.journal)) applies_then).1

-- a later recovery of it
pub opened_comes_from : (number : ℕ) (d b c : Disk) → will_apply number d ≡ true → b ≡ opened_disk d → ComesFrom number b c → IsBeforeOrAfter number (kept_of d) (finished (opened_disk d)) c
opened_comes_from number d b c ready is from =
    let same : recovered number b ≡ finished (opened_disk d) = ap (recovered number) is ∙ recovered-opened number d ready in
    inr (from.same ∙ same, ⊎_elim (λ old. inl (old ∙ ap (λ (e : Disk). e.record_text) is)) (λ new. inr (new ∙ same)) from.not_ahead)

-- while the gate is opened
pub opening_leaves : (number : ℕ) (d c : Disk) → will_apply number d ≡ true → TearsJournal 0 1 d c → IsBeforeOrAfter number (kept_of d) (finished (opened_disk d)) c
opening_leaves number d c ready torn =
    let both = and_parts (is_open (opened d.journal)) (applies (opened d.journal) number d.image) ready in
    let long : 1266 ≤ length (opened d.journal) = long_open (opened d.journal) both.0 in
    let whole : TornEnd 0 1 d.journal (opened d.journal) = put-torn_end d.journal 0 (1 ∷ []) (omega arith) in
    let behind = behind_first d.journal c.journal torn.journal ∙ sym (behind_first d.journal (opened d.journal) whole) in
    let second = second_kept d.journal c.journal torn.journal ∙ sym (second_kept d.journal (opened d.journal) whole) in
    ⊎_elim
    (λ open_c. inr (
      recovered-open number c open_c (ap (applies c.journal number) torn.image ∙ applies-behind c.journal (opened d.journal) behind long number d.image ∙ both.1)
          ∙ finished-behind c (opened_disk d) behind long (can_step number (opened_disk d) both.0 both.1) second torn.image torn.record_text,
      inl torn.record_text,
    ))
    (λ shut. inl (recovered-closed number c shut ∙ (λ i. record { image = torn.image i; record_text = torn.record_text i }), torn.record_text))
    (cases_Bool (is_open c.journal))

-- while the gate of a journal without a head is written
pub keeping_leaves : (number : ℕ) (d c : Disk) → length d.journal < 1266 → TearsJournal 0 1 d c → ComesFrom number d c
keeping_leaves number d c short torn =
    let short_c : length c.journal < 1266 = omega (arith, ap length torn.journal.after, length-drop 1 c.journal, length-drop 1 d.journal) in
    record {
      same = recovered-closed number c (is_open-short c.journal short_c) ∙ (λ i. record { image = torn.image i; record_text = torn.record_text i }) ∙ sym (recovered-closed number d (is_open-short d.journal short));
      not_ahead = inl torn.record_text;
    }

-- a closed journal whose gate is 1 has no head
pub short_closed : (journal : List ℕ) → is_open journal ≡ false → get_or journal 0 0 ≡ 1 → length journal < 1266
short_closed journal closed gate = leb-false 1266 (length journal) (sym (λ i. eq-eqb (get_or journal 0 0) 1 gate i && nat_le 1266 (length journal)) ∙ closed)

pub puts_record_refl : (text : List ℕ) (d : Disk) → PutsRecord text d d
puts_record_refl text d = record { image = refl; journal = refl; record_text = inl refl }
