-- A journal of which only the gates are written: all that stands behind them is the same. Assumes nothing.
use Rattle.std.proofs.Common.{◌≡◌, ◌⊎◌, inl, inr, ⊎_elim, refl, sym, ◌∙◌, ap, ℕ, ◌+◌, ◌-◌, ◌*◌, ◌^◌, ◌≤◌, ◌==◌, ◌&&◌, ◌||◌, nat_le, Bool, true, if◌then◌else◌, List, [], ◌∷◌, length, take, drop, get_or, replicate, arith, length-drop, get_or-drop, drop-drop}
use Rattle.std.proofs.lemmas.Bool.{and_parts, and_left, or_cases, cases_Bool, eqb-true, eq-eqb, leb-true}
use Rattle.std.proofs.lemmas.List.{get_or-take}
use Rattle.endian.specs.Bytes.{put, span, be32}
use Rattle.endian.specs.Laws.Stored.{be32-drop}
use Rattle.journal.specs.declared.plan.Step.{Step}
use Rattle.journal.specs.Disk.{Disk, State, TornEnd, IsOnDisk, with_journal}
use Rattle.journal.specs.Journal.{number_at, note_in, write_of, writes_of, step_fits, steps_fit, steps_in, record_count, record_after, copying_in, copying_fits, applies, sum_from, noted_end, is_whole, is_open, is_copied, can_write, has_source, IsSettled}
use Rattle.journal.proofs.Heads.{SameHead, head_behind, number_same, copying_same, steps_same, record_count_same, owner_same}

-- ---- a write of one gate, cut short or whole

-- of the first gate, and of the second
pub behind_first : (d j : List ℕ) → TornEnd 0 1 d j → drop 2 j ≡ drop 2 d
behind_first d j torn = sym (drop-drop 1 1 j) ∙ ap (λ (l : List ℕ). drop 1 l) torn.after ∙ drop-drop 1 1 d

pub second_kept : (d j : List ℕ) → TornEnd 0 1 d j → is_copied j ≡ is_copied d
second_kept d j torn = ap (λ (n : ℕ). n == 1) (sym (get_or-drop 1 j 0 0) ∙ ap (λ (l : List ℕ). get_or l 0 0) torn.after ∙ get_or-drop 1 d 0 0)

pub behind_second : (d j : List ℕ) → TornEnd 1 1 d j → drop 2 j ≡ drop 2 d
behind_second d j torn = torn.after

pub first_kept : (d j : List ℕ) → TornEnd 1 1 d j → get_or j 0 0 ≡ get_or d 0 0
first_kept d j torn = sym (get_or-take 1 j 0 0 (omega arith)) ∙ ap (λ (l : List ℕ). get_or l 0 0) torn.before ∙ get_or-take 1 d 0 0 (omega arith)

-- ---- what stands behind the gates

module _ (j d : List ℕ) (behind : drop 2 j ≡ drop 2 d) (long : 1266 ≤ length d) where
  pub length-behind : length j ≡ length d
  length-behind = omega (arith, long, length-drop 2 j, length-drop 2 d, ap length behind)

  same_head : SameHead j d
  same_head = head_behind j d behind long

  pub span-behind : (from n : ℕ) → 2 ≤ from → span j from n ≡ span d from n
  span-behind from n le =
      let e : 2 + (from - 2) ≡ from = omega arith in
      let rest : drop (2 + (from - 2)) j ≡ drop (2 + (from - 2)) d = sym (drop-drop (from - 2) 2 j) ∙ ap (λ (l : List ℕ). drop (from - 2) l) behind ∙ drop-drop (from - 2) 2 d in
      ap (λ (l : List ℕ). take n l) (rw e at rest)

  pub copying-behind : copying_in j ≡ copying_in d
  copying-behind = copying_same j d same_head

  pub steps-behind : steps_in j ≡ steps_in d
  steps-behind = steps_same j d same_head

  pub record_count-behind : record_count j ≡ record_count d
  record_count-behind = record_count_same j d same_head

  pub record_after-behind : (text : List ℕ) → record_after j text ≡ record_after d text
  record_after-behind text =
      let bytes : span j 1266 (record_count d - 1) ≡ span d 1266 (record_count d - 1) = span-behind 1266 (record_count d - 1) (omega arith) in
      ap (λ (n : ℕ). if n == 0 then text else span j 1266 (n - 1)) record_count-behind ∙ ap (λ (l : List ℕ). if record_count d == 0 then text else l) bytes

  pub note-behind : note_in j ≡ note_in d
  note-behind =
      ap (λ (n : ℕ). span j (1266 + (n - 1)) (number_at j 26)) record_count-behind
      ∙ ap (λ (n : ℕ). span j (1266 + (record_count d - 1)) n) (number_same j d same_head 26 (omega arith) (omega arith))
      ∙ span-behind (1266 + (record_count d - 1)) (number_at d 26) (omega arith)

  bytes-behind : (s : Step) → (s.len ≡ 0) ⊎ ((s.from ≡ 0) ⊎ (2 ≤ s.from)) → (write_of j s).bytes ≡ (write_of d s).bytes
  bytes-behind s (inl none) =
      ap (λ (n : ℕ). if s.from == 0 then replicate n 0 else span j s.from n) none ∙ sym (ap (λ (n : ℕ). if s.from == 0 then replicate n 0 else span d s.from n) none)
  bytes-behind s (inr (inl zeros)) =
      ap (λ (n : ℕ). if n == 0 then replicate s.len 0 else span j s.from s.len) zeros ∙ sym (ap (λ (n : ℕ). if n == 0 then replicate s.len 0 else span d s.from s.len) zeros)
  bytes-behind s (inr (inr le)) = ap (λ (l : List ℕ). if s.from == 0 then replicate s.len 0 else l) (span-behind s.from s.len le)

  -- the sources of steps that fit lie behind the head
  write_of-behind : (long_image : ℕ) (s : Step) → step_fits d long_image s ≡ true → write_of j s ≡ write_of d s
  write_of-behind long_image s fits =
      let source = ⊎_elim
      (λ none. inl (eqb-true s.len 0 none))
      (λ some. inr (⊎_elim
      (λ zeros. inl (eqb-true s.from 0 zeros))
      (λ inside. let le : 1266 ≤ s.from = leb-true 1266 s.from (and_parts (nat_le 1266 s.from) (nat_le (s.from + s.len) (length d)) inside).0 in inr (omega arith))
      (or_cases (s.from == 0) (nat_le 1266 s.from && nat_le (s.from + s.len) (length d)) (and_parts (can_write long_image s.at s.len) (has_source d s) some).1)))
      (or_cases (s.len == 0) (can_write long_image s.at s.len && has_source d s) fits) in
      λ i. record { at = s.at; bytes = bytes-behind s source i }

  pub writes_of-behind : (long_image : ℕ) (steps : List Step) → steps_fit d long_image steps ≡ true → writes_of j steps ≡ writes_of d steps
  unfolding steps_fit writes_of
  writes_of-behind long_image [] fits = refl
  writes_of-behind long_image (s ∷ steps) fits =
      let parts = and_parts (step_fits d long_image s) (steps_fit d long_image steps) fits in
      λ i. write_of-behind long_image s parts.0 i ∷ writes_of-behind long_image steps parts.1 i

  steps_fit-behind : (long_image : ℕ) (steps : List Step) → steps_fit j long_image steps ≡ steps_fit d long_image steps
  unfolding steps_fit
  steps_fit-behind long_image [] = refl
  steps_fit-behind long_image (s ∷ steps) =
      λ i. (s.len == 0 || (can_write long_image s.at s.len && (s.from == 0 || (nat_le 1266 s.from && nat_le (s.from + s.len) (length-behind i))))) && steps_fit-behind long_image steps i

  word-behind : (k : ℕ) → be32 j (2 + k) ≡ be32 d (2 + k)
  word-behind k = sym (be32-drop 2 j k) ∙ ap (λ (l : List ℕ). be32 l k) behind ∙ be32-drop 2 d k

  number-behind : (at : ℕ) → 2 ≤ at → number_at j at ≡ number_at d at
  number-behind at le =
      let high : 2 + (at - 2) ≡ at = omega arith in
      let low : 2 + (at - 2 + 4) ≡ at + 4 = omega arith in
      λ i. rw high at (word-behind (at - 2)) i * 2 ^ 32 + rw low at (word-behind (at - 2 + 4)) i

  -- whether a journal that ends there is whole
  abbrev whole_to : List ℕ → ℕ → Bool
  whole_to l end = nat_le 1266 end && nat_le (end + 8) (length l) && number_at l end == sum_from 0 (span l 2 (end - 2))

  whole_to-behind : (end : ℕ) → whole_to j end ≡ whole_to d end
  whole_to-behind end =
      ⊎_elim
      (λ behind_head.
      let le : 1266 ≤ end = leb-true 1266 end behind_head in
      λ i. nat_le 1266 end && nat_le (end + 8) (length-behind i) && number-behind end (omega arith) i == sum_from 0 (span-behind 2 (end - 2) (omega arith) i))
      (λ before. and_left _ _ (and_left _ _ before) ∙ sym (and_left _ _ (and_left _ _ before)))
      (cases_Bool (nat_le 1266 end))

  is_whole-behind : is_whole j ≡ is_whole d
  is_whole-behind =
      let from : number_at j 74 ≡ number_at d 74 = number-behind 74 (omega arith) in
      let len : number_at j 66 ≡ number_at d 66 = number-behind 66 (omega arith) in
      (λ i. whole_to j (from i + len i)) ∙ whole_to-behind (noted_end d)

  pub applies-behind : (number : ℕ) (image : List ℕ) → applies j number image ≡ applies d number image
  applies-behind number image =
      let owner = owner_same j d same_head number image in
      let steps = ap (steps_fit j (length image)) steps-behind ∙ steps_fit-behind (length image) (steps_in d) in
      λ i. owner i && copying_fits (length image) (copying-behind i) && steps i && (nat_le (record_count-behind i) 4097 && nat_le (1266 + (record_count-behind i - 1)) (length-behind i)) && is_whole-behind i

  pub is_open-behind : get_or j 0 0 ≡ get_or d 0 0 → is_open j ≡ is_open d
  is_open-behind gate = λ i. gate i == 1 && nat_le 1266 (length-behind i)

second-put : (d : List ℕ) (gate : ℕ) → 1 ≤ length d → get_or (put d 1 (gate ∷ [])) 1 0 ≡ gate
unfolding put
second-put [] gate some = absurd (omega arith)
second-put (x ∷ d) gate some = refl

-- the second gate, once it is opened
pub is_copied-put : (d : List ℕ) → 1 ≤ length d → is_copied (put d 1 (1 ∷ [])) ≡ true
is_copied-put d some = eq-eqb (get_or (put d 1 (1 ∷ [])) 1 0) 1 (second-put d 1 some)

-- a gate that is shut, and all on the disk
pub settled_shut : (old : Disk) (new : State) → IsOnDisk new → new.seen ≡ with_journal old (put old.journal 0 (0 ∷ [])) → IsSettled new
unfolding put
settled_shut old new on_disk is =
    let journal : new.seen.journal ≡ 0 ∷ drop 1 old.journal = ap (λ (d : Disk). d.journal) is in
    record {
      on_disk = on_disk;
      some = rw journal (omega arith);
      closed = λ open_now. let z : ◌≡◌ {A = ℕ} 0 1 = sym (ap (λ (l : List ℕ). get_or l 0 0) journal) ∙ open_now in omega (arith, z);
    }
