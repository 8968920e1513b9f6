-- `sum::is_whole` meets its contract: it looks where the head says.
use Rattle.std.proofs.Common.{◌≡◌, ℕ, ◌+◌, ◌-◌, ◌*◌, ◌^◌, ◌≤◌, ◌==◌, ◌&&◌, nat_le, true, false, List, length, take, drop, sym, ◌∙◌, ap, arith}
use Rattle.std.proofs.lemmas.Bool.{and_left, le-leb}
use Rattle.std.proofs.lemmas.List.{get_or-take}
use Rattle.endian.specs.Bytes.{span, be32}
use Rattle.endian.specs.Laws.Stored.{be32-same, be32-drop}
use Rattle.journal.specs.Disk.{Disk}
use Rattle.journal.specs.Journal.{number_at, sum_from, noted_end, is_whole}
use Rattle.journal.proofs.Heads.{whole_by_head}
use Rattle.journal.proofs.sum.is_whole.Goals as goal

-- the number that is read is the one that stands there
number_read : (journal : List ℕ) (at : ℕ) → number_at (span journal at 8) 0 ≡ number_at journal at
number_read journal at =
    let rest : List ℕ = drop at journal in
    let z : at + 0 ≡ at = omega arith in
    let high = be32-same (take 8 rest) rest 0 (λ i lt. get_or-take 8 rest (0 + i) 0 (omega arith)) ∙ be32-drop at journal 0 in
    let low = be32-same (take 8 rest) rest 4 (λ i lt. get_or-take 8 rest (4 + i) 0 (omega arith)) ∙ be32-drop at journal 4 in
    λ i. (high ∙ ap (be32 journal) z) i * 2 ^ 32 + low i

cannot : (head journal : List ℕ) → head ≡ take 1266 journal → length head ≡ 1266 → (nat_le 1266 (noted_end head) && nat_le (noted_end head + 8) (length journal)) ≡ false
    → false ≡ is_whole journal
cannot head journal is long outside = sym (whole_by_head head journal is long ∙ and_left _ _ outside)

can : (head journal : List ℕ) (end sum noted : ℕ) → head ≡ take 1266 journal → length head ≡ 1266 → end ≡ noted_end head → 1266 ≤ end → end + 8 ≤ length journal
    → sum ≡ sum_from 0 (span journal 2 (end - 2)) → noted ≡ number_at journal end → (noted == sum) ≡ is_whole journal
can head journal end sum noted is long at low high sum_is noted_is =
    let first : true ≡ nat_le 1266 end = sym (le-leb 1266 end low) in
    let second : true ≡ nat_le (end + 8) (length journal) = sym (le-leb (end + 8) (length journal) high) in
    (λ i. first i && second i && noted_is i == sum_is i)
    ∙ (λ i. nat_le 1266 (at i) && nat_le (at i + 8) (length journal) && number_at journal (at i) == sum_from 0 (span journal 2 (at i - 2)))
    ∙ sym (whole_by_head head journal is long)

pub returns-in_default-clause-whole : goal.returns-in_default-clause-whole
returns-in_default-clause-whole g c known =
    cannot c.args.head.now _ (c.requires.same known) c.requires.head (rw c.journal_len.ensures at c.in_default.ensures.outside)

pub returns-clause-whole : goal.returns-clause-whole
returns-clause-whole g c known =
    let old = (g.F.Files.state c.args.files.now).seen in
    let inside = c.in-Some.ensures.inside in
    let same : (g.F.Files.state c.sum_up_to.new.files).seen.journal ≡ old.journal = ap (λ (d : Disk). d.journal) c.sum_up_to.ensures.looks.seen in
    let read = c.in_ok-read_journal.ensures.bytes known ∙ ap (λ (l : List ℕ). span l c.in-Some.end 8) same in
    let noted = c.number.ensures ∙ ap (λ (l : List ℕ). number_at l 0) read ∙ number_read old.journal c.in-Some.end in
    can c.args.head.now old.journal c.in-Some.end _ _ (c.requires.same known) c.requires.head inside.0 inside.1 (omega (arith, inside.2, c.journal_len.ensures)) (c.in_ok-sum.ensures.sum known) noted
