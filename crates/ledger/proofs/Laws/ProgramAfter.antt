-- After any list of calls the program is that of the first image: its offset, its region and every byte of it. Assumes nothing.
use Rattle.std.specs.Prelude.{Ok, is_err}
use Rattle.std.specs.Prelude.{ℕ, ◌+◌, ◌-◌, ◌<◌, ◌≤◌, ◌≡◌, cond, not, List, [], ◌∷◌, length}
use Rattle.std.proofs.Common.{sym, ◌∙◌, ⊎_elim, arith, ext_get_or}
use Rattle.endian.specs.Bytes.{span}
use Rattle.endian.specs.Laws.Stored.{length-span, get_d-span}
use Rattle.header.specs.Verdicts.{fst_offset}
use Rattle.space.specs.declared.region.DiscRegion.{DiscRegion}
use Rattle.space.specs.Used.{end_of}
use Rattle.executable.specs.Program.{program_of, program_in}
use Rattle.executable.specs.Laws.ProgramLaws.{Accepted, absent, present, accepted, own-cases}
use Rattle.opened.specs.Opening.{opening}
use Rattle.disc.specs.Calls.{program_answer}
use Rattle.edit_rules.specs.Edits.{verdict_of, image_after}
use Rattle.ledger.specs.Ledger.{Ledger, ledger_with}
use Rattle.ledger.specs.Runs.{Call, image_after_all, AllWithin}
use Rattle.ledger.specs.Theorem.{SameProgram}
use Rattle.ledger.proofs.Laws.Opened.{Opened}
use Rattle.ledger.proofs.Laws.Kept.{Kept}
use Rattle.ledger.proofs.Laws.Steps.{step}
use Rattle.ledger.proofs.Laws.ProgramKept.{ProgramKept, nothing-done, same_place, kept_trans}
use Rattle.ledger.proofs.Laws.TreeAfter.{program-after}

pub program-along : (w : ℕ) (calls : List Call) (image : List ℕ) (l : Ledger) → AllWithin w calls → Kept w image l → ProgramKept image (image_after_all calls image)
unfolding image_after_all
program-along w [] image l a k = nothing-done image
program-along w (c ∷ calls) image l a k =
    let next : List ℕ = image_after c.edit c.account image c.words c.bytes in
    kept_trans image next (image_after_all calls next) (program-after c.edit c.account image c.words c.bytes k.bytes a.1)
    (program-along w calls next (cond (not (is_err (verdict_of c.edit c.account image c.words c.bytes))) (ledger_with c.edit l) l) a.2 (step w image l k c.words c.bytes a.0 c.account c.edit a.1))

-- ---- what it comes to

module _ (first last : List ℕ) (o : Opened first) (p : ProgramKept first last) where
  -- the whole program is in the image, before the table or behind it
  inside : end_of (program_in first) ≤ length first
  inside = go (accepted first o.program)
    where
      some : 0 < (program_in first).size → end_of (program_in first) ≤ length first
      some z =
          ⊎_elim (λ b. omega (arith, b.1, o.bounds.table, o.bounds.image_holds))
          (λ e. omega (arith, o.bounds.image_holds, (o.places.lie 0 ((program_in first).offset + (program_in first).size - 1) (rw e (omega arith, omega arith))).1)) (own-cases (fst_offset first) (program_in first))

      go : Accepted first → end_of (program_in first) ≤ length first
      go (absent z e) = rw e (omega arith)
      go (present z v e) = some (rw e (omega arith))

  pub same-program : SameProgram first last
  same-program =
      let r : DiscRegion = program_in first in
      let whole : end_of r ≤ length last = rw p.len inside in
      let m : length (span last r.offset r.size) ≡ r.size = length-span last r.offset r.size whole in
      let n : length (span first r.offset r.size) ≡ r.size = length-span first r.offset r.size inside in
      record {
        offset = p.offset;
        region = same_place first last p.program;
        bytes = ext_get_or 0 (span last r.offset r.size) (span first r.offset r.size) (m ∙ sym n)
            (λ i d. let d' : i < r.size = rw m at d in get_d-span last r.offset r.size i d' ∙ p.bytes (r.offset + i) (omega arith, omega arith) ∙ sym (get_d-span first r.offset r.size i d'));
        whole = whole;
      }

pub program-reported : (w : ℕ) (first last : List ℕ) → opening last w ≡ Ok tt → ProgramKept first last → program_answer last w ≡ program_of first
unfolding program_answer
program-reported w first last e p = rw e p.program
