-- What spares the program's own region spares the program: no byte of it is altered, so it is read as the same one. Assumes nothing.
use Rattle.std.specs.Prelude.{ℕ, ◌+◌, ◌<◌, ◌≤◌, ◌≡◌, refl, List, length, get_or}
use Rattle.std.proofs.Common.{ap, ◌∙◌, ⊎_elim, arith}
use Rattle.endian.specs.Laws.Stored.{be32-same}
use Rattle.header.specs.Verdicts.{fst_offset, dol_offset}
use Rattle.executable.specs.Program.{program_of, place_of, program_in, program_behind}
use Rattle.executable.specs.Laws.ProgramLaws.{own-cases, program-same}
use Rattle.edit_rules.specs.Change.{Change, written_image}
use Rattle.ledger.proofs.Laws.Written.{Safe, length-written_image, header-low, system-written_image}
use Rattle.ledger.proofs.Laws.Histories.{SameIn}
use Rattle.ledger.proofs.Laws.Opened.{Opened}

pub record ProgramKept (image image' : List ℕ) : Type 0 where
  pub len : length image' ≡ length image
  pub offset : dol_offset image' ≡ dol_offset image
  pub program : program_of image' ≡ program_of image
  pub bytes : SameIn image image' (program_in image)

pub nothing-done : (image : List ℕ) → ProgramKept image image
nothing-done image = record { len = refl; offset = refl; program = refl; bytes = λ i h. refl }

pub same_place : (image image' : List ℕ) → program_of image' ≡ program_of image → program_in image' ≡ program_in image
unfolding program_in
same_place image image' e = ap place_of e

pub kept_trans : (a b c : List ℕ) → ProgramKept a b → ProgramKept b c → ProgramKept a c
kept_trans a b c p q = record {
  len = q.len ∙ p.len;
  offset = q.offset ∙ p.offset;
  program = q.program ∙ p.program;
  bytes = λ i h. q.bytes i (rw (same_place a b p.program) h) ∙ p.bytes i h;
}

-- LAW: an image of the same length, that has the bytes before the table and the program's behind it
pub program-spared : (image image' : List ℕ) → Opened image → length image' ≡ length image → ((i : ℕ) → i < 0x428 → get_or image' i 0 ≡ get_or image i 0) → ((i : ℕ) → 0x440 ≤ i → i < fst_offset image → get_or image' i 0 ≡ get_or image i 0) →
    SameIn image image' (program_behind image) → ProgramKept image image'
program-spared image image' o len header system behind = record {
  len = len;
  offset = offset;
  program = program-same image image' len offset o.program (λ i a b. bytes i (a, b));
  bytes = bytes;
}
  where
    offset : dol_offset image' ≡ dol_offset image
    offset = be32-same image' image 0x420 (λ i l. header (0x420 + i) (omega arith))

    bytes : SameIn image image' (program_in image)
    bytes i h = ⊎_elim (λ b. system i (omega (arith, b.0)) (omega (arith, b.1))) (λ e. behind i (rw e h)) (own-cases (fst_offset image) (program_in image))

module _ (c : Change) (image : List ℕ) (o : Opened image) (s : Safe c image) (behind : SameIn image (written_image c image) (program_behind image)) where
  -- LAW: wherever the program lies
  pub program-kept : ProgramKept image (written_image c image)
  program-kept = program-spared image (written_image c image) o (length-written_image c image s) (header-low c image s) (λ i h. system-written_image c image s i (omega arith)) behind
