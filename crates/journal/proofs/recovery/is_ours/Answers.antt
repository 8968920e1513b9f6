use Rattle.std.proofs.Common.{◌≡◌, ◌&&◌, Bool, sym, ◌∙◌, ap, ℕ, List, length, min, take, replicate, arith, length-take-le}
use Rattle.std.proofs.Math.Bool.{and-true}
use Rattle.std.proofs.lemmas.List.{length-replicate, take_min}
use Rattle.endian.specs.Bytes.{span}
use Rattle.journal.specs.Disk.{Disk}
use Rattle.journal.specs.Journal.{head_applies}
use Rattle.journal.proofs.recovery.is_ours.Goals as goal

pub returns-clause-ours : goal.returns-clause-ours
returns-clause-ours g c known =
    let old = (g.F.Files.state c.args.files.now).seen in
    let zeros : List ℕ = replicate 1088 0 in
    let long : length zeros ≡ 1088 = length-replicate {A = ℕ} 1088 0 in
    let shown : c.min.result ≡ min 1088 (length old.image) = omega (arith, c.min.ensures, c.image_len-image_len.ensures.len) in
    let n : length (take c.min.result zeros) ≡ min 1088 (length old.image) = length-take-le c.min.result zeros (omega (arith, shown, long)) ∙ shown in
    let header : c.read_image.new.bytes ≡ take 1088 old.image = c.in_ok-read_image.ensures.bytes known ∙ ap (span old.image 0) n ∙ take_min 1088 old.image in
    let journal = c.journal_len.ensures ∙ ap (λ (d : Disk). length d.journal) c.read_image.ensures.looks.seen in
    let head = c.applies.ensures.same old.journal old.image (sym journal) (c.requires.same known) (sym c.image_len-image_len.ensures.len) header in
    head ∙ sym (ap (λ (b : Bool). head_applies old.journal c.args.number old.image && b) (c.requires.whole known) ∙ and-true _)
