use Rattle.std.proofs.Common.{rules, ◌≡◌, ◌+◌, ◌≤◌, ℕ, max, length, arith}
use Rattle.std.proofs.lemmas.List.{length-replicate}
use Rattle.counter_write.proofs.Lengths.{tears_grown}
use Rattle.counter_write.proofs.files.RealFiles.write_journal.Goals as goal
use Rattle.counter_write.proofs.files.RealFiles.write_journal.Goals.{then-is_none+in_ok-on+in-Some-1, then-is_none+in_ok-on+in-None-1, else-is_none}

pub returns-clause-steps : goal.returns-clause-steps
returns-clause-steps c =
    let image : c.if-is_none.self.image.len ≡ c.args.self.now.image.len =
    elim c.if-is_none.branch [ then-is_none+in_ok-on+in-Some-1 w ↦ search rules | then-is_none+in_ok-on+in-None-1 w ↦ search rules | else-is_none w ↦ search rules ] in
    let clip : c.if-is_none.self.clip.len ≡ c.args.self.now.clip.len =
    elim c.if-is_none.branch [ then-is_none+in_ok-on+in-Some-1 w ↦ search rules | then-is_none+in_ok-on+in-None-1 w ↦ search rules | else-is_none w ↦ search rules ] in
    let journal : c.if-is_none.self.journal.len ≡ c.args.self.now.journal.len =
    elim c.if-is_none.branch [ then-is_none+in_ok-on+in-Some-1 w ↦ search rules | then-is_none+in_ok-on+in-None-1 w ↦ search rules | else-is_none w ↦ search rules ] in
    let within : c.args.at ≤ c.args.self.now.journal.len = omega (arith, c.requires, length-replicate {A = ℕ} c.args.self.now.journal.len 0) in
    let end : c.in_ok-end.end ≡ c.args.at + length c.args.bytes.now = search rules in
    let grown : c.max-self.result ≡ max c.args.self.now.journal.len (c.args.at + length c.args.bytes.now) = search rules in
    tears_grown c.args.self.now.image.len c.args.self.now.journal.len c.args.self.now.clip.len c.args.at (length c.args.bytes.now) _ _ _ within image clip grown
