use Rattle.std.proofs.Common.{◌≡◌, ◌||◌, not, true, inl, refl, sym, ◌∙◌, ap, subst}
use Rattle.journal.specs.Disk.{Disk}
use Rattle.journal.specs.Journal.{ComesFrom, IsStillRecovered, kept_of, is_open, is_whole}
use Rattle.journal.proofs.Carried.{looks_on, then_on}
use Rattle.journal.proofs.OnDisk.{still_looks}
use Rattle.journal.proofs.Recovered.{unsound, sound_whole, found_in-unsound, recovered_unsound}
use Rattle.journal.proofs.recovery.resume.Goals as goal

pub returns-in_err-is_sound-clause-any_moment : goal.returns-in_err-is_sound-clause-any_moment
returns-in_err-is_sound-clause-any_moment g c known =
    still_looks _ _ _ (looks_on _ _ _ (looks_on _ _ _ (looks_on _ _ _ c.sync_image.ensures.looks c.sync_journal.ensures.looks) c.sync_record.ensures.looks) c.is_sound.ensures.looks)

-- ---- a journal that is open, and not as it was noted

pub returns-then-not-branch-clause-found : goal.returns-then-not-branch-clause-found
returns-then-not-branch-clause-found g c known =
    let synced = looks_on _ _ _ (looks_on _ _ _ c.sync_image.ensures.looks c.sync_journal.ensures.looks) c.sync_record.ensures.looks in
    let is = sym c.if-not-branch.true ∙ c.in_ok-is_sound.ensures.sound known ∙ ap (λ (d : Disk). not (is_open d.journal) || is_whole d.journal) synced.seen in
    let both = unsound (g.F.Files.state c.args.files.now).seen.journal is in
    sym (found_in-unsound c.args.number (g.F.Files.state c.args.files.now).seen both.0 both.1)

pub returns-then-not-branch-clause-done : goal.returns-then-not-branch-clause-done
returns-then-not-branch-clause-done g c known =
    let synced = looks_on _ _ _ (looks_on _ _ _ c.sync_image.ensures.looks c.sync_journal.ensures.looks) c.sync_record.ensures.looks in
    let is = sym c.if-not-branch.true ∙ c.in_ok-is_sound.ensures.sound known ∙ ap (λ (d : Disk). not (is_open d.journal) || is_whole d.journal) synced.seen in
    let both = unsound (g.F.Files.state c.args.files.now).seen.journal is in
    ap kept_of (c.is_sound.ensures.looks.seen ∙ synced.seen) ∙ sym (recovered_unsound c.args.number (g.F.Files.state c.args.files.now).seen both.1)

pub returns-then-not-branch-clause-any_moment : goal.returns-then-not-branch-clause-any_moment
returns-then-not-branch-clause-any_moment g c known =
    still_looks _ _ _ (looks_on _ _ _ (looks_on _ _ _ (looks_on _ _ _ c.sync_image.ensures.looks c.sync_journal.ensures.looks) c.sync_record.ensures.looks) c.is_sound.ensures.looks)

-- ---- else

pub recover-requires-clause-whole : goal.recover-requires-clause-whole
recover-requires-clause-whole g c known =
    subst (λ (d : Disk). is_open d.journal ≡ true → is_whole d.journal ≡ true) (sym c.is_sound.ensures.looks.seen)
    (sound_whole (g.F.Files.state c.sync_record.new.self).seen.journal (sym c.if-not-branch.false ∙ c.in_ok-is_sound.ensures.sound known))

pub returns-clause-any_moment : goal.returns-clause-any_moment
returns-clause-any_moment g c known =
    let number = c.args.number in
    let old = g.F.Files.state c.args.files.now in
    let read = g.F.Files.state c.is_sound.new.files in
    let looks = looks_on _ _ _ (looks_on _ _ _ (looks_on _ _ _ c.sync_image.ensures.looks c.sync_journal.ensures.looks) c.sync_record.ensures.looks) c.is_sound.ensures.looks in
    then_on old read (g.F.Files.state c.recover.new.files) (IsStillRecovered number old) (ComesFrom number read.seen) (still_looks number old read looks) (c.recover.ensures.any_moment known)
    (λ d from. (old.seen, inl refl, subst (λ (b : Disk). ComesFrom number b d) looks.seen from))
