-- `making::make` meets its contract: given up, nothing to write, or what the journal promises.
use Rattle.std.proofs.Common.{refl, sym}
use Rattle.journaled.proofs.Drafts.{idle-same}
use Rattle.journaled.proofs.Settled.{still-leaves}
use Rattle.journaled.proofs.making.make.Goals as goal

pub returns-then-not-agrees-clause-any_moment : goal.returns-then-not-agrees-clause-any_moment
returns-then-not-agrees-clause-any_moment g c = λ known. still-leaves _ _ _ (c.requires.settled known)

pub returns-then-is_idle-clause-made : goal.returns-then-is_idle-clause-made
returns-then-is_idle-clause-made g c = λ known. (refl, sym (idle-same _ _ _ (c.if-is_idle.ensures.0 refl) c.requires.fits.clip_len))

pub returns-then-is_idle-clause-any_moment : goal.returns-then-is_idle-clause-any_moment
returns-then-is_idle-clause-any_moment g c = λ known. still-leaves _ _ _ (c.requires.settled known)
