-- The theorems of specs/Theorem, by their names. Assumes nothing.
use Rattle.placement.specs.Theorem.{Complete, Sound, Exactly, EndsLeast, EmptyAtZero, LastLargest, PassesLayout}
use Rattle.placement.proofs.Laws.Complete.{complete}
use Rattle.placement.proofs.Laws.Sound.{sound, empty-at-0, last-largest}
use Rattle.placement.proofs.Laws.Exactly.{no-placement, none-fits, ends-late, ends_there}
use Rattle.placement.proofs.Laws.Regions.{placed-passes, passes-placed}

pub fits-if-placed : Complete
fits-if-placed = complete

pub placed-if-fits : Sound
placed-if-fits = sound

pub fits-exactly : Exactly
fits-exactly t end sizes = (no-placement t end sizes, none-fits t end sizes)

pub ends-least : EndsLeast
ends-least t sizes = (λ end offsets p. ends-late t end sizes offsets p, ends_there t sizes)

pub empty-files : EmptyAtZero
empty-files = empty-at-0

pub last-rest : LastLargest
last-rest = last-largest

pub layout-passes : PassesLayout
layout-passes t end sizes offsets h = (placed-passes t end sizes offsets h, passes-placed t end sizes offsets h)
