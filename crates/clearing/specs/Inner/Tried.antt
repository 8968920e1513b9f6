-- What comes of the runs that are tried. Assumes nothing: these are definitions.
use Rattle.std.specs.Prelude.{List, [], ◌∷◌, if◌then◌else◌, nat_lt}
use Rattle.clearing.specs.declared.stretch.Run.{Run}

-- the cheapest of one and those behind it, the first of equals
abbrev pub cheapest_from : Run → List Run → Run
cheapest_from best [] = best
cheapest_from best (run ∷ runs) =
    cheapest_from (if nat_lt run.cost best.cost then run else best) runs
