-- `wish_list::list::paths_verdict` meets its contract. The invariant of its loop: the paths that are left are judged behind those before them.
use Rattle.std.specs.Prelude.{◌≡◌, ◌+◌, List, ℕ, [], length}
use Rattle.wish_list.specs.Paths.{paths_in, paths_verdict}
use Rattle.wish_list.specs.Inner.Earlier.{IsKept}
use Rattle.wish_list.proofs.list.paths_verdict.Given as goal

abbrev pub invariant-loop : goal.invariant-loop
invariant-loop l = record {
  left : l.counter + length (paths_in l.rest) ≡ l.count;
  judged : (before : List (List ℕ)) × IsKept before l.earlier.last.now l.earlier.marks × (paths_verdict [] (paths_in l.paths) ≡ paths_verdict before (paths_in l.rest));
}
