-- `disc::regions::free_clusters` meets its contract: the free regions of the disc, behind opening's tests.
use Rattle.std.proofs.lemmas.Result.{err_from_is_err_and}
use Rattle.space.specs.Listing.{cluster_row}
use Rattle.disc.proofs.Asked.{free_told, free_listed, none_told, none_listed}
use Rattle.disc.proofs.regions.free_clusters.Goals as goal

pub returns-in_err-disc-clause-answer : goal.returns-in_err-disc-clause-answer
returns-in_err-disc-clause-answer c =
    let p = err_from_is_err_and c.from_residual.result c.from_residual.ensures.1 in
    rw (p.1, p.2, ← c.new-lent.ensures.memory) (none_told _ _ _ c.of_image.ensures _ c.in_err-disc.was cluster_row c.args.list.now)

pub returns-in_err-disc-clause-list_after : goal.returns-in_err-disc-clause-list_after
returns-in_err-disc-clause-list_after c = rw (← c.new-lent.ensures.memory) (none_listed _ _ _ c.of_image.ensures _ c.in_err-disc.was cluster_row c.args.list.now)

pub returns-clause-answer : goal.returns-clause-answer
returns-clause-answer c =
    rw (← c.new-lent.ensures.memory) (free_told _ _ _ c.of_image.ensures _ c.in_ok-disc.was cluster_row _ c.used_regions.ensures.free c.args.list.now _ c.list_free.ensures.answer)

pub returns-clause-list_after : goal.returns-clause-list_after
returns-clause-list_after c =
    rw (← c.new-lent.ensures.memory) (free_listed _ _ _ c.of_image.ensures _ c.in_ok-disc.was cluster_row _ c.used_regions.ensures.free c.args.list.now _ c.list_free.ensures.list_after)
