-- `Clusters::from` meets its contract: what the region has from its first multiple of 0x8000 on, divided by 0x8000.
use Rattle.std.proofs.Common.{◌-◌, sym, arith}
use Rattle.space.specs.Laws.AllocateLaws.{align-up-le}
use Rattle.space.specs.Laws.ClusterLaws.{all-before, clusters-from}
use Rattle.space.proofs.clusters.ClustersFromDiscRegion.from.Goals as goal

pub returns-then-end-first : goal.returns-then-end-first
returns-then-end-first c =
    let a = all-before c.args.region (omega arith) in
    record { before = sym a.0; clusters = sym a.1; rest = sym a.2 }

pub overflow_cast-left : goal.overflow_cast-left
overflow_cast-left c = omega (arith, align-up-le 0x8000 c.args.region.offset (omega arith))

pub overflow_sub-result : goal.overflow_sub-result
overflow_sub-result c = omega (arith, align-up-le 0x8000 c.args.region.offset (omega arith))

pub returns : goal.returns
returns c =
    let a = clusters-from c.args.region (c.end-end.result - c.align_up-first.result) (omega arith) in
    record { before = a.0; clusters = a.1; rest = a.2 }
