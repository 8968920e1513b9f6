-- `table::components::component_end` meets its contract: the first unit that parts two components ends this one.
use Rattle.std.proofs.Common.{rules, ap, ◌∙◌, refl, arith}
use Rattle.tree.specs.Units.{units}
use Rattle.table.specs.Inner.Read.{unit_of}
use Rattle.table.proofs.Judging.{whole-rest}
use Rattle.table.proofs.Cuts.{EndsBefore, walked, found-parts, ends-before, ends-last}
use Rattle.table.proofs.components.component_end.Goals as goal

ends : (c : goal.After-rest) → EndsBefore c.args.path.now c.args.at c.rest.result.now
ends c =
    let path = c.args.path.now in
    let at = c.args.at in
    let ran = c.in-Some.ensures.ran in
    let w = walked unit_of _ _ (λ x b q k. search rules) ran.0 c.new-units.result ran.2.0 ran.1 ran.2.1 ran.3 in
    let p = found-parts unit_of _ _ (λ x b q k. search rules) c.in-Some.field-0 ran.1 ran.4.0 w.1 ran.4.1 in
    ends-before path at c.requires c.new-units.result ran.2.0 (c.new-units.ensures ∙ ap units (whole-rest path at)) w.0 (unit_of c.in-Some.field-0) c.find.new.self ran.2.2 p c.rest.result.now c.rest.ensures

pub overflow_sub-result : goal.overflow_sub-result
overflow_sub-result c = omega (arith, (ends c).long)

pub overflow_sub-result-in-Some : goal.overflow_sub-result-in-Some
overflow_sub-result-in-Some c = omega (arith, (ends c).long)

pub returns-in-Some : goal.returns-in-Some
returns-in-Some c = record { further = omega (arith, (ends c).long); within = omega arith; first = (ends c).cut _ refl }

pub returns-in-None : goal.returns-in-None
returns-in-None c =
    let path = c.args.path.now in
    let at = c.args.at in
    let ran = c.in-None.ensures.ran in
    let w = walked unit_of _ _ (λ x b q k. search rules) ran.0 c.new-units.result ran.2.0 ran.1 ran.2.1 ran.3 in
    record {
      further = c.requires;
      within = omega arith;
      first = ends-last path at c.requires c.new-units.result ran.2.0 (c.new-units.ensures ∙ ap units (whole-rest path at)) w.0 ran.2.2.0;
    }
