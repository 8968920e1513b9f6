-- `header::check` meets its contract: the fields that are left give the answer of all, as long as none refuses.
use Rattle.std.proofs.Common.{◌≡◌, drop}
use Rattle.header.specs.Fields.{fields}
use Rattle.header.specs.Verdicts.{all_fields_verdict, header_verdict}
use Rattle.header.proofs.fields.check.Given as goal

abbrev pub invariant-loop-field : goal.invariant-loop-field
invariant-loop-field l = header_verdict l.image ≡ all_fields_verdict l.image (drop l.field-index fields)
