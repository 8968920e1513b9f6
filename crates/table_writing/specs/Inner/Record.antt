-- The bytes of an entry's four fields. Assumes nothing: these are definitions.
use Rattle.std.specs.Prelude.{ℕ, List}
use Rattle.table_writing.specs.Inner.Flat.{record_bytes}
use Rattle.table_writing.specs.Inner.Kind.{kind_number}
use Rattle.table_writing.specs.declared.record.Record.{Record}

abbrev pub bytes_of_record : Record → List ℕ
bytes_of_record r = record_bytes (kind_number r.kind) r.name r.place r.next
