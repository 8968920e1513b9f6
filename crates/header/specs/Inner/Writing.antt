-- A part of the fields written, as the function that writes that part promises it. Assumes nothing: this is a definition.
use Rattle.std.specs.Prelude.{ℕ, List, take, drop}
use Rattle.header.specs.Fields.{fields}
use Rattle.header.specs.declared.value.DiscHeader.{DiscHeader}
use Rattle.header.specs.Header.{field_bytes, put_fields}

-- the n fields from number k on
unfoldable pub put_some : ℕ → ℕ → DiscHeader → List ℕ → List ℕ
put_some k n h image = put_fields (take n (drop k fields)) (take n (drop k (field_bytes h))) image
