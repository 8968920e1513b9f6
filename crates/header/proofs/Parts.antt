-- The header is put in three parts. Assumes nothing.
use Prim.Native.Nat.{ℕ}
use mathlib.Core.Path.{◌≡◌, refl}
use mathlib.Core.List.{List}
use Rattle.header.specs.declared.value.DiscHeader.{DiscHeader}
use Rattle.header.specs.Fields.{fields}
use Rattle.header.specs.Header.{field_bytes, put_fields, put_header}
use Rattle.header.specs.Inner.Writing.{put_some}

pub put-parts : (h : DiscHeader) (image : List ℕ) → put_some 13 8 h (put_some 7 6 h (put_some 0 7 h image)) ≡ put_header h image
unfolding fields field_bytes put_fields put_some
put-parts h image = refl
