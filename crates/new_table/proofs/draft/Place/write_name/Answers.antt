-- `new_table::draft::Place::write_name` meets its contract: the zero byte stands right behind the name.
use Rattle.std.proofs.Common.{◌≡◌, ◌+◌, ◌-◌, ◌∷◌, [], length, arith, refl}
use Rattle.std.proofs.lemmas.List.{take_all}
use Rattle.endian.specs.Bytes.{put, span}
use Rattle.endian.proofs.Parts.{put-append}
use Rattle.new_table.proofs.draft.Place.write_name.Goals as goal

pub returns-clause-bytes : goal.returns-clause-bytes
returns-clause-bytes c =
    let nm = c.args.name.now in
    let at = c.args.self.text - (length nm + 1) in
    let all : span nm 0 (length nm) ≡ nm = take_all (length nm) nm (omega arith) in
    let copied : c.copy.new.s ≡ put c.args.bytes.now at nm = rw all at c.copy.ensures in
    let joined = put-append c.args.bytes.now at nm (at + length nm) (0 ∷ []) refl (omega (arith, c.requires.text, c.requires.within)) in
    cc
