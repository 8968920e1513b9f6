-- `Shift::raise` meets its contract: the kind and the name offset are one word, the words behind what was written are the old ones,
-- and those of a file stay.
use native.Mathlib.Omega.{arith}
use Rattle.table_writing.proofs.Raises.{first_small, first-directory, first-file, place_read, next-read, raised-file, raised-directory}
use borrow.Author.Rules.{rules}
use Rattle.table_writing.proofs.raising.Shift.raise.Goals as goal

pub overflow_add-first : goal.overflow_add-first
overflow_add-first c =
    let s = c in
    let h = first_small s.args.table.now s.args.self.number s.args.self.text s.args.k s.requires.within s.requires.raisable.kinds s.requires.names in
    record { fits = omega (arith, h, c.read_u32.ensures) }

pub parent-requires : goal.parent-requires
parent-requires c =
    let s = c in
    let is-directory = first-directory s.args.table.now s.args.self.number s.args.self.text s.args.k s.requires.within s.requires.raisable.kinds s.requires.names (omega (arith, c.read_u32.ensures, c.if-first-ge16777216.true)) in
    let e = place_read s.args.table.now s.args.k s.requires.within _ _ c.write_u32.ensures in
    omega (arith, c.offset_or_parent-place.ensures, e, s.requires.raisable.place is-directory)

pub overflow_add-next : goal.overflow_add-next
overflow_add-next c =
    let s = c in
    let is-directory = first-directory s.args.table.now s.args.self.number s.args.self.text s.args.k s.requires.within s.requires.raisable.kinds s.requires.names (omega (arith, c.read_u32.ensures, c.if-first-ge16777216.true)) in
    let e = next-read s.args.table.now s.args.k s.requires.within _ _ c.write_u32.ensures _ _ c.set_offset_or_parent.ensures in
    record { fits = omega (arith, c.size_or_next-next.ensures, e, s.requires.raisable.next is-directory) }

pub returns-then-first-ge16777216 : goal.returns-then-first-ge16777216
returns-then-first-ge16777216 c =
    let s = c in
    let is-directory = first-directory s.args.table.now s.args.self.number s.args.self.text s.args.k s.requires.within s.requires.raisable.kinds s.requires.names (omega (arith, c.read_u32.ensures, c.if-first-ge16777216.true)) in
    raised-directory s.args.table.now s.args.self.number s.args.self.text s.args.k s.requires.within s.requires.raisable.kinds s.requires.names is-directory _ c.read_u32.ensures _ c.write_u32.ensures _ c.offset_or_parent-place.ensures _ c.parent.ensures _ c.set_offset_or_parent.ensures _ c.size_or_next-next.ensures _ c.set_size_or_next.ensures

pub returns-else-first-ge16777216 : goal.returns-else-first-ge16777216
returns-else-first-ge16777216 c =
    let s = c in
    let is-file = first-file s.args.table.now s.args.self.number s.args.self.text s.args.k s.requires.within s.requires.raisable.kinds s.requires.names (omega (arith, c.read_u32.ensures, c.if-first-ge16777216.false)) in
    cc (c.read_u32.ensures, c.write_u32.ensures, raised-file s.args.table.now s.args.self.number s.args.self.text s.args.k s.requires.within s.requires.raisable.kinds s.requires.names (search rules) is-file)
