-- What a refusal of opening is about, on small images, by computing. Assumes nothing.
use Rattle.std.specs.Prelude.{ℕ, ◌+◌, ◌*◌, ◌≡◌, refl, List, [], ◌∷◌, ◌++◌, replicate, Option, None, Some}
use Rattle.endian.specs.Bytes.{be24, be32, be32_bytes, put}
use Rattle.refusal.specs.declared.Refusal.{Refusal}
use Rattle.refusal.specs.declared.Refusal.TheVariants.{UnrecognizedKind, MissingNullTerminator, LimitOrMemory, InvalidNextIndex, UnsafeName, OverlappingRegions, InvalidDol}
use Rattle.header.specs.Fields.{fields, gcn_magic_field, dol_offset_field, fst_offset_field, fst_size_field, user_size_field}
use Rattle.header.specs.Verdicts.{gcn_magic, field_verdict, all_fields_verdict, header_verdict, bounds_verdict}
use Rattle.tree.specs.Units.{units}
use Rattle.tree.specs.Table.{is_plain, is_safe, count, name_at, node_at, nodes_from, nodes_of, entry_verdict, entries_verdict, is_unended, dirs_open_at, name_verdict, next_verdict, walk, check}
use Rattle.tree.specs.Faults.{first_refused, walk_refused, refused_entry}
use Rattle.space.specs.Used.{nonempty_regions}
use Rattle.space.specs.Layout.{are_disjoint, is_disjoint_from_all, are_pairwise_disjoint, are_below, are_disjoint_below}
use Rattle.executable.specs.Dol.{words_at, largest_of}
use Rattle.executable.specs.Program.{program_of, program_in, own_region}
use Rattle.executable.specs.Sections.{refused_section}
use Rattle.opened.specs.Opening.{table_of, nodes_in, regions_behind_table, used_in, layout_verdict, opening}
use Rattle.opened.specs.Faults.{conflict_with, first_conflict, about_of, fault_of}
use Rattle.opened.specs.declared.faults.Owner.TheVariants as owner
use Rattle.opened.specs.declared.faults.About.{About}
use Rattle.opened.specs.declared.faults.About.TheVariants as about
use Rattle.opened.specs.declared.faults.Fault.{Fault}

-- a disc that ends at 0x900: an entry of this kind, at this place and of this size, with this name's byte
abbrev disc : ℕ → ℕ → ℕ → ℕ → List ℕ
disc kind place size name =
    put (put (put (put (put (replicate 0x900 0) gcn_magic_field.at (be32_bytes gcn_magic)) fst_offset_field.at (be32_bytes 0x440)) fst_size_field.at (be32_bytes 0x1A)) user_size_field.at (be32_bytes 0x900))
    0x440 ((1 ∷ 0 ∷ 0 ∷ 0 ∷ 0 ∷ 0 ∷ 0 ∷ 0 ∷ 0 ∷ 0 ∷ 0 ∷ 2 ∷ kind ∷ 0 ∷ 0 ∷ 0 ∷ []) ++ (be32_bytes place ++ (be32_bytes size ++ (name ∷ 0 ∷ []))))

-- a program at d, whose section i has this offset and size
abbrev with_section : ℕ → ℕ → ℕ → ℕ → List ℕ → List ℕ
with_section i d offset size image = put (put (put image dol_offset_field.at (be32_bytes d)) (d + 4 * i) (be32_bytes offset)) (d + 0x90 + 4 * i) (be32_bytes size)

-- with the root's next, or the table's last byte, altered
abbrev with_next : ℕ → List ℕ → List ℕ
with_next n image = put image 0x448 (be32_bytes n)

abbrev with_last : ℕ → List ℕ → List ℕ
with_last b image = put image 0x459 (b ∷ [])

abbrev told : List ℕ → Option Fault
told image = fault_of image 16

abbrev fault : Refusal → About → Option Fault
fault c a = Some (record { cause = c; about = a })

pub record Told : Type 0 where
  pub opens : told (disc 0 0x500 0x100 0x61) ≡ None
  pub kind : told (disc 2 0x500 0x100 0x61) ≡ fault UnrecognizedKind (about.Entry 1)
  pub name : told (disc 0 0x500 0x100 0x3A) ≡ fault UnsafeName (about.Entry 1)
  -- that name with a word too few and with texts unended, and a count of 0
  pub words : fault_of (disc 0 0x500 0x100 0x3A) 15 ≡ fault LimitOrMemory about.Image
  pub unended : told (with_last 0x61 (disc 0 0x500 0x100 0x3A)) ≡ fault MissingNullTerminator about.Image
  pub next_0 : told (with_next 0 (disc 0 0x500 0x100 0x3A)) ≡ fault InvalidNextIndex about.Image
  -- over the table by a byte, and past the disc end by one
  pub table : told (disc 0 0x459 0x100 0x61) ≡ fault OverlappingRegions (about.Shared owner.Table (owner.Entry 1))
  pub past_end : told (disc 0 0x500 0x401 0x61) ≡ fault OverlappingRegions (about.PastEnd (owner.Entry 1))
  -- a program over the file, and two with a sum of 2^32, in data section 2 and in text section 3
  pub program : told (with_section 9 0x5FF 0 0 (disc 0 0x500 0x100 0x61)) ≡ fault OverlappingRegions (about.Shared owner.Program (owner.Entry 1))
  pub data_sum : told (with_section 9 0x600 0xFFFFFFFF 1 (disc 0 0x500 0x100 0x61)) ≡ fault InvalidDol (about.Section 9)
  pub text_sum : told (with_section 3 0x600 0xFFFFFFFF 1 (disc 0 0x500 0x100 0x61)) ≡ fault InvalidDol (about.Section 3)

pub all-told : Told
unfolding put fault_of about_of refused_entry first_refused walk_refused refused_section first_conflict conflict_with opening layout_verdict header_verdict all_fields_verdict field_verdict fields bounds_verdict table_of check nodes_in nodes_of nodes_from node_at name_at count entries_verdict entry_verdict is_unended walk name_verdict next_verdict dirs_open_at is_plain is_safe be24 be32 used_in regions_behind_table program_of program_in own_region words_at largest_of nonempty_regions are_disjoint_below are_pairwise_disjoint is_disjoint_from_all are_disjoint are_below units
all-told = record { opens = refl; kind = refl; name = refl; words = refl; unended = refl; next_0 = refl; table = refl; past_end = refl; program = refl; data_sum = refl; text_sum = refl }
