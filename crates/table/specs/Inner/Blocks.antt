-- The marks of the blocks of 1,024 bytes that the texts of a table are cut into. Assumes nothing: these are definitions.
use Rattle.std.specs.Prelude.{Option, Some, None, ℕ, ◌+◌, ◌*◌, ◌/◌, ◌%◌, ◌≤◌, ◌≡◌, Bool, true, false, List, length, slice_index_or}
use Rattle.tree.specs.Units.{units}
use Rattle.tree.specs.Table.{is_plain_unit, is_safe_unit}
use Rattle.table.specs.Inner.Texts.{text_at, is_clean_from, HasNoLead}
use Rattle.std.specs.List.{list_all}

-- no unit of the text at `at` is one that a name is refused for
pub record IsFit (tab : List ℕ) (at : ℕ) : Type 0 where
  pub plain : list_all is_plain_unit (units (text_at tab at)) ≡ true
  pub safe : list_all is_safe_unit (units (text_at tab at)) ≡ true

-- the place that a mark is about: two to a block, its first byte and its second
abbrev pub mark_place : ℕ → ℕ
mark_place mark = 1024 * (mark / 2) + mark % 2

-- where a mark is set, the text that starts at its place is fit; a mark that is not set says nothing
pub record IsMarked (tab : List ℕ) (base : ℕ) (marks : List Bool) : Type 0 where
  pub long : length marks ≡ 2048
  pub fit : (mark : ℕ) → slice_index_or marks mark false ≡ true → IsFit tab (base + mark_place mark)

-- a table, and where its texts start
pub record TextsFrom : Type 0 where
  pub table : List ℕ
  pub base : ℕ

-- what the marks of a table's texts keep
pub record HasMarks (tab : List ℕ) (base : ℕ) (marks : List Bool) : Type 0 where
  pub near : base ≤ 196608
  pub marked : IsMarked tab base marks

-- what is known of the texts: no lead byte stands before `first`, and they are clean, or else these are their marks
pub record IsSurveyed (tab : List ℕ) (base first : ℕ) (marks : Option TextsFrom) : Type 0 where
  pub near : base ≤ 196608
  pub early : HasNoLead tab base first
  pub clean : marks ≡ None → is_clean_from tab base ≡ true
  pub same : (m : TextsFrom) → marks ≡ Some m → m ≡ record { table = tab; base = base }
