-- Answers that several calls share: behind the tests, what an image that opened says of its disc, and the size that a region can have.
-- Assumes nothing: these are definitions.
use Rattle.std.specs.Prelude.{Result, Ok, Err}
use Rattle.refusal.specs.Refusal.{Verdict}
use Rattle.std.specs.Prelude.{ℕ, List}
use Rattle.refusal.specs.declared.Refusal.{Refusal}
use Rattle.header.specs.Verdicts.{fst_offset, disc_end, fst_size}
use Rattle.space.specs.MaxRegionSize.{max_region_size}
use Rattle.opened.specs.Opening.{opening, table_of, free_space_of, used_of}
use Rattle.tree.specs.Table.{count}
use Rattle.opened.specs.declared.summary.Summary.{Summary}

-- an answer behind tests: the refusal that they give, or the answer
abbrev pub answer_behind : {A : Type 0} → Verdict → (Refusal → A) → A → A
answer_behind (Ok _) f a = a
answer_behind (Err c) f a = f c

abbrev pub summary_of : List ℕ → Summary
summary_of image = record {
  fst_offset = fst_offset image;
  fst_size = fst_size image;
  disc_end = disc_end image;
  entries = count (table_of image);
  used = used_of image;
}

unfoldable pub max_region_size_answer : List ℕ → ℕ → ℕ → ℕ → Result ℕ Refusal
max_region_size_answer image words offset n = answer_behind (opening image words) Err (Ok (max_region_size offset n (free_space_of image)))
