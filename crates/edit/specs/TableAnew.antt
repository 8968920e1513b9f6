-- The table that a rewrite of an image writes, in a result buffer (RULES, Rewrite). Assumes nothing: these
-- are definitions.
use Rattle.std.specs.Prelude.{Result, Ok, Err, ℕ, List, length, nat_lt}
use Rattle.endian.specs.Bytes.{put}
use Rattle.refusal.specs.declared.Refusal.{Refusal}
use Rattle.refusal.specs.declared.Refusal.TheVariants.{LimitOrMemory}
use Rattle.refusal.specs.Refusal.{Verdict, refuse, first}
use Rattle.tree.specs.Table.{encode, limits}
use Rattle.opened.specs.Opening.{opening, nodes_in}
use Rattle.opened.specs.Answers.{answer_behind}

-- with no name shared
unfoldable pub table_anew : List ℕ → List ℕ
table_anew image = encode (nodes_in image)

-- opening's refusals, those of a tree that is written, and then 9 where the table does not fit the buffer; whether there
-- is a place for it on the disc is not asked
unfoldable pub anew_verdict : List ℕ → ℕ → ℕ → Verdict
anew_verdict image words room =
    first (opening image words)
    (first (limits (nodes_in image) words)
    (refuse (nat_lt room (length (table_anew image))) LimitOrMemory (Ok tt)))

unfoldable pub anew_answer : List ℕ → ℕ → ℕ → Result ℕ Refusal
anew_answer image words room = answer_behind (anew_verdict image words room) Err (Ok (length (table_anew image)))

-- the buffer afterwards: the table in front, or with a refusal all as it was
unfoldable pub anew_buffer : List ℕ → ℕ → List ℕ → List ℕ
anew_buffer image words buffer = answer_behind (anew_verdict image words (length buffer)) (λ c. buffer) (put buffer 0 (table_anew image))
