-- The listing of an image: its text, and what the two calls answer (RULES, The listing). Assumes nothing:
-- these are definitions.
use Rattle.std.specs.Prelude.{Result, Ok, Err, if◌then◌else◌, nat_lt}
use Rattle.refusal.specs.Refusal.{Verdict}
use Rattle.std.specs.Prelude.{ℕ, List, [], ◌∷◌, ◌++◌, length}
use Rattle.endian.specs.Bytes.{put}
use Rattle.refusal.specs.declared.Refusal.{Refusal}
use Rattle.refusal.specs.declared.Refusal.TheVariants.{LimitOrMemory}
use Rattle.refusal.specs.Refusal.{number_of, refuse, first}
use Rattle.header.specs.Verdicts.{disc_end}
use Rattle.opened.specs.Opening.{opening, nodes_in, used_of, free_space_of}
use Rattle.opened.specs.Answers.{answer_behind}
use Rattle.listing.specs.Lines.{line_feed, totals_line, lines_below, lines_of_regions}
use Rattle.listing.specs.Decimal.{decimal}

-- the totals, the entries in table order, the free regions
unfoldable pub listing_text : List ℕ → List ℕ
listing_text image = totals_line (disc_end image) (used_of image) ++ (lines_below (nodes_in image) (length (nodes_in image)) ++ lines_of_regions (free_space_of image))

-- `list`: opening's refusals; then 9 where the text does not fit the buffer
unfoldable pub listing_verdict : List ℕ → ℕ → ℕ → Verdict
listing_verdict image words room = first (opening image words) (refuse (nat_lt room (length (listing_text image))) LimitOrMemory (Ok tt))

unfoldable pub list_answer : List ℕ → ℕ → ℕ → Result ℕ Refusal
list_answer image words room = answer_behind (listing_verdict image words room) Err (Ok (length (listing_text image)))

-- the buffer afterwards: the text in front, or with a refusal all as it was
unfoldable pub list_buffer : List ℕ → ℕ → List ℕ → List ℕ
list_buffer image words text = answer_behind (listing_verdict image words (length text)) (λ c. text) (put text 0 (listing_text image))

-- ---- what the program writes

-- the whole text where an image is refused
abbrev pub refused_text : Refusal → List ℕ
refused_text c = (0x72 ∷ 0x65 ∷ 0x66 ∷ 0x75 ∷ 0x73 ∷ 0x65 ∷ 0x64 ∷ 0x20 ∷ []) ++ (decimal (number_of c) ++ line_feed)

-- of standard input 65,536 bytes are taken, and more is 9
unfoldable pub report_verdict : List ℕ → ℕ → ℕ → Verdict
report_verdict image words room = first (refuse (nat_lt 65536 (length image)) LimitOrMemory (Ok tt)) (listing_verdict image words room)

unfoldable pub report_text : List ℕ → ℕ → ℕ → List ℕ
report_text image words room = answer_behind (report_verdict image words room) refused_text (listing_text image)

-- the length of the text; a buffer that has not even room for a refusal stays as it is, and the answer is 0
unfoldable pub report_answer : List ℕ → ℕ → ℕ → ℕ
report_answer image words room = if nat_lt room (length (report_text image words room)) then 0 else length (report_text image words room)

unfoldable pub report_buffer : List ℕ → ℕ → List ℕ → List ℕ
report_buffer image words text = if nat_lt (length text) (length (report_text image words (length text))) then text else put text 0 (report_text image words (length text))
