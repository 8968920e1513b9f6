-- The listing of the small master, its five lines byte for byte, and what is written of an image that is refused: by computing. Assumes nothing.
use Rattle.std.specs.Prelude.{Ok}
use Rattle.std.specs.Prelude.{ℕ, ◌≡◌, refl, List, [], ◌∷◌, ◌++◌, length}
use Rattle.std.proofs.Common.{◌∙◌}
use Rattle.endian.specs.Bytes.{put}
use Rattle.header.specs.Fields.{fields}
use Rattle.header.specs.Verdicts.{field_verdict, all_fields_verdict, header_verdict}
use Rattle.tree.specs.Table.{Node, file, directory, parent_below, parent_of}
use Rattle.space.specs.declared.region.DiscRegion.{DiscRegion}
use Rattle.opened.specs.Opening.{opening}
use Rattle.listing.specs.Lines.{totals_line, path_within, entry_line, lines_below, lines_of_regions}
use Rattle.listing.specs.Decimal.{digits}
use Rattle.listing.specs.Listing.{listing_text, listing_verdict, list_answer, report_verdict, report_text, report_answer}
use Rattle.worked.specs.Image.{master, master_words}
use Rattle.worked.specs.Laws.Marked.{opens, nodes, header, free, used}

-- `total 8192 used 1370`
abbrev totals : List ℕ
totals = 0x74 ∷ 0x6F ∷ 0x74 ∷ 0x61 ∷ 0x6C ∷ 0x20 ∷ 0x38 ∷ 0x31 ∷ 0x39 ∷ 0x32 ∷ 0x20 ∷ 0x75 ∷ 0x73 ∷ 0x65 ∷ 0x64 ∷ 0x20 ∷ 0x31 ∷ 0x33 ∷ 0x37 ∷ 0x30 ∷ 0x0A ∷ []

-- `d 0 0 2 /`
abbrev root : List ℕ
root = 0x64 ∷ 0x20 ∷ 0x30 ∷ 0x20 ∷ 0x30 ∷ 0x20 ∷ 0x32 ∷ 0x20 ∷ 0x2F ∷ 0x0A ∷ []

-- `f 1 1280 256 /a`
abbrev file_a : List ℕ
file_a = 0x66 ∷ 0x20 ∷ 0x31 ∷ 0x20 ∷ 0x31 ∷ 0x32 ∷ 0x38 ∷ 0x30 ∷ 0x20 ∷ 0x32 ∷ 0x35 ∷ 0x36 ∷ 0x20 ∷ 0x2F ∷ 0x61 ∷ 0x0A ∷ []

-- `r 1114 166`
abbrev before : List ℕ
before = 0x72 ∷ 0x20 ∷ 0x31 ∷ 0x31 ∷ 0x31 ∷ 0x34 ∷ 0x20 ∷ 0x31 ∷ 0x36 ∷ 0x36 ∷ 0x0A ∷ []

-- `r 1536 6656`
abbrev behind_a : List ℕ
behind_a = 0x72 ∷ 0x20 ∷ 0x31 ∷ 0x35 ∷ 0x33 ∷ 0x36 ∷ 0x20 ∷ 0x36 ∷ 0x36 ∷ 0x35 ∷ 0x36 ∷ 0x0A ∷ []

abbrev pub listing : List ℕ
listing = totals ++ (root ++ (file_a ++ (before ++ behind_a)))

-- the entries and the free regions
abbrev tree : List Node
tree = directory [] 2 ∷ file (0x61 ∷ []) 0x500 0x100 ∷ []

abbrev regions : List DiscRegion
regions = record { offset = 1114; size = 166 } ∷ record { offset = 1536; size = 6656 } ∷ []

parts : listing_text master ≡ totals_line 8192 1370 ++ (lines_below tree 2 ++ lines_of_regions regions)
unfolding listing_text
parts = rw (free, header.2, used, nodes)

line-by-line : totals_line 8192 1370 ++ (lines_below tree 2 ++ lines_of_regions regions) ≡ listing
unfolding digits path_within parent_of parent_below entry_line lines_below lines_of_regions
line-by-line = refl

text : listing_text master ≡ listing
text = parts ∙ line-by-line

size : length master ≡ 0x2000
unfolding master put
size = refl

-- the text, its length, and what the program writes, in a buffer that it just fits
pub record Listing : Type 0 where
  pub lines : listing_text master ≡ listing
  pub answer : list_answer master master_words 70 ≡ Ok 70
  pub report : (report_text master master_words 70 ≡ listing) × (report_answer master master_words 70 ≡ 70)

pub master-listed : Listing
unfolding list_answer listing_verdict report_answer report_text report_verdict
master-listed = record { lines = text; answer = rw (opens, text); report = (rw (size, opens, text), rw (size, opens, text)) }

-- of no bytes at all the first header field is past the image, 1: `refused 1`

abbrev refused1 : List ℕ
refused1 = 0x72 ∷ 0x65 ∷ 0x66 ∷ 0x75 ∷ 0x73 ∷ 0x65 ∷ 0x64 ∷ 0x20 ∷ 0x31 ∷ 0x0A ∷ []

pub nothing-listed : (report_text [] master_words 70 ≡ refused1) × (report_answer [] master_words 70 ≡ 10)
unfolding report_answer report_text report_verdict listing_verdict opening header_verdict all_fields_verdict field_verdict fields digits
nothing-listed = (refl, refl)
