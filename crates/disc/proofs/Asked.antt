-- What is asked of an open disc is the image's answer behind opening's tests. Assumes nothing.
use Rattle.std.specs.Prelude.{Result, Ok, Err, ℕ, ◌≡◌, List, length}
use Rattle.std.specs.Result.{result_and}
use Rattle.std.proofs.Common.{refl, sym, ap, ◌∙◌}
use Rattle.refusal.specs.Refusal.{Verdict}
use Rattle.refusal.specs.declared.Refusal.{Refusal}
use Rattle.header.specs.Verdicts.{dol_offset, fst_offset}
use Rattle.executable.specs.Dol.{dol_verdict_of}
use Rattle.tree.specs.Table.{Node}
use Rattle.tree.specs.Lookup.{entry_found}
use Rattle.tree.specs.declared.Entry.TheVariants.{File, Directory}
use Rattle.tree.specs.declared.FileEntry.{FileEntry}
use Rattle.tree.specs.declared.Found.{Found}
use Rattle.tree.specs.declared.Found.TheVariants as found
use Rattle.space.specs.declared.region.DiscRegion.{DiscRegion}
use Rattle.space.specs.Listing.{listing_of, list_after}
use Rattle.space.specs.MaxRegionSize.{max_region_size}
use Rattle.table.specs.Rows.{list_verdict, list_with_rows}
use Rattle.window.specs.declared.Window.{Window}
use Rattle.window.specs.Window.{new_window}
use Rattle.opened.specs.Opening.{opening, table_of, nodes_in, free_space_of, free_of}
use Rattle.opened.specs.Inner.Disc.{Opened, OpensAs, Means}
use Rattle.opened.proofs.Laws.Meant.{start_meant, nodes_meant, free_meant}
use Rattle.opened.specs.declared.summary.Summary as Told
use Rattle.opened.specs.Answers.{answer_behind, summary_of, max_region_size_answer}
use Rattle.opened.specs.Inner.Told.{told_of}
use Rattle.opened.proofs.Laws.AnswerLaws.{answer_behind-passed, asked, opened_means, opened_passes, told_meant}
pub use Rattle.opened.proofs.Laws.AnswerLaws.{not_asked}
use Rattle.disc.specs.Calls.{free_answer, free_list}
use Rattle.disc.specs.Files.{file_answer, entry_answer, open_file_answer, max_file_size_answer, dol_verdict, dol_file_of, open_dol_answer}

module _ (image : List ℕ) (words : ℕ) (r : Result Opened Refusal) (h : OpensAs image words r) (d : Opened) (opened : r ≡ Ok d) where
  -- an answer of the nodes
  pub nodes_asked : {A : Type 0} (f : Refusal → A) (g : List Node → A) (b : A) → b ≡ g d.disc.nodes → b ≡ answer_behind (opening image words) f (g (nodes_in image))
  nodes_asked f g b p = asked f (g (nodes_in image)) image words r h d opened b (λ m. p ∙ ap g (sym (nodes_meant image d m)))

  -- an answer of the free regions
  pub free_asked : {A : Type 0} (f : Refusal → A) (g : List DiscRegion → A) (free : List DiscRegion) → free ≡ free_of d.disc → (b : A) → b ≡ g free → b ≡ answer_behind (opening image words) f (g (free_space_of image))
  free_asked f g free q b p = asked f (g (free_space_of image)) image words r h d opened b (λ m. p ∙ ap g (q ∙ sym (free_meant image d m)))

  -- a list of the free regions, each with its words in a row
  module _ (row : DiscRegion → List ℕ) (free : List DiscRegion) (is : free ≡ free_of d.disc) (list : List ℕ) where
    pub free_told : (a : Result ℕ Refusal) → a ≡ listing_of row free (length list) → a ≡ free_answer row image words (length list)
    unfolding free_answer
    free_told a p = free_asked Err (λ (l : List DiscRegion). listing_of row l (length list)) free is a p

    pub free_listed : (list' : List ℕ) → list' ≡ list_after row free list → list' ≡ free_list row image words list
    unfolding free_list
    free_listed list' p = free_asked (λ (x : Refusal). list) (λ (l : List DiscRegion). list_after row l list) free is list' p

  -- a list of all entries
  module _ (table : List ℕ) (bytes : table ≡ d.table) where
    pub rows_asked : (list list' : List ℕ) (base : ℕ) → base ≡ d.disc.start → list' ≡ list_with_rows base table list → list' ≡ answer_behind (opening image words) (λ (c : Refusal). list) (list_with_rows (fst_offset image) (table_of image) list)
    rows_asked list list' base from e = asked (λ (c : Refusal). list) _ image words r h d opened list' (λ m. e ∙ rw (from, bytes, start_meant image d m, m.table_is))

    module _ (room : ℕ) (v u : Verdict) (judged : v ≡ list_verdict table room) (is : v ≡ u) where
      verdict_is : Means image d → list_verdict (table_of image) room ≡ u
      verdict_is m = ap (λ (l : List ℕ). list_verdict l room) (m.table_is ∙ sym bytes) ∙ sym judged ∙ is

      pub listing_asked : (t : Told.Summary) → t ≡ told_of d.disc → answer_behind u Err (Ok t) ≡ answer_behind (opening image words) Err (answer_behind (list_verdict (table_of image) room) Err (Ok (summary_of image)))
      listing_asked t e = asked Err _ image words r h d opened (answer_behind u Err (Ok t)) (λ m. rw (verdict_is m, e ∙ told_meant image d m))

-- a refused image has no free regions, and its list stays
module _ (image : List ℕ) (words : ℕ) (r : Result Opened Refusal) (h : OpensAs image words r) (c : Refusal) (refused : r ≡ Err c) (row : DiscRegion → List ℕ) (list : List ℕ) where
  pub none_told : Err c ≡ free_answer row image words (length list)
  unfolding free_answer
  none_told = not_asked Err _ image words r h c refused

  pub none_listed : list ≡ free_list row image words list
  unfolding free_list
  none_listed = not_asked (λ (x : Refusal). list) _ image words r h c refused

-- ---- a file, by its entry

abbrev pub window_of : Result FileEntry Refusal → Result Window Refusal
window_of (Ok file) = Ok (new_window file.offset file.size)
window_of (Err c) = Err c

abbrev pub size_in : List DiscRegion → Result FileEntry Refusal → Result ℕ Refusal
size_in free (Ok file) = Ok (max_region_size file.offset file.size free)
size_in free (Err c) = Err c

abbrev window_for : Found → Result Window Refusal
window_for x = file_answer (λ file. Ok (new_window file.offset file.size)) x

abbrev size_for : List ℕ → ℕ → Found → Result ℕ Refusal
size_for image words x = file_answer (λ file. max_region_size_answer image words file.offset file.size) x

windowed : (x : Found) → window_of (file_answer Ok x) ≡ window_for x
windowed (found.At k (File file)) = refl
windowed (found.At k (Directory d)) = refl
windowed (found.Refused c) = refl

sized : (image : List ℕ) (words : ℕ) → opening image words ≡ Ok tt → (x : Found) → size_in (free_space_of image) (file_answer Ok x) ≡ size_for image words x
unfolding max_region_size_answer
sized image words o (found.At k (File file)) = answer_behind-passed (opening image words) Err (Ok (max_region_size file.offset file.size (free_space_of image))) o
sized image words o (found.At k (Directory d)) = refl
sized image words o (found.Refused c) = refl

module _ (image : List ℕ) (words : ℕ) (r : Result Opened Refusal) (h : OpensAs image words r) (k : ℕ) where
  not_found : (c : Refusal) → r ≡ Err c → found.Refused c ≡ entry_answer image words k
  unfolding entry_answer
  not_found c e = not_asked found.Refused (entry_found (nodes_in image) k) image words r h c e

  pub no_window : (c : Refusal) → r ≡ Err c → Err c ≡ open_file_answer image words k
  unfolding open_file_answer
  no_window c e = ap window_for (not_found c e)

  pub no_size : (c : Refusal) → r ≡ Err c → Err c ≡ max_file_size_answer image words k
  unfolding max_file_size_answer
  no_size c e = ap (size_for image words) (not_found c e)

  module _ (d : Opened) (opened : r ≡ Ok d) (file : Result FileEntry Refusal) (is : file ≡ file_answer Ok (entry_found d.disc.nodes k)) where
    is_found : entry_found d.disc.nodes k ≡ entry_answer image words k
    unfolding entry_answer
    is_found = nodes_asked image words r h d opened found.Refused (λ (nodes : List Node). entry_found nodes k) (entry_found d.disc.nodes k) refl

    pub window_asked : window_of file ≡ open_file_answer image words k
    unfolding open_file_answer
    window_asked = ap window_of is ∙ windowed (entry_found d.disc.nodes k) ∙ ap window_for is_found

    pub size_asked : size_in (free_of d.disc) file ≡ max_file_size_answer image words k
    unfolding max_file_size_answer
    size_asked =
        rw (← free_meant image d (opened_means image words r h d opened))
        (ap (size_in (free_space_of image)) is ∙ sized image words (opened_passes image words r h d opened) (entry_found d.disc.nodes k) ∙ ap (size_for image words) is_found)

-- ---- the executable

module _ (image : List ℕ) (words : ℕ) (r : Result Opened Refusal) (h : OpensAs image words r) where
  pub dol_asked : (d : Opened) → r ≡ Ok d → result_and (dol_verdict_of image (dol_offset image)) (Ok (dol_file_of image)) ≡ open_dol_answer image words
  unfolding open_dol_answer dol_verdict
  dol_asked d e = rw (opened_passes image words r h d e)

  pub dol_not_asked : (c : Refusal) → r ≡ Err c → Err c ≡ open_dol_answer image words
  unfolding open_dol_answer dol_verdict
  dol_not_asked c e = let o : opening image words ≡ Err c = rw e at h in rw o
