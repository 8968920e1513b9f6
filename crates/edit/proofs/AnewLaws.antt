-- The table written anew into a result buffer, by what the disc that was opened has: refused by opening, not built, or built. Assumes nothing.
use Rattle.std.specs.Prelude.{Result, Ok, Err, ℕ, ◌≡◌, ◌<◌, ◌≤◌, ◌^◌, List, length, nat_lt}
use Rattle.std.proofs.Common.{refl, sym, ap, arith, ◌∙◌}
use mathlib.Core.Logic.{⊎_elim}
use borrow.Author.Tests.{lt-ltb, le-ltb}
use Rattle.endian.specs.Bytes.{put}
use Rattle.refusal.specs.Refusal.{Verdict, refuse, first}
use Rattle.refusal.specs.declared.Refusal.{Refusal}
use Rattle.refusal.specs.declared.Refusal.TheVariants.{LimitOrMemory}
use Rattle.tree.specs.Table.{Node, encode, limits}
use Rattle.tree.proofs.Laws.Growing.{limits-either}
use Rattle.tree.proofs.Laws.WrittenEntries.{length-encode}
use Rattle.tree.proofs.Laws.RoundTrip.{within-limits}
use Rattle.table_writing.specs.Inner.Growth.{IsBuilt}
use Rattle.opened.specs.Opening.{opening, nodes_in}
use Rattle.opened.specs.Inner.Disc.{Opened, OpensAs}
use Rattle.opened.proofs.Laws.Meant.{nodes_meant}
use Rattle.opened.proofs.Laws.AnswerLaws.{opened_means, opened_passes}
use Rattle.edit.specs.TableAnew.{table_anew, anew_verdict, anew_answer, anew_buffer}

-- ---- a tree that is written

abbrev writing_verdict : List Node → ℕ → ℕ → Verdict
writing_verdict nodes words room = first (limits nodes words) (refuse (nat_lt room (length (encode nodes))) LimitOrMemory (Ok tt))

module _ (nodes : List Node) (words room : ℕ) where
  too-long : (limits nodes words ≡ Ok tt → room < length (encode nodes)) → writing_verdict nodes words room ≡ Err LimitOrMemory
  too-long h = ⊎_elim fits past (limits-either nodes words)
    where
      past : limits nodes words ≡ Err LimitOrMemory → writing_verdict nodes words room ≡ Err LimitOrMemory
      past e = rw e

      fits : limits nodes words ≡ Ok tt → writing_verdict nodes words room ≡ Err LimitOrMemory
      fits e = rw (e, lt-ltb room (length (encode nodes)) (h e))

  held : limits nodes words ≡ Ok tt → length (encode nodes) ≤ room → writing_verdict nodes words room ≡ Ok tt
  held e l = rw (e, le-ltb room (length (encode nodes)) l)

pub size-small : (nodes : List Node) (words n : ℕ) → limits nodes words ≡ Ok tt → n ≡ length (encode nodes) → n < 2 ^ 32
size-small nodes words n e s = let l = within-limits nodes words e in omega (arith, s, length-encode nodes, l.few, l.texts)

-- ---- the answer and the buffer, by the verdict

module _ (image : List ℕ) (words : ℕ) (buffer : List ℕ) where
  refused-answer : (c : Refusal) → anew_verdict image words (length buffer) ≡ Err c → Err c ≡ anew_answer image words (length buffer)
  unfolding anew_answer
  refused-answer c e = rw e

  refused-buffer : (c : Refusal) → anew_verdict image words (length buffer) ≡ Err c → buffer ≡ anew_buffer image words buffer
  unfolding anew_buffer
  refused-buffer c e = rw e

  passed-answer : anew_verdict image words (length buffer) ≡ Ok tt → Ok (length (table_anew image)) ≡ anew_answer image words (length buffer)
  unfolding anew_answer
  passed-answer e = rw e

  passed-buffer : anew_verdict image words (length buffer) ≡ Ok tt → put buffer 0 (table_anew image) ≡ anew_buffer image words buffer
  unfolding anew_buffer
  passed-buffer e = rw e

module _ (image : List ℕ) (words : ℕ) (r : Result Opened Refusal) (h : OpensAs image words r) (buffer : List ℕ) where
  -- ---- refused by opening

  module _ (c : Refusal) (e : r ≡ Err c) where
    unopened : anew_verdict image words (length buffer) ≡ Err c
    unfolding anew_verdict
    unopened = let o : opening image words ≡ Err c = rw e at h in rw o

    pub unopened-answer : Err c ≡ anew_answer image words (length buffer)
    unopened-answer = refused-answer image words buffer c unopened

    pub unopened-buffer : buffer ≡ anew_buffer image words buffer
    unopened-buffer = refused-buffer image words buffer c unopened

  -- ---- opened

  module _ (d : Opened) (e : r ≡ Ok d) where
    words-are : d.words ≡ words
    words-are = let o : OpensAs image words (Ok d) = rw e at h in o.1

    nodes-are : nodes_in image ≡ d.disc.nodes
    nodes-are = nodes_meant image d (opened_means image words r h d e)

    table-is : table_anew image ≡ encode d.disc.nodes
    unfolding table_anew
    table-is = ap encode nodes-are

    verdict-is : anew_verdict image words (length buffer) ≡ writing_verdict d.disc.nodes d.words (length buffer)
    unfolding anew_verdict table_anew
    verdict-is = rw (opened_passes image words r h d e, nodes-are, words-are) refl

    module _ (after : List ℕ) (x : Result ℕ Refusal) (built : IsBuilt d.disc.nodes d.words buffer after x) where
      module _ (c : Refusal) (f : x ≡ Err c) where
        unbuilt : anew_verdict image words (length buffer) ≡ Err c
        unbuilt =
            let b : IsBuilt d.disc.nodes d.words buffer after (Err c) = rw f at built in
            verdict-is ∙ too-long d.disc.nodes d.words (length buffer) b.1 ∙ ap Err (sym b.0)

        pub unbuilt-answer : Err c ≡ anew_answer image words (length buffer)
        unbuilt-answer = refused-answer image words buffer c unbuilt

        pub unbuilt-buffer : after ≡ buffer → after ≡ anew_buffer image words buffer
        unbuilt-buffer k = k ∙ refused-buffer image words buffer c unbuilt

      module _ (size : ℕ) (f : x ≡ Ok size) where
        stands : IsBuilt d.disc.nodes d.words buffer after (Ok size)
        stands = rw f at built

        passes : anew_verdict image words (length buffer) ≡ Ok tt
        passes = let l : length (encode d.disc.nodes) ≤ length buffer = omega (arith, stands.1, stands.2) in verdict-is ∙ held d.disc.nodes d.words (length buffer) stands.0 l

        pub built-small : size < 2 ^ 32
        built-small = size-small d.disc.nodes d.words size stands.0 stands.1

        pub built-answer : Ok size ≡ anew_answer image words (length buffer)
        built-answer = ap Ok (stands.1 ∙ ap length (sym table-is)) ∙ passed-answer image words buffer passes

        pub built-buffer : after ≡ anew_buffer image words buffer
        built-buffer = stands.3 ∙ ap (put buffer 0) (sym table-is) ∙ passed-buffer image words buffer passes
