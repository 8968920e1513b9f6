-- `counter::slots::dol_words` meets its contract: the parts stand one behind the other.
use Rattle.std.proofs.Common.{rules, arith, ℕ, ◌≡◌, ◌++◌, length, length-append, replicate}
use Rattle.std.proofs.Math.ListN.{length-replicate}
use Rattle.counter.specs.Replies.{dol_words}
use Rattle.counter.proofs.Parts.{four-parts}
use Rattle.counter.proofs.slots.dol_words.Goals as goal

pub returns : goal.returns
unfolding dol_words
returns c =
    let h = c.args.header in
    let to : length h.text_offsets ≡ 7 = search rules in
    let dO : length h.data_offsets ≡ 11 = search rules in
    let ta : length h.text_addresses ≡ 7 = search rules in
    let da : length h.data_addresses ≡ 11 = search rules in
    let ts : length h.text_sizes ≡ 7 = search rules in
    let ds : length h.data_sizes ≡ 11 = search rules in
    let a : length (h.text_offsets ++ h.data_offsets) ≡ 18 = omega (arith, length-append h.text_offsets h.data_offsets) in
    let b : length (h.text_addresses ++ h.data_addresses) ≡ 18 = omega (arith, length-append h.text_addresses h.data_addresses) in
    let d : length (h.text_sizes ++ h.data_sizes) ≡ 18 = omega (arith, length-append h.text_sizes h.data_sizes) in
    rw (c.put_sections-3.ensures, c.put_sections-2.ensures, c.put_sections.ensures) (four-parts (replicate 57 0) _ _ _ _ _ _ a b d (length-replicate {A = ℕ} 57 0))
