use Rattle.std.proofs.Common.{true, ◌++◌, [], refl, sym, ap, ◌∙◌, append_assoc}
use Rattle.std.proofs.Output.{has_written_append, has_written_of_eq}
use Rattle.hex.specs.Hex.{encode_with}
use Rattle.conversation.proofs.HexText.{encode_lower-append}
use Rattle.conversation.proofs.hexadecimal.HexDisplay.fmt.Goals as goal

pub loop-left-init : goal.loop-left-init
unfolding encode_with
loop-left-init g c = ([], refl, λ p. record { wrote = record { parts = []; calls = refl; whole = refl }; plain = p })

pub loop-left-preserved : goal.loop-left-preserved
loop-left-preserved g c =
    let (done, whole, wrote) = c.loop-left.invariant in
    let piece = c.split_at.result.0.now in
    let others = c.split_at.result.1.now in (
      done ++ piece,
      append_assoc done piece others ∙ ap (λ l. done ++ l) (sym c.split_at.ensures.by_index.0) ∙ whole,
      λ p.
          has_written_of_eq _ _ _ _ _ (sym (encode_lower-append done piece))
          (has_written_append _ _ _ _ _ _ (wrote p) (c.in_ok-write_piece.ensures (wrote p).plain (refl {a = true}))),
    )
