-- What is asked of an open disc is the image's answer behind opening's tests.
pub use Rattle.opened.proofs.Laws.AnswerLaws.{not_asked}
