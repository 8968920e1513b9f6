-- What is asked for, and what is told of it. Assumes nothing: these are definitions.
use Rattle.std.specs.Prelude.{◌<◌, ◌^◌, [], length}
use Rattle.journaled.specs.Inner.Clip.{ClipIs}
use Rattle.journaled.specs.declared.making.Answer.{Answer}
use Rattle.journaled.specs.declared.making.Answer.TheVariants as answer
use Rattle.conversation.specs.declared.telling.Told.{Told}
use Rattle.conversation.specs.declared.telling.Told.TheVariants as told
use Rattle.counter_write.specs.declared.making.Task.{Task}
use Rattle.counter_write.specs.declared.making.Task.TheVariants.{Edit, Maximum}

-- an edit has no clip of its own, and the note stands in a journal
abbrev pub CanAsk : Task → Type 0
CanAsk (Edit order) = ClipIs order.request [] × (length order.note.now < 2 ^ 32)
CanAsk (Maximum maximum note number) = length note.now < 2 ^ 32

-- the answer as it is told
abbrev pub told_answer : Answer → Told
told_answer (answer.Done k) = told.Done k
told_answer (answer.Refused c) = told.Refused c
told_answer answer.Declined = told.Declined
told_answer answer.Unread = told.Unread
told_answer answer.Unkept = told.Unkept
