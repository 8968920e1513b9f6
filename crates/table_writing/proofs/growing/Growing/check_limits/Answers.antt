-- `Growing::check_limits` meets its contract: the tests of the tree with one entry more, one by one.
use Rattle.table_writing.proofs.Limits.{count_held, entries_fit, texts-fit, past-count, past-texts, past_words, not-too-deep, too-deep}
use Rattle.table_writing.proofs.growing.Growing.check_limits.Goals as goal

pub read_u32-count-requires : goal.read_u32-count-requires
read_u32-count-requires c = search count_held

pub returns-then-count-ge-ENTRIES_LIMIT : goal.returns-then-count-ge-ENTRIES_LIMIT
returns-then-count-ge-ENTRIES_LIMIT c = search past-count

pub overflow_sub-texts : goal.overflow_sub-texts
overflow_sub-texts c = search entries_fit

pub overflow_sub-texts-2 : goal.overflow_sub-texts-2
overflow_sub-texts-2 c = search texts-fit

pub returns-then-texts-name : goal.returns-then-texts-name
returns-then-texts-name c = search past-texts

pub returns-then-self-count : goal.returns-then-self-count
returns-then-self-count c = search past_words

pub returns-then-is_shallow : goal.returns-then-is_shallow
returns-then-is_shallow c = search not-too-deep

pub returns-else-is_shallow : goal.returns-else-is_shallow
returns-else-is_shallow c = search too-deep
