-- `noting::set_numbers` meets its contract. The invariant of its loop: the first k numbers are there.
use Rattle.std.proofs.Common.{◌≡◌, take}
use Rattle.endian.specs.Bytes.{put}
use Rattle.journal.specs.Inner.Noted.{bytes_of}
use Rattle.journal.proofs.noting.set_numbers.Given as goal

abbrev pub invariant-loop-k : goal.invariant-loop-k
invariant-loop-k l = l.head ≡ put l.initial.head l.at (bytes_of (take l.k l.numbers))
