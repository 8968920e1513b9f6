-- The order in which a lookup refuses on an image that opens: a long path, the number, and then along the path. Assumes nothing.
use Rattle.std.specs.Prelude.{Ok}
use Rattle.std.specs.Prelude.{ℕ, ◌<◌, ◌≤◌, ◌≡◌, List, length}
use borrow.Author.Tests.{lt-ltb, le-ltb}
use Rattle.refusal.specs.declared.Refusal.TheVariants.{LimitOrMemory, NoSuchEntry}
use Rattle.tree.specs.declared.Found.TheVariants as found
use Rattle.tree.specs.Lookup.{lookup}
use Rattle.opened.specs.Opening.{opening, nodes_in}
use Rattle.disc.specs.Files.{lookup_answer}

module _ (image : List ℕ) (words start : ℕ) (path : List ℕ) (opens : opening image words ≡ Ok tt) where
  -- LAW: a path over 1,024 bytes is 9, whatever the start
  pub lookup-long-path : 1024 < length path → lookup_answer image words start path ≡ found.Refused LimitOrMemory
  unfolding lookup_answer
  lookup-long-path long = rw (opens, lt-ltb 1024 (length path) long)

  -- LAW: then no such start is 15, whatever the path
  pub lookup-no-entry : length path ≤ 1024 → length (nodes_in image) ≤ start → lookup_answer image words start path ≡ found.Refused NoSuchEntry
  unfolding lookup_answer lookup
  lookup-no-entry short past = rw (opens, le-ltb 1024 (length path) short, le-ltb start (length (nodes_in image)) past)
