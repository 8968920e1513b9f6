-- How many entries a table has, for a test of a number against it. Assumes nothing.
use Rattle.tree.proofs.Laws.Accepted.{length-nodes_of}

pub ruleset entry_count = (length-nodes_of)
