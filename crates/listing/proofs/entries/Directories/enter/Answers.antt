-- `Directories::enter` meets its contract: a directory is the last one around the entries in it, and no directory is too deep for that.
use Rattle.listing.proofs.Tables.{read-held}
use Rattle.listing.proofs.Chains.{entered-room, entered, passed, named-more}
use Rattle.listing.proofs.entries.Directories.enter.Goals as goal

pub bounds-self-self : goal.bounds-self-self
bounds-self-self c = entered-room _ _ _ _ _ c.requires.nested.0 (read-held _ c.len.ensures.held) c.requires.not_root c.requires.within c.is_directory.ensures c.if-is_directory.true

pub bounds-self-self-then-is_directory : goal.bounds-self-self-then-is_directory
bounds-self-self-then-is_directory c = entered-room _ _ _ _ _ c.requires.nested.0 (read-held _ c.len.ensures.held) c.requires.not_root c.requires.within c.is_directory.ensures c.if-is_directory.true

pub returns-then-is_directory : goal.returns-then-is_directory
returns-then-is_directory c =
    let a = c.requires.nested.0 in
    let r = read-held _ c.len.ensures.held in
    let room = entered-room _ _ _ _ _ a r c.requires.not_root c.requires.within c.is_directory.ensures c.if-is_directory.true in
    (entered _ _ _ _ _ a r c.requires.not_root c.requires.within c.is_directory.ensures c.if-is_directory.true, named-more c.requires.nested.1 _ _ a.chain.long room c.name.ensures)

pub returns-else-is_directory : goal.returns-else-is_directory
returns-else-is_directory c = (passed _ _ _ _ _ c.requires.nested.0 (read-held _ c.len.ensures.held) c.requires.not_root c.requires.within c.is_directory.ensures c.if-is_directory.false, c.requires.nested.1)
