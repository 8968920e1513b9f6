-- The orders in which an edit's own tests refuse, said of the whole edit: of any image that opens, with any
-- record, any of its teams and any working bytes. A test that comes later is not asked for. Assumes nothing.
use Rattle.std.specs.Prelude.{Ok, Err}
use Rattle.std.specs.Prelude.{ℕ, ◌^◌, ◌<◌, ◌≤◌, ◌≡◌, true, false, List, length, get_or}
use Rattle.std.proofs.Common.{arith}
use borrow.Author.Tests.{lt-ltb, le-ltb, le-leb, lt-leb}
use Rattle.refusal.specs.declared.Refusal.{Refusal}
use Rattle.refusal.specs.declared.Refusal.TheVariants.{LimitOrMemory, InvalidNameByte, UnsafeName, NoSuchEntry, ExpectedFile, ExpectedDirectory, AlreadyExists, NotEnoughSpace}
use Rattle.tree.specs.Table.{empty_root, is_plain, is_safe}
use Rattle.tree.specs.Lookup.{is_directory, child_of}
use Rattle.totals.specs.Totals.{team_verdict}
use Rattle.opened.specs.Opening.{opening, nodes_in}
use Rattle.edit_rules.specs.Edits.{Account, insert_file, insert_directory, make_directories, fill_file, insert_verdict, plan_make_directories, plan_fill, verdict_of}
use Rattle.edit_rules.proofs.Laws.Accepted.{own_first}

module _ (a : Account) (image : List ℕ) (words bytes : ℕ) (opens : opening image words ≡ Ok tt) (team : team_verdict a.team ≡ Ok tt) where
  -- ---- a fill: 15, 16, 21

  module _ (k : ℕ) (clip : List ℕ) where
    -- LAW: no such entry is 15, however long the clip is
    pub fill-no-entry : length (nodes_in image) ≤ k → verdict_of (fill_file k clip) a image words bytes ≡ Err NoSuchEntry
    fill-no-entry past = own_first (fill_file k clip) a image words bytes NoSuchEntry opens team (unfold plan_fill in rw (le-leb (length (nodes_in image)) k past))

    module _ (there : k < length (nodes_in image)) where
      -- LAW: a directory is 16, however long the clip is
      pub fill-directory : is_directory (get_or (nodes_in image) k empty_root) ≡ true → verdict_of (fill_file k clip) a image words bytes ≡ Err ExpectedFile
      fill-directory is = own_first (fill_file k clip) a image words bytes ExpectedFile opens team (unfold plan_fill in rw (lt-leb (length (nodes_in image)) k there, is))

      -- LAW: a file is 21 where the clip has 2^32 bytes or more
      pub fill-too-long : is_directory (get_or (nodes_in image) k empty_root) ≡ false → 2 ^ 32 ≤ length clip → verdict_of (fill_file k clip) a image words bytes ≡ Err NotEnoughSpace
      fill-too-long is long =
          own_first (fill_file k clip) a image words bytes NotEnoughSpace opens team
          (unfold plan_fill in rw (lt-leb (length (nodes_in image)) k there, is, lt-ltb 0xFFFFFFFF (length clip) (omega arith)))

  -- ---- make-directories: 9 for the path, 15

  module _ (start : ℕ) (path : List ℕ) where
    -- LAW: a path over 1,024 bytes is 9, whatever the start
    pub make-long-path : 1024 < length path → verdict_of (make_directories start path) a image words bytes ≡ Err LimitOrMemory
    make-long-path long = own_first (make_directories start path) a image words bytes LimitOrMemory opens team (unfold plan_make_directories in rw (lt-ltb 1024 (length path) long))

    -- LAW: then no such start is 15, whatever the path
    pub make-no-entry : length path ≤ 1024 → length (nodes_in image) ≤ start → verdict_of (make_directories start path) a image words bytes ≡ Err NoSuchEntry
    make-no-entry short past =
        own_first (make_directories start path) a image words bytes NoSuchEntry opens team
        (unfold plan_make_directories in rw (le-ltb 1024 (length path) short, le-leb (length (nodes_in image)) start past))

  -- ---- an insert: 15, 13, 17, 19, 12

  module _ (p : ℕ) (nm : List ℕ) where
    -- both kinds are refused with this cause
    abbrev InsertRefused : Refusal → Type 0
    InsertRefused c = (verdict_of (insert_file p nm) a image words bytes ≡ Err c) × (verdict_of (insert_directory p nm) a image words bytes ≡ Err c)

    both : (c : Refusal) → insert_verdict (nodes_in image) p nm ≡ Err c → InsertRefused c
    both c e = (own_first (insert_file p nm) a image words bytes c opens team (rw e), own_first (insert_directory p nm) a image words bytes c opens team (rw e))

    -- LAW: no such parent is 15, whatever the name
    pub insert-no-entry : length (nodes_in image) ≤ p → InsertRefused NoSuchEntry
    insert-no-entry past = both NoSuchEntry (unfold insert_verdict in rw (le-leb (length (nodes_in image)) p past))

    module _ (there : p < length (nodes_in image)) where
      -- LAW: an unsafe name is 13, under a file too, and whatever bytes it has
      pub insert-unsafe : is_safe nm ≡ false → InsertRefused UnsafeName
      insert-unsafe u = both UnsafeName (unfold insert_verdict in rw (lt-leb (length (nodes_in image)) p there, u))

      module _ (s : is_safe nm ≡ true) where
        -- LAW: a safe name under a file is 17, whatever bytes it has
        pub insert-under-file : is_directory (get_or (nodes_in image) p empty_root) ≡ false → InsertRefused ExpectedDirectory
        insert-under-file f = both ExpectedDirectory (unfold insert_verdict in rw (lt-leb (length (nodes_in image)) p there, s, f))

        module _ (d : is_directory (get_or (nodes_in image) p empty_root) ≡ true) where
          -- LAW: a name that a child has is 19, whatever bytes it has
          pub insert-exists : (k : ℕ) → child_of (nodes_in image) p nm ≡ Ok k → InsertRefused AlreadyExists
          insert-exists k e = both AlreadyExists (unfold insert_verdict in rw (lt-leb (length (nodes_in image)) p there, s, d, e))

          -- LAW: a name byte is 12, last
          pub insert-byte : (c : Refusal) → child_of (nodes_in image) p nm ≡ Err c → is_plain nm ≡ false → InsertRefused InvalidNameByte
          insert-byte c e b = both InvalidNameByte (unfold insert_verdict in rw (lt-leb (length (nodes_in image)) p there, s, d, e, b))
