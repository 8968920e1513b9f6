-- Worked runs to clear, by computing: on the small master, beside a program wherever that lies, by
-- each floor, and with empty files. Assumes nothing.
use Rattle.std.specs.Prelude.{Result, Ok, Err, Option, None, Some}
use Rattle.std.specs.Prelude.{ℕ, ◌-◌, ◌^◌, ◌≡◌, refl, List}
use Rattle.endian.specs.Bytes.{be24, be32, put}
use Rattle.refusal.specs.declared.Refusal.{Refusal}
use Rattle.refusal.specs.declared.Refusal.TheVariants.{LimitOrMemory, NotEnoughSpace}
use Rattle.refusal.specs.Refusal.{number_of}
use Rattle.header.specs.Fields.{fields}
use Rattle.header.specs.Verdicts.{field_verdict, all_fields_verdict, header_verdict, bounds_verdict}
use Rattle.tree.specs.Table.{count, entry_verdict, entries_verdict, is_unended, check}
use Rattle.space.specs.Used.{is_used, nonempty_regions, total_size}
use Rattle.space.specs.Layout.{are_disjoint}
use Rattle.space.specs.Free.{runs, free_regions, largest_size}
use Rattle.opened.specs.Opening.{table_of, opening}
use Rattle.clearing.specs.declared.clear.CheapestRun.{CheapestRun}
use Rattle.clearing.specs.Clearing.{Occupancy, cost_of, candidates, floor_of, cheapest_run, clear_answer}
use Rattle.clearing.proofs.Laws.Orders.{opening-first}
use Rattle.worked.specs.Image.{master, master_words}
use Rattle.worked.specs.Laws.ClearImages.{moved, between, abutted, before_files, behind_files, before_table, behind_table, one_byte, filled, apart, Reads, at_master, at_moved, at_between, at_abutted, at_before_files, at_behind_files, at_before_table, at_behind_table, at_one_byte, at_filled, at_apart}

abbrev pub clear : List ℕ → ℕ → ℕ → Result (Option CheapestRun) Refusal
clear image n budget = clear_answer image master_words n budget

-- so many were tried; the cheapest of them starts there, with its cost and the bound
abbrev pub cheapest : ℕ → ℕ → ℕ → ℕ → CheapestRun
cheapest tried offset cost bound =
    record { tried = tried; offset = offset; cost = cost; bound = bound }

abbrev pub found : ℕ → ℕ → ℕ → ℕ → Result (Option CheapestRun) Refusal
found tried offset cost bound = Ok (Some (cheapest tried offset cost bound))

-- the highest size that a call is handed
abbrev most : ℕ
most = 2 ^ 32 - 1

answered : {image : List ℕ} {o : Occupancy} → Reads image o → (n budget : ℕ) →
    clear image n budget ≡ cheapest_run o n budget
unfolding clear_answer
answered r n budget = rw (r.opens, r.occupied)

-- ---- the small master: 166 bytes are free before `a`, which has 256, and 6656 behind it

pub record OnMaster : Type 0 where
  -- a byte more than is free before `a`: that costs all of `a`. The second candidate costs nothing
  pub one : clear master 167 1 ≡ found 1 1114 256 256
  pub two : clear master 167 2 ≡ found 2 1536 0 0
  pub any : clear master 167 most ≡ found 2 1536 0 0
  -- of equals the first
  pub first : clear master 166 9 ≡ found 2 1114 0 0
  -- up to the disc end, and one byte more, for which there is one candidate
  pub whole :
      (clear master 6656 1 ≡ found 1 1114 256 256)
      × (clear master 6656 2 ≡ found 2 1536 0 0)
  pub past : clear master 6657 1 ≡ found 1 1114 256 0
  -- all bytes behind the table; one more: 21 whatever the budget; so of the largest size and of 0
  pub all : (clear master 7078 9 ≡ found 1 1114 256 0) × (clear master 7078 0 ≡ Ok None)
  pub more : (budget : ℕ) → clear master 7079 budget ≡ Err NotEnoughSpace
  pub largest : (budget : ℕ) → clear master most budget ≡ Err NotEnoughSpace
  pub nothing : (budget : ℕ) → clear master 0 budget ≡ Err NotEnoughSpace
  -- none tried, and all
  pub none : clear master 5389 0 ≡ Ok None
  pub each : clear master 5389 9 ≡ found 2 1536 0 0
  -- where `a` has 756 bytes from 2048 on, one byte more than is free behind it
  pub moved-none : clear moved 5389 0 ≡ Ok None
  pub moved-each : clear moved 5389 9 ≡ found 1 1114 756 0
  -- opening comes first, also where no byte is asked for: 15 words are too few for two entries
  pub few-words : (n budget : ℕ) → clear_answer master 15 n budget ≡ Err LimitOrMemory
  pub numbers : (number_of LimitOrMemory ≡ 9) × (number_of NotEnoughSpace ≡ 21)

few : opening master 15 ≡ Err LimitOrMemory
unfolding master put opening header_verdict all_fields_verdict field_verdict fields bounds_verdict table_of check count entries_verdict entry_verdict is_unended be24 be32
few = refl

pub on-master : OnMaster
unfolding cheapest_run candidates cost_of floor_of is_used nonempty_regions total_size are_disjoint runs free_regions largest_size
on-master = record {
  one = answered at_master 167 1;
  two = answered at_master 167 2;
  any = answered at_master 167 most;
  first = answered at_master 166 9;
  whole = (answered at_master 6656 1, answered at_master 6656 2);
  past = answered at_master 6657 1;
  all = (answered at_master 7078 9, answered at_master 7078 0);
  more = λ budget. answered at_master 7079 budget;
  largest = λ budget. answered at_master most budget;
  nothing = λ budget. answered at_master 0 budget;
  none = answered at_master 5389 0;
  each = answered at_master 5389 9;
  moved-none = answered at_moved 5389 0;
  moved-each = answered at_moved 5389 9;
  few-words = λ n budget. opening-first master 15 n budget LimitOrMemory few;
  numbers = (refl, refl);
}

-- ---- a program, of 228 bytes

pub record BesideProgram : Type 0 where
  -- between two files of 40 and 30 bytes; 12, 20, 12 and 30 bytes are free. Its end is a candidate
  pub four : clear between 20 9 ≡ found 4 1180 0 0
  -- and the cheapest start: behind the first file the run would touch the program, and behind the
  -- second pass the disc end
  pub cheapest : clear between 31 2 ≡ found 2 1428 30 0
  pub first : clear between 31 1 ≡ found 1 1128 40 39
  -- up to its first byte, and from its end to the disc's
  pub full : (clear between 72 1 ≡ found 1 1128 40 39) × (clear between 72 2 ≡ found 2 1428 30 0)
  -- 72 bytes lie before it and 72 behind, 74 bytes are free: but there is no run of 73
  pub split : (budget : ℕ) → clear between 73 budget ≡ Err NotEnoughSpace
  -- right behind a file of 30 bytes and right before one of 24; 10 bytes are free and 40. The first
  -- file's end is no candidate
  pub abuts :
      (clear abutted 30 1 ≡ found 1 1128 30 30)
      × (clear abutted 30 2 ≡ found 2 1396 24 24)
      × (clear abutted 30 3 ≡ found 3 1420 0 0)
  -- one that costs more than a run before it is tried and counted all the same
  pub dearer : (clear abutted 10 2 ≡ found 2 1128 0 0) × (clear abutted 10 9 ≡ found 3 1128 0 0)
  -- with its first byte the run would touch it
  pub touches : (clear abutted 40 9 ≡ found 3 1420 0 0) × (clear abutted 41 9 ≡ found 1 1396 24 0)
  -- before all files, 6 bytes behind the table
  pub before :
      (clear before_files 6 9 ≡ found 3 1114 0 0)
      × (clear before_files 7 9 ≡ found 2 1348 0 0)
      × (clear before_files 13 1 ≡ found 1 1348 40 40)
  -- behind all files; 12 bytes are free behind it
  pub behind :
      (clear behind_files 12 9 ≡ found 2 1388 0 0)
      × (clear behind_files 13 9 ≡ found 1 1114 30 0)
  -- all between the table and the program, and one byte more
  pub below :
      (clear behind_files 46 9 ≡ found 1 1114 30 0)
      × ((budget : ℕ) → clear behind_files 47 budget ≡ Err NotEnoughSpace)
  -- before the table it is in nobody's way, and its end no candidate
  pub in-table :
      (clear before_table 10 9 ≡ found 2 1342 0 0)
      × (clear before_table 58 9 ≡ found 1 1342 30 0)
  -- right behind the table: its bytes are not free, so that 20 are 6 more than all free bytes
  pub not-free :
      (clear behind_table 20 1 ≡ found 1 1356 30 24)
      × (clear behind_table 20 2 ≡ found 2 1356 30 0)

pub beside-program : BesideProgram
unfolding cheapest_run candidates cost_of floor_of is_used nonempty_regions total_size are_disjoint runs free_regions largest_size
beside-program = record {
  four = answered at_between 20 9;
  cheapest = answered at_between 31 2;
  first = answered at_between 31 1;
  full = (answered at_between 72 1, answered at_between 72 2);
  split = λ budget. answered at_between 73 budget;
  abuts = (answered at_abutted 30 1, answered at_abutted 30 2, answered at_abutted 30 3);
  dearer = (answered at_abutted 10 2, answered at_abutted 10 9);
  touches = (answered at_abutted 40 9, answered at_abutted 41 9);
  before = (answered at_before_files 6 9, answered at_before_files 7 9, answered at_before_files 13 1);
  behind = (answered at_behind_files 12 9, answered at_behind_files 13 9);
  below = (answered at_behind_files 46 9, λ budget. answered at_behind_files 47 budget);
  in-table = (answered at_before_table 10 9, answered at_before_table 58 9);
  not-free = (answered at_behind_table 20 1, answered at_behind_table 20 2);
}

-- ---- two files of 30 bytes, with 10 bytes free before each and 20 behind them, and empty files

pub record Floors : Type 0 where
  -- 20 bytes in a row are free, and the floor is 0
  pub row : clear apart 20 1 ≡ found 1 1156 30 30
  -- no 21 are, though 40 are free together: 1, up to 41
  pub least :
      (clear apart 21 1 ≡ found 1 1156 30 29)
      × (clear apart 40 1 ≡ found 1 1156 30 29)
      × (clear apart 41 1 ≡ found 1 1156 30 29)
  -- then so many bytes more than are free: 2, and 5
  pub beyond : (clear apart 42 1 ≡ found 1 1156 30 28) × (clear apart 45 1 ≡ found 1 1156 30 25)
  -- with all tried the bound is 0, and of two that cost the same the first is told
  pub equals : (clear apart 45 2 ≡ found 2 1156 30 0) × (clear apart 45 9 ≡ found 2 1156 30 0)
  -- budgets below the number of candidates, at it and above
  pub budgets :
      (clear apart 20 0 ≡ Ok None)
      × (clear apart 20 2 ≡ found 2 1156 30 30)
      × (clear apart 20 3 ≡ found 3 1236 0 0)
      × (clear apart 20 4 ≡ found 3 1236 0 0)
  -- the end of the empty file, 1201, takes no place among those tried
  pub empty : clear apart 21 2 ≡ found 2 1156 30 0
  -- both files
  pub both : (clear apart 70 9 ≡ found 1 1156 60 0) × (clear apart 100 9 ≡ found 1 1156 60 0)

pub floors : Floors
unfolding cheapest_run candidates cost_of floor_of is_used nonempty_regions total_size are_disjoint runs free_regions largest_size
floors = record {
  row = answered at_apart 20 1;
  least = (answered at_apart 21 1, answered at_apart 40 1, answered at_apart 41 1);
  beyond = (answered at_apart 42 1, answered at_apart 45 1);
  equals = (answered at_apart 45 2, answered at_apart 45 9);
  budgets = (answered at_apart 20 0, answered at_apart 20 2, answered at_apart 20 3, answered at_apart 20 4);
  empty = answered at_apart 21 2;
  both = (answered at_apart 70 9, answered at_apart 100 9);
}

-- ---- a file right behind the table

pub record BehindTable : Type 0 where
  -- of one byte: a run of as many costs it, or is free behind it
  pub one : (clear one_byte 1 1 ≡ found 1 1114 1 1) × (clear one_byte 1 2 ≡ found 2 1115 0 0)
  -- of all bytes there: none is free, and its start is the one candidate, up to its size
  pub all :
      (clear filled 1 1 ≡ found 1 1114 30 0)
      × (clear filled 30 1 ≡ found 1 1114 30 0)
      × ((budget : ℕ) → clear filled 31 budget ≡ Err NotEnoughSpace)

pub behind-table : BehindTable
unfolding cheapest_run candidates cost_of floor_of is_used nonempty_regions total_size are_disjoint runs free_regions largest_size
behind-table = record {
  one = (answered at_one_byte 1 1, answered at_one_byte 1 2);
  all = (answered at_filled 1 1, answered at_filled 30 1, λ budget. answered at_filled 31 budget);
}
