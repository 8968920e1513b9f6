-- The largest free region once an edit is made, by one look at the used regions of before: the edited file's old place is passed over, and its
-- new place cut out. Assumes nothing: these are definitions.
use Rattle.std.specs.Prelude.{ℕ, ◌-◌, max, ◌||◌, List, [], ◌∷◌, if◌then◌else◌, ◌==◌, nat_le}
use Rattle.space.specs.declared.region.DiscRegion.{DiscRegion}
use Rattle.space.specs.Used.{end_of}

-- the longest run of the bytes from a up to b that has none of r's bytes
unfoldable pub longest_beside : ℕ → ℕ → DiscRegion → ℕ
longest_beside a b r = if r.size == 0 || (nat_le (end_of r) a || nat_le b r.offset) then b - a else max (r.offset - a) (b - end_of r)

-- along regions in order from byte `at` on, on a disc that ends at e: the region at `gone` is passed over, the bytes of `new` are cut out, and
-- `best` is the longest run so far
unfoldable pub longest_from : ℕ → ℕ → DiscRegion → ℕ → ℕ → List DiscRegion → ℕ
longest_from e gone new at best [] = max best (longest_beside at e new)
longest_from e gone new at best (x ∷ xs) =
    if x.offset == gone then longest_from e gone new at best xs
    else longest_from e gone new (end_of x) (max best (longest_beside at x.offset new)) xs

-- where the old place starts; 0, where no file can, if there is none
abbrev pub gone_of : DiscRegion → ℕ
gone_of old = if old.size == 0 then 0 else old.offset
