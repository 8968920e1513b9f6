-- The tables of the shapes that begin with given entries, as far as they are written: those with a file behind
-- the entries, and then those with a directory there, by its next. Assumes nothing.
use Rattle.std.specs.Prelude.{ℕ, suc, ◌+◌, ◌-◌, ◌*◌, ◌<◌, ◌≤◌, ◌≡◌, List, [], ◌∷◌, ◌++◌, length, take, drop, slice_set}
use Rattle.std.specs.List.{flat_map, range_with_len}
use Rattle.std.proofs.Common.{refl, sym, ap, ◌∙◌, arith, append-nil, append_assoc, length-append}
use Rattle.std.proofs.lemmas.Grind.{flat_map-append}
use Rattle.std.proofs.lemmas.List.{length-set, take-set, take_more_set, length-take, length-take-le, take_all, take-take, take-append-drop}
use Rattle.std.proofs.Math.ListN.{drop_of_length-le}
use borrow.Rule.Slice.PartMut.{put_mid}
use Rattle.endian.specs.Bytes.{put}
use Rattle.endian.specs.Laws.Stored.{length-put}
use Rattle.endian.proofs.Parts.{put-append, put-start, part-put}
use Rattle.small_tables.specs.declared.shape.Entry.{Entry}
use Rattle.small_tables.specs.declared.shape.Entry.TheVariants.{File, Directory}
use Rattle.small_tables.specs.Shapes.{tree_of, parents_next}
use Rattle.small_tables.specs.Tables.{table_of, tables_of}
use Rattle.small_tables.specs.Inner.Begun.{shapes_with, tables_with, largest_next, IsBegun}
use Rattle.small_tables.proofs.Laws.Lists.{range-append}
use Rattle.small_tables.proofs.Laws.Begun.{begun-step, begun-whole, largest-next-bounds, parents-next-first, file-begun, directory-begun}
use Rattle.small_tables.proofs.Laws.Trees.{table-size}

-- the tables of lists of shapes
tables-each : (f : ℕ → List (List Entry)) (xs : List ℕ) → tables_of (flat_map f xs) ≡ flat_map (λ x. tables_of (f x)) xs
unfolding tables_of
tables-each f [] = refl
tables-each f (x ∷ xs) =
    flat_map-append table_of (f x) (flat_map f xs) ∙ ap (λ (l : List ℕ). flat_map table_of (f x) ++ l) (tables-each f xs)

module _ (n : ℕ) (p : List Entry) where
  -- with a directory behind p that has this next
  abbrev pub with_directory : ℕ → List ℕ
  with_directory next = tables_with n (p ++ (Directory next ∷ []))

  -- with a file behind p, or a directory that has one of the first i nexts
  abbrev pub written : ℕ → List ℕ
  written i = tables_with n (p ++ (File ∷ [])) ++ flat_map with_directory (range_with_len (suc (length p)) i)

  written-split : (i j : ℕ) → written (i + suc j)
      ≡ written i ++ (with_directory (suc (length p) + i) ++ flat_map with_directory (range_with_len (suc (length p) + i + 1) j))
  written-split i j =
      let a = range_with_len (suc (length p)) i in
      rw (range-append (suc (length p)) i (suc j), flat_map-append with_directory a ((suc (length p) + i) ∷ range_with_len (suc (length p) + i + 1) j))
      (sym (append_assoc (tables_with n (p ++ (File ∷ []))) (flat_map with_directory a) _))

  -- one more
  written-more : (i : ℕ) → written (i + 1) ≡ written i ++ with_directory (suc (length p) + i)
  written-more i = written-split i 0 ∙ ap (λ (l : List ℕ). written i ++ l) (append-nil (with_directory (suc (length p) + i)))

  module _ (begun : IsBegun n p) (within : length p < n) where
    -- how many nexts a directory behind p may have
    abbrev pub nexts : ℕ
    nexts = largest_next p (length p) - length p

    written-all : tables_with n p ≡ written nexts
    unfolding tables_with tables_of
    written-all =
        let f = shapes_with n (p ++ (File ∷ [])) in
        let r = range_with_len (suc (length p)) nexts in
        let d = λ (next : ℕ). shapes_with n (p ++ (Directory next ∷ [])) in
        rw (begun-step n p begun within)
        (flat_map-append table_of f (flat_map d r) ∙ ap (λ (l : List ℕ). flat_map table_of f ++ l) (tables-each d r))

    one_fits : (i : ℕ) → i < nexts → length (written i) + length (with_directory (suc (length p) + i)) ≤ length (tables_with n p)
    one_fits i h =
        let e : nexts ≡ i + suc (nexts - suc i) = omega arith in
        rw (written-all, e, written-split i (nexts - suc i)) (simp length-append (omega arith))

-- ---- as `write_each` goes on behind the first k entries

module _ (shape : List Entry) (k : ℕ) where
  abbrev n : ℕ
  n = length shape

  abbrev p : List Entry
  p = take k shape

  -- all there is to write
  abbrev pub all : List ℕ
  all = tables_with n p

  -- ---- with no entry left: the table of the one shape

  module _ (begun : IsBegun n p) (whole : k ≡ n) where
    only-table : all ≡ table_of shape
    unfolding tables_with tables_of
    only-table =
        let same : p ≡ shape = take_all k shape (omega arith) in
        rw (same, begun-whole n shape (rw same at begun) refl) (append-nil (table_of shape))

    module _ (size : ℕ) (sized : size ≡ 14 * k - 2) where
      pub table-long : length (table_of shape) ≡ size
      table-long = omega (arith, table-size shape (omega (arith, begun.some, length-take {A = Entry} k shape)))

      pub all-long : length all ≡ size
      all-long = ap length only-table ∙ table-long

      -- put over the part of the list from `at` on that has its size
      pub part-written : (list : List ℕ) (at : ℕ) (part : List ℕ) →
          part ≡ put (take (at + size - at) (drop at list)) 0 (table_of shape) →
          put_mid at (at + size - at) list part ≡ put list at all
      part-written list at part e =
          let old = take (at + size - at) (drop at list) in
          let short : length old ≤ length (table_of shape) = omega (arith, table-long, length-take {A = ℕ} (at + size - at) (drop at list)) in
          let over : part ≡ table_of shape =
          e ∙ put-start old (table_of shape) ∙ rw (drop_of_length-le old short) (append-nil (table_of shape)) in
          rw only-table (part-put list part (table_of shape) at size over table-long)

  -- ---- with an entry more

  -- those with a file as entry k, or a directory whose next is below `next`
  abbrev pub before : ℕ → List ℕ
  before next = written n p (next - suc k)

  -- with x as entry k
  abbrev pub all_with : List Entry → Entry → List ℕ
  all_with now x = tables_with (length (slice_set now k x)) (take (k + 1) (slice_set now k x))

  module _ (at : ℕ) (list : List ℕ) where
    -- those before `next` are written into the list, up to `end`
    pub record IsUnderway (next : ℕ) (now : List Entry) (end : ℕ) (out : List ℕ) : Type 0 where
      pub ends : end ≡ at + length (before next)
      pub put_in : out ≡ put list at (before next)
      pub first : take k now ≡ p
      pub long : length now ≡ n

    -- x may be entry k in a call
    pub record MayEnter (now : List Entry) (x : Entry) (end : ℕ) (out : List ℕ) : Type 0 where
      pub begun : IsBegun (length (slice_set now k x)) (take (k + 1) (slice_set now k x))
      pub room : end + length (all_with now x) ≤ length out

    module _ (begun : IsBegun n p) (within : k < n) (room : at + length all ≤ length list) where
      p-long : length p ≡ k
      p-long = length-take-le k shape (omega arith)

      p-within : length p < n
      p-within = omega (arith, p-long)

      -- the most that the next of a directory that is entry k may be
      abbrev most : ℕ
      most = largest_next p k

      pub most-bounds : (k < most) × (most ≤ n)
      most-bounds = rw p-long at (largest-next-bounds n p begun p-within)

      all-is : all ≡ written n p (most - k)
      all-is = written-all n p begun p-within ∙ ap (λ (i : ℕ). written n p (largest_next p i - i)) p-long

      fits : (next : ℕ) → k < next → next ≤ most → length (before next) + length (with_directory n p next) ≤ length all
      fits next l h =
          let e : suc (length p) + (next - suc k) ≡ next = omega (arith, p-long) in
          rw e at (one_fits n p begun p-within (next - suc k) (rw p-long (omega arith)))

      entered : (now : List Entry) (x : Entry) → take k now ≡ p → length now ≡ n → take (k + 1) (slice_set now k x) ≡ p ++ (x ∷ [])
      entered now x f l = take_more_set now k x (omega arith) ∙ ap (λ (q : List Entry). q ++ (x ∷ [])) f

      all-with-is : (now : List Entry) (x : Entry) → take k now ≡ p → length now ≡ n → all_with now x ≡ tables_with n (p ++ (x ∷ []))
      all-with-is now x f l = rw (length-set now k x, l, entered now x f l) refl

      -- the entries before k stay
      stays : (now now' : List Entry) (x : Entry) → take k now ≡ p → take (k + 1) now' ≡ take (k + 1) (slice_set now k x) → take k now' ≡ p
      stays now now' x f e =
          sym (take-take k (k + 1) now' (omega arith)) ∙ ap (λ (q : List Entry). take k q) e
          ∙ take-take k (k + 1) (slice_set now k x) (omega arith) ∙ take-set now k x ∙ f

      -- ---- a file

      pub file-enters : MayEnter shape File at list
      file-enters = record {
        begun = rw (length-set shape k File, entered shape File refl refl) (file-begun n p begun p-within);
        room = rw (all-with-is shape File refl refl) (omega (arith, ap length all-is, length-append {A = ℕ}));
      }

      module _ (now : List Entry) (first : take (k + 1) now ≡ take (k + 1) (slice_set shape k File)) where
        -- what is asked for behind it
        pub most-is : (found : ℕ) → found ≡ parents_next (tree_of now) k → found ≡ most
        most-is found is =
            let e : now ≡ p ++ drop k now =
            sym (take-append-drop k now) ∙ ap (λ (q : List Entry). q ++ drop k now) (stays shape now File refl first) in
            is ∙ ap (λ (s : List Entry). parents_next (tree_of s) k) e ∙ (rw p-long at (parents-next-first p (drop k now) begun.some))

        pub underway-begins : (end : ℕ) (out : List ℕ) → end ≡ at + length (all_with shape File) → out ≡ put list at (all_with shape File) →
            length now ≡ length (slice_set shape k File) → IsUnderway (k + 1) now end out
        underway-begins end out e o l =
            let z : k + 1 - suc k ≡ 0 = omega arith in
            let b : before (k + 1) ≡ all_with shape File =
            rw (z, all-with-is shape File refl refl) (append-nil (tables_with n (p ++ (File ∷ [])))) in record {
              ends = rw b e;
              put_in = rw b o;
              first = stays shape now File refl first;
              long = l ∙ length-set shape k File;
            }

      -- ---- a directory with each next

      module _ (next : ℕ) (now : List Entry) (end : ℕ) (out : List ℕ) (u : IsUnderway next now end out) where
        module _ (low : k < next) (high : next ≤ most) where
          abbrev x : Entry
          x = Directory next

          pub directory-enters : MayEnter now x end out
          directory-enters = record {
            begun = rw (length-set now k x, u.long, entered now x u.first u.long)
                (directory-begun n p next begun p-within (omega (arith, p-long)) (rw p-long high));
            room = rw (all-with-is now x u.first u.long)
                (omega (arith, u.ends, fits next low high, ap length u.put_in, length-put list at (before next) (omega (arith, fits next low high))));
          }

          pub underway-more : (now' : List Entry) (end' : ℕ) (out' : List ℕ) → end' ≡ end + length (all_with now x) →
              out' ≡ put out end (all_with now x) → take (k + 1) now' ≡ take (k + 1) (slice_set now k x) →
              length now' ≡ length (slice_set now k x) → IsUnderway (next + 1) now' end' out'
          underway-more now' end' out' e o f l =
              let d = with_directory n p next in
              let b : all_with now x ≡ d = all-with-is now x u.first u.long in
              let i : next + 1 - suc k ≡ next - suc k + 1 = omega arith in
              let j : suc (length p) + (next - suc k) ≡ next = omega (arith, p-long) in
              let more : before (next + 1) ≡ before next ++ d = rw i (rw j at (written-more n p (next - suc k))) in record {
                ends = rw (more, length-append (before next) d) (omega (arith, e, ap length b, u.ends));
                put_in = o ∙ rw (b, u.put_in, more)
                    (put-append list at (before next) end d u.ends (omega (arith, u.ends, fits next low high)));
                first = stays now now' x u.first f;
                long = l ∙ length-set now k x ∙ u.long;
              }

        pub underway-ends : next ≡ most + 1 → (end ≡ at + length all) × (out ≡ put list at all)
        underway-ends e =
            let i : next - suc k ≡ most - k = omega arith in
            let b : before next ≡ all = rw (i, all-is) refl in
            (u.ends ∙ ap (λ (l : List ℕ). at + length l) b, u.put_in ∙ ap (λ (l : List ℕ). put list at l) b)
