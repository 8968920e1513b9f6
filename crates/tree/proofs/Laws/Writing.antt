-- The written table entry by entry: the records in the order of their numbers, each name's place the sum of the texts before it.
-- Assumes nothing.
use Rattle.std.specs.Prelude.{ℕ, zero, suc, ◌+◌, ◌-◌, ◌*◌, ◌^◌, ◌<◌, ◌≤◌, ◌≡◌, refl, length, get_or, take, drop}
use Rattle.std.proofs.Common.{sym, ap, ◌∙◌, arith, add-zero, one-add, length-append, take-suc}
use mathlib.Core.List.{List, [], ◌∷◌, ◌++◌, tail, append_assoc}
use Rattle.std.proofs.Math.Seq.{split_at, take-length}
use Rattle.endian.specs.Bytes.{be24, be32}
use Rattle.endian.specs.Laws.Stored.{be24-value, be32-value}
use Rattle.tree.specs.Table.{Node, file, directory, name_of, empty_root, kind, name_offset, offset_or_parent, size_or_next, nodes_of, node_bytes, parent_below, parent_of, entries_bytes, texts_of, encode}
use Rattle.tree.specs.Inner.WellFormed.{IsGoodEntry, IsWellFormed}
use Rattle.tree.proofs.Laws.WrittenEntries.{length-node_bytes, kind-is, name_offset-is, word-is, drop_past}
use Rattle.tree.proofs.Laws.Nesting.{parent-most}
use Rattle.tree.proofs.Laws.WellNested.{root_is, entry_at}
use Rattle.tree.specs.Inner.Patch.{records}
use Rattle.tree.proofs.Laws.OpenDirectories.{open_at}
use Rattle.tree.proofs.Laws.Records.{Twelve, drop-record, drop-records}

-- what is written is a function of the entries alone: neither the texts nor the stored parents that they were read from have a part in it
pub write_again : (tab tab' : List ℕ) → nodes_of tab ≡ nodes_of tab' → encode (nodes_of tab) ≡ encode (nodes_of tab')
write_again tab tab' e = ap encode e

-- ---- the texts

pub texts-append : (xs ys : List Node) → texts_of (xs ++ ys) ≡ texts_of xs ++ texts_of ys
unfolding texts_of
texts-append [] ys = refl
texts-append (x ∷ xs) ys = rw (texts-append xs ys) (sym (append_assoc (name_of x) (0 ∷ texts_of xs) (texts_of ys)))

-- where the text of entry k, past the root, starts among the texts
unfoldable pub text_start : List Node → ℕ → ℕ
text_start nodes k = length (texts_of (take (k - 1) (tail nodes)))

texts-next : (xs : List Node) (j : ℕ) → j < length xs → texts_of (take (suc j) xs) ≡ texts_of (take j xs) ++ (name_of (get_or xs j empty_root) ++ (0 ∷ []))
unfolding texts_of
texts-next xs j h = rw (take-suc xs j empty_root h, texts-append (take j xs) (get_or xs j empty_root ∷ []))

start-root : (nodes : List Node) → text_start nodes 0 ≡ 0
unfolding text_start texts_of
start-root nodes = refl

-- the first entry's text is the first, and each stands right behind the one before it
pub start_first : (nodes : List Node) → text_start nodes 1 ≡ 0
unfolding text_start texts_of
start_first nodes = refl

pub start-next : (nodes : List Node) (k : ℕ) → 0 < k → k < length nodes → text_start nodes (k + 1) ≡ text_start nodes k + (length (name_of (get_or nodes k empty_root)) + 1)
unfolding text_start
start-next [] k h l = absurd (omega arith)
start-next (r ∷ xs) zero h l = absurd (omega arith)
start-next (r ∷ xs) (suc j) h l =
    let a : suc j + 1 - 1 ≡ suc j = omega arith in
    let b : suc j - 1 ≡ j = omega arith in
    let nm : List ℕ = name_of (get_or xs j empty_root) in
    rw (a, b, texts-next xs j (omega arith), length-append (texts_of (take j xs)) (nm ++ (0 ∷ [])), length-append nm (0 ∷ []))

pub start-end : (nodes : List Node) → text_start nodes (length nodes) ≡ length (texts_of (tail nodes))
unfolding text_start texts_of
start-end [] = refl
start-end (r ∷ xs) =
    let a : suc (length xs) - 1 ≡ length xs = omega arith in
    rw (a, take-length xs)

-- the texts from the one of entry k on
text-from : (xs : List Node) (j : ℕ) → j < length xs → texts_of xs ≡ texts_of (take j xs) ++ (name_of (get_or xs j empty_root) ++ (0 ∷ texts_of (drop (suc j) xs)))
unfolding texts_of
text-from xs j h = ap texts_of (split_at xs j empty_root h) ∙ texts-append (take j xs) (get_or xs j empty_root ∷ drop (suc j) xs)

-- the text of entry k with its zero byte lies inside the texts
pub start-inside : (nodes : List Node) (k : ℕ) → 0 < k → k < length nodes → text_start nodes k + length (name_of (get_or nodes k empty_root)) < length (texts_of (tail nodes))
unfolding text_start
start-inside [] k h l = absurd (omega arith)
start-inside (r ∷ xs) zero h l = absurd (omega arith)
start-inside (r ∷ xs) (suc j) h l =
    let a : suc j - 1 ≡ j = omega arith in
    let nm : List ℕ = name_of (get_or xs j empty_root) in
    let e : length (texts_of xs) ≡ length (texts_of (take j xs)) + (length nm + suc (length (texts_of (drop (suc j) xs)))) =
    ap length (text-from xs j (omega arith)) ∙ length-append (texts_of (take j xs)) _ ∙ ap (λ (n : ℕ). length (texts_of (take j xs)) + n) (length-append nm (0 ∷ texts_of (drop (suc j) xs))) in
    rw a (omega arith)

pub start-most : (nodes : List Node) (k : ℕ) → k < length nodes → text_start nodes k ≤ length (texts_of (tail nodes))
start-most nodes zero h = rw (start-root nodes) (omega arith)
start-most nodes (suc j) h = omega (arith, start-inside nodes (suc j) (omega arith) h)

-- ---- the records

-- the 12 bytes of entry k
unfoldable pub entry_bytes : List Node → ℕ → List ℕ
entry_bytes nodes k = node_bytes (parent_of nodes k) (text_start nodes k) (get_or nodes k empty_root)

pub entry-twelve : (nodes : List Node) → Twelve (entry_bytes nodes)
unfolding entry_bytes
entry-twelve nodes k = length-node_bytes (parent_of nodes k) (text_start nodes k) (get_or nodes k empty_root)

entries-records : (nodes : List Node) (k o : ℕ) (xs : List Node) → ((i : ℕ) → i < length xs → get_or nodes (k + i) empty_root ≡ get_or xs i empty_root) →
    ((i : ℕ) → i < length xs → text_start nodes (k + i) ≡ o + length (texts_of (take i xs))) → entries_bytes nodes k o xs ≡ records (entry_bytes nodes) k (length xs)
unfolding entries_bytes records texts_of entry_bytes
entries-records nodes k o [] f g = refl
entries-records nodes k o (x ∷ xs) f g =
    let e : get_or nodes k empty_root ≡ x = rw (add-zero k) at (f 0 (omega arith)) in
    let t : text_start nodes k ≡ o = rw (add-zero k, add-zero o) at (g 0 (omega arith)) in
    let o' : ℕ = o + suc (length (name_of x)) in
    let ih : entries_bytes nodes (suc k) o' xs ≡ records (entry_bytes nodes) (suc k) (length xs) =
    entries-records nodes (suc k) o' xs (λ i h. let m : suc k + i ≡ k + suc i = omega arith in rw m (f (suc i) (omega arith)))
    (λ i h. let m : suc k + i ≡ k + suc i = omega arith in rw (m, g (suc i) (omega arith), length-append (name_of x) (0 ∷ texts_of (take i xs))) (omega arith)) in
    rw (e, t, ih)

pub encode-records : (nodes : List Node) → encode nodes ≡ records (entry_bytes nodes) 0 (length nodes) ++ texts_of (tail nodes)
unfolding encode records entry_bytes parent_of parent_below text_start texts_of
encode-records [] = refl
encode-records (r ∷ xs) =
    let e : entries_bytes (r ∷ xs) 1 0 xs ≡ records (entry_bytes (r ∷ xs)) 1 (length xs) =
    entries-records (r ∷ xs) 1 0 xs (λ i h. rw (one-add i)) (λ i h. let m : 1 + i - 1 ≡ i = omega arith in rw m (omega arith)) in
    rw e (sym (append_assoc (node_bytes 0 0 r) (records (entry_bytes (r ∷ xs)) 1 (length xs)) (texts_of xs)))

-- ---- the written table, read

pub written_entry : (nodes : List Node) (k : ℕ) → k < length nodes →
    drop (12 * k) (encode nodes) ≡ entry_bytes nodes k ++ (records (entry_bytes nodes) (suc k) (length nodes - suc k) ++ texts_of (tail nodes))
written_entry nodes k h = rw (encode-records nodes) (drop-record (entry_bytes nodes) (entry-twelve nodes) (length nodes) (texts_of (tail nodes)) k h)

pub written-texts : (nodes : List Node) → drop (12 * length nodes) (encode nodes) ≡ texts_of (tail nodes)
written-texts nodes = rw (encode-records nodes) (drop-records (entry_bytes nodes) (entry-twelve nodes) (length nodes) (texts_of (tail nodes)))

-- the text of entry k, with what comes after it
pub written-text : (nodes : List Node) (k : ℕ) → 0 < k → k < length nodes →
    drop (12 * length nodes + text_start nodes k) (encode nodes) ≡ name_of (get_or nodes k empty_root) ++ (0 ∷ texts_of (drop k (tail nodes)))
unfolding text_start
written-text [] k h l = absurd (omega arith)
written-text (r ∷ xs) zero h l = absurd (omega arith)
written-text (r ∷ xs) (suc j) h l =
    let a : suc j - 1 ≡ j = omega arith in
    let t : List ℕ = name_of (get_or xs j empty_root) ++ (0 ∷ texts_of (drop (suc j) xs)) in
    let e : drop (12 * suc (length xs)) (encode (r ∷ xs)) ≡ texts_of (take j xs) ++ t = written-texts (r ∷ xs) ∙ text-from xs j (omega arith) in
    rw a (drop_past (12 * suc (length xs)) (12 * suc (length xs) + length (texts_of (take j xs))) (encode (r ∷ xs)) (texts_of (take j xs)) t e refl)

-- the four fields of an entry with parent p and name offset o
abbrev pub Fields : List ℕ → ℕ → ℕ → ℕ → Node → Type 0
Fields tab k p o (file nm offset size) = (kind tab k ≡ 0) × (name_offset tab k ≡ o) × (offset_or_parent tab k ≡ offset) × (size_or_next tab k ≡ size)
Fields tab k p o (directory nm next) = (kind tab k ≡ 1) × (name_offset tab k ≡ o) × (offset_or_parent tab k ≡ p) × (size_or_next tab k ≡ next)

-- the numbers of an entry have 32 bits
abbrev pub Fits32 : Node → Type 0
Fits32 (file nm offset size) = (offset < 2 ^ 32) × (size < 2 ^ 32)
Fits32 (directory nm next) = next < 2 ^ 32

fields_read : (tab : List ℕ) (k p o : ℕ) (x : Node) (r : List ℕ) → drop (12 * k) tab ≡ node_bytes p o x ++ r → p < 2 ^ 32 → o < 2 ^ 24 → Fits32 x → Fields tab k p o x
unfolding be24 be32
fields_read tab k p o (file nm offset size) r e hp ho f =
    (kind-is tab k _ e, name_offset-is tab k _ e ∙ be24-value o ho, word-is tab k _ e 4 ∙ be32-value offset f.0, word-is tab k _ e 8 ∙ be32-value size f.1)
fields_read tab k p o (directory nm next) r e hp ho f =
    (kind-is tab k _ e, name_offset-is tab k _ e ∙ be24-value o ho, word-is tab k _ e 4 ∙ be32-value p hp, word-is tab k _ e 8 ∙ be32-value next f)

good-fits : (c k : ℕ) (dirs : List ℕ) (x : Node) → c < 2 ^ 32 → IsGoodEntry c dirs k x → Fits32 x
good-fits c k dirs (file nm offset size) h g = g
good-fits c k dirs (directory nm next) h g = omega arith

pub fits : (nodes : List Node) (k : ℕ) → IsWellFormed nodes → k < length nodes → length nodes < 2 ^ 32 → Fits32 (get_or nodes k empty_root)
fits nodes zero w h few = rw (root_is nodes w) few
fits nodes (suc i) w h few = good-fits (length nodes) (suc i) (open_at (length nodes ∷ []) 1 (tail nodes) i) (get_or nodes (suc i) empty_root) few (entry_at nodes i w h).1

pub written-fields : (nodes : List Node) (k : ℕ) → IsWellFormed nodes → length nodes < 2 ^ 32 → length (texts_of (tail nodes)) < 2 ^ 24 → k < length nodes →
    Fields (encode nodes) k (parent_of nodes k) (text_start nodes k) (get_or nodes k empty_root)
unfolding entry_bytes
written-fields nodes k w few texts h =
    fields_read (encode nodes) k (parent_of nodes k) (text_start nodes k) (get_or nodes k empty_root) _ (written_entry nodes k h) (omega (arith, parent-most nodes k)) (omega (arith, start-most nodes k h)) (fits nodes k w h few)
