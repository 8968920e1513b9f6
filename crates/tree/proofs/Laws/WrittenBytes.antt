-- What is written is bytes. Assumes nothing.
use Rattle.std.specs.Prelude.{ℕ, zero, suc, ◌+◌, ◌/◌, ◌%◌, ◌<◌, ◌≡◌, true, List, [], ◌∷◌, ◌++◌, length}
use Rattle.std.proofs.Common.{arith}
use Rattle.endian.specs.Bytes.{be24_bytes, be32_bytes, AllBytes}
use Rattle.tree.specs.Table.{Node, file, directory, name_of, is_plain, dirs_open_at, dirs_with, node_bytes, parent_of, entries_bytes, texts_of, encode}
use Rattle.tree.specs.Units.{is_within}
use Rattle.tree.specs.Inner.WellFormed.{IsSound, IsWellFormed}
use Rattle.tree.proofs.Laws.UnitLaws.{is_within-is, is_plain-bytes}
use Rattle.refusal.specs.Laws.Tests.{and_left, and_right}
use Rattle.std.specs.List.{list_all}

all_nil : AllBytes []
all_nil i = omega arith

all_cons : (b : ℕ) (s : List ℕ) → b < 256 → AllBytes s → AllBytes (b ∷ s)
all_cons b s h f zero = h
all_cons b s h f (suc i) = f i

pub all_append : (a b : List ℕ) → AllBytes a → AllBytes b → AllBytes (a ++ b)
all_append [] b f g = g
all_append (x ∷ a) b f g = all_cons x (a ++ b) (f 0) (all_append a b (λ i. f (suc i)) g)

pub be24-all : (n : ℕ) → AllBytes (be24_bytes n)
be24-all n = all_cons (n / 65536 % 256) (n / 256 % 256 ∷ n % 256 ∷ []) (omega arith) (all_cons (n / 256 % 256) (n % 256 ∷ []) (omega arith) (all_cons (n % 256) [] (omega arith) all_nil))

pub be32-all : (n : ℕ) → AllBytes (be32_bytes n)
be32-all n = all_cons (n / 16777216 % 256) (be24_bytes n) (omega arith) (be24-all n)

fields-all : (b o x y : ℕ) → b < 256 → AllBytes (b ∷ (be24_bytes o ++ (be32_bytes x ++ be32_bytes y)))
fields-all b o x y h =
    all_cons b (be24_bytes o ++ (be32_bytes x ++ be32_bytes y)) h
    (all_append (be24_bytes o) (be32_bytes x ++ be32_bytes y) (be24-all o) (all_append (be32_bytes x) (be32_bytes y) (be32-all x) (be32-all y)))

node-all : (p o : ℕ) (x : Node) → AllBytes (node_bytes p o x)
node-all p o (file nm offset size) = fields-all 0 o offset size (omega arith)
node-all p o (directory nm next) = fields-all 1 o p next (omega arith)

within_all : (nm : List ℕ) → list_all (is_within 0x20 0xFC) nm ≡ true → AllBytes nm
within_all [] e = all_nil
within_all (b ∷ nm) e =
    let r = is_within-is 0x20 0xFC b (and_left (is_within 0x20 0xFC b) _ e) in
    all_cons b nm (omega (arith, r.1)) (within_all nm (and_right (is_within 0x20 0xFC b) _ e))

pub name-all : (nm : List ℕ) → is_plain nm ≡ true → AllBytes nm
name-all nm e = within_all nm (is_plain-bytes nm e)

entries-all : (nodes : List Node) (k o : ℕ) (xs : List Node) → AllBytes (entries_bytes nodes k o xs)
unfolding entries_bytes
entries-all nodes k o [] = all_nil
entries-all nodes k o (x ∷ xs) =
    all_append (node_bytes (parent_of nodes k) o x) (entries_bytes nodes (suc k) (o + suc (length (name_of x))) xs) (node-all (parent_of nodes k) o x) (entries-all nodes (suc k) (o + suc (length (name_of x))) xs)

texts-all : (c k : ℕ) (dirs : List ℕ) (xs : List Node) → IsSound c dirs k xs → AllBytes (texts_of xs)
unfolding texts_of
texts-all c k dirs [] g = all_nil
texts-all c k dirs (x ∷ xs) g =
    all_append (name_of x) (0 ∷ texts_of xs) (name-all (name_of x) g.0.0) (all_cons 0 (texts_of xs) (omega arith) (texts-all c (suc k) (dirs_with (dirs_open_at k dirs) x) xs g.2))

pub encode-all : (nodes : List Node) → IsWellFormed nodes → AllBytes (encode nodes)
unfolding encode
encode-all [] w = all_nil
encode-all (r ∷ xs) w =
    all_append (node_bytes 0 0 r) (entries_bytes (r ∷ xs) 1 0 xs ++ texts_of xs) (node-all 0 0 r) (all_append (entries_bytes (r ∷ xs) 1 0 xs) (texts_of xs) (entries-all (r ∷ xs) 1 0 xs) (texts-all (suc (length xs)) 1 (suc (length xs) ∷ []) xs w.sound))
