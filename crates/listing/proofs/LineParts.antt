-- The parts of an entry's line as the bytes of an accepted table give them, and the lines of the entries one behind the other.
-- Assumes nothing.
use Prim.Native.Nat.{ℕ, ◌+◌, ◌-◌, ◌<◌, ◌≤◌}
use mathlib.Core.Path.{◌≡◌, refl, sym, ap, ◌∙◌}
use mathlib.Core.Bool.{true, false}
use mathlib.Core.List.{List, [], ◌∷◌, ◌++◌, append-nil, append_assoc}
use native.Mathlib.Omega.{arith}
use denote.Ref.{Bor}
use lib.ListN.{length, get_or, take, drop, length-drop}
use lib.Seq.{get_or-take, get_or-drop, length-take-le}
use Rattle.tree.specs.Table.{Node, file, directory, name_of, empty_root, nodes_of, parent_of}
use Rattle.tree.specs.Lookup.{is_directory}
use Rattle.table.specs.Inner.Fields.{offset_of, size_or_next_of}
use Rattle.listing.specs.Lines.{totals_line, ending, entry_fields, line_feed, path_of, entry_line, lines_below}
use Rattle.listing.specs.Decimal.{number_field}
use Rattle.listing.specs.Inner.Around.{Ends, Named, no_bytes}
use Rattle.listing.specs.Inner.Writing.{Appends}
use Rattle.listing.specs.declared.buffer.TextBuffer.{TextBuffer}
use Rattle.listing.proofs.Joining.{appends-none, appends-join, appends-as}
use Rattle.listing.proofs.Paths.{path-root, path-step, first-line, one-line-more, root_line, line-parts}

-- a first byte and two numbers, and what follows
pub pair-more : (kind : ℕ) (a b c : List ℕ) → (kind ∷ (a ++ b)) ++ c ≡ kind ∷ (a ++ (b ++ c))
pair-more kind a b c = rw (append_assoc a b c)

-- ---- the numbers, by the entry's kind

file-fields : (k p l o : ℕ) (x : Node) → is_directory x ≡ false → l ≡ size_or_next_of x → o ≡ offset_of x → (0x66 ∷ (number_field k ++ number_field o)) ++ number_field l ≡ entry_fields k p x
file-fields k p l o (file nm offset size) d e q = rw (e, q) (pair-more 0x66 (number_field k) (number_field offset) (number_field size))
file-fields k p l o (directory nm next) d e q = let z : ◌≡◌ {A = ℕ} 0 1 = cc in absurd (omega arith)

directory-fields : (k p l : ℕ) (x : Node) → is_directory x ≡ true → l ≡ size_or_next_of x → (0x64 ∷ (number_field k ++ number_field p)) ++ number_field l ≡ entry_fields k p x
directory-fields k p l (file nm offset size) d e = let z : ◌≡◌ {A = ℕ} 0 1 = cc in absurd (omega arith)
directory-fields k p l (directory nm next) d e = rw e (pair-more 0x64 (number_field k) (number_field p) (number_field next))

-- the same, written in two parts
module _ (x : Node) (k p l : ℕ) (text text₁ text₂ : TextBuffer) where
  pub file-written : is_directory x ≡ false → l ≡ size_or_next_of x → (o : ℕ) → o ≡ offset_of x → Appends text text₁ (0x66 ∷ (number_field k ++ number_field o)) → Appends text₁ text₂ (number_field l)
      → Appends text text₂ (entry_fields k p x)
  file-written d e o q f g = appends-as (appends-join f g) (file-fields k p l o x d e q)

  pub directory-written : is_directory x ≡ true → l ≡ size_or_next_of x → Appends text text₁ (0x64 ∷ (number_field k ++ number_field p)) → Appends text₁ text₂ (number_field l)
      → Appends text text₂ (entry_fields k p x)
  directory-written d e f g = appends-as (appends-join f g) (directory-fields k p l x d e)

-- ---- the last part of a path

directory-name : (x : Node) → is_directory x ≡ true → name_of x ++ (0x2F ∷ []) ≡ name_of x ++ ending x
directory-name (file nm offset size) d = let z : ◌≡◌ {A = ℕ} 0 1 = cc in absurd (omega arith)
directory-name (directory nm next) d = refl

file-name : (x : Node) → is_directory x ≡ false → name_of x ≡ name_of x ++ ending x
file-name (file nm offset size) d = sym (append-nil nm)
file-name (directory nm next) d = let z : ◌≡◌ {A = ℕ} 0 1 = cc in absurd (omega arith)

-- the name written, and what is behind it by the kind that was read
module _ (tab : List ℕ) (k : ℕ) (text text₁ : TextBuffer) {nm : List ℕ} (is : nm ≡ name_of (get_or (nodes_of tab) k empty_root)) (f : Appends text text₁ nm) where
  name-written : Appends text text₁ (name_of (get_or (nodes_of tab) k empty_root))
  name-written = appends-as f is

  pub directory-named : (text₂ : TextBuffer) → is_directory (get_or (nodes_of tab) k empty_root) ≡ true → Appends text₁ text₂ (0x2F ∷ [])
      → Appends text text₂ (name_of (get_or (nodes_of tab) k empty_root) ++ ending (get_or (nodes_of tab) k empty_root))
  directory-named text₂ d g = appends-as (appends-join name-written g) (directory-name (get_or (nodes_of tab) k empty_root) d)

  pub file-named : is_directory (get_or (nodes_of tab) k empty_root) ≡ false → Appends text text₁ (name_of (get_or (nodes_of tab) k empty_root) ++ ending (get_or (nodes_of tab) k empty_root))
  file-named d = appends-as name-written (file-name (get_or (nodes_of tab) k empty_root) d)

-- ---- a path, directory by directory

-- behind `/`, the path of the directory before the i-th
pub record Stepping (nodes : List Node) (dirs : List ℕ) (d : ℕ) (text₀ text : TextBuffer) (i : ℕ) : Type 0 where
  pub some : 0 < i
  pub few : i ≤ d
  pub done : List ℕ
  pub wrote : Appends text₀ text done
  pub is : 0x2F ∷ done ≡ path_of nodes (get_or dirs (i - 1) 0)

module _ {nodes : List Node} {dirs : List ℕ} {d k : ℕ} (a : Ends nodes dirs d k) where
  pub step_start : (text : TextBuffer) → Stepping nodes dirs d text text 1
  step_start text = record {
    some = omega arith;
    few = omega (arith, a.chain.some);
    done = [];
    wrote = appends-none text;
    is = sym (path-root (get_or dirs 0 0) nodes (get_or dirs 0 0) a.chain.root);
  }

  module _ {text₀ text : TextBuffer} {i : ℕ} (s : Stepping nodes dirs d text₀ text i) where
    step-nested : i < d → (0 < get_or dirs i 0) × (parent_of nodes (get_or dirs i 0) ≡ get_or dirs (i - 1) 0)
    step-nested h = let n : i - 1 + 1 ≡ i = omega (arith, s.some) in rw n at (a.chain.nested (i - 1) (omega (arith, s.some)))

    pub step-turn : {text' : TextBuffer} → i < d → Appends text text' (name_of (get_or nodes (get_or dirs i 0) empty_root) ++ ending (get_or nodes (get_or dirs i 0) empty_root)) →
        Stepping nodes dirs d text₀ text' (i + 1)
    step-turn h w =
        let q = step-nested h in
        let n : i + 1 - 1 ≡ i = omega arith in
        record {
          some = omega arith;
          few = omega arith;
          done = s.done ++ (name_of (get_or nodes (get_or dirs i 0) empty_root) ++ ending (get_or nodes (get_or dirs i 0) empty_root));
          wrote = appends-join s.wrote w;
          is =
              rw n
              (sym (path-step nodes (get_or dirs i 0) q.0
              ∙ ap (λ (p : List ℕ). p ++ (name_of (get_or nodes (get_or dirs i 0) empty_root) ++ ending (get_or nodes (get_or dirs i 0) empty_root))) (ap (path_of nodes) q.1 ∙ sym s.is)));
        }

    pub step_end : d ≤ i → {text₁ : TextBuffer} → Appends text₁ text₀ (0x20 ∷ 0x2F ∷ []) → Appends text₁ text (0x20 ∷ path_of nodes (parent_of nodes k))
    step_end h w =
        let n : i - 1 ≡ d - 1 = omega (arith, s.few) in
        let e : 0x2F ∷ s.done ≡ path_of nodes (parent_of nodes k) = s.is ∙ ap (λ (j : ℕ). path_of nodes (get_or dirs j 0)) n ∙ ap (path_of nodes) (sym a.last) in
        appends-as (appends-join w s.wrote) (ap (λ (p : List ℕ). 0x20 ∷ p) e)

-- the same by the names of the directories after the root, one by one
module _ {nodes : List Node} {dirs : List ℕ} {names : List (Bor (List ℕ))} {d k : ℕ} (a : Ends nodes dirs d k) (m : Named nodes dirs names d) where
  long-after : length (take (d - 1) (drop 1 names)) ≡ d - 1
  long-after = length-take-le (d - 1) (drop 1 names) (omega (arith, length-drop 1 names, m.long, a.chain.few))

  module _ {text₀ text : TextBuffer} {j : ℕ} (s : Stepping nodes dirs d text₀ text (j + 1)) where
    at-after : j < length (take (d - 1) (drop 1 names)) → (get_or (take (d - 1) (drop 1 names)) j no_bytes).now ≡ name_of (get_or nodes (get_or dirs (j + 1) 0) empty_root)
    at-after h =
        let n : 1 + j ≡ j + 1 = omega arith in
        ap (λ (b : Bor (List ℕ)). b.now) (get_or-take (d - 1) (drop 1 names) j no_bytes (omega (arith, long-after)) ∙ get_or-drop 1 names j no_bytes ∙ ap (λ (i : ℕ). get_or names i no_bytes) n)
        ∙ m.each (j + 1) (omega arith) (omega (arith, long-after))

    pub after-turn : {text' text'' : TextBuffer} → j < length (take (d - 1) (drop 1 names)) → Appends text text' (get_or (take (d - 1) (drop 1 names)) j no_bytes).now → Appends text' text'' (0x2F ∷ []) →
        Stepping nodes dirs d text₀ text'' (j + 1 + 1)
    after-turn h f g =
        let i : j + 1 < d = omega (arith, long-after) in
        step-turn a s i (appends-as (appends-join (appends-as f (at-after h)) g) (directory-name (get_or nodes (get_or dirs (j + 1) 0) empty_root) (a.chain.directories (j + 1) i)))

    pub after-end : length (take (d - 1) (drop 1 names)) ≤ j → {text₁ : TextBuffer} → Appends text₁ text₀ (0x20 ∷ 0x2F ∷ []) → Appends text₁ text (0x20 ∷ path_of nodes (parent_of nodes k))
    after-end h w = step_end a s (omega (arith, long-after)) w

-- ---- line by line

-- behind the root's line, those of the entries below k
pub record Walking (nodes : List Node) (text₀ text : TextBuffer) (k : ℕ) : Type 0 where
  pub done : List ℕ
  pub wrote : Appends text₀ text done
  pub is : entry_line nodes 0 ++ done ≡ lines_below nodes k

pub walk_start : (nodes : List Node) (text : TextBuffer) → Walking nodes text text 1
walk_start nodes text = record {
  done = [];
  wrote = appends-none text;
  is = append-nil (entry_line nodes 0) ∙ sym (first-line nodes);
}

module _ {nodes : List Node} {text₀ text : TextBuffer} {k : ℕ} (s : Walking nodes text₀ text k) where
  pub walk_turn : {text' : TextBuffer} → Appends text text' (entry_line nodes k) → Walking nodes text₀ text' (k + 1)
  walk_turn w = record {
    done = s.done ++ entry_line nodes k;
    wrote = appends-join s.wrote w;
    is = sym (append_assoc (entry_line nodes 0) s.done (entry_line nodes k)) ∙ ap (λ (p : List ℕ). p ++ entry_line nodes k) s.is ∙ one-line-more nodes k;
  }

  pub walk_end : {text₁ : TextBuffer} (c n : ℕ) → c ≡ n → k ≤ c → c ≤ k → Appends text₁ text₀ (entry_line nodes 0) → Appends text₁ text (lines_below nodes n)
  walk_end c n q h l w =
      let e : k ≡ n = omega arith in
      appends-as (appends-join w s.wrote) (s.is ∙ ap (lines_below nodes) e)

-- ---- a whole line

pub root-written : (nodes : List Node) (text text₁ text₂ : TextBuffer) → Appends text text₁ (entry_fields 0 0 (get_or nodes 0 empty_root)) → Appends text₁ text₂ (0x20 ∷ 0x2F ∷ 0x0A ∷ [])
    → Appends text text₂ (entry_line nodes 0)
root-written nodes text text₁ text₂ f g = appends-as (appends-join f g) (root_line nodes)

pub entry-written : (nodes : List Node) (p k : ℕ) (text text₁ text₂ text₃ text₄ : TextBuffer) → 0 < k → p ≡ parent_of nodes k
    → Appends text text₁ (entry_fields k p (get_or nodes k empty_root)) → Appends text₁ text₂ (0x20 ∷ path_of nodes (parent_of nodes k))
    → Appends text₂ text₃ (name_of (get_or nodes k empty_root) ++ ending (get_or nodes k empty_root)) → Appends text₃ text₄ line_feed → Appends text text₄ (entry_line nodes k)
entry-written nodes p k text text₁ text₂ text₃ text₄ some e f g h i =
    appends-as (appends-join (rw e at f) (appends-join g (appends-join h i))) (line-parts nodes k some)

-- ---- the totals, the entries, the free regions

pub listing-written : (text text₁ text₂ text₃ : TextBuffer) (d e u v : ℕ) (ls rs : List ℕ) → d ≡ e → u ≡ v → Appends text text₁ (totals_line d u) → Appends text₁ text₂ ls
    → Appends text₂ text₃ rs → Appends text text₃ (totals_line e v ++ (ls ++ rs))
listing-written text text₁ text₂ text₃ d e u v ls rs p q f g h = appends-join (rw (p, q) at f) (appends-join g h)
