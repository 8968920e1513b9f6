-- The size of texts that follow one another, over the turns of the loop that looks at where they start: each stretch
-- from a name to the next ends with a zero byte, and is that name where it holds no more of them. Assumes nothing.
use Rattle.std.specs.Prelude.{ℕ, zero, suc, ◌+◌, ◌-◌, ◌*◌, ◌≤◌, ◌<◌, ◌≡◌, refl, false, cond, List, [], ◌∷◌, length, take, drop, get_or, ◌==◌}
use Rattle.std.proofs.Common.{ap, ◌∙◌, arith, get_or-drop, drop-drop, length-drop}
use Rattle.std.proofs.lemmas.Bool.Decides.{nat_tests}
use Rattle.std.proofs.lemmas.List.Sums.{sum_by-cons, sum_by-take-drop}
use Rattle.std.specs.List.{count_by}
use mathlib.Core.List.{tail}
use Rattle.tree.specs.Table.{empty_root, name_of, name_offset, first_text, name_at, nodes_of, texts_of}
use Rattle.tree.proofs.Laws.Accepted.{length-nodes_of, name_of-node_at}
use Rattle.tree.proofs.Laws.Writing.{text_start, start_first, start-next, start-end}
use Rattle.table_writing.specs.Inner.Valid.{IsValid}
use Rattle.table_writing.proofs.Nesting.{count-is, node_at_lem}

abbrev zeros : List ℕ → ℕ
zeros s = count_by (λ byte. (byte == 0)) s

zeros-end : (s : List ℕ) → zeros (0 ∷ s) ≡ suc (zeros s)
zeros-end s = rw (sum_by-cons (λ byte. cond (byte == 0) 1 0) 0 s) (omega arith)

is-more : (b : ℕ) → (suc b == 0) ≡ false
is-more b = grind (arith, nat_tests)

zeros-more : (b : ℕ) (s : List ℕ) → zeros (suc b ∷ s) ≡ zeros s
zeros-more b s = rw (sum_by-cons (λ byte. cond (byte == 0) 1 0) (suc b) s, is-more b) (omega arith)

-- m bytes whose last is zero: one of them is, and where it alone is, they are a text and its zero byte
abbrev IsStretch : List ℕ → ℕ → Type 0
IsStretch s m = (zeros (drop m s) < zeros s) × (zeros s ≡ zeros (drop m s) + 1 → length (first_text s) + 1 ≡ m)

stretch : (s : List ℕ) (m : ℕ) → m < length s → get_or s m 0 ≡ 0 → IsStretch s (suc m)
stretch [] m h z = absurd (omega arith)
stretch (zero ∷ s) zero h z = (omega (arith, zeros-end s), λ e. refl)
stretch (zero ∷ s) (suc m) h z =
    let i = stretch s m (omega arith) z in
    (omega (arith, zeros-end s, i.0), λ e. absurd (omega (arith, zeros-end s, i.0, e)))
stretch (suc b ∷ s) zero h z = absurd (omega (arith, z))
stretch (suc b ∷ s) (suc m) h z =
    let i = stretch s m (omega arith) z in
    (omega (arith, zeros-more b s, i.0), λ e. omega (arith, i.1 (omega (arith, zeros-more b s, e))))

-- from the first name to that of entry k - 1 are a zero byte for each name or more, and where no more, their texts
pub record PackedTo (tab : List ℕ) (n first last k : ℕ) : Type 0 where
  pub valid : IsValid tab n
  pub low : 1 < k
  pub high : k ≤ n
  pub starts : last ≡ 12 * n + name_offset tab (k - 1)
  pub behind : first ≤ last
  pub least : zeros (drop last tab) + (k - 2) ≤ zeros (drop first tab)
  pub exact : zeros (drop first tab) ≡ zeros (drop last tab) + (k - 2) → text_start (nodes_of tab) (k - 1) + first ≡ last

pub packed-first : (tab : List ℕ) (n first : ℕ) → IsValid tab n → 2 ≤ n → first ≡ 12 * n + name_offset tab 1 → PackedTo tab n first first 2
packed-first tab n first v h e =
    record { valid = v; low = omega arith; high = h; starts = e; behind = omega arith; least = omega arith; exact = λ z. omega (arith, start_first (nodes_of tab)) }

module _ (tab : List ℕ) (n first last k : ℕ) (u : PackedTo tab n first last k) where
  module _ (next : ℕ) (later : last < next) (inside : next ≤ length tab) (ended : get_or tab (next - 1) 0 ≡ 0) where
    here : IsStretch (drop last tab) (next - last)
    here =
        let e : last + (next - last - 1) ≡ next - 1 = omega arith in
        let m : suc (next - last - 1) ≡ next - last = omega arith in
        rw m at (stretch (drop last tab) (next - last - 1) (rw length-drop (omega arith)) (get_or-drop last tab (next - last - 1) 0 ∙ rw e ended))

    beyond : drop (next - last) (drop last tab) ≡ drop next tab
    beyond = let e : last + (next - last) ≡ next = omega arith in rw e at (drop-drop (next - last) last tab)

    fewer : zeros (drop next tab) < zeros (drop last tab)
    fewer = rw beyond at here.0

    named : zeros (drop last tab) ≡ zeros (drop next tab) + 1 → length (name_of (get_or (nodes_of tab) (k - 1) empty_root)) + 1 ≡ next - last
    unfolding name_at
    named e =
        rw (node_at_lem tab n (k - 1) u.valid (omega (arith, u.low)) (omega (arith, u.low, u.high)), name_of-node_at tab n (k - 1), ← u.starts)
        ((rw beyond at here.1) e)

    sum : zeros (drop first tab) ≡ zeros (drop next tab) + (k - 1) → text_start (nodes_of tab) k + first ≡ next
    sum e =
        let entries : length (nodes_of tab) ≡ n = length-nodes_of tab ∙ count-is tab n u.valid in
        let j : k - 1 + 1 ≡ k = omega (arith, u.low) in
        let s : text_start (nodes_of tab) k ≡ text_start (nodes_of tab) (k - 1) + (length (name_of (get_or (nodes_of tab) (k - 1) empty_root)) + 1) =
        rw j at (start-next (nodes_of tab) (k - 1) (omega (arith, u.low)) (omega (arith, entries, u.low, u.high))) in
        omega (arith, s, u.low, fewer, u.least, e, u.exact (omega (arith, u.low, fewer, u.least, e)), named (omega (arith, u.low, fewer, u.least, e)))

  pub packed-next : (next : ℕ) → k < n → next ≡ 12 * n + name_offset tab k → last < next → get_or tab (next - 1) 0 ≡ 0 → PackedTo tab n first next (k + 1)
  packed-next next more e later ended =
      let inside : next ≤ length tab = omega (arith, e, u.valid.named k (omega (arith, u.low)) more) in
      let j : k + 1 - 1 ≡ k = omega arith in
      let i : k + 1 - 2 ≡ k - 1 = omega arith in
      record { valid = u.valid; low = omega (arith, u.low); high = omega arith; starts = rw j e; behind = omega (arith, u.behind); least = rw i (omega (arith, u.low, fewer next later inside ended, u.least)); exact = λ z. rw j (sum next later inside ended (rw i at z)) }

  pub packed-last : n ≤ k → (between last-name : List ℕ) → between ≡ take (last - first) (drop first tab) → count_by (λ byte. (byte == 0)) between ≡ n - 2 → last-name ≡ name_at tab n (name_offset tab (n - 1)) → last - first + length last-name + 1 ≡ length (texts_of (tail (nodes_of tab)))
  packed-last whole between last-name r few read =
      let k-is : k ≡ n = omega (arith, u.high) in
      let entries : length (nodes_of tab) ≡ n = length-nodes_of tab ∙ count-is tab n u.valid in
      let e : first + (last - first) ≡ last = omega (arith, u.behind) in
      let behind : drop (last - first) (drop first tab) ≡ drop last tab = rw e at (drop-drop (last - first) first tab) in
      let found : zeros (take (last - first) (drop first tab)) ≡ n - 2 = rw r at few in
      let parts : zeros (take (last - first) (drop first tab)) + zeros (drop last tab) ≡ zeros (drop first tab) = rw behind at (sum_by-take-drop (λ byte. cond (byte == 0) 1 0) (drop first tab) (last - first)) in
      let start : text_start (nodes_of tab) (n - 1) + first ≡ last = rw k-is at (u.exact (omega (arith, parts, found, k-is))) in
      let j : n - 1 + 1 ≡ n = omega (arith, u.low) in
      let size : length last-name ≡ length (name_of (get_or (nodes_of tab) (n - 1) empty_root)) =
      rw (node_at_lem tab n (n - 1) u.valid (omega (arith, u.low)) (omega (arith, u.low)), name_of-node_at tab n (n - 1)) (ap length read) in
      let s : text_start (nodes_of tab) n ≡ text_start (nodes_of tab) (n - 1) + (length (name_of (get_or (nodes_of tab) (n - 1) empty_root)) + 1) =
      rw j at (start-next (nodes_of tab) (n - 1) (omega (arith, u.low)) (omega (arith, entries, u.low))) in
      let all : text_start (nodes_of tab) n ≡ length (texts_of (tail (nodes_of tab))) = rw entries at (start-end (nodes_of tab)) in
      omega (arith, s, start, size, all, u.behind)
