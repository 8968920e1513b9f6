-- The loop that writes the entries of a path, the last one first. Assumes nothing.
use Rattle.std.specs.Prelude.{ℕ, suc, ◌+◌, ◌-◌, ◌<◌, ◌≤◌, ◌≡◌, refl, false, cond, List, [], ◌∷◌, ◌++◌, length, take, drop, get_or}
use Rattle.std.proofs.Common.{sym, ap, ◌∙◌, arith, eqb-true, take-append-drop, drop-drop, drop-cons, length-drop}
use Rattle.std.proofs.lemmas.List.{take_rest}
use Rattle.std.proofs.lemmas.List.Sums.{sum_by-append}
use Rattle.endian.specs.Bytes.{span}
use Rattle.endian.specs.Laws.Stored.{length-span, get_d-span}
use Rattle.refusal.specs.Laws.Tests.{is_false}
use Rattle.tree.specs.Table.{file, directory}
use Rattle.wish_list.specs.Paths.{is_slash, names_of}
use Rattle.wish_list.proofs.Laws.NameTexts.{names_of-named}
use Rattle.new_table.specs.Inner.Cuts.{IsCut}
use Rattle.new_table.specs.Inner.Steps.{slashes}
use Rattle.new_table.specs.Inner.Drafts.{entry_put, entries_put, path_entries, HasRoom}
use Rattle.new_table.proofs.Names.{length-names_of}

-- ---- a name has no `/`

slashes-append : (xs ys : List ℕ) → slashes (xs ++ ys) ≡ slashes xs + slashes ys
slashes-append xs ys = sum_by-append (λ (b : ℕ). cond (is_slash b) 1 0) xs ys

pub slashes-split : (i : ℕ) (path : List ℕ) → slashes (take i path) + slashes (drop i path) ≡ slashes path
slashes-split i path = sym (slashes-append (take i path) (drop i path)) ∙ ap slashes (take-append-drop i path)

abbrev NoSlash : List ℕ → Type 0
NoSlash s = (i : ℕ) → i < length s → get_or s i 0 ≡ 0x2F → ⊥

no-slash : (x : ℕ) (s : List ℕ) → NoSlash (x ∷ s) → is_slash x ≡ false
no-slash x s f = is_false (is_slash x) (λ e. f 0 (omega arith) (eqb-true x 0x2F e))

names-last : (s : List ℕ) → NoSlash s → names_of s ≡ s ∷ []
names-last [] f = refl
names-last (x ∷ s) f = rw (no-slash x s f) (rw (names-last s (λ i h. f (suc i) (omega arith))) refl)

names-before : (s r : List ℕ) → NoSlash s → names_of (s ++ (0x2F ∷ r)) ≡ s ∷ names_of r
names-before [] r f = refl
names-before (x ∷ s) r f = rw (no-slash x s f) (rw (names-before s r (λ i h. f (suc i) (omega arith))) refl)

slashes-none : (s : List ℕ) → NoSlash s → slashes s ≡ 0
slashes-none s f = omega (arith, length-names_of s, ap length (names-last s f))

-- a part between two places that has none
span-none : (path : List ℕ) (start end : ℕ) → start ≤ end → end ≤ length path → ((i : ℕ) → start ≤ i → i < end → get_or path i 0 ≡ 0x2F → ⊥) → NoSlash (span path start (end - start))
span-none path start end a b f i h e =
    let l : length (span path start (end - start)) ≡ end - start = length-span path start (end - start) (omega arith) in
    f (start + i) (omega arith) (omega arith) (sym (get_d-span path start (end - start) i (omega arith)) ∙ e)

-- the part before a byte b
pub cut-part : (b : ℕ) (path : List ℕ) (start end : ℕ) → start ≤ end → end < length path → get_or path end 0 ≡ b → drop start path ≡ span path start (end - start) ++ (b ∷ drop (suc end) path)
cut-part b path start end h l e =
    let m : start + (end - start) ≡ end = omega arith in
    let d : drop (end - start) (drop start path) ≡ b ∷ drop (suc end) path = drop-drop (end - start) start path ∙ rw (m, drop-cons path end 0 l, e) refl in
    sym (take-append-drop (end - start) (drop start path)) ∙ ap (λ (l : List ℕ). span path start (end - start) ++ l) d

-- ---- the loop: the path's names from `start` on are written

pub record Drafted (old : List ℕ) (path ends : List ℕ) (texts shared last behind offset size start n entry text : ℕ) (bytes : List ℕ) : Type 0 where
  pub after : shared ≤ start
  pub within : start ≤ length path
  pub cut : shared < start → get_or path (start - 1) 0 ≡ 0x2F
  pub directories : n ≡ slashes (take start path)
  pub entries : entry + suc (slashes (drop start path)) ≡ last
  pub names : text + suc (length path - start) ≡ behind
  pub written : bytes ≡ entries_put texts entry text (path_entries ends n (names_of (drop start path)) offset size) old

module _ (old path ends : List ℕ) (texts shared last behind offset size : ℕ) where
  pub drafted-file : (start n entry text : ℕ) (name bytes : List ℕ) → IsCut path 0x2F shared start (length path) → n ≡ slashes path →
      name ≡ take (length path - start) (drop start path) → entry + 1 ≡ last → text + (length name + 1) ≡ behind → bytes ≡ entry_put texts entry text (file name offset size) old →
      Drafted old path ends texts shared last behind offset size start n entry text bytes
  unfolding entries_put path_entries
  drafted-file start n entry text name bytes c d nm e t w =
      let own : NoSlash (drop start path) = rw (take_rest path start) at (span-none path start (length path) c.before (omega arith) c.none) in
      let is : name ≡ drop start path = nm ∙ take_rest path start in
      let l : length name ≡ length path - start = ap length is ∙ length-drop start path in
      let z : slashes (drop start path) ≡ 0 = slashes-none (drop start path) own in
      record {
        after = c.after;
        within = c.before;
        cut = c.cut;
        directories = omega (arith, slashes-split start path);
        entries = omega arith;
        names = omega arith;
        written = rw (names-last (drop start path) own, ← is) w;
      }

  -- the directory that ends before `start`
  module _ (start n entry text : ℕ) (bytes : List ℕ) (d : Drafted old path ends texts shared last behind offset size start n entry text bytes) (more : shared < start) where
    slash : get_or path (start - 1) 0 ≡ 0x2F
    slash = d.cut more

    module _ (start' : ℕ) (c : IsCut path 0x2F shared start' (start - 1)) where
      abbrev name : List ℕ
      name = span path start' (start - 1 - start')

      parts : drop start' path ≡ name ++ (0x2F ∷ drop start path)
      parts =
          let s : suc (start - 1) ≡ start = omega arith in
          rw s at (cut-part 0x2F path start' (start - 1) c.before (omega (arith, d.within)) slash)

      plain : NoSlash name
      plain = span-none path start' (start - 1) c.before (omega (arith, d.within)) c.none

      names-parts : names_of (drop start' path) ≡ name ∷ names_of (drop start path)
      names-parts = ap names_of parts ∙ names-before name (drop start path) plain

      slashes-parts : slashes (drop start' path) ≡ suc (slashes (drop start path))
      slashes-parts = omega (arith, length-names_of (drop start' path), length-names_of (drop start path), ap length names-parts)

      name-length : length name ≡ start - 1 - start'
      name-length = length-span path start' (start - 1 - start') (omega (arith, c.before, d.within))

      pub some-directory : 0 < n
      some-directory = omega (arith, d.directories, slashes-split start path, slashes-split start' path, slashes-parts)

      entries-more : (n' : ℕ) → n' + 1 ≡ n → (names : List (List ℕ)) → 0 < length names → path_entries ends n' (name ∷ names) offset size ≡ directory name (get_or ends n 0) ∷ path_entries ends n names offset size
      unfolding path_entries
      entries-more n' e [] h = absurd (omega arith)
      entries-more n' e (y ∷ ys) h = let s : suc n' ≡ n = omega arith in rw s refl

      pub drafted-directory : (n' entry' text' : ℕ) (bytes' : List ℕ) → n' + 1 ≡ n → entry' + 1 ≡ entry → text' + (length name + 1) ≡ text →
          bytes' ≡ entry_put texts entry' text' (directory name (get_or ends n 0)) bytes → Drafted old path ends texts shared last behind offset size start' n' entry' text' bytes'
      unfolding entries_put
      drafted-directory n' entry' text' bytes' m e t w =
          let e' : suc entry' ≡ entry = omega arith in
          let t' : text' + suc (length name) ≡ text = omega arith in
          record {
            after = c.after;
            within = omega (arith, c.before, d.within);
            cut = c.cut;
            directories = omega (arith, d.directories, slashes-split start path, slashes-split start' path, slashes-parts);
            entries = omega (arith, d.entries, slashes-parts);
            names = omega (arith, d.names, name-length, c.before, d.within);
            written = rw (names-parts, entries-more n' m (names_of (drop start path)) (names_of-named (drop start path)), e', t', ← d.written) w;
          }

      -- it fits, if the whole path does
      pub room-more : (whole : List ℕ) → HasRoom whole texts last behind (suc (slashes (drop shared path))) (suc (length (drop shared path))) → length bytes ≡ length whole → HasRoom bytes texts entry text 1 (length name + 1)
      room-more whole r l =
          let m : shared + (start' - shared) ≡ start' = omega (arith, c.after) in
          let fewer : slashes (drop start' path) ≤ slashes (drop shared path) = omega (arith, slashes-split (start' - shared) (drop shared path), ap slashes (drop-drop (start' - shared) shared path ∙ ap (λ (i : ℕ). drop i path) m)) in
          record {
            entries = omega (arith, d.entries, r.entries, slashes-parts);
            records = omega (arith, d.entries, r.records);
            past = omega (arith, d.names, r.past, name-length, length-drop shared path, c.after, c.before, d.within);
            within = omega (arith, d.names, r.within);
            small = omega (arith, d.names, r.small);
          }
