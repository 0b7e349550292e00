-- Which modules are loaded, and what their files and imports come to.
use Rattle.std.proofs.Common.{◌≡◌, inl, inr, ℕ, zero, suc, ◌+◌, ◌<◌, Bool, true, false, not, ◌||◌, if◌then◌else◌, List, [], ◌∷◌, ◌++◌, length, Option, Some, None, refl, sym, ap, ◌∙◌, arith, append-nil}
use Rattle.std.specs.List.{slice_get, sum_by}
use Rattle.std.proofs.lemmas.Bool.{or_left, or_right, or_cases, and_left, and_right, and_cases, and_from, not_from_true, not_from_false, false≢true}
use Rattle.std.proofs.lemmas.List.Concat.{flat_map-append}
use Rattle.std.proofs.lemmas.List.Sums.{sum_by-append}
use Rattle.cov_outside.specs.Files.{Files}
use Rattle.py_text.specs.Comparison.{is_same_text}
use Rattle.py_text.proofs.SameTexts.{same_text, text_is_same}
use Rattle.py_syntax.specs.Tree.{Text}
use Rattle.py_meaning.specs.Loading.{imported, file_of, is_loaded}
use Rattle.py_meaning.specs.Modules.{LoadedModule, number_from}
use Rattle.cov_run.specs.Asking.{has_own_file}
use Rattle.cov_run.specs.Loading.{Told, file_bytes, content_at, is_there, size_of, total_bytes, all_imported, has_file, is_wanted}

-- ---- modules by name

abbrev has : List LoadedModule → Text → Bool
has [] x = false
has (m ∷ ms) x = is_same_text x m.name || has ms x

abbrev found : Option ℕ → Bool
found None = false
found (Some m) = true

found-from : (n : ℕ) (ms : List LoadedModule) (x : Text) → found (number_from n ms x) ≡ has ms x
unfolding number_from
found-from n [] x = refl
found-from n (m ∷ ms) x = by_first (is_same_text x m.name) refl (found-from (suc n) ms x)
  where
    by_first : (b : Bool) → is_same_text x m.name ≡ b → found (number_from (suc n) ms x) ≡ has ms x → found (if is_same_text x m.name then Some n else number_from (suc n) ms x) ≡ (is_same_text x m.name || has ms x)
    by_first true e others = ap (λ b. found (if b then Some n else number_from (suc n) ms x)) e ∙ sym (ap (λ b. b || has ms x) e)
    by_first false e others = ap (λ b. found (if b then Some n else number_from (suc n) ms x)) e ∙ others ∙ sym (ap (λ b. b || has ms x) e)

loaded-is : (s : LoadedModule) (ms : List LoadedModule) (x : Text) → is_loaded (s ∷ ms) x ≡ has ms x
loaded-is s ms x = go (number_from 1 ms x) refl ∙ found-from 1 ms x
  where
    go : (o : Option ℕ) → number_from 1 ms x ≡ o → is_loaded (s ∷ ms) x ≡ found (number_from 1 ms x)
    go None e = rw e refl
    go (Some k) e = rw e refl

has-append : (ms : List LoadedModule) (m : LoadedModule) (x : Text) → has ms x ≡ true → has (ms ++ m ∷ []) x ≡ true
has-append [] m x h = absurd (false≢true h)
has-append (n ∷ ms) m x h =
    elim (or_cases (is_same_text x n.name) (has ms x) h) [
      | inl e ↦ or_left (is_same_text x n.name) (has (ms ++ m ∷ []) x) e
      | inr e ↦ or_right (is_same_text x n.name) (has (ms ++ m ∷ []) x) (has-append ms m x e)
    ]

has-last : (ms : List LoadedModule) (m : LoadedModule) → has (ms ++ m ∷ []) m.name ≡ true
has-last [] m = or_left (is_same_text m.name m.name) false (text_is_same m.name)
has-last (n ∷ ms) m = or_right (is_same_text m.name n.name) (has (ms ++ m ∷ []) m.name) (has-last ms m)

has-none : (ms : List LoadedModule) (x : Text) → ((i : ℕ) (m : LoadedModule) → slice_get ms i ≡ Some m → m.name ≡ x → ⊥) → has ms x ≡ false
has-none [] x h = refl
has-none (m ∷ ms) x h = by_first (is_same_text x m.name) refl (has-none ms x (λ i n k. h (suc i) n k))
  where
    by_first : (b : Bool) → is_same_text x m.name ≡ b → has ms x ≡ false → (is_same_text x m.name || has ms x) ≡ false
    by_first true e others = absurd (h 0 m refl (sym (same_text x m.name e)))
    by_first false e others = ap (λ b. b || has ms x) e ∙ others

-- a module that is loaded stays so
pub loaded-before : (ms : List LoadedModule) (m : LoadedModule) (x : Text) → is_loaded ms x ≡ true → is_loaded (ms ++ m ∷ []) x ≡ true
loaded-before [] m x h = absurd (false≢true h)
loaded-before (s ∷ ms) m x h = loaded-is s (ms ++ m ∷ []) x ∙ has-append ms m x (sym (loaded-is s ms x) ∙ h)

-- the last one is loaded
pub loaded-last : (ms : List LoadedModule) (m : LoadedModule) → 0 < length ms → is_loaded (ms ++ m ∷ []) m.name ≡ true
loaded-last [] m h = absurd (omega arith)
loaded-last (s ∷ ms) m h = loaded-is s (ms ++ m ∷ []) m.name ∙ has-last ms m

-- a name that no module after the script has isn't loaded
pub not-loaded : (ms : List LoadedModule) (x : Text) → ((i : ℕ) (m : LoadedModule) → slice_get ms (suc i) ≡ Some m → m.name ≡ x → ⊥) → is_loaded ms x ≡ false
not-loaded [] x h = refl
not-loaded (s ∷ ms) x h = loaded-is s ms x ∙ has-none ms x h

-- ---- names that are wanted

-- a name that isn't wanted stays so
pub unwanted-before : (files : Files) (folder : Text) (ms : List LoadedModule) (m : LoadedModule) (x : Text) → is_wanted files folder ms x ≡ false → is_wanted files folder (ms ++ m ∷ []) x ≡ false
unwanted-before files folder ms m x h =
    elim (and_cases (has_file files folder x) (not (is_loaded ms x)) h) [
      | inl e ↦ and_left (has_file files folder x) (not (is_loaded (ms ++ m ∷ []) x)) e
      | inr e ↦ and_right (has_file files folder x) (not (is_loaded (ms ++ m ∷ []) x)) (not_from_true (is_loaded (ms ++ m ∷ []) x) (loaded-before ms m x (was (is_loaded ms x) e)))
    ]
  where
    was : (b : Bool) → not b ≡ false → b ≡ true
    was true e = refl
    was false e = absurd (false≢true (sym e))

-- nor is that of the last module
pub unwanted-last : (files : Files) (folder : Text) (ms : List LoadedModule) (m : LoadedModule) → 0 < length ms → is_wanted files folder (ms ++ m ∷ []) m.name ≡ false
unwanted-last files folder ms m h =
    and_right (has_file files folder m.name) (not (is_loaded (ms ++ m ∷ []) m.name)) (not_from_true (is_loaded (ms ++ m ∷ []) m.name) (loaded-last ms m h))

pub unwanted-absent : (files : Files) (folder : Text) (ms : List LoadedModule) (x : Text) → has_file files folder x ≡ false → is_wanted files folder ms x ≡ false
unwanted-absent files folder ms x h = and_left (has_file files folder x) (not (is_loaded ms x)) h

pub wanted-new : (files : Files) (folder : Text) (ms : List LoadedModule) (x : Text) → has_file files folder x ≡ true → is_loaded ms x ≡ false → is_wanted files folder ms x ≡ true
wanted-new files folder ms x h k = and_from (has_file files folder x) (not (is_loaded ms x)) h (not_from_false (is_loaded ms x) k)

-- ---- files and imports of the modules and one more

pub imported-more : (ms : List LoadedModule) (m : LoadedModule) → all_imported (ms ++ m ∷ []) ≡ all_imported ms ++ imported m.body
imported-more ms m = flat_map-append (λ n. imported n.body) ms (m ∷ []) ∙ ap (λ t. all_imported ms ++ t) (append-nil (imported m.body))

abbrev bytes_of : Files → List LoadedModule → ℕ
bytes_of files = sum_by (λ n. size_of (file_bytes files n.path))

pub bytes-more : (told : Told) (ms : List LoadedModule) (m : LoadedModule) (bytes : List ℕ) → 0 < length ms → file_bytes told.modules m.path ≡ Some bytes → total_bytes told (ms ++ m ∷ []) ≡ total_bytes told ms + length bytes
bytes-more told [] m bytes some h = absurd (omega arith)
bytes-more told (s ∷ ms) m bytes some h =
    let one : size_of (file_bytes told.modules m.path) ≡ length bytes = ap size_of h in
    let all : bytes_of told.modules (ms ++ m ∷ []) ≡ bytes_of told.modules ms + bytes_of told.modules (m ∷ []) = sum_by-append (λ n. size_of (file_bytes told.modules n.path)) ms (m ∷ []) in
    let last : bytes_of told.modules (m ∷ []) ≡ 0 + size_of (file_bytes told.modules m.path) = refl in
    omega (arith, one, all, last)

-- the script alone has its own bytes
pub bytes-script : (told : Told) (m : LoadedModule) (bytes : List ℕ) → told.script ≡ Some bytes → total_bytes told (m ∷ []) ≡ length bytes
bytes-script told m bytes h =
    let one : size_of told.script ≡ length bytes = ap size_of h in
    let all : total_bytes told (m ∷ []) ≡ size_of told.script + 0 = refl in
    omega (arith, one, all)

-- a module after the script has its own file
pub content-later : (told : Told) (n : ℕ) (path : Text) → 0 < n → content_at told n path ≡ file_bytes told.modules path
content-later told zero path h = absurd (omega arith)
content-later told (suc n) path h = refl

-- ---- names that have a file

pub file-there : (files : Files) (folder x : Text) → has_own_file x ≡ true → is_there (file_bytes files (file_of folder x)) ≡ true → has_file files folder x ≡ true
file-there files folder x own there = and_from (has_own_file x) (is_there (file_bytes files (file_of folder x))) own there

pub file-absent : (files : Files) (folder x : Text) → file_bytes files (file_of folder x) ≡ None → has_file files folder x ≡ false
file-absent files folder x absent = and_right (has_own_file x) (is_there (file_bytes files (file_of folder x))) (ap is_there absent)

pub file-none : (files : Files) (folder x : Text) → has_own_file x ≡ false → has_file files folder x ≡ false
file-none files folder x own = and_left (has_own_file x) (is_there (file_bytes files (file_of folder x))) own

pub length-more : {X : Type 0} (xs : List X) (x : X) → length (xs ++ x ∷ []) ≡ suc (length xs)
length-more [] x = refl
length-more (y ∷ xs) x = ap suc (length-more xs x)
