-- The changed lines of whole lists of modules, under their paths.
use Rattle.std.proofs.Common.{◌≡◌, ℕ, zero, suc, nat_eq, ◌≤◌, Bool, true, false, ◌&&◌, ◌||◌, List, [], ◌∷◌, map, length, String, Vec, Global, Result, Ok, Err, IfOk, encode_utf8_all, refl, ap, sym, ◌∙◌, arith}
use Rattle.std.specs.List.{list_any}
use Rattle.std.specs.Prelude.{bytes_eq, nat_lt, if◌then◌else◌}
use Rattle.std.proofs.lemmas.Bool.{false≢true, eqb-true}
use Rattle.std.proofs.lemmas.Slice.Eq.{bytes_eq-Decides}
use Rattle.cov_data.specs.DataSet.{Text as Bytes}
use Rattle.cov_suite.specs.Rows.{Line}
use Rattle.py_changes.specs.Changed.{also, by_parts, changed_module}
use Rattle.py_changes.specs.Changes.{same_modules, are_compared, changed_lines, is_one_of}
use Rattle.py_changes.specs.Paths.{path_of}
use Rattle.py_changes.specs.Tests as changes
use Rattle.py_meaning.specs.Modules.{LoadedModule, body_of}
use Rattle.py_syntax.specs.Functions.{functions}
use Rattle.py_syntax.specs.Marks.{with_line, in_order, body_marks}
use Rattle.py_syntax.specs.Tree.{Stmts, no_stmts}
use Rattle.py_text.specs.Comparison.{is_same_text}
use Rattle.cov_select.specs.Paths.{plain_change, lines_by_path, changes_by_path, compared_by_path, marks_by_path}
use Rattle.cov_select.specs.Selected.{ByPath, is_changed}
use Rattle.cov_select.specs.Unselected.{HoldChanges}
use Rattle.cov_select.proofs.DataLines.{or_true}
use Rattle.cov_changed.proofs.Words.{first, second}

-- ---- two ways to the changed lines

compared-lines : (us vs : List LoadedModule) (lines : ℕ → List ℕ) → length us ≡ length vs → ((m : ℕ) → lines m ≡ in_order (changed_module (body_of us m) (body_of vs m)).0) → compared_by_path us vs ≡ lines_by_path us lines
compared-lines [] vs lines e h = refl
compared-lines (u ∷ us) [] lines e h = absurd cc
compared-lines (u ∷ us) (v ∷ vs) lines e h =
    ap (λ ls. (encode_utf8_all u.path, ls) ∷ compared_by_path us vs) (sym (h 0))
    ∙ ap (λ rest. (encode_utf8_all u.path, lines 0) ∷ rest) (compared-lines us vs (λ m. lines (suc m)) (omega (arith, e)) (λ m. h (suc m)))

marks-lines : (us : List LoadedModule) (lines : ℕ → List ℕ) → ((m : ℕ) → lines m ≡ in_order (body_marks (body_of us m))) → marks_by_path us ≡ lines_by_path us lines
marks-lines [] lines h = refl
marks-lines (u ∷ us) lines h =
    ap (λ ls. (encode_utf8_all u.path, ls) ∷ marks_by_path us) (sym (h 0))
    ∙ ap (λ rest. (encode_utf8_all u.path, lines 0) ∷ rest) (marks-lines us (λ m. lines (suc m)) (λ m. h (suc m)))

-- modules of the same names are as many
pub same-count : (us vs : List LoadedModule) → same_modules us vs ≡ true → length us ≡ length vs
same-count [] [] h = refl
same-count (u ∷ us) (v ∷ vs) h = ap suc (same-count us vs (second (is_same_text u.name v.name) (same_modules us vs) h))
same-count [] (v ∷ vs) h = absurd (false≢true h)
same-count (u ∷ us) [] h = absurd (false≢true h)

-- a line that the two rules on whole lists decide
abbrev lines_if : Bool → Stmts → Stmts → List ℕ
lines_if b u v = if b then (changed_module u v).0 else body_marks u

pub changes-compared : (old new : List LoadedModule) → are_compared old new ≡ true → compared_by_path old new ≡ changes_by_path old new
changes-compared old new h =
    compared-lines old new (λ m. in_order (changed_lines old new m)) (same-count old new (first (same_modules old new) _ h))
    (λ m. ap (λ b. in_order (lines_if b (body_of old m) (body_of new m))) h)

pub changes-all : (old new : List LoadedModule) → are_compared old new ≡ false → marks_by_path old ≡ changes_by_path old new
changes-all old new h =
    marks-lines old (λ m. in_order (changed_lines old new m)) (λ m. ap (λ b. in_order (lines_if b (body_of old m) (body_of new m))) h)

-- what the code answers
pub compared-so : {E : Type 0} (r : Result (Vec (String Global × Vec ℕ Global) Global) E) (old new : List LoadedModule) (b : Bool) → b ≡ are_compared old new → b ≡ true
    → IfOk r (λ changed. map plain_change changed.items ≡ compared_by_path old new) → IfOk r (λ changed. map plain_change changed.items ≡ changes_by_path old new)
compared-so (Ok changed) old new b tested e h = h ∙ changes-compared old new (sym tested ∙ e)
compared-so (Err error) old new b tested e h = tt

pub marks-so : {E : Type 0} (r : Result (Vec (String Global × Vec ℕ Global) Global) E) (old new : List LoadedModule) (b : Bool) → b ≡ are_compared old new → b ≡ false
    → IfOk r (λ marks. map plain_change marks.items ≡ marks_by_path old) → IfOk r (λ marks. map plain_change marks.items ≡ changes_by_path old new)
marks-so (Ok marks) old new b tested e h = h ∙ changes-all old new (sym tested ∙ e)
marks-so (Err error) old new b tested e h = tt

-- ---- lines in order

twice : (b c : Bool) → (b || c) ≡ (b || (b || c))
twice true c = refl
twice false c = refl

swapped : (a b c : Bool) → (a || (b || c)) ≡ (b || (a || c))
swapped true b c = sym (or_true b)
swapped false b c = refl

any-with : (l k : ℕ) (ks : List ℕ) → list_any (nat_eq l) (with_line k ks) ≡ (nat_eq l k || list_any (nat_eq l) ks)
any-with l k [] = refl
any-with l k (j ∷ ks) = go (nat_lt k j) (nat_eq k j) refl (any-with l k ks) where
  go : (a b : Bool) → nat_eq k j ≡ b → list_any (nat_eq l) (with_line k ks) ≡ (nat_eq l k || list_any (nat_eq l) ks)
      → list_any (nat_eq l) (if a then k ∷ j ∷ ks else (if b then j ∷ ks else j ∷ with_line k ks)) ≡ (nat_eq l k || (nat_eq l j || list_any (nat_eq l) ks))
  go true b e h = refl
  go false true e h = twice (nat_eq l j) (list_any (nat_eq l) ks) ∙ ap (λ i. nat_eq l i || (nat_eq l j || list_any (nat_eq l) ks)) (sym (eqb-true k j e))
  go false false e h = ap (λ b. nat_eq l j || b) h ∙ swapped (nat_eq l j) (nat_eq l k) (list_any (nat_eq l) ks)

pub any-in_order : (l : ℕ) (ls : List ℕ) → list_any (nat_eq l) (in_order ls) ≡ is_one_of l ls
any-in_order l [] = refl
any-in_order l (k ∷ ks) = any-with l k (in_order ks) ∙ ap (λ b. nat_eq l k || b) (any-in_order l ks)

-- ---- a line under a path

-- whether lines under a path have this one
abbrev has_it : Line → Bytes × List ℕ → Bool
has_it line c = bytes_eq line.0 c.0 && list_any (nat_eq line.1) c.1

plain-is : (changed : ByPath) (line : Line) → is_changed changed line ≡ list_any (has_it line) (map plain_change changed)
plain-is [] line = refl
plain-is (c ∷ cs) line = ap (λ b. has_it line (plain_change c) || b) (plain-is cs line)

both : (a b : Bool) → a ≡ true → b ≡ true → (a && b) ≡ true
both true b e f = f
both false b e f = absurd (false≢true e)

is_there : (ms : List LoadedModule) (lines : ℕ → List ℕ) → ((m : ℕ) → length ms ≤ m → lines m ≡ []) → (m l : ℕ) → list_any (nat_eq l) (lines m) ≡ true → list_any (has_it (encode_utf8_all (path_of ms m), l)) (lines_by_path ms lines) ≡ true
is_there [] lines outside m l h = absurd (false≢true (sym (ap (list_any (nat_eq l)) (outside m (omega arith))) ∙ h))
is_there (x ∷ ms) lines outside zero l h =
    let p : Bytes = encode_utf8_all x.path in
    ap (λ b. b || list_any (has_it (p, l)) (lines_by_path ms (λ n. lines (suc n)))) (both (bytes_eq p p) (list_any (nat_eq l) (lines 0)) ((bytes_eq-Decides p p).1 refl) h)
is_there (x ∷ ms) lines outside (suc m) l h =
    let line : Line = (encode_utf8_all (path_of ms m), l) in
    ap (λ b. has_it line (encode_utf8_all x.path, lines 0) || b) (is_there ms (λ n. lines (suc n)) (λ n le. outside (suc n) (omega (arith, le))) m l h)
    ∙ or_true (has_it line (encode_utf8_all x.path, lines 0))

-- a line that belongs to a module, under its path
abbrev Belongs : List LoadedModule → (ℕ → List ℕ) → Line → Type 0
Belongs ms lines line = (m : ℕ) × (line.0 ≡ encode_utf8_all (path_of ms m)) × (list_any (nat_eq line.1) (lines m) ≡ true)

belongs : (ms : List LoadedModule) (lines : ℕ → List ℕ) (line : Line) → list_any (has_it line) (lines_by_path ms lines) ≡ true → Belongs ms lines line
belongs [] lines line h = absurd (false≢true h)
belongs (x ∷ ms) lines line h = by_case (has_it line (encode_utf8_all x.path, lines 0)) refl (λ k. belongs ms (λ n. lines (suc n)) line k) where
  by_case : (b : Bool) → has_it line (encode_utf8_all x.path, lines 0) ≡ b → (list_any (has_it line) (lines_by_path ms (λ n. lines (suc n))) ≡ true → Belongs ms (λ n. lines (suc n)) line) → Belongs (x ∷ ms) lines line
  by_case true e rest = (
    0,
    (bytes_eq-Decides line.0 (encode_utf8_all x.path)).0 (first (bytes_eq line.0 (encode_utf8_all x.path)) (list_any (nat_eq line.1) (lines 0)) e),
    second (bytes_eq line.0 (encode_utf8_all x.path)) (list_any (nat_eq line.1) (lines 0)) e,
  )
  by_case false e rest =
      let more = rest (sym (ap (λ b. b || list_any (has_it line) (lines_by_path ms (λ n. lines (suc n)))) e) ∙ h) in (suc more.0, more.1, more.2)

-- ---- no line of a module that isn't there

no-body : (ms : List LoadedModule) (m : ℕ) → length ms ≤ m → body_of ms m ≡ no_stmts
no-body [] m le = refl
no-body (x ∷ ms) zero le = absurd (omega (arith, le))
no-body (x ∷ ms) (suc m) le = no-body ms m (omega (arith, le))

none-by : (s t : Bool) (x y : List ℕ) → (by_parts s (also (by_parts t ([], []) ([], x)) ([], [])) ([], y)).0 ≡ []
none-by true true x y = refl
none-by true false x y = refl
none-by false t x y = refl

no-lines : (b : Bool) (v : Stmts) → lines_if b no_stmts v ≡ []
unfolding functions
no-lines true v = none-by _ _ _ _
no-lines false v = refl

outside : (old new : List LoadedModule) (m : ℕ) → length old ≤ m → in_order (changed_lines old new m) ≡ []
outside old new m le =
    ap (λ u. in_order (lines_if (are_compared old new) u (body_of new m))) (no-body old m le)
    ∙ ap in_order (no-lines (are_compared old new) (body_of new m))

-- ---- the changed lines, under their paths

module _ (old new : List LoadedModule) (changed : ByPath) (is : map plain_change changed ≡ changes_by_path old new) where
  listed : (line : Line) → is_changed changed line ≡ list_any (has_it line) (changes_by_path old new)
  listed line = plain-is changed line ∙ ap (list_any (has_it line)) is

  pub hold-changes : HoldChanges old new changed
  hold-changes m l at =
      listed (encode_utf8_all (path_of old m), l)
      ∙ is_there old (λ n. in_order (changed_lines old new n)) (outside old new) m l (any-in_order l (changed_lines old new m) ∙ at)

  -- each line among them is a changed one
  pub changed-of : (line : Line) → is_changed changed line ≡ true
      → (m : ℕ) × (line.0 ≡ encode_utf8_all (path_of old m)) × (changes.is_changed old new m line.1 ≡ true)
  changed-of line h =
      let at = belongs old (λ n. in_order (changed_lines old new n)) line (sym (listed line) ∙ h) in
      (at.0, at.1, sym (any-in_order line.1 (changed_lines old new at.0)) ∙ at.2)
