-- The statement lines of a module that a text spells are lines of the text.
use Rattle.std.proofs.Common.{◌≡◌, ℕ, suc, ◌<◌, Bool, true, false, nat_lt, nat_eq, if◌then◌else◌, List, [], ◌∷◌, length, All, refl, sym, ap, ◌∙◌, arith}
use Rattle.std.proofs.lemmas.List.Elements.{All-nil, All-cons, All-head, All-tail}
use Rattle.py_token.specs.Plain.{PToken}
use Rattle.py_syntax.specs.Headers.{Marked, put, kinds_marked}
use Rattle.py_syntax.specs.Kinds.{End, bare}
use Rattle.py_syntax.specs.Marks.{body_marks, with_line, in_order}
use Rattle.py_syntax.specs.Spelling.{module_tokens}
use Rattle.py_syntax.specs.Statements.{stmts_tokens}
use Rattle.py_syntax.specs.Tree.{Stmts}
use Rattle.py_line_laws.specs.Lines.{IsLine, LinesLaw}
use Rattle.py_line_laws.proofs.Lengths.{stmts-length}
use Rattle.py_line_laws.proofs.Marked.{stmts-lined, body-marks}

-- ---- in order

with-all : (P : ℕ → Type 0) (l : ℕ) (ls : List ℕ) → P l → All P ls → All P (with_line l ls)
with-all P l [] h k = All-cons P l [] h (All-nil P)
with-all P l (x ∷ xs) h k = go (nat_lt l x) (nat_eq l x) (with-all P l xs h (All-tail P x xs k))
  where
    go : (a b : Bool) → All P (with_line l xs) → All P (if a then l ∷ x ∷ xs else (if b then x ∷ xs else x ∷ with_line l xs))
    go true b q = All-cons P l (x ∷ xs) h k
    go false true q = k
    go false false q = All-cons P x (with_line l xs) (All-head P x xs k) q

ordered-all : (P : ℕ → Type 0) (ls : List ℕ) → All P ls → All P (in_order ls)
ordered-all P [] h = All-nil P
ordered-all P (l ∷ ls) h = with-all P l (in_order ls) (All-head P l ls h) (ordered-all P ls (All-tail P l ls h))

-- ---- the list is long enough

marked-length : (ms : List Marked) → length (kinds_marked ms) ≡ length ms
marked-length [] = refl
marked-length (m ∷ ms) = ap suc (marked-length ms)

bare-length : (ts : List PToken) → length (bare ts) ≡ length ts
bare-length [] = refl
bare-length (t ∷ ts) = ap suc (bare-length ts)

-- some token stands after those of the statements: that of the end
long-enough : (m : Stmts) (ts : List PToken) → bare ts ≡ kinds_marked (module_tokens m) → length (stmts_tokens m []) < length ts
long-enough m ts same =
    let all = sym (bare-length ts) ∙ ap length same ∙ marked-length (module_tokens m) in
    let are = stmts-length m (put (End ∷ []) []) in
    omega arith

pub lines_law : LinesLaw
lines_law m ts on spells =
    ordered-all IsLine (body_marks m) (body-marks IsLine m (stmts-lined m ts spells.0.1 spells.2 on (long-enough m ts spells.1)))
