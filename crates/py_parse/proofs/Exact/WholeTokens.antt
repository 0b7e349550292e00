-- The machine over a list of tokens, and what its states say of all trees.
use Rattle.std.proofs.Common.{◌≡◌, ℕ, zero, suc, ◌≤◌, ◌<◌, Bool, true, ◌&&◌, List, [], ◌∷◌, ◌++◌, take, Option, Some, refl, sym, ap, ◌∙◌, arith}
use Rattle.std.proofs.Math.Path.{fun_ext}
use Rattle.py_token.specs.Plain.{PToken, first_of, last_of}
use Rattle.py_syntax.specs.Tree.{Stmts}
use Rattle.py_syntax.specs.Kinds.{Kind, bare_token, bare}
use Rattle.py_syntax.specs.Headers.{Marked, kinds_marked, is_match, is_header, ends_line, marked_from, marked}
use Rattle.py_syntax.specs.Statements.{EndLines, NormalStmts, stmts_height, stmts_nesting}
use Rattle.py_syntax.specs.Spelling.{module_tokens, IsNormal, Spells, HEIGHT, NESTING, IsViable, IsViableWithin, front}
use Rattle.py_statements.specs.Machine.{State, Over, begun}
use Rattle.py_parse.specs.Least.{least_height, least_nesting}
use Rattle.py_parse.specs.Places.{Source, relined}
use Rattle.py_parse.specs.Refusal.{NestsTooDeep, NestsWithin, OneTree}
use Rattle.py_parse.proofs.Least.RelinedSizes.{relined_height, relined_nesting}
use Rattle.py_parse.proofs.Exact.WholeLists.{Lexeme, reading, marks, marks_append, marks_take, first_at, last_at, source, lined, lined_marks}
use Rattle.py_parse.proofs.Complete.TokenLines.{token_first, token_last, token_source}
use Rattle.py_parse.proofs.Complete.ListLines.{keeps_relined, relined_keeps}
use Rattle.py_parse.proofs.Complete.Headers.{headers}
use Rattle.py_parse.proofs.Exact.Whole as whole
use Rattle.py_parse.proofs.Exact.Whole.{Spelled, read_relined, sound_over, within_from, within_to, nests_from, nests_to, begins_from, begins_to}

-- ---- the list with its headers and lines

abbrev pub lexemes : List Marked → List PToken → List Lexeme
lexemes [] ts = []
lexemes (m ∷ ms) [] = []
lexemes (m ∷ ms) (t ∷ ts) = record { mark = m; first = first_of t; last = last_of t } ∷ lexemes ms ts

abbrev pub with_lines : List PToken → List Lexeme
with_lines ts = lexemes (marked (bare ts)) ts

-- the state after so many tokens
abbrev pub reached : ℕ → List PToken → Option State
reached n ts = reading begun (take n (with_lines ts))

abbrev mark_of : Bool → PToken → List PToken → Marked
mark_of begins t ts = record { kind = bare_token t; header = begins && (is_match (bare_token t) && is_header (bare ts)) }

lexeme_marks : (begins : Bool) (ts : List PToken) → marks (lexemes (marked_from begins (bare ts)) ts) ≡ marked_from begins (bare ts)
lexeme_marks begins [] = refl
lexeme_marks begins (t ∷ ts) = ap (λ (x : List Marked). mark_of begins t ts ∷ x) (lexeme_marks (ends_line (bare_token t)) ts)

kinds_back : (begins : Bool) (ks : List Kind) → kinds_marked (marked_from begins ks) ≡ ks
kinds_back begins [] = refl
kinds_back begins (k ∷ ks) = ap (λ (x : List Kind). k ∷ x) (kinds_back (ends_line k) ks)

front_marks : (n : ℕ) (ts : List PToken) → marks (take n (with_lines ts)) ≡ front n ts
front_marks n ts = marks_take n (with_lines ts) ∙ ap (λ (x : List Marked). take n x) (lexeme_marks true ts)

first_same : (begins : Bool) (ts : List PToken) (p : ℕ) → first_at (lexemes (marked_from begins (bare ts)) ts) p ≡ token_first ts p
first_same begins [] p = refl
first_same begins (t ∷ ts) zero = refl
first_same begins (t ∷ ts) (suc p) = first_same (ends_line (bare_token t)) ts p

last_same : (begins : Bool) (ts : List PToken) (p : ℕ) → last_at (lexemes (marked_from begins (bare ts)) ts) p ≡ token_last ts p
last_same begins [] p = refl
last_same begins (t ∷ ts) zero = refl
last_same begins (t ∷ ts) (suc p) = last_same (ends_line (bare_token t)) ts p

abbrev lines_of : (ℕ → ℕ) → (ℕ → ℕ) → Source
lines_of f g = record { first = f; last = g }

source_same : (ts : List PToken) → source (with_lines ts) ≡ token_source ts
source_same ts =
    ap (λ (f : ℕ → ℕ). lines_of f (last_at (with_lines ts))) (fun_ext (first_same true ts))
    ∙ ap (λ (g : ℕ → ℕ). lines_of (token_first ts) g) (fun_ext (last_same true ts))

-- ---- whole lists

spelled : (m : Stmts) (ts : List PToken) → Spells m ts → Spelled m (with_lines ts)
spelled m ts h = (
  h.0.0,
  h.0.1,
  sym h.0.2 ∙ ap marked (sym h.1) ∙ sym (lexeme_marks true ts),
  ap (λ (src : Source). relined src m 0) (source_same ts) ∙ keeps_relined m ts h.1 h.0.0 h.0.1 h.2,
)

normal : (m : Stmts) → EndLines m → NormalStmts m → IsNormal m
normal m ends parts = (ends, parts, headers m ends parts)

spells : (m : Stmts) (ts : List PToken) → Spelled m (with_lines ts) → Spells m ts
spells m ts h =
    let same : bare ts ≡ kinds_marked (module_tokens m) = sym (kinds_back true (bare ts)) ∙ ap kinds_marked (sym (lexeme_marks true ts)) ∙ ap kinds_marked (sym h.2) in
    (normal m h.0 h.1, same, relined_keeps m ts same h.0 h.1 (ap (λ (src : Source). relined src m 0) (sym (source_same ts)) ∙ h.3))

-- The machine ends over a whole list exactly where the list spells a tree, and with that tree.
pub spells_to : (m : Stmts) (ts : List PToken) → Spells m ts → reading begun (with_lines ts) ≡ Some (Over m)
spells_to m ts h = let s = spelled m ts h in read_relined m (with_lines ts) s.0 s.1 s.2 ∙ ap (λ (x : Stmts). Some (Over x)) s.3

pub spells_from : (m : Stmts) (ts : List PToken) → reading begun (with_lines ts) ≡ Some (Over m) → Spells m ts
spells_from m ts h = spells m ts (sound_over (with_lines ts) m h)

-- A list spells one tree at most.
pub one_tree : OneTree
one_tree m n ts h i = whole.one_tree m n (with_lines ts) (spelled m ts h) (spelled n ts i)

-- ---- prefixes

split_marks : (m : Stmts) (n : ℕ) (ts : List PToken) (more : List Lexeme) → module_tokens m ≡ marks (take n (with_lines ts) ++ more) → module_tokens m ≡ front n ts ++ marks more
split_marks m n ts more h = h ∙ marks_append (take n (with_lines ts)) more ∙ ap (λ (x : List Marked). x ++ marks more) (front_marks n ts)

-- a tree with other lines, of the list with lines
relined_tree : (n : ℕ) (ts : List PToken) (m : Stmts) (more : List Marked) → IsNormal m → module_tokens m ≡ front n ts ++ more → (t : Stmts) × (rest : List Lexeme) × Spelled t (take n (with_lines ts) ++ rest) × (stmts_height t ≡ stmts_height m) × (stmts_nesting t ≡ stmts_nesting m)
relined_tree n ts m more is h =
    let all = take n (with_lines ts) ++ lined 0 more in
    let tree = relined (source all) m 0 in
    let same : module_tokens m ≡ marks all =
    h ∙ ap (λ (x : List Marked). x ++ more) (sym (front_marks n ts))
    ∙ ap (λ (x : List Marked). marks (take n (with_lines ts)) ++ x) (sym (lined_marks 0 more))
    ∙ sym (marks_append (take n (with_lines ts)) (lined 0 more)) in
    (tree, lined 0 more, sound_over all tree (read_relined m all is.0 is.1 same), relined_height (source all) m 0, relined_nesting (source all) m 0)

-- A prefix is viable within the limits exactly where the machine passes it to a state whose least tree is within them.
pub viable_within : (n : ℕ) (ts : List PToken) (s : State) → reached n ts ≡ Some s → least_height s ≤ HEIGHT → least_nesting s ≤ NESTING → IsViableWithin (front n ts)
viable_within n ts s h low shallow =
    let v = within_from HEIGHT (take n (with_lines ts)) s h (omega arith) in
    let is = v.2 in let small = v.3 in
    (v.0, marks v.1, (normal v.0 is.0 is.1, split_marks v.0 n ts v.1 is.2), (omega arith, omega arith))

pub within_viable : (n : ℕ) (ts : List PToken) → IsViableWithin (front n ts) → (s : State) × (reached n ts ≡ Some s) × (least_height s ≤ HEIGHT) × (least_nesting s ≤ NESTING)
within_viable n ts v =
    let t = relined_tree n ts v.0 v.1 v.2.0 v.2.1 in
    let low = v.3.0 in let shallow = v.3.1 in let as_high = t.3 in let as_deep = t.4 in
    let s = within_to HEIGHT (take n (with_lines ts)) (t.0, t.1, t.2, omega arith) in
    let small = s.2 in
    (s.0, s.1, omega arith, omega arith)

-- and it is viable exactly where the machine passes it
pub viable_from : (n : ℕ) (ts : List PToken) (s : State) → reached n ts ≡ Some s → IsViable (front n ts)
viable_from n ts s h =
    let v = begins_from (take n (with_lines ts)) s h in
    let is = v.2 in
    (v.0, marks v.1, (normal v.0 is.0 is.1, split_marks v.0 n ts v.1 is.2))

pub viable_to : (n : ℕ) (ts : List PToken) → IsViable (front n ts) → (s : State) × (reached n ts ≡ Some s)
viable_to n ts v =
    let t = relined_tree n ts v.0 v.1 v.2.0 v.2.1 in
    begins_to (take n (with_lines ts)) (t.0, t.1, t.2)

-- ---- suites alone

pub nests_within : (n : ℕ) (ts : List PToken) (s : State) → reached n ts ≡ Some s → least_nesting s ≤ NESTING → NestsWithin (front n ts)
nests_within n ts s h shallow =
    let v = nests_from NESTING (take n (with_lines ts)) s h shallow in
    let is = v.2 in
    (v.0, marks v.1, normal v.0 is.0 is.1, split_marks v.0 n ts v.1 is.2, v.3)

pub nests_too_deep : (n : ℕ) (ts : List PToken) (s : State) → reached n ts ≡ Some s → NESTING < least_nesting s → NestsTooDeep (front n ts)
nests_too_deep n ts s h deep m more is same =
    let t = relined_tree n ts m more is same in
    let as_deep = t.4 in
    let r = nests_to (stmts_nesting m) (take n (with_lines ts)) (t.0, t.1, t.2, omega arith) in
    let here : Some s ≡ Some r.0 = sym h ∙ r.1 in
    let one : s ≡ r.0 = cc in
    let level = ap least_nesting one in
    let low = r.2 in
    omega arith
