-- A tree keeps the lines of the list that it is spelled by exactly where it has the lines of the list's places.
use Rattle.std.proofs.Common.{◌≡◌, ℕ, zero, suc, ◌≤◌, List, [], ◌∷◌, length, take, drop, refl, sym, ap, ◌∙◌, arith}
use Rattle.std.proofs.Math.Path.{fun_ext}
use Rattle.py_token.specs.Plain.{PToken}
use Rattle.py_syntax.specs.Tree.{Stmts}
use Rattle.py_syntax.specs.Kinds.{End, bare}
use Rattle.py_syntax.specs.Headers.{Marked, put, kinds_marked}
use Rattle.py_syntax.specs.Statements.{EndLines, NormalStmts}
use Rattle.py_syntax.specs.Spelling.{first_line, last_line, KeepsLines, module_tokens}
use Rattle.py_parse.specs.Places.{Source, stmts_past, relined}
use Rattle.py_parse.proofs.Complete.Lengths.{stmts_are}
use Rattle.py_parse.proofs.Complete.TreeLines.{source, stmts_lines}
use Rattle.py_parse.proofs.Complete.TokenLines.{token_first, token_last, token_source}

first_same : (ts : List PToken) (p : ℕ) → token_first ts p ≡ first_line (drop p ts)
first_same [] zero = refl
first_same [] (suc p) = refl
first_same (t ∷ ts) zero = refl
first_same (t ∷ ts) (suc p) = first_same ts p

last_same : (ts : List PToken) (p : ℕ) → token_last ts p ≡ last_line (take 1 (drop p ts))
last_same [] zero = refl
last_same [] (suc p) = refl
last_same (t ∷ ts) zero = refl
last_same (t ∷ ts) (suc p) = last_same ts p

abbrev lines_of : (ℕ → ℕ) → (ℕ → ℕ) → Source
lines_of f g = record { first = f; last = g }

source_same : (ts : List PToken) → token_source ts ≡ source ts
source_same ts =
    ap (λ (f : ℕ → ℕ). lines_of f (token_last ts)) (fun_ext (first_same ts))
    ∙ ap (λ (g : ℕ → ℕ). lines_of (λ p. first_line (drop p ts)) g) (fun_ext (last_same ts))

marked_length : (ms : List Marked) → length (kinds_marked ms) ≡ length ms
marked_length [] = refl
marked_length (m ∷ ms) = ap suc (marked_length ms)

bare_length : (ts : List PToken) → length (bare ts) ≡ length ts
bare_length [] = refl
bare_length (t ∷ ts) = ap suc (bare_length ts)

-- the list is long enough
long_enough : (m : Stmts) (ts : List PToken) → bare ts ≡ kinds_marked (module_tokens m) → NormalStmts m → stmts_past m 0 ≤ length ts
long_enough m ts same normal =
    let all = sym (bare_length ts) ∙ ap length same ∙ marked_length (module_tokens m) in
    let are = stmts_are m (put (End ∷ []) []) 0 normal in
    omega arith

pub keeps_relined : (m : Stmts) (ts : List PToken) → bare ts ≡ kinds_marked (module_tokens m) → EndLines m → NormalStmts m → KeepsLines m ts → relined (token_source ts) m 0 ≡ m
keeps_relined m ts same ends normal keeps = ap (λ (src : Source). relined src m 0) (source_same ts) ∙ (stmts_lines ts m 0 normal (long_enough m ts same normal)).1 keeps

pub relined_keeps : (m : Stmts) (ts : List PToken) → bare ts ≡ kinds_marked (module_tokens m) → EndLines m → NormalStmts m → relined (token_source ts) m 0 ≡ m → KeepsLines m ts
relined_keeps m ts same ends normal is = (stmts_lines ts m 0 normal (long_enough m ts same normal)).0 (ap (λ (src : Source). relined src m 0) (sym (source_same ts)) ∙ is)
