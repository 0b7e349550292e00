-- What the parser answers (`IsParsed`), where a list of tokens is refused and what the refusal is
-- (`IsRefused`), said of all trees.
use Rattle.std.specs.Prelude.{◌≡◌, ◌+◌, ◌≤◌, ◌<◌, ℕ, suc, zero, List, [], ◌∷◌, ◌++◌, length, Result}
use Rattle.std.specs.Prelude.{Ok, Err}
use Rattle.py_token.specs.Plain.{PToken, first_of, last_of}
use Rattle.py_syntax.specs.Tree.{Stmts}
use Rattle.py_syntax.specs.Headers.{Marked}
use Rattle.py_syntax.specs.Statements.{stmts_height, stmts_nesting}
use Rattle.py_syntax.specs.Refusals as whole
use Rattle.py_syntax.specs.Spelling.{module_tokens, IsNormal, Spells, HEIGHT, NESTING, HasTokens}
use Rattle.py_syntax.specs.Spelling.{IsWithin, front}
use Rattle.py_syntax.specs.View.{plain_module}
use Rattle.py_syntax.specs.declared.stmt.Module.{Module}
use Rattle.py_parse.specs.declared.error.DepthKind.TheVariants as depth_
use Rattle.py_parse.specs.declared.error.SyntaxError.{SyntaxError}
use Rattle.py_parse.specs.declared.error.SyntaxError.TheVariants as error_

-- no tree at all begins with one token more, or the list ends too early
abbrev pub IsUnexpected : List PToken → ℕ → Type 0
IsUnexpected ts place =
    whole.IsUnexpected HasTokens IsWithin (λ m. Spells m ts) (λ n. front n ts) (length ts) place

-- only trees that are past a limit begin with one token more
abbrev pub IsTooDeep : List PToken → ℕ → Type 0
IsTooDeep ts place =
    whole.IsTooDeep HasTokens IsWithin (λ m. Spells m ts) (λ n. front n ts) (length ts) place

-- each tree that begins so has too many suites inside each other
abbrev pub NestsTooDeep : List Marked → Type 0
NestsTooDeep front =
    (m : Stmts) (more : List Marked) → IsNormal m → module_tokens m ≡ front ++ more
    → NESTING < stmts_nesting m

-- some tree that begins so hasn't
abbrev pub NestsWithin : List Marked → Type 0
NestsWithin front =
    (m : Stmts) × (more : List Marked) × IsNormal m × (module_tokens m ≡ front ++ more)
    × (stmts_nesting m ≤ NESTING)

-- too deep because of its suites
abbrev pub HasDeepSuites : List PToken → ℕ → Type 0
HasDeepSuites ts place = IsTooDeep ts place × NestsTooDeep (front (place + 1) ts)

-- too deep because of its expressions and patterns
abbrev pub HasDeepExpressions : List PToken → ℕ → Type 0
HasDeepExpressions ts place = IsTooDeep ts place × NestsWithin (front (place + 1) ts)

-- the first line of the token at a place; after the last one its last line, and 1 where there is
-- none
abbrev pub line_of : List PToken → ℕ → ℕ
line_of [] place = 1
line_of (t ∷ ts) zero = first_of t
line_of (t ∷ []) (suc place) = last_of t
line_of (t ∷ u ∷ ts) (suc place) = line_of (u ∷ ts) place

-- why a list is refused, with the line of its place
abbrev pub IsRefused : List PToken → SyntaxError → Type 0
IsRefused ts (error_.Unexpected line) =
    (place : ℕ) × IsUnexpected ts place × (line ≡ line_of ts place)
IsRefused ts (error_.TooDeep depth_.Suites line) =
    (place : ℕ) × HasDeepSuites ts place × (line ≡ line_of ts place)
IsRefused ts (error_.TooDeep depth_.Expressions line) =
    (place : ℕ) × HasDeepExpressions ts place × (line ≡ line_of ts place)
IsRefused ts error_.NoMemory = Unit {0}

-- The tree that the list spells, within the limits, or why there is none.
abbrev pub IsParsed : List PToken → Result Module SyntaxError → Type 0
IsParsed ts (Ok m) =
    Spells (plain_module m) ts × (stmts_height (plain_module m) ≤ HEIGHT)
    × (stmts_nesting (plain_module m) ≤ NESTING)
IsParsed ts (Err e) = IsRefused ts e

-- a list spells one module at most
abbrev pub OneTree : Type 0
OneTree = (m n : Stmts) (ts : List PToken) → Spells m ts → Spells n ts → m ≡ n
