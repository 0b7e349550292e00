-- What the refusal of a list of tokens excludes, and that there is one at most.
--     NotRefused      no list of a module within both limits is refused
--     OneRefusal      a list is refused in one way at most
use Rattle.std.specs.Prelude.{◌≡◌, ◌≢◌, ◌≤◌, List}
use Rattle.py_token.specs.Plain.{PToken}
use Rattle.py_syntax.specs.Tree.{Stmts}
use Rattle.py_syntax.specs.Statements.{stmts_height, stmts_nesting}
use Rattle.py_syntax.specs.Spelling.{Spells, HEIGHT, NESTING}
use Rattle.py_parse.specs.declared.error.SyntaxError.{SyntaxError}
use Rattle.py_parse.specs.declared.error.SyntaxError.TheVariants as syntax_error
use Rattle.py_parse.specs.Refusal.{IsRefused}

-- a list that spells a module within both limits is refused for want of memory alone
abbrev pub NotRefused : Type 0
NotRefused =
    (m : Stmts) (ts : List PToken) (e : SyntaxError) → Spells m ts → stmts_height m ≤ HEIGHT
    → stmts_nesting m ≤ NESTING → IsRefused ts e → e ≡ syntax_error.NoMemory

-- a list is refused for one reason and in one line, want of memory apart
abbrev pub OneRefusal : Type 0
OneRefusal =
    (ts : List PToken) (e f : SyntaxError) → e ≢ syntax_error.NoMemory
    → f ≢ syntax_error.NoMemory → IsRefused ts e → IsRefused ts f → e ≡ f
