-- Why a program isn't loaded: the first check of a file that fails.
--     fault_of                 what is wrong with a source, and in which line
--     limit_of                 the limit that a source passes
--     refusal_of               the refusal of a source by its reading
--     IsNext, HasRoom          the checks before a file is read
--     Refuses                  the first check that fails, and the refusal
--     next_file, IsStopped     the file that refuses a program
use Rattle.std.specs.Prelude.{◌≡◌, ℕ, suc, ◌+◌, ◌≤◌, ◌<◌, List, [], ◌∷◌, length, Option, Some, None, option_map, encode_utf8_all}
use Rattle.cov_outside.specs.Files.{Files}
use Rattle.py_syntax.specs.Spelling.{HEIGHT, NESTING}
use Rattle.py_syntax.specs.Tree.{Text}
use Rattle.py_token.specs.declared.error.TokenError.TheVariants as token_error
use Rattle.py_parse.specs.declared.error.DepthKind.TheVariants as depth
use Rattle.py_parse.specs.declared.error.SyntaxError.TheVariants as syntax_error
use Rattle.py_scope.specs.declared.error.ScopeError.TheVariants as scope_error
use Rattle.py_meaning.specs.Loading.{folder_of, file_of}
use Rattle.py_meaning.specs.Modules.{LoadedModule}
use Rattle.cov_why.specs.Answers.{Refusal, no_such_file, syntax, limit}
use Rattle.cov_why.specs.declared.why.SyntaxKind.{SyntaxKind}
use Rattle.cov_why.specs.declared.why.SyntaxKind.TheVariants as kinds
use Rattle.cov_why.specs.declared.why.LimitKind.{LimitKind}
use Rattle.cov_why.specs.declared.why.LimitKind.TheVariants as limits
use Rattle.cov_run.specs.Reading.{Reading, no_text, long, stuck, no_tree, ill_formed, tree, unread, Reads}
use Rattle.cov_run.specs.Loading.{most_bytes, most_total, most_modules, Told, content_at, total_bytes, wanted, AreLoaded}

-- what is wrong with a source that comes to this reading, and in which line
abbrev pub fault_of : Reading → Option (ℕ × SyntaxKind)
fault_of (no_text line) = Some (line, kinds.BadCharacter)
fault_of (long lines) = None
fault_of (stuck (token_error.BadCharacter line)) = Some (line, kinds.BadCharacter)
fault_of (stuck (token_error.BadIndent line)) = Some (line, kinds.BadIndent)
fault_of (stuck (token_error.OpenString line)) = Some (line, kinds.OpenString)
fault_of (stuck (token_error.OpenBracket line)) = Some (line, kinds.OpenBracket)
fault_of (stuck (token_error.WideNumber line)) = Some (line, kinds.WideNumber)
fault_of (stuck token_error.NoMemory) = None
fault_of (no_tree (syntax_error.Unexpected line)) = Some (line, kinds.Unexpected)
fault_of (no_tree (syntax_error.TooDeep kind line)) = None
fault_of (no_tree syntax_error.NoMemory) = None
fault_of (ill_formed (scope_error.BreakOutside line)) = Some (line, kinds.BreakOutside)
fault_of (ill_formed (scope_error.ReturnOutside line)) = Some (line, kinds.ReturnOutside)
fault_of (ill_formed (scope_error.GlobalAfterUse line)) = Some (line, kinds.GlobalAfterUse)
fault_of (ill_formed (scope_error.NestedFunction line)) = Some (line, kinds.NestedFunction)
fault_of (ill_formed (scope_error.EarlyIrrefutable line)) = Some (line, kinds.EarlyIrrefutable)
fault_of (ill_formed (scope_error.TwiceNamed line)) = Some (line, kinds.TwiceNamed)
fault_of (ill_formed scope_error.NoMemory) = None
fault_of (tree m) = None
fault_of unread = None

-- the limit that a source passes which comes to this reading, with the count that is told of it
abbrev pub limit_of : Reading → Option (LimitKind × ℕ)
limit_of (no_text line) = None
limit_of (long lines) = Some (limits.Lines, lines)
limit_of (stuck error) = None
limit_of (no_tree (syntax_error.Unexpected line)) = None
limit_of (no_tree (syntax_error.TooDeep depth.Expressions line)) =
    Some (limits.Expressions, suc HEIGHT)
limit_of (no_tree (syntax_error.TooDeep depth.Suites line)) = Some (limits.Suites, suc NESTING)
limit_of (no_tree syntax_error.NoMemory) = None
limit_of (ill_formed error) = None
limit_of (tree m) = None
limit_of unread = None

-- the refusal by a limit, or else by a fault
abbrev pub refused_by : List ℕ → Option (LimitKind × ℕ) → Option (ℕ × SyntaxKind) → Option Refusal
refused_by name (Some passed) fault = Some (limit passed.0 passed.1)
refused_by name None fault = option_map (λ f. syntax name f.0 f.1) fault

-- the refusal of a source of this name that comes to this reading; none where it has a tree
abbrev pub refusal_of : List ℕ → Reading → Option Refusal
refusal_of name reading = refused_by name (limit_of reading) (fault_of reading)

-- a file has these bytes, and after so many modules its own isn't one too many
pub record IsNext (modules : ℕ) (file : Option (List ℕ)) (bytes : List ℕ) : Type 0 where
  pub there : file ≡ Some bytes
  pub few : modules < most_modules

-- nor has it too many bytes, alone or with so many of the files before it
pub record HasRoom (modules total : ℕ) (file : Option (List ℕ)) (bytes : List ℕ) : Type 0 where
  pub next : IsNext modules file bytes
  pub small : length bytes ≤ most_bytes
  pub light : total + length bytes ≤ most_total

-- After so many modules, whose files have so many bytes in all, a file is refused so by the first
-- check that fails: that it is there; of its module and its bytes; of what its bytes are read as.
pub data Refuses (modules total : ℕ) (path : Text) (file : Option (List ℕ)) (r : Refusal)
    : Type 0 where
  absent : file ≡ None → r ≡ no_such_file (encode_utf8_all path)
      → Refuses modules total path file r
  crowded : (bytes : List ℕ) → file ≡ Some bytes → most_modules ≤ modules
      → r ≡ limit limits.Modules (suc most_modules) → Refuses modules total path file r
  large : (bytes : List ℕ) → IsNext modules file bytes → most_bytes < length bytes
      → r ≡ limit limits.FileBytes (suc most_bytes) → Refuses modules total path file r
  heavy : (bytes : List ℕ) → IsNext modules file bytes → length bytes ≤ most_bytes
      → most_total < total + length bytes → r ≡ limit limits.TotalBytes (total + length bytes)
      → Refuses modules total path file r
  unreadable : (bytes : List ℕ) → (reading : Reading) → HasRoom modules total file bytes
      → Reads bytes reading → refusal_of (encode_utf8_all path) reading ≡ Some r
      → Refuses modules total path file r

-- the file that is read after these modules
abbrev pub next_file : Files → Text → List LoadedModule → Option Text
next_file files script [] = Some script
next_file files script (m ∷ ms) =
    option_map (file_of (folder_of script)) (wanted files (folder_of script) (m ∷ ms))

-- a program isn't loaded: after some modules the next file is refused
pub record IsStopped (told : Told) (script name : Text) (r : Refusal) : Type 0 where
  pub ms : List LoadedModule
  pub loaded : AreLoaded told script name ms
  pub path : Text
  pub next : next_file told.modules script ms ≡ Some path
  pub refuses :
      Refuses (length ms) (total_bytes told ms) path (content_at told (length ms) path) r
