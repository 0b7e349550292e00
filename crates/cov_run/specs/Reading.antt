-- What reading the bytes of a source comes to: a tree, or the refusal of the first check that
-- fails (Python Language Reference, 2 and 10).
--     Reading                                  what it comes to
--     fault_line                               the line of a text that can't be read
--     AreShortText, HasTokens, HasTree         what the checks ask
--     Reads                                    the checks in their order
--     reading_of                               what an error of the code says
use Rattle.std.specs.Prelude.{◌≡◌, ℕ, suc, ◌≤◌, ◌<◌, ◌==◌, List, [], ◌∷◌, take, if◌then◌else◌}
use Rattle.std.specs.Str.{IsUtf8, chars}
use Rattle.std.specs.Str.Lossy.{utf8_valid_len}
use Rattle.py_token.specs.declared.error.TokenError.{TokenError}
use Rattle.py_token.specs.declared.error.TokenError.TheVariants as token_error
use Rattle.py_token.specs.OnLines.{AreOnLines}
use Rattle.py_token.specs.Plain.{PToken}
use Rattle.py_token.specs.Source.{line_count, most_lines}
use Rattle.py_token.specs.Spelling as text
use Rattle.py_token.specs.Spelling.{StuckAt}
use Rattle.py_syntax.specs.Tree.{Stmts}
use Rattle.py_syntax.specs.Statements.{stmts_height, stmts_nesting}
use Rattle.py_syntax.specs.Spelling.{Spells, HEIGHT, NESTING}
use Rattle.py_parse.specs.declared.error.SyntaxError.{SyntaxError}
use Rattle.py_parse.specs.declared.error.SyntaxError.TheVariants as syntax_error
use Rattle.py_parse.specs.Refusal.{IsRefused}
use Rattle.py_scope.specs.declared.error.ScopeError.{ScopeError}
use Rattle.py_scope.specs.declared.error.ScopeError.TheVariants as scope_error
use Rattle.py_scope.specs.Answer.{IsFirst}
use Rattle.py_scope.specs.Faults.{IsWellFormed, faults_of}
use Rattle.cov_run.specs.declared.source.SourceError.{SourceError}
use Rattle.cov_run.specs.declared.source.SourceError.TheVariants as source_error

-- what reading comes to
pub data Reading : Type 0 where
  no_text : (line : ℕ) → Reading
  long : (lines : ℕ) → Reading
  stuck : (error : TokenError) → Reading
  no_tree : (error : SyntaxError) → Reading
  ill_formed : (error : ScopeError) → Reading
  tree : (m : Stmts) → Reading
  -- no memory was left
  unread : Reading

-- how many line ends stand in the bytes
abbrev pub line_ends : List ℕ → ℕ
line_ends [] = 0
line_ends (b ∷ bs) = if b == 10 then suc (line_ends bs) else line_ends bs

-- the line of the first byte that fits no character
abbrev pub fault_line : List ℕ → ℕ
fault_line bytes = suc (line_ends (take (utf8_valid_len bytes) bytes))

-- the bytes are a text of no more lines than a source may have
pub record AreShortText (bytes : List ℕ) : Type 0 where
  pub utf8 : IsUtf8 bytes
  pub few : line_count (chars bytes) ≤ most_lines

-- that text has these tokens
pub record HasTokens (bytes : List ℕ) (tokens : List PToken) : Type 0 where
  pub short : AreShortText bytes
  pub spelled : text.Spells (chars bytes) tokens
  pub on_lines : AreOnLines tokens

-- which are those of the module, and its depth is within the limits
pub record HasTree (bytes : List ℕ) (m : Stmts) : Type 0 where
  pub tokens : List PToken
  pub read : HasTokens bytes tokens
  pub spelled : Spells m tokens
  pub low : stmts_height m ≤ HEIGHT
  pub few : stmts_nesting m ≤ NESTING

-- the checks in their order: text, lines, tokens, tree, scopes; want of memory is no fault of a
-- source
abbrev pub Reads : List ℕ → Reading → Type 0
Reads bytes (no_text line) = ¬ (IsUtf8 bytes) × (line ≡ fault_line bytes)
Reads bytes (long lines) = IsUtf8 bytes × (lines ≡ line_count (chars bytes)) × (most_lines < lines)
Reads bytes (stuck token_error.NoMemory) = ⊥
Reads bytes (stuck error) = AreShortText bytes × StuckAt (chars bytes) error
Reads bytes (no_tree syntax_error.NoMemory) = ⊥
Reads bytes (no_tree error) =
    (tokens : List PToken) × HasTokens bytes tokens × IsRefused tokens error
Reads bytes (ill_formed scope_error.NoMemory) = ⊥
Reads bytes (ill_formed error) = (m : Stmts) × HasTree bytes m × IsFirst (faults_of m) error
Reads bytes (tree m) = HasTree bytes m × IsWellFormed m
Reads bytes unread = Unit {0}

-- what an error of the code says of the source
abbrev pub reading_of : SourceError → Reading
reading_of (source_error.NoText line) = no_text line
reading_of (source_error.Long lines) = long lines
reading_of (source_error.Tokens token_error.NoMemory) = unread
reading_of (source_error.Tokens error) = stuck error
reading_of (source_error.Syntax syntax_error.NoMemory) = unread
reading_of (source_error.Syntax error) = no_tree error
reading_of (source_error.Scopes scope_error.NoMemory) = unread
reading_of (source_error.Scopes error) = ill_formed error
