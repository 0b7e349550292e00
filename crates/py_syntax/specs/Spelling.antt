-- Which tree a list of tokens spells, lines included, and which prefixes begin one.
--     first_line, last_line                     the lines of tokens
--     test_head .. after_suite                  headers, and what stands after one
--     KeepsLines, KindLines                     the lines that a tree keeps; SuiteLines and the
--                                               like for what stands in it
--     module_tokens, IsNormal, Spells           the tokens of a module, a normal one, and the tree
--                                               that a list spells
--     HEIGHT, NESTING                           the limits
--     HasTokens, IsWithin                       the tokens of a tree with its headers marked, and
--                                               the limits of one
--     IsViable, IsViableWithin                  the prefixes that begin a tree
use Rattle.std.specs.Prelude.{◌≡◌, ℕ, ◌+◌, ◌≤◌, true, false, List, [], ◌∷◌, ◌++◌, length, take, drop}
use Rattle.py_token.specs.declared.token.Keyword.{Keyword}
use Rattle.py_token.specs.declared.token.Keyword.TheVariants as word
use Rattle.py_token.specs.declared.token.Mark.TheVariants as mark
use Rattle.py_token.specs.Plain.{PToken, first_of, last_of}
use Rattle.py_syntax.specs.Tree.{Expr}
use Rattle.py_syntax.specs.Tree.{Stmts, no_stmts, stmt, Suite, suite, OptSuite, no_suite, has_suite, Arms, no_arms, arm, Clauses, no_clauses, clause, Cases, no_cases, case, StmtKind, expr, assign, aug_assign, pass, break, continue, return, raise, assert, global, import, from, if', while, for, try, def, match}
use Rattle.py_syntax.specs.Kinds.{Kind, Name, Word, Sign, Newline, Indent, End, bare}
use Rattle.py_syntax.specs.Tokens.{tokens, pattern_tokens}
use Rattle.py_syntax.specs.Headers.{Marked, put, kinds_marked, marked, match_name}
use Rattle.py_syntax.specs.Statements.{stmts_tokens, kind_tokens, suite_tokens, else_tokens, elif_tokens, clause_tokens, end_tokens, param_tokens, except_tokens, guard_tokens, case_name, NormalStmts, EndLines, stmts_height, stmts_nesting}
use Rattle.py_syntax.specs.Refusals.{Begins, BeginsWithin}

-- the first line of the first token
abbrev pub first_line : List PToken → ℕ
first_line [] = 0
first_line (t ∷ ts) = first_of t

-- the last line of the last token
abbrev pub last_line : List PToken → ℕ
last_line [] = 0
last_line (t ∷ []) = last_of t
last_line (t ∷ u ∷ ts) = last_line (u ∷ ts)

-- a header of this word and a test
abbrev pub test_head : Keyword → Expr → List Kind
test_head w t = Word w ∷ tokens t (Sign mark.Colon ∷ [])

-- the header of a `for`
abbrev pub for_head : Expr → Expr → List Kind
for_head t e = Word word.For ∷ tokens t (Word word.In ∷ tokens e (Sign mark.Colon ∷ []))

-- a header of one word
abbrev pub word_head : Keyword → List Kind
word_head w = Word w ∷ Sign mark.Colon ∷ []

-- the tokens after these
abbrev pub past : List Marked → List PToken → List PToken
past before ts = drop (length before) ts

-- the tokens after a header and its suite
abbrev pub after_suite : List Kind → Suite → List PToken → List PToken
after_suite head s ts = drop (length head + length (suite_tokens s [])) ts

-- The lines that the nodes keep are those of their first and last tokens in the list, which begins
-- with theirs.
abbrev mutual
  -- statements in a row
  pub KeepsLines : Stmts → List PToken → Type 0
  KeepsLines no_stmts ts = Unit {0}
  KeepsLines (stmt first last k e ss) ts =
      (first ≡ first_line ts) × (last ≡ last_line (take (length (kind_tokens k [])) ts))
      × KindLines k ts
      × KeepsLines ss (drop (length (kind_tokens k []) + length (end_tokens e)) ts)

  -- a statement
  pub KindLines : StmtKind → List PToken → Type 0
  KindLines (expr e) ts = Unit {0}
  KindLines (assign targets e) ts = Unit {0}
  KindLines (aug_assign t op e) ts = Unit {0}
  KindLines pass ts = Unit {0}
  KindLines break ts = Unit {0}
  KindLines continue ts = Unit {0}
  KindLines (return e) ts = Unit {0}
  KindLines (raise e) ts = Unit {0}
  KindLines (assert e w) ts = Unit {0}
  KindLines (global xs) ts = Unit {0}
  KindLines (import names) ts = Unit {0}
  KindLines (from m names) ts = Unit {0}
  KindLines (if' no_arms o) ts = Unit {0}
  KindLines (if' (arm t b arms) o) ts =
      SuiteLines b (test_head word.If t) ts × ArmLines arms (after_suite (test_head word.If t) b ts)
      × OptLines o (word_head word.Else)
      (past (elif_tokens arms []) (after_suite (test_head word.If t) b ts))
  KindLines (while t b o) ts =
      SuiteLines b (test_head word.While t) ts
      × OptLines o (word_head word.Else) (after_suite (test_head word.While t) b ts)
  KindLines (for t e b o) ts =
      SuiteLines b (for_head t e) ts
      × OptLines o (word_head word.Else) (after_suite (for_head t e) b ts)
  KindLines (try b cs o f) ts =
      SuiteLines b (word_head word.Try) ts × ClauseLines cs (after_suite (word_head word.Try) b ts)
      × OptLines o (word_head word.Else)
      (past (clause_tokens cs []) (after_suite (word_head word.Try) b ts))
      × OptLines f (word_head word.Finally)
      (past (clause_tokens cs (else_tokens o [])) (after_suite (word_head word.Try) b ts))
  KindLines (def x ps ds c b) ts =
      SuiteLines b
      (Word word.Def ∷ Name x ∷ Sign mark.LeftParen
      ∷ param_tokens ps ds c (Sign mark.RightParen ∷ Sign mark.Colon ∷ [])) ts
  KindLines (match e last cs) ts =
      (last ≡ last_line (take (length (Name match_name ∷ tokens e (Sign mark.Colon ∷ []))) ts))
      × CaseLines cs
      (drop (length (Name match_name ∷ tokens e (Sign mark.Colon ∷ Newline ∷ Indent ∷ []))) ts)

  -- a suite keeps the lines of the header in front of it
  pub SuiteLines : Suite → List Kind → List PToken → Type 0
  SuiteLines (suite first last true b) head ts =
      (first ≡ first_line ts) × (last ≡ last_line (take (length head) ts))
      × KeepsLines b (drop (length head) ts)
  SuiteLines (suite first last false b) head ts =
      (first ≡ first_line ts) × (last ≡ last_line (take (length head) ts))
      × KeepsLines b (drop (length head + 2) ts)

  -- the suite of an `else` or a `finally`, with its header
  pub OptLines : OptSuite → List Kind → List PToken → Type 0
  OptLines no_suite head ts = Unit {0}
  OptLines (has_suite s) head ts = SuiteLines s head ts

  -- tests with their suites, after the first
  pub ArmLines : Arms → List PToken → Type 0
  ArmLines no_arms ts = Unit {0}
  ArmLines (arm t b arms) ts =
      SuiteLines b (test_head word.Elif t) ts
      × ArmLines arms (after_suite (test_head word.Elif t) b ts)

  -- the clauses of a `try`
  pub ClauseLines : Clauses → List PToken → Type 0
  ClauseLines no_clauses ts = Unit {0}
  ClauseLines (clause e x b cs) ts =
      SuiteLines b (except_tokens e x) ts × ClauseLines cs (after_suite (except_tokens e x) b ts)

  -- the cases of a `match`
  pub CaseLines : Cases → List PToken → Type 0
  CaseLines no_cases ts = Unit {0}
  CaseLines (case p g b cs) ts =
      SuiteLines b (Name case_name ∷ pattern_tokens p (guard_tokens g)) ts
      × CaseLines cs (after_suite (Name case_name ∷ pattern_tokens p (guard_tokens g)) b ts)

-- ---- a module

-- the tokens of a module
abbrev pub module_tokens : Stmts → List Marked
module_tokens m = stmts_tokens m (put (End ∷ []) [])

-- A normal module: its parts are, and a logical line of it has the form of a `match` header exactly
-- where it is one.
abbrev pub IsNormal : Stmts → Type 0
IsNormal m =
    EndLines m × NormalStmts m × (marked (kinds_marked (module_tokens m)) ≡ module_tokens m)

-- the list is that of this tree, which keeps its lines
abbrev pub Spells : Stmts → List PToken → Type 0
Spells m ts = IsNormal m × (bare ts ≡ kinds_marked (module_tokens m)) × KeepsLines m ts

-- no expression or pattern is higher
abbrev pub HEIGHT : ℕ
HEIGHT = 200

-- no more suites stand inside each other
abbrev pub NESTING : ℕ
NESTING = 64

-- the list, with the headers of logical lines marked, is that of this tree
abbrev pub HasTokens : Stmts → List Marked → Type 0
HasTokens m ts = IsNormal m × (module_tokens m ≡ ts)

-- the tree is within both limits
abbrev pub IsWithin : Stmts → Type 0
IsWithin m = (stmts_height m ≤ HEIGHT) × (stmts_nesting m ≤ NESTING)

-- A prefix, with the headers of the whole list marked, that begins the tokens of some normal tree.
abbrev pub IsViable : List Marked → Type 0
IsViable front = Begins HasTokens front

-- the same for a tree within the limits
abbrev pub IsViableWithin : List Marked → Type 0
IsViableWithin front = BeginsWithin HasTokens IsWithin front

-- so many tokens of the list
abbrev pub front : ℕ → List PToken → List Marked
front n ts = take n (marked (bare ts))
