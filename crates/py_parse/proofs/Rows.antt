-- Small modules with what the machine reads of them.
use Rattle.std.proofs.Common.{◌≡◌, ℕ, zero, suc, true, false, List, [], ◌∷◌, Option, Some, None, refl}
use Rattle.py_operator.specs.declared.operator.BinOp.TheVariants as op_
use Rattle.py_token.specs.declared.token.Keyword.TheVariants as word
use Rattle.py_token.specs.declared.token.Mark.TheVariants as mark
use Rattle.py_syntax.specs.Tree.{Expr, name, tuple, no_exprs, exprs, wild, capture, index, slice, absent, present}
use Rattle.py_syntax.specs.Tree.{Stmts, no_stmts, stmt, Suite, suite, no_suite, has_suite, no_arms, arm, no_clauses, clause, no_cases, case, StmtKind, expr, assign, aug_assign, pass, break, continue, return, raise, assert, global, import, from, if', while, for, try, def, match}
use Rattle.py_syntax.specs.Kinds.{Kind, Name, Word, Sign, Newline, Indent, Dedent, End}
use Rattle.py_syntax.specs.Headers.{Marked, marked, match_name}
use Rattle.py_syntax.specs.Statements.{case_name}
use Rattle.py_syntax.specs.Spelling.{module_tokens}
use Rattle.py_syntax.specs.Headers.{kinds_marked}
use Rattle.py_statements.specs.Open.{no_end, newline_end, semicolon_end, both_end}
use Rattle.py_statements.specs.Machine.{State, Over, step, begun}
use Rattle.py_parse.specs.Least.{least_height, least_nesting}
use Rattle.py_parse.specs.Places.{Source, run, relined}

-- each token has a line of its own, from 1
abbrev counted : Source
counted = record { first = suc; last = suc }

-- how many tokens a list has in front of the first that isn't taken, and the state there
abbrev taken : State → List Marked → ℕ → ℕ
taken s [] p = p
taken s (m ∷ ms) p = elim (step s m (suc p) (suc p)) as (λ (o : Option State). ℕ) [ None ↦ p | Some n ↦ taken n ms (suc p) ]

abbrev after : List Kind → Option State
after ts = run counted begun (marked ts) 0

-- the list is the tree's, with the lines of the list
abbrev Reads : List Kind → Stmts → Type 0
Reads ts m = (after ts ≡ Some (Over (relined counted m 0))) × (kinds_marked (module_tokens m) ≡ ts) × (module_tokens m ≡ marked ts)

-- the list is refused after so many tokens
abbrev Stops : List Kind → ℕ → Type 0
Stops ts n = taken begun (marked ts) 0 ≡ n

abbrev A : Kind
A = Name (97 ∷ [])

abbrev B : Kind
B = Name (98 ∷ [])

abbrev a : Expr
a = name (97 ∷ [])

abbrev b : Expr
b = name (98 ∷ [])

abbrev eq : Kind
eq = Sign mark.Equal

abbrev colon : Kind
colon = Sign mark.Colon

abbrev semi : Kind
semi = Sign mark.Semicolon

abbrev comma : Kind
comma = Sign mark.Comma

abbrev M : Kind
M = Name match_name

abbrev C : Kind
C = Name case_name

-- a statement whose lines don't matter
abbrev line : StmtKind → Stmts → Stmts
line k ss = stmt 0 0 k newline_end ss

abbrev compound : StmtKind → Stmts → Stmts
compound k ss = stmt 0 0 k no_end ss

abbrev block : Stmts → Suite
block ss = suite 0 0 false ss

abbrev shared : Stmts → Suite
shared ss = suite 0 0 true ss

two_targets : Reads (A ∷ eq ∷ B ∷ eq ∷ A ∷ Newline ∷ End ∷ []) (line (assign (exprs a (exprs b no_exprs)) a) no_stmts)
two_targets = (refl, refl, refl)

one_line : Reads (Word word.If ∷ A ∷ colon ∷ A ∷ semi ∷ Word word.Pass ∷ semi ∷ Newline ∷ B ∷ Newline ∷ End ∷ [])
    (compound (if' (arm a (shared (stmt 0 0 (expr a) semicolon_end (stmt 0 0 pass both_end no_stmts))) no_arms) no_suite) (line (expr b) no_stmts))
one_line = (refl, refl, refl)

elif_and_else : Reads (Word word.If ∷ A ∷ colon ∷ Newline ∷ Indent ∷ A ∷ Newline ∷ Dedent ∷ Word word.Elif ∷ B ∷ colon ∷ Word word.Pass ∷ Newline ∷ Word word.Else ∷ colon ∷ Newline ∷ Indent ∷ Word word.Break ∷ Newline ∷ Word word.Continue ∷ Newline ∷ Dedent ∷ End ∷ [])
    (compound (if' (arm a (block (line (expr a) no_stmts)) (arm b (shared (line pass no_stmts)) no_arms)) (has_suite (block (line break (line continue no_stmts))))) no_stmts)
elif_and_else = (refl, refl, refl)

loops : Reads (Word word.While ∷ A ∷ colon ∷ Newline ∷ Indent ∷ Word word.For ∷ A ∷ comma ∷ Word word.In ∷ B ∷ colon ∷ Word word.Pass ∷ Newline ∷ Dedent ∷ Word word.Else ∷ colon ∷ Word word.Pass ∷ Newline ∷ End ∷ [])
    (compound (while a (block (compound (for (tuple (exprs a no_exprs) true) b (shared (line pass no_stmts)) no_suite) no_stmts)) (has_suite (shared (line pass no_stmts)))) no_stmts)
loops = (refl, refl, refl)

tries : Reads (Word word.Try ∷ colon ∷ Word word.Pass ∷ Newline ∷ Word word.Except ∷ A ∷ Word word.As ∷ B ∷ colon ∷ Word word.Raise ∷ Newline ∷ Word word.Except ∷ colon ∷ Word word.Raise ∷ B ∷ Newline ∷ Word word.Else ∷ colon ∷ Word word.Pass ∷ Newline ∷ Word word.Finally ∷ colon ∷ Word word.Pass ∷ Newline ∷ End ∷ [])
    (compound (try (shared (line pass no_stmts)) (clause (Some a) (Some (98 ∷ [])) (shared (line (raise None) no_stmts)) (clause None None (shared (line (raise (Some b)) no_stmts)) no_clauses)) (has_suite (shared (line pass no_stmts))) (has_suite (shared (line pass no_stmts)))) no_stmts)
tries = (refl, refl, refl)

definition : Reads (Word word.Def ∷ A ∷ Sign mark.LeftParen ∷ A ∷ comma ∷ B ∷ eq ∷ A ∷ comma ∷ Sign mark.RightParen ∷ colon ∷ Newline ∷ Indent ∷ Word word.Global ∷ A ∷ comma ∷ B ∷ Newline ∷ Word word.Return ∷ A ∷ comma ∷ Newline ∷ Dedent ∷ End ∷ [])
    (compound (def (97 ∷ []) ((97 ∷ []) ∷ (98 ∷ []) ∷ []) (exprs a no_exprs) true (block (line (global ((97 ∷ []) ∷ (98 ∷ []) ∷ [])) (line (return (Some (tuple (exprs a no_exprs) true))) no_stmts)))) no_stmts)
definition = (refl, refl, refl)

imported : Reads (Word word.Import ∷ A ∷ comma ∷ B ∷ Word word.As ∷ A ∷ semi ∷ Word word.From ∷ A ∷ Word word.Import ∷ B ∷ Newline ∷ End ∷ [])
    (stmt 0 0 (import (record { name = 97 ∷ []; bound = None } ∷ record { name = 98 ∷ []; bound = Some (97 ∷ []) } ∷ [])) semicolon_end (line (from (97 ∷ []) (record { name = 98 ∷ []; bound = None } ∷ [])) no_stmts))
imported = (refl, refl, refl)

matches : Reads (M ∷ A ∷ colon ∷ Newline ∷ Indent ∷ C ∷ B ∷ Word word.If ∷ A ∷ colon ∷ M ∷ eq ∷ A ∷ Newline ∷ C ∷ Name (95 ∷ []) ∷ colon ∷ Newline ∷ Indent ∷ C ∷ Newline ∷ Dedent ∷ Dedent ∷ M ∷ Newline ∷ End ∷ [])
    (compound (match a 0 (case (capture (98 ∷ [])) (Some a) (shared (line (assign (exprs (name match_name) no_exprs) a) no_stmts)) (case wild None (block (line (expr (name case_name)) no_stmts)) no_cases))) (line (expr (name match_name)) no_stmts))
matches = (refl, refl, refl)

-- a line of the name alone in front of a header
lone_match : Reads (M ∷ Newline ∷ Word word.While ∷ A ∷ colon ∷ Word word.Pass ∷ Newline ∷ M ∷ Newline ∷ M ∷ Sign mark.LeftBracket ∷ A ∷ colon ∷ Sign mark.RightBracket ∷ Newline ∷ End ∷ [])
    (line (expr (name match_name)) (compound (while a (shared (line pass no_stmts)) no_suite) (line (expr (name match_name)) (line (expr (slice (name match_name) (present a) absent)) no_stmts))))
lone_match = (refl, refl, refl)

asserts : Reads (Word word.Assert ∷ A ∷ comma ∷ B ∷ Newline ∷ A ∷ Sign mark.LeftBracket ∷ B ∷ Sign mark.RightBracket ∷ Sign mark.PlusEqual ∷ A ∷ Newline ∷ End ∷ [])
    (line (assert a (Some b)) (line (aug_assign (index a b) op_.Add a) no_stmts))
asserts = (refl, refl, refl)

-- ---- refused

no_target : Stops (A ∷ Sign mark.Less ∷ B ∷ eq ∷ A ∷ Newline ∷ End ∷ []) 3
no_target = refl

two_names : Stops (A ∷ B ∷ Newline ∷ End ∷ []) 1
two_names = refl

no_clause : Stops (Word word.Try ∷ colon ∷ Word word.Pass ∷ Newline ∷ A ∷ Newline ∷ End ∷ []) 4
no_clause = refl

else_without_clause : Stops (Word word.Try ∷ colon ∷ Word word.Pass ∷ Newline ∷ Word word.Else ∷ colon ∷ []) 4
else_without_clause = refl

empty_block : Stops (Word word.If ∷ A ∷ colon ∷ Newline ∷ Indent ∷ Dedent ∷ []) 5
empty_block = refl

compound_on_line : Stops (Word word.If ∷ A ∷ colon ∷ Word word.If ∷ A ∷ colon ∷ []) 3
compound_on_line = refl

no_default : Stops (Word word.Def ∷ A ∷ Sign mark.LeftParen ∷ A ∷ eq ∷ B ∷ comma ∷ B ∷ Sign mark.RightParen ∷ []) 8
no_default = refl

match_without_case : Stops (M ∷ A ∷ colon ∷ Newline ∷ Indent ∷ Dedent ∷ []) 5
match_without_case = refl

match_after_semicolon : Stops (A ∷ semi ∷ M ∷ A ∷ colon ∷ Newline ∷ []) 3
match_after_semicolon = refl

bare_except_as : Stops (Word word.Try ∷ colon ∷ Word word.Pass ∷ Newline ∷ Word word.Except ∷ Word word.As ∷ []) 5
bare_except_as = refl

dedent_outside : Stops (A ∷ Newline ∷ Dedent ∷ []) 2
dedent_outside = refl

with_is_no_statement : Stops (Word word.With ∷ A ∷ []) 0
with_is_no_statement = refl

-- ---- limits

-- so many open blocks
abbrev nested : ℕ → List Kind → List Kind
nested zero ts = ts
nested (suc n) ts = Word word.While ∷ A ∷ colon ∷ Newline ∷ Indent ∷ nested n ts

abbrev low : List Kind → Option (ℕ × ℕ)
low ts = elim (after ts) as (λ (o : Option State). Option (ℕ × ℕ)) [ None ↦ None | Some s ↦ Some (least_height s, least_nesting s) ]

nesting_64 : low (nested 64 []) ≡ Some (1, 64)
nesting_64 = refl

-- the keyword of the next one is too much
nesting_65 : low (nested 64 (Word word.If ∷ [])) ≡ Some (1, 65)
nesting_65 = refl

match_in_64 : low (nested 64 (M ∷ A ∷ colon ∷ Newline ∷ [])) ≡ Some (1, 65)
match_in_64 = refl

else_of_64 : low (nested 64 (Word word.Pass ∷ Newline ∷ Dedent ∷ Word word.Else ∷ [])) ≡ Some (1, 64)
else_of_64 = refl

-- a call is no target, so an index has to follow
high_target : low (Word word.For ∷ A ∷ Sign mark.LeftParen ∷ []) ≡ Some (3, 1)
high_target = refl

-- the pattern of a case
least_case : low (M ∷ A ∷ colon ∷ Newline ∷ Indent ∷ C ∷ Sign mark.LeftParen ∷ Sign mark.LeftParen ∷ []) ≡ Some (2, 1)
least_case = refl
